use Rattle.std.proofs.Common.{◌≡◌, Bool, ◌↔◌, IsTrue, List, ℕ, sym, subst, rules}
use Rattle.key_bytes.specs.Ranges.{meets, IsInBoth}
use Rattle.key_bytes.proofs.Ranges.{meets_iff_common}
use Rattle.key_bytes.proofs.range.KeyRange.meets.Goals as goal

pub returns-clause-common : goal.returns-clause-common
returns-clause-common c =
    let a = c.args.self.now in
    let b = c.args.other.now in
    let value : c.is_lt.result ≡ meets a b = search rules in
    subst (λ (t : Bool). IsTrue t ↔ ((key : List ℕ) × IsInBoth a b key)) (sym value) (meets_iff_common a b c.shows_bytes.ensures c.shows_bytes-2.ensures)
