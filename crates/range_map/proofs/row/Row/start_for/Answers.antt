use Rattle.std.proofs.Common.{sym, ap, ◌∙◌, ◌≡◌, true, arith}
use Rattle.std.specs.Ordering.{is_lt}
use Rattle.key_bytes.specs.Keys.{key_lt}
use Rattle.range_map.proofs.Walked.{up_to_before}
use Rattle.range_map.proofs.row.Row.start_for.Goals as goal

pub returns-then-is_lt : goal.returns-then-is_lt
returns-then-is_lt g c =
    let lower : key_lt c.args.begin.now c.args.end.now ≡ true =
    sym (ap is_lt c.cmp.ensures) ∙ sym c.is_lt.ensures ∙ c.if-is_lt.true in
    let below = up_to_before c.args.begin.now c.args.end.now lower c.args.self.now in
    omega (arith, c.requires, below)
