use Rattle.std.proofs.Common.{◌≡◌, ◌∙◌, ◌++◌, List, ℕ, ap, sym, subst}
use Rattle.std.specs.Prelude.{OnOk}
use Rattle.fdb_wire.proofs.Packed.{behind, packed_counts}
use Rattle.fdb_wire.proofs.replies.add_newer.Goals as goal

pub returns : goal.returns
returns c =
    behind c.add_counts.result _ _ _ _ _ c.in_ok-add_slice.ensures
    (subst (λ (t : List ℕ). OnOk c.add_counts.result (c.add_counts.new.to.items ≡ c.add_slice.new.to.items ++ t))
    (sym (packed_counts c.args.version.now)) c.add_counts.ensures)
