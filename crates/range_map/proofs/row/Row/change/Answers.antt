use Rattle.std.proofs.Common.{sym, subst}
use Rattle.key_bytes.specs.Keys.{within}
use Rattle.range_map.proofs.Held.{IsRising}
use Rattle.range_map.proofs.Lined.{rising_changed}
use Rattle.range_map.proofs.row.Row.change.Goals as goal

pub invariant_of-self : goal.invariant_of-self
invariant_of-self g c =
    subst IsRising (sym c.change_boundaries.ensures)
    (rising_changed (within c.args.begin.now c.args.end.now) (g.C.Change.changed c.args.change.now) c.self.inside.boundaries.items
    c.self.invariant)
