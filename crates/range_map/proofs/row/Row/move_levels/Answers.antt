use Rattle.std.proofs.Common.{ap, ◌∙◌}
use Rattle.range_map.proofs.Lined.{rising_none}
use Rattle.range_map.proofs.row.Row.move_levels.Goals as goal

pub invariant_of-self : goal.invariant_of-self
invariant_of-self g c =
    rising_none c.replace-boundaries.new.dest.items (ap (λ boundaries. boundaries.items) c.replace-boundaries.ensures.after ∙ c.new.ensures.items)
