use Rattle.std.proofs.Common.{◌≡◌, false, length}
use Rattle.std.specs.List.{filter}
use Rattle.key_bytes.specs.Keys.{key_lt}
use Rattle.range_map.specs.Boundaries.{boundaries_of}
use Rattle.conflict_ranges.proofs.Walks.{HasPassed}
use Rattle.conflict_ranges.proofs.members.any_in.Given as goal

-- the keys that were passed are not in the set
abbrev pub invariant-loop-next : goal.invariant-loop-next
invariant-loop-next l = HasPassed (λ membership. membership.0 ≡ false) l.range l.members l.from

abbrev pub decreases-loop-next : goal.decreases-loop-next
decreases-loop-next l = length (filter (key_lt l.from) (boundaries_of l.members))
