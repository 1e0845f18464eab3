use Rattle.std.proofs.Common.{length}
use Rattle.std.specs.List.{filter}
use Rattle.key_bytes.specs.Keys.{key_lt}
use Rattle.ryw_view.proofs.Decided.{HasWalked}
use Rattle.ryw_view.proofs.undecided.hides.Given as goal

-- no key before the one that the walk came to is hidden
abbrev pub invariant-loop-boundary : goal.invariant-loop-boundary
invariant-loop-boundary l = HasWalked l.edits.mutations l.range l.from

-- the boundaries above
abbrev pub decreases-loop-boundary : goal.decreases-loop-boundary
decreases-loop-boundary l = length (filter (key_lt l.from) l.edits.boundaries)
