use Rattle.std.proofs.Common.{true, length}
use Rattle.std.specs.List.{filter}
use Rattle.key_bytes.specs.Keys.{key_lt}
use Rattle.ryw_view.specs.Views.{seen_of}
use Rattle.ryw_view.proofs.Passed.{HasPassed}
use Rattle.ryw_view.proofs.walking.ViewOrderedView.prev.Given as goal

-- the view has no key that the walk passed
abbrev pub invariant-loop-boundary : goal.invariant-loop-boundary
invariant-loop-boundary l = HasPassed (seen_of l.self) l.key l.until true

-- the boundaries below
abbrev pub decreases-loop-boundary : goal.decreases-loop-boundary
decreases-loop-boundary l = length (filter (λ boundary. key_lt boundary l.until) l.self.edits.now.boundaries)
