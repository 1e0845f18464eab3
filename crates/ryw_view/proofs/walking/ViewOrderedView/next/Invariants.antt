use Rattle.std.proofs.Common.{false, length}
use Rattle.std.specs.List.{filter}
use Rattle.key_bytes.specs.Keys.{key_lt}
use Rattle.ryw_view.specs.Views.{seen_of}
use Rattle.ryw_view.proofs.Passed.{HasPassed}
use Rattle.ryw_view.proofs.walking.ViewOrderedView.next.Given as goal

-- the view has no key that the walk passed
abbrev pub invariant-loop-pair : goal.invariant-loop-pair
invariant-loop-pair l = HasPassed (seen_of l.self) l.key l.from false

-- the boundaries above
abbrev pub decreases-loop-pair : goal.decreases-loop-pair
decreases-loop-pair l = length (filter (key_lt l.from) l.self.edits.now.boundaries)
