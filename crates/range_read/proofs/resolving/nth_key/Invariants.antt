use Rattle.std.proofs.Common.{◌≡◌, slice_get}
use Rattle.std.specs.Map.{keys_of}
use Rattle.range_read.specs.Walks.{onward}
use Rattle.range_read.proofs.resolving.nth_key.Given as goal

-- the key that is wanted is at this place of those that are still to be met
abbrev pub invariant-loop-from : goal.invariant-loop-from
invariant-loop-from g l =
    slice_get (keys_of (onward (g.V.OrderedView.map l.view) l.from l.reverse)) l.left ≡ slice_get
    (keys_of (onward (g.V.OrderedView.map l.view) l.start l.reverse)) l.place

abbrev pub decreases-loop-from : goal.decreases-loop-from
decreases-loop-from g l = l.left
