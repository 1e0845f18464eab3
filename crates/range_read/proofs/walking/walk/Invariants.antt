use Rattle.std.proofs.Common.{◌≡◌, ◌<◌, ◌≤◌, ◌++◌, length}
use Rattle.model_database.specs.Slices.{span}
use Rattle.range_read.proofs.walking.walk.Given as goal

-- what is taken, followed by what is left of the range, is the whole range
abbrev pub invariant-loop-left : goal.invariant-loop-left
invariant-loop-left g l = record {
  whole : l.pairs ++ span (g.V.OrderedView.map l.view) l.left.begin l.left.end l.reverse
      ≡ span (g.V.OrderedView.map l.view) l.range.begin l.range.end l.reverse;
  short : 0 < l.limit → length l.pairs ≤ l.limit;
}

abbrev pub decreases-loop-left : goal.decreases-loop-left
decreases-loop-left g l = length (span (g.V.OrderedView.map l.view) l.left.begin l.left.end l.reverse)
