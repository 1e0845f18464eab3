use Rattle.std.proofs.Common.{ℕ, ◌+◌, ◌<◌, ◌≤◌, length}
use Rattle.model_directory.specs.Steps.{arrives}
use Rattle.directory_nodes.proofs.Leading.{Leads}
use Rattle.directory.proofs.reaching.reach.Given as goal

-- who begins again on this layer with the names that are left, under a bound that is enough, has made the whole course
abbrev pub invariant-loop-inner : goal.invariant-loop-inner
invariant-loop-inner g l = record {
  bound : ℕ;
  enough : length l.rest < bound;
  leads : Leads g.T.Tr.stands l.fn.tr l.tr (arrives (length l.path + 1) l.lookup l.layer l.path) (arrives bound l.lookup l.inner l.rest);
  no_more : length l.rest ≤ length l.path;
  same : g.T.Tr.same l.fn.tr l.tr;
}

abbrev pub decreases-loop-inner : goal.decreases-loop-inner
decreases-loop-inner g l = length l.rest
