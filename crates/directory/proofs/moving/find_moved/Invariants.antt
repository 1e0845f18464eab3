use Rattle.std.proofs.Common.{ℕ, ◌+◌, ◌<◌, length}
use Rattle.model_directory.specs.Calls.{finds_moved}
use Rattle.directory_nodes.proofs.Leading.{Leads}
use Rattle.directory.proofs.moving.find_moved.Given as goal

-- who begins again on this layer with the names that are left of both paths, under a bound that is enough, has made the whole course
abbrev pub invariant-loop-inner : goal.invariant-loop-inner
invariant-loop-inner g l = record {
  bound : ℕ;
  enough : length l.rest < bound;
  leads : Leads g.T.Tr.stands l.fn.tr l.tr (finds_moved (length l.path + 1) l.layer l.path l.new_path)
      (finds_moved bound l.inner l.rest l.new_rest);
  same : g.T.Tr.same l.fn.tr l.tr;
}

abbrev pub decreases-loop-inner : goal.decreases-loop-inner
decreases-loop-inner g l = length l.rest
