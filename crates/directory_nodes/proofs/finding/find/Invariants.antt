use Rattle.std.proofs.Common.{◌≡◌, ◌⊎◌, ◌≤◌, ◌<◌, [], length}
use Rattle.model_directory.specs.Steps.{find, find_from}
use Rattle.directory_nodes.proofs.Leading.{Leads}
use Rattle.directory_nodes.proofs.finding.find.Given as goal

-- who makes the steps from the directory that was found, by the names that are left, has made the whole course; at first that is
-- the root, which is no partition
abbrev pub invariant-loop-name : goal.invariant-loop-name
invariant-loop-name g l = record {
  leads : Leads g.T.Tr.stands l.fn.tr l.tr (find l.snapshot l.layer l.path) (find_from l.snapshot l.layer l.found l.rest);
  fewer : (l.found.layer ≡ []) ⊎ (length l.rest < length l.path);
  no_more : length l.rest ≤ length l.path;
  same : g.T.Tr.same l.fn.tr l.tr;
}

abbrev pub decreases-loop-name : goal.decreases-loop-name
decreases-loop-name g l = length l.rest
