use Rattle.std.specs.Prelude.{◌-◌}
use Rattle.model_database.specs.Histories.{Setting}
use Rattle.model_database.specs.Transactions.{Transaction}
use Rattle.prefix_allocator.specs.Doing.{scans}
use Rattle.prefix_allocator.proofs.Search.{Sofar}
use Rattle.prefix_allocator.proofs.tries.scan_window.Given as goal

abbrev pub invariant-loop-distance : goal.invariant-loop-distance
invariant-loop-distance g l = record {
  tried : (setting : Setting) (t : Transaction) → g.T.Tr.stands l.fn.tr setting t
      → Sofar setting (g.T.Tr.stands l.tr setting) l.keys.space (scans l.start l.last 1 (l.distance - 1)) t;
  same : g.T.Tr.same l.fn.tr l.tr;
}
