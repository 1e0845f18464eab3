use Rattle.std.proofs.Common.{◌≡◌, drop}
use Rattle.version_store.specs.Values.{givens}
use Rattle.version_store.specs.Versions.{holding}
use Rattle.version_store.proofs.values.held_in.Given as goal

-- those that are left hold what all hold
abbrev pub invariant-loop-i : goal.invariant-loop-i
invariant-loop-i l = holding l.version (givens (drop l.i l.queue.items)) ≡ holding l.version (givens l.queue.items)
