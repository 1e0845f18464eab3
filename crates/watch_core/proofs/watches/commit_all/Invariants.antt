use Rattle.version_store.specs.Versions.{at, last_of}
use Rattle.watch_core.proofs.Commits.{LooksTo}
use Rattle.watch_core.proofs.watches.commit_all.Given as goal

abbrev pub invariant-loop-number : goal.invariant-loop-number
invariant-loop-number g l = LooksTo (last_of l.store) (at l.store (last_of l.store)) l.fn.watches l.watches l.number l.fired
