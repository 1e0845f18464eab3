use Rattle.version_store.specs.Versions.{at, last_of}
use Rattle.watch_core.proofs.Commits.{Passes}
use Rattle.watch_core.proofs.watches.commit_each.Given as goal

abbrev pub invariant-loop-number : goal.invariant-loop-number
invariant-loop-number g l =
    Passes (last_of l.store) (at l.store (last_of l.store)) l.fn.watches l.watches l.numbers l.number-index l.fired
