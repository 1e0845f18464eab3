use Rattle.std.proofs.Common.{sym, subst, arith}
use Rattle.version_store.specs.Kept.{AreFew}
use Rattle.version_store.specs.Versions.{at, later_of, nodes_of, oldest_of, HasFew}
use Rattle.version_store.proofs.store.Store.new.Goals as goal

pub returns-clause-few : goal.returns-clause-few
unfolding at later_of nodes_of oldest_of HasFew
returns-clause-few c = subst (AreFew 0 c.new-2.result.slots) (sym c.new.ensures.empty) (omega arith)
