use Rattle.std.proofs.Common.{subst}
use Rattle.version_store.specs.Versions.{at, later_of, nodes_of, oldest_of, HasFew}
use Rattle.version_store.proofs.store.Store.shows_few.Goals as goal

pub returns : goal.returns
unfolding at later_of nodes_of oldest_of HasFew
returns c = subst HasFew c.self.view_is c.self.invariant.6
