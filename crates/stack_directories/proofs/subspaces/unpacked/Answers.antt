use Rattle.std.proofs.Common.{subst, sym}
use Rattle.stack_directories.specs.Directing.{AreElements}
use Rattle.stack_directories.proofs.Elements.{AreElements-elements_of}
use Rattle.stack_directories.proofs.subspaces.unpacked.Goals as goal

pub returns-in-Ok-clause-elements : goal.returns-in-Ok-clause-elements
returns-in-Ok-clause-elements c = subst AreElements (sym c.into_vec.ensures.elements) (AreElements-elements_of c.in-Ok.tuple c.in-Ok.ensures.found.0.1)
