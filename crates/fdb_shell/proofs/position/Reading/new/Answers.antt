use Rattle.std.proofs.Common.{refl}
use Rattle.fdb_shell.proofs.Steps.{at_first}
use Rattle.fdb_shell.proofs.position.Reading.new.Goals as goal

pub returns : goal.returns
returns c = λ start. at_first start _ c.new-2.ensures refl refl c.in_ok-new.ensures
