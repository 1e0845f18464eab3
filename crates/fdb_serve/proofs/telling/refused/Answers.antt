use Rattle.std.proofs.Common.{refl}
use Rattle.fdb_serve.proofs.telling.refused.Goals as goal

pub returns-in-Read : goal.returns-in-Read
returns-in-Read g c = rw c.in-Read.is (refl, c.tell.ensures)

pub returns-in-Write : goal.returns-in-Write
returns-in-Write g c = rw c.in-Write.is (refl, c.tell-in-Write.ensures)
