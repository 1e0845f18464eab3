use Rattle.std.proofs.Common.{subst, arith}
use Rattle.fdb_serve.specs.Endings.{IsBody}
use Rattle.fdb_serve.proofs.Framing.{rest_full}
use Rattle.fdb_serve.proofs.frames.next_body.Goals as goal

pub returns-in-Full-clause-rest : goal.returns-in-Full-clause-rest
returns-in-Full-clause-rest g c =
    rest_full c.request_in.result c.args.count (g.S.Source.left c.args.source.now) (g.S.Source.left c.read_all.new.source) c.in-Full.bytes.items
    c.in-Full.ensures.outcome (omega arith) (subst (IsBody c.request_in.result) c.as_slice.ensures.value c.request_in.ensures)
