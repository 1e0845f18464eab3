use Rattle.fdb_serve.proofs.Steps.{ends_at_once}
use Rattle.fdb_serve.proofs.top.run.Goals as goal

pub returns-in_default-clause-finishes : goal.returns-in_default-clause-finishes
returns-in_default-clause-finishes g c = ends_at_once c.args.api c.args.window 1 (g.S.Source.left c.args.source.now) (g.K.Sink.written c.args.out.now)
