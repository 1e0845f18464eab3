use Rattle.std.proofs.Common.{refl}
use Rattle.client_core.specs.Contents.{model_of}
use Rattle.client_core.proofs.Databases.{apart_took}
use Rattle.client_core.proofs.Results.{ok_so}
use Rattle.client_core.proofs.contents.Contents.call_apart.Goals as goal

pub returns-clause-step : goal.returns-clause-step
returns-clause-step c =
    ok_so _ _ c.call_on.result (λ reply made t world stood stands.
    apart_took (model_of c.args.self.now) _ world c.args.call.now c.args.transaction.now c.call_on.new.transaction reply t made refl refl stood
    stands)
    c.call_on.ensures.made
