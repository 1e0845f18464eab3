use Rattle.std.proofs.Common.{subst, sym}
use Rattle.network.specs.declared.client.Client.{Client}
use Rattle.network.specs.Clients.{client_history}
use Rattle.request_line.specs.History.{AreTogether}
use Rattle.threaded_machine.proofs.threaded.ThreadedMachine.fork.Goals as goal

pub returns-clause-together : goal.returns-clause-together
returns-clause-together c =
    subst (λ (made : Client). AreTogether (client_history c.fork.new.self) (client_history made) (client_history c.args.self.now.client))
    (sym c.with.ensures.client) c.in_ok-client.ensures.together
