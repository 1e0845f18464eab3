use Rattle.request_line.proofs.Steps.{takes_at}
use Rattle.request_line.proofs.ends.Receiver.look.Goals as goal

pub try_recv_as-requires-clause-rule : goal.try_recv_as-requires-clause-rule
try_recv_as-requires-clause-rule g c = (takes_at _ _ c.args.self.now.known, λ _ _ _ _. tt)
