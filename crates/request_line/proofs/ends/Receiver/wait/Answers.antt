use Rattle.request_line.proofs.Steps.{takes_at}
use Rattle.request_line.proofs.ends.Receiver.wait.Goals as goal

pub recv_as-requires-clause-rule : goal.recv_as-requires-clause-rule
recv_as-requires-clause-rule g c = (takes_at _ _ c.args.self.now.known, λ _ _ _ _. tt)
