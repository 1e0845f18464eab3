use Rattle.request_line.proofs.Steps.{closes_at}
use Rattle.request_line.proofs.ends.Receiver.close_with.Goals as goal

pub absorb-requires-clause-rule : goal.absorb-requires-clause-rule
absorb-requires-clause-rule g c = closes_at _ _ _ _ _ c.args.self.now.known c.args.sender.known
