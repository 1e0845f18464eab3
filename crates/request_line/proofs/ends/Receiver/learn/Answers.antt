use Rattle.request_line.proofs.Learned.{learns_at}
use Rattle.request_line.proofs.ends.Receiver.learn.Goals as goal

pub learn_as-requires-clause-rule : goal.learn_as-requires-clause-rule
learn_as-requires-clause-rule g c = learns_at _ _ c.args.self.now.known
