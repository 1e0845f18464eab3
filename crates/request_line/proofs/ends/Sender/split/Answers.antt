use Rattle.request_line.proofs.Steps.{splits_at}
use Rattle.request_line.proofs.ends.Sender.split.Goals as goal

pub another-pass-requires-clause-rule : goal.another-pass-requires-clause-rule
another-pass-requires-clause-rule g c = splits_at _ _ _ c.args.self.now.known c.requires
