use Rattle.request_line.proofs.Steps.{posts_at}
use Rattle.request_line.proofs.ends.Sender.try_post.Goals as goal

pub send_as-requires-clause-rule : goal.send_as-requires-clause-rule
send_as-requires-clause-rule g c = (posts_at _ _ _ _ _ c.args.self.now.known, λ _ _ _ _. tt)
