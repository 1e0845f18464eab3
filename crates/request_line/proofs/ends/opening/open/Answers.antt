use Rattle.request_line.proofs.Steps.{makes_ends_at}
use Rattle.request_line.proofs.ends.opening.open.Goals as goal

pub another-receiving-requires-clause-rule : goal.another-receiving-requires-clause-rule
another-receiving-requires-clause-rule g c = makes_ends_at _ _ c.in_ok-posting.ensures.3
