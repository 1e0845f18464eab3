-- What has ended or is cancelled now is settled by the history.
use Rattle.watch_core.proofs.Firings.{all_settled}
use Rattle.watch_core.proofs.watches.Watches.close.Goals as goal

pub returns-clause-settled : goal.returns-clause-settled
returns-clause-settled g c = λ history right. all_settled history c.args.self right
