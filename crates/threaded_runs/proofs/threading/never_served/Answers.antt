use Rattle.threaded_runs.proofs.Gathered.{never_served}
use Rattle.threaded_runs.proofs.threading.never_served.Goals as goal

pub returns : goal.returns
returns c =
    never_served c.args.begun.0.value c.args.sender c.args.begun.1.value c.args.answered c.requires.fresh c.requires.served c.close_with.new.self
    c.close_with.ensures.taken c.close_with.ensures.closed c.close_with.ensures.in_order c.close_with.ensures.of_these
