use Rattle.laws_threads.proofs.Alone.{started_begun}
use Rattle.test_threads.proofs.tests.machines.first_machine.Goals as goal

pub new-requires-clause-begun : goal.new-requires-clause-begun
new-requires-clause-begun c = started_begun _ _ _ _ _ c.in_ok-suspended.ensures.started
