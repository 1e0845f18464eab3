use Rattle.suspended_machine.proofs.Resting.{awaits_reply}
use Rattle.suspended_machine.proofs.suspended.SuspendedMachine.use_reply.Goals as goal

pub use_awaited-requires-clause-awaits : goal.use_awaited-requires-clause-awaits
use_awaited-requires-clause-awaits c = awaits_reply c.args.self.now c.requires.is_suspended c.requires.asks
