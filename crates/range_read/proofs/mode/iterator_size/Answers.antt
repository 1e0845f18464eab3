use Rattle.std.proofs.Common.{arith}
use Rattle.range_read.proofs.Pages.{late_turn}
use Rattle.range_read.proofs.mode.iterator_size.Goals as goal

pub returns-in_default : goal.returns-in_default
returns-in_default c = late_turn c.args.turn (omega arith)
