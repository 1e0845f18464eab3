use Rattle.std.proofs.Common.{arith}
use Rattle.watch_core.specs.declared.ending.WatchEnd.TheVariants.{Changed}
use Rattle.text_commands.proofs.Written.{firings_more}
use Rattle.text_commands.proofs.watching.firing_lines.Goals as goal

pub loop-number-preserved : goal.loop-number-preserved
loop-number-preserved c =
    firings_more c.args.ends.now c.loop-number.number c.loop-number.lines.items c.add_firing_line.new.to.items (Changed 0) (omega arith)
    c.loop-number.invariant c.in_ok-add_firing_line.ensures
