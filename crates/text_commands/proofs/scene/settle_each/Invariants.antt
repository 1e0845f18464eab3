use Rattle.std.proofs.Common.{◌≡◌, map}
use Rattle.text_commands.proofs.Endings.{ending_value, some_end, Both}
use Rattle.text_commands.proofs.scene.settle_each.Given as goal

-- the values of the endings so far
abbrev pub invariant-loop-ending : goal.invariant-loop-ending
invariant-loop-ending l = map some_end l.ends.items ≡ map (λ (both : Both). ending_value both.0) l.yielded
