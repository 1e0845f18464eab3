use Rattle.std.proofs.Common.{◌≡◌, map, take}
use Rattle.text_commands.specs.Firings.{firing_lines}
use Rattle.text_commands.specs.Scenes.{firing_of}
use Rattle.text_commands.proofs.watching.firing_lines.Given as goal

-- the lines of the ends so far
abbrev pub invariant-loop-number : goal.invariant-loop-number
invariant-loop-number l = l.lines.items ≡ firing_lines 0 (map firing_of (take l.number l.ends))
