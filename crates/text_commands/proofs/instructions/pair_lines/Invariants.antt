use Rattle.std.proofs.Common.{◌≡◌, take}
use Rattle.key_bytes.specs.Entries.{entries_of}
use Rattle.model_lines.specs.Inputs.{pair_lines}
use Rattle.text_commands.proofs.instructions.pair_lines.Given as goal

-- the lines of the pairs so far
abbrev pub invariant-loop-pair : goal.invariant-loop-pair
invariant-loop-pair l = l.lines.items ≡ pair_lines (entries_of (take l.pair-index l.pair-items))
