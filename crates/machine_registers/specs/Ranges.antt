-- Ranges of keys, by what an instruction pops.
use Rattle.std.specs.Prelude.{List, Ok}
use Rattle.key_bytes.specs.declared.range.KeyRange.{KeyRange}
use Rattle.model_database.specs.Intervals.{one}
use Rattle.model_machine.specs.declared.Item.{Item}
use Rattle.model_machine.specs.Operands.{◌>>=◌, Popped, bytes_operand, two_operands}

-- the two ends of a range
abbrev pub range_operand : List Item → Popped KeyRange
range_operand stack = do
  ends ← two_operands bytes_operand bytes_operand stack
  Ok (record { begin = ends.0.0; end = ends.0.1 }, ends.1)

-- a key, as the range of it alone
abbrev pub one_key_operand : List Item → Popped KeyRange
one_key_operand stack = do
  key ← bytes_operand stack
  Ok (one key.0, key.1)
