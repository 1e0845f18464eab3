-- The lines of a stack, one item after the other.
use Rattle.std.proofs.Common.{ℕ, List, drop}
use Rattle.std.specs.List.{flat_map, enumerate_from}
use Rattle.model_lines.specs.Printing.{item_line}
use Rattle.model_machine.specs.declared.Item.{Item}
use Rattle.model_machine.specs.Calls.{item_bytes}

abbrev line_at : ℕ → ℕ × Item → List ℕ
line_at number (place, item) = item_line number place item.instruction (item_bytes item.value)

-- the lines of the items from a place on
abbrev pub lines_from : ℕ → List Item → ℕ → List ℕ
lines_from number items place = flat_map (line_at number) (enumerate_from place (drop place items))
