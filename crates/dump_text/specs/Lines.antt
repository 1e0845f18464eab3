-- The line that stands for a value.
use Rattle.std.specs.Prelude.{ℕ, List}
use Rattle.model_lines.specs.Printing.{machine_line, item_line, error_line, order_line, pair_line}
use Rattle.dump_text.specs.declared.line.Line.{Line}
use Rattle.dump_text.specs.declared.line.Line.TheVariants as line
use Rattle.dump_text.specs.Ends.{word_of}

abbrev pub line_of : Line → List ℕ
line_of (line.M machine end number prefix) = machine_line machine (word_of end) number prefix
line_of (line.S machine place instruction bytes) = item_line machine place instruction bytes
line_of (line.E machine instruction word) = error_line machine instruction word
line_of (line.O machine) = order_line machine
line_of (line.K key value) = pair_line key value
