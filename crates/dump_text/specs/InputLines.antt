-- What the program's lines stand for.
use Rattle.std.specs.Prelude.{ℕ, Bool, not, ◌&&◌, ◌==◌, List, length, nat_lt, get_or}
use Rattle.model_lines.specs.Reading.{Line}
use Rattle.model_lines.specs.Printing.{line_feed}
use Rattle.dump_text.specs.declared.pair.InputLine.{InputLine}

abbrev pub line_is : InputLine → Line
line_is line = record { bytes = line.bytes.now; is_whole = line.is_whole }

-- whether the byte at a place is a line feed
abbrev pub ends_at : ℕ → List ℕ → Bool
ends_at place bytes = get_or bytes place 0 == line_feed

-- whether the first line has three bytes and its line feed
abbrev pub has_three : List ℕ → Bool
has_three bytes = nat_lt 3 (length bytes) && not (ends_at 0 bytes) && not (ends_at 1 bytes) && not (ends_at 2 bytes) && ends_at 3 bytes
