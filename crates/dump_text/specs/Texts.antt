-- What the program's pieces and texts stand for.
use Rattle.std.specs.Prelude.{ℕ, List, ◌++◌}
use Rattle.model_lines.specs.Reading as reading
use Rattle.dump_text.specs.declared.text.Piece.{Piece}
use Rattle.dump_text.specs.declared.text.Piece.TheVariants as pieces
use Rattle.dump_text.specs.declared.text.Stop.{Stop}
use Rattle.dump_text.specs.declared.text.Stop.TheVariants as stops
use Rattle.dump_text.specs.declared.text.ReadText.{ReadText}

abbrev pub piece_is : Piece → reading.Piece
piece_is pieces.Nothing = reading.Nothing
piece_is (pieces.Spelled byte rest) = reading.Spelled byte rest.now
piece_is (pieces.Separator rest) = reading.Separator rest.now
piece_is pieces.Unfit = reading.Unfit

abbrev pub stop_is : Stop → reading.Stop
stop_is stops.AtEnd = reading.AtEnd
stop_is stops.AtSeparator = reading.AtSeparator
stop_is stops.AtFault = reading.AtFault

abbrev pub text_is : ReadText → reading.ReadText
text_is text = record { bytes = text.bytes; stop = stop_is text.stop; left = text.left.now }

-- what was read before, put before what is read
abbrev pub with_front : List ℕ → reading.ReadText → reading.ReadText
with_front front text = record text { bytes = front ++ text.bytes }

-- how many bytes stand between what was read and what is left
abbrev pub passed : Stop → ℕ
passed stops.AtEnd = 0
passed stops.AtSeparator = 2
passed stops.AtFault = 0
