-- What the program's values stand for.
use Rattle.std.specs.Prelude.{ℕ, Option, None}
use Rattle.model_lines.specs.Reading as reading
use Rattle.dump_reading.specs.declared.printable.Spelling.{Spelling}
use Rattle.dump_reading.specs.declared.printable.Spelling.TheVariants as spellings
use Rattle.dump_reading.specs.declared.line.DumpLine.{DumpLine}
use Rattle.dump_reading.specs.declared.dump.Place.{Place}
use Rattle.dump_reading.specs.Spellings.{Front, spelled}

abbrev pub spelling_is : Spelling → Option Front
spelling_is (spellings.Byte byte rest) = spelled byte rest.now
spelling_is spellings.Unfit = None

abbrev pub line_is : DumpLine → reading.Line
line_is line = record { bytes = line.bytes.now; is_whole = line.is_whole }

abbrev pub place_is : ℕ → Place → reading.Place
place_is number place = record { number = number; bytes = place.bytes; pairs = place.pairs }
