-- What the program's places stand for.
use Rattle.std.specs.Prelude.{ℕ, ◌-◌, List, length}
use Rattle.model_lines.specs.Reading as reading
use Rattle.dump_text.specs.declared.input.Place.{Place}

abbrev pub place_is : ℕ → Place → reading.Place
place_is number place = record { number = number; bytes = place.bytes; pairs = place.pairs }

-- where reading stands: what is left of the bytes, and the pairs that were read
abbrev pub place_at : ℕ → List ℕ → List ℕ → List reading.Entry → reading.Place
place_at number bytes left front = record { number = number; bytes = length bytes - length left; pairs = length front }
