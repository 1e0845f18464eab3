-- What the program's places stand for.
use Rattle.std.specs.Prelude.{ℕ, List, Result, Ok, Err}
use Rattle.model_lines.specs.Reading.{Flaw, Fault, fault_of}
use Rattle.model_events.specs.Events as events
use Rattle.event_lines.specs.declared.reading.Place.{Place}

abbrev pub place_is : ℕ → Place → events.Place
place_is number place = record { number = number; bytes = place.bytes; pairs = place.pairs; watches = place.watches }

-- a key read without the limits of its line
abbrev pub judged_key : ℕ → Result (List ℕ) Flaw → Result (List ℕ) Fault
judged_key number (Ok key) = Ok key
judged_key number (Err flaw) = Err (fault_of number flaw)
