-- Lines that were worked out by hand.
use Rattle.std.proofs.Common.{◌≡◌, ℕ, List, [], ◌∷◌, true, false, Result, Ok, Err, refl}
use Rattle.model_lines.specs.Reading.{Bad, Line, Flaw, text_of, pieces, piece_at}
use Rattle.model_events.specs.declared.event.Event.{Event}
use Rattle.model_events.specs.declared.event.Event.TheVariants.{Watch, Clear, Put}
use Rattle.model_events.specs.Events.{event_at}

-- a whole line of these bytes
abbrev whole : List ℕ → Line
whole bytes = record { bytes = bytes; is_whole = true }

-- a line of these bytes, read
abbrev read : List ℕ → Result Event Flaw
read bytes = event_at (whole bytes) bytes

-- W k
pub watches_a_key : read (87 ∷ 32 ∷ 107 ∷ []) ≡ Ok (Watch (107 ∷ []))
unfolding event_at text_of pieces piece_at
watches_a_key = refl

-- C and a space: the empty key
pub clears_the_empty_key : read (67 ∷ 32 ∷ []) ≡ Ok (Clear [])
unfolding event_at text_of pieces piece_at
clears_the_empty_key = refl

-- K k\=a
pub puts_a_pair : read (75 ∷ 32 ∷ 107 ∷ 92 ∷ 61 ∷ 97 ∷ []) ≡ Ok (Put (record { key = 107 ∷ []; value = 97 ∷ [] }))
unfolding event_at text_of pieces piece_at
puts_a_pair = refl

-- C alone is bad at 1
pub kind_alone : read (67 ∷ []) ≡ Err (Bad 1)
unfolding event_at text_of pieces piece_at
kind_alone = refl

-- a line of no kind is bad at 0
pub no_kind : read (79 ∷ 32 ∷ 48 ∷ []) ≡ Err (Bad 0)
unfolding event_at text_of pieces piece_at
no_kind = refl

-- W a\=b: a separator is bad at its backslash
pub separator_in_a_key : read (87 ∷ 32 ∷ 97 ∷ 92 ∷ 61 ∷ 98 ∷ []) ≡ Err (Bad 3)
unfolding event_at text_of pieces piece_at
separator_in_a_key = refl

-- W \xff\q: a key that isn't less than FF is bad at 2, before the wrong escape behind it
pub key_above : read (87 ∷ 32 ∷ 92 ∷ 120 ∷ 102 ∷ 102 ∷ 92 ∷ 113 ∷ []) ≡ Err (Bad 2)
unfolding event_at text_of pieces piece_at
key_above = refl

-- C k without its line feed is bad at its length
pub no_line_feed : event_at (record { bytes = 67 ∷ 32 ∷ 107 ∷ []; is_whole = false }) (67 ∷ 32 ∷ 107 ∷ []) ≡ Err (Bad 3)
unfolding event_at text_of pieces piece_at
no_line_feed = refl
