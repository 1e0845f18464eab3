-- Worked rows: the place that reading gives, and the front of the line up to it.
use Rattle.std.proofs.Common.{◌≡◌, ◌<◌, ◌+◌, ℕ, Bool, true, false, inl, inr, List, [], ◌∷◌, ◌++◌, length, Err, codes, refl, sym, ap, arith}
use Rattle.std.proofs.lemmas.List.Elements.{All-from_recursion}
use Rattle.std.proofs.lemmas.Fmt.{decimal_digit}
use Rattle.std.specs.Fmt.{decimal}
use Rattle.model_lines.specs.Printing.{printable}
use Rattle.model_lines.specs.Reading.{Bad, pair_at, text_of, pieces, piece_at}
use Rattle.model_input.specs.Orders.{machine_at}
use Rattle.model_events.specs.Events.{event_at}
use Rattle.laws_lines.specs.Places.{IsKey, IsPairFront, PairKind, PairKey, PairValue, IsOrderFront, OrderGap, OrderMachine, NoLetter, LoneLetter, LoneKey, IsEventFront, WatchFront, ClearFront, PutFront}
use Rattle.laws_lines.proofs.Pairs.{empty_key}

-- a line of these bytes is bad at this place
abbrev IsBadPair : Bool → List ℕ → ℕ → Type 0
IsBadPair is_whole bytes place = pair_at (record { bytes = bytes; is_whole = is_whole }) bytes ≡ Err (Bad place)

abbrev IsBadOrder : Bool → List ℕ → ℕ → Type 0
IsBadOrder is_whole bytes place = machine_at (record { bytes = bytes; is_whole = is_whole }) bytes ≡ Err (Bad place)

-- the place is behind a front
abbrev PairRow : Bool → (place : ℕ) (front rest : List ℕ) → Type 0
PairRow is_whole place front rest = IsBadPair is_whole (front ++ rest) place × (length front ≡ place) × IsPairFront front

abbrev OrderRow : Bool → (place : ℕ) (front rest : List ℕ) → Type 0
OrderRow is_whole place front rest = IsBadOrder is_whole (front ++ rest) place × (length front ≡ place) × IsOrderFront front rest

-- ---- pairs

one_byte_key : IsKey (codes "a")
one_byte_key = record { bytes = All-from_recursion (λ b. b < 256) (codes "a") (omega arith, tt); below_top = refl }

other_gap : PairRow true 1 (codes "K") (codes "_a")
unfolding pair_at
other_gap = (refl, refl, PairKind refl)

wrong_escape : PairRow true 2 (codes "K ") (codes "\\q")
unfolding pair_at text_of pieces piece_at printable
wrong_escape = (refl, refl, PairKey [] empty_key refl)

no_separator : PairRow true 3 (codes "K a") []
unfolding pair_at text_of pieces piece_at printable
no_separator = (refl, refl, PairKey (codes "a") one_byte_key refl)

key_past_top : PairRow true 2 (codes "K ") (codes "\\xff\\q")
unfolding pair_at text_of pieces piece_at printable
key_past_top = (refl, refl, PairKey [] empty_key refl)

second_separator : PairRow true 5 (codes "K a\\=") (codes "\\=")
unfolding pair_at text_of pieces piece_at printable
second_separator = (refl, refl, PairValue (codes "a") [] one_byte_key empty_key.bytes refl)

no_line_feed : PairRow false 6 (codes "K a\\=a") []
unfolding pair_at text_of pieces piece_at printable
no_line_feed = (refl, refl, PairValue (codes "a") (codes "a") one_byte_key one_byte_key.bytes refl)

-- ---- orders

digit_behind : (machine : ℕ) → machine < 10 → codes "O " ++ (48 + machine) ∷ [] ≡ codes "O " ++ decimal machine
digit_behind machine h = ap (λ (x : List ℕ). codes "O " ++ x) (sym (decimal_digit machine h))

machine_past_last : OrderRow true 2 (codes "O ") (codes "64x")
unfolding machine_at
machine_past_last = (refl, refl, OrderGap refl)

leading_zero : OrderRow true 3 (codes "O 0") (codes "7")
unfolding machine_at
leading_zero = (refl, refl, OrderMachine 0 (omega arith) (inl refl) (digit_behind 0 (omega arith)))

no_second_digit : OrderRow true 3 (codes "O 6") (codes "x")
unfolding machine_at
no_second_digit = (refl, refl, OrderMachine 6 (omega arith) (inr refl) (digit_behind 6 (omega arith)))

no_line_feed_behind : OrderRow false 3 (codes "O 6") []
unfolding machine_at
no_line_feed_behind = (refl, refl, OrderMachine 6 (omega arith) (inr refl) (digit_behind 6 (omega arith)))

-- ---- events

abbrev IsBadEvent : Bool → List ℕ → ℕ → Type 0
IsBadEvent is_whole bytes place = event_at (record { bytes = bytes; is_whole = is_whole }) bytes ≡ Err (Bad place)

abbrev EventRow : Bool → (place : ℕ) (front rest : List ℕ) → Type 0
EventRow is_whole place front rest = IsBadEvent is_whole (front ++ rest) place × (length front ≡ place) × IsEventFront front

no_kind : EventRow true 0 [] (codes "O 0")
unfolding event_at
no_kind = (refl, refl, WatchFront (NoLetter refl))

kind_alone : EventRow true 1 (codes "C") []
unfolding event_at
kind_alone = (refl, refl, ClearFront (LoneLetter refl))

separator_behind_a_key : EventRow true 3 (codes "W a") (codes "\\=b")
unfolding event_at text_of pieces piece_at printable
separator_behind_a_key = (refl, refl, WatchFront (LoneKey (codes "a") one_byte_key refl))

lone_key_past_top : EventRow true 2 (codes "W ") (codes "\\xff\\q")
unfolding event_at text_of pieces piece_at printable
lone_key_past_top = (refl, refl, WatchFront (LoneKey [] empty_key refl))

clear_without_line_feed : EventRow false 3 (codes "C a") []
unfolding event_at text_of pieces piece_at printable
clear_without_line_feed = (refl, refl, ClearFront (LoneKey (codes "a") one_byte_key refl))

put_without_separator : EventRow true 3 (codes "K a") []
unfolding event_at text_of pieces piece_at printable
put_without_separator = (refl, refl, PutFront (PairKey (codes "a") one_byte_key refl))
