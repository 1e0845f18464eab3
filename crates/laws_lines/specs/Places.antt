-- The place of a bad line, by a relation: how long the longest front of the line is that ends behind a whole part of a lawful line.
use Rattle.std.specs.Prelude.{◌≡◌, ◌≤◌, ◌⊎◌, ℕ, Bool, true, false, List, [], ◌∷◌, ◌++◌, length, Err, codes, decimal}
use Rattle.key_bytes.specs.Keys.{IsByteString, key_lt, top}
use Rattle.model_lines.specs.Printing.{space, printable, separator}
use Rattle.model_lines.specs.Reading.{Line, Bad, pair_at}
use Rattle.model_input.specs.Orders.{is_digit, last_machine, machine_at}
use Rattle.model_events.specs.Events.{event_at}

-- a key that a line of a pair may have, whatever its length: a byte string less than FF, the empty one included
pub record IsKey (key : List ℕ) : Type 0 where
  pub bytes : IsByteString key
  pub below_top : key_lt key top ≡ true

-- A whole front of a lawful line of a pair: nothing; K; K, a space and the printable form of a key; or that, the separator, and
-- the printable form of a value.
pub data IsPairFront (front : List ℕ) : Type 0 where
  NoPair : (is : front ≡ []) → IsPairFront front
  PairKind : (is : front ≡ codes "K") → IsPairFront front
  PairKey : (key : List ℕ) (lawful : IsKey key) (is : front ≡ codes "K " ++ printable key) → IsPairFront front
  PairValue : (key value : List ℕ) (lawful : IsKey key) (bytes : IsByteString value)
      (is : front ≡ codes "K " ++ (printable key ++ separator ++ printable value)) → IsPairFront front

-- A whole front of a lawful line of a letter and one key: nothing; the letter; or that, a space and the printable form of a key.
pub data IsKeyFront (letter : ℕ) (front : List ℕ) : Type 0 where
  NoLetter : (is : front ≡ []) → IsKeyFront letter front
  LoneLetter : (is : front ≡ letter ∷ []) → IsKeyFront letter front
  LoneKey : (key : List ℕ) (lawful : IsKey key) (is : front ≡ letter ∷ space ∷ printable key) → IsKeyFront letter front

-- A whole front of a lawful line of an event: of one that watches a key, by W, of one that clears a key, by C, or of one of a pair.
pub data IsEventFront (front : List ℕ) : Type 0 where
  WatchFront : (its : IsKeyFront 87 front) → IsEventFront front
  ClearFront : (its : IsKeyFront 67 front) → IsEventFront front
  PutFront : (its : IsPairFront front) → IsEventFront front

abbrev pub begins_with_digit : List ℕ → Bool
begins_with_digit [] = false
begins_with_digit (byte ∷ rest) = is_digit byte

-- A whole front of a lawful line of an order, before what is left of the line: nothing; O; O and a space; or these and the
-- decimal digits of a machine, to which no digit behind them belongs: no number but 0 ends before a digit.
pub data IsOrderFront (front rest : List ℕ) : Type 0 where
  NoOrder : (is : front ≡ []) → IsOrderFront front rest
  OrderKind : (is : front ≡ codes "O") → IsOrderFront front rest
  OrderGap : (is : front ≡ codes "O ") → IsOrderFront front rest
  OrderMachine : (machine : ℕ) (small : machine ≤ last_machine) (ends : (machine ≡ 0) ⊎ (begins_with_digit rest ≡ false))
      (is : front ≡ codes "O " ++ decimal machine) → IsOrderFront front rest

-- the place is behind a front of the bytes, and no other front of them is longer
pub record IsLongestFront (IsFront : (front rest : List ℕ) → Type 0) (bytes : List ℕ) (place : ℕ) : Type 0 where
  pub front : List ℕ
  pub rest : List ℕ
  pub parts : bytes ≡ front ++ rest
  pub place_is : place ≡ length front
  pub is_front : IsFront front rest
  pub longest : (other behind : List ℕ) → bytes ≡ other ++ behind → IsFront other behind → length other ≤ place

-- the place of a bad line of a pair
abbrev pub ArePairPlaces : Type 0
ArePairPlaces = (line : Line) (place : ℕ) → pair_at line line.bytes ≡ Err (Bad place)
    → IsLongestFront (λ front rest. IsPairFront front) line.bytes place

-- the place of a bad line of an order
abbrev pub AreOrderPlaces : Type 0
AreOrderPlaces = (line : Line) (place : ℕ) → machine_at line line.bytes ≡ Err (Bad place) → IsLongestFront IsOrderFront line.bytes place

-- the place of a bad line of an event
abbrev pub AreEventPlaces : Type 0
AreEventPlaces = (line : Line) (place : ℕ) → event_at line line.bytes ≡ Err (Bad place)
    → IsLongestFront (λ front rest. IsEventFront front) line.bytes place
