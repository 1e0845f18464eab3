-- What passes a limit is the front of no input that is within the limits.
use Rattle.std.proofs.Common.{◌≡◌, ℕ, zero, suc, ◌-◌, ◌≤◌, true, false, ◌==◌, List, [], ◌∷◌, ◌++◌, length, Some, refl, ap, arith}
use Rattle.std.specs.Prelude.{slice_get}
use Rattle.std.specs.List.{AllByRecursion}
use Rattle.std.proofs.lemmas.List.{length-append}
use Rattle.model_lines.specs.Reading.{Line, Fault, BadLine, TooLong, TooMany, with_first, lines_of}
use Rattle.fdb_shell.specs.Limits.{line_limit}
use Rattle.fdb_shell.specs.Outcomes.{IsWithin, IsPast}

-- among these lines one that is no shorter stands at the place
abbrev Longer : List Line → ℕ → Line → Type 0
Longer lines place line = (later : Line) × (slice_get lines place ≡ Some later) × (length line.bytes ≤ length later.bytes)

is_line : (line other : Line) → Some line ≡ Some other → line ≡ other
is_line line other e = cc

-- one byte more at the front of both
longer_first : (byte : ℕ) (lines others : List Line)
    → ((place : ℕ) (line : Line) → slice_get lines place ≡ Some line → Longer others place line)
    → (place : ℕ) (line : Line) → slice_get (with_first byte lines) place ≡ Some line → Longer (with_first byte others) place line
longer_first byte [] [] h zero line e = (line, e, omega arith)
longer_first byte [] [] h (suc place) line e = absurd cc
longer_first byte [] (other ∷ others) h zero line e = (
  record other { bytes = byte ∷ other.bytes },
  refl,
  let is = ap (λ (l : Line). length l.bytes) (is_line (record { bytes = byte ∷ []; is_whole = false }) line e) in omega arith,
)
longer_first byte [] (other ∷ others) h (suc place) line e = absurd cc
longer_first byte (first ∷ lines) [] h place line e = let none = h 0 first refl in let impossible = none.1 in absurd cc
longer_first byte (first ∷ lines) (other ∷ others) h zero line e =
    let later = h 0 first refl in
    let same = ap (λ (l : Line). length l.bytes) (is_line other later.0 later.1) in
    let is = ap (λ (l : Line). length l.bytes) (is_line (record first { bytes = byte ∷ first.bytes }) line e) in
    (record other { bytes = byte ∷ other.bytes }, refl, omega (arith, later.2))
longer_first byte (first ∷ lines) (other ∷ others) h (suc place) line e = h (suc place) line e

longer_fed : (lines others : List Line)
    → ((place : ℕ) (line : Line) → slice_get lines place ≡ Some line → Longer others place line)
    → (fed : Line) (place : ℕ) (line : Line) → slice_get (fed ∷ lines) place ≡ Some line → Longer (fed ∷ others) place line
longer_fed lines others h fed zero line e = (line, e, omega arith)
longer_fed lines others h fed (suc place) line e = h place line e

-- each line of a front is no longer than the line of its place
longer_of : (front rest : List ℕ) (place : ℕ) (line : Line) → slice_get (lines_of front) place ≡ Some line
    → Longer (lines_of (front ++ rest)) place line
unfolding lines_of
longer_of [] rest = λ place line e. absurd cc
longer_of (byte ∷ front) rest =
    elim (byte == 10) as (λ b. (byte == 10) ≡ b → (place : ℕ) (line : Line) → slice_get (lines_of (byte ∷ front)) place ≡ Some line
    → Longer (lines_of (byte ∷ (front ++ rest))) place line) [
      | true ↦ λ b. rw b (longer_fed (lines_of front) (lines_of (front ++ rest)) (longer_of front rest) (record { bytes = []; is_whole = true }))
      | false ↦ λ b. rw b (longer_first byte (lines_of front) (lines_of (front ++ rest)) (longer_of front rest))
    ] refl

short_at : (lines : List Line) (place : ℕ) (line : Line) → AllByRecursion (λ (line : Line). length line.bytes ≤ line_limit) lines
    → slice_get lines place ≡ Some line → length line.bytes ≤ line_limit
short_at [] place line h e = absurd cc
short_at (first ∷ lines) zero line h e = let is = ap (λ (l : Line). length l.bytes) (is_line first line e) in omega (arith, h.0)
short_at (first ∷ lines) (suc place) line h e = short_at lines place line h.1 e

pub past_is_not_within : (fault : Fault) (front rest : List ℕ) → IsPast fault front → IsWithin (front ++ rest) → ⊥
past_is_not_within (TooMany number) front rest past within =
    let few = within.few in
    let more = past.1 in
    omega (arith, length-append front rest)
past_is_not_within (TooLong number) front rest past within =
    let later = longer_of front rest (number - 1) past.2 past.3 in
    let short = short_at (lines_of (front ++ rest)) (number - 1) later.0 within.short later.1 in
    let long = past.4 in
    let no_shorter = later.2 in
    omega arith
past_is_not_within (BadLine number place) front rest past within = past
