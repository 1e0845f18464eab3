-- The lines of bytes, from the first line on.
use Rattle.std.proofs.Common.{◌≡◌, ℕ, ◌≤◌, true, false, ◌==◌, ◌⊎◌, inl, inr, List, [], ◌∷◌, ◌++◌, length, refl, ap, arith}
use Rattle.std.specs.List.{AllByRecursion}
use Rattle.std.proofs.lemmas.Bool.{eqb-true}
use Rattle.model_lines.specs.Reading.{Line, with_first, lines_of}

-- no byte is a line feed
abbrev pub IsFeedless : List ℕ → Type 0
IsFeedless bytes = AllByRecursion (λ b. (b == 10) ≡ false) bytes

pub IsFeedless-append : (xs ys : List ℕ) → IsFeedless xs → IsFeedless ys → IsFeedless (xs ++ ys)
IsFeedless-append [] ys h k = k
IsFeedless-append (x ∷ xs) ys h k = (h.0, IsFeedless-append xs ys h.1 k)

-- bytes without a line feed, and one behind them, are one line
pub whole_first : (bytes rest : List ℕ) → IsFeedless bytes
    → lines_of ((bytes ++ 10 ∷ []) ++ rest) ≡ record { bytes = bytes; is_whole = true } ∷ lines_of rest
unfolding lines_of
whole_first [] rest h = refl
whole_first (byte ∷ bytes) rest h = rw (h.0, whole_first bytes rest h.1) refl

-- the first line has at least these bytes
pub record Begins (bytes : List ℕ) (lines : List Line) : Type 0 where
  pub line : Line
  pub others : List Line
  pub parts : lines ≡ line ∷ others
  pub size : length bytes ≤ length line.bytes

with_first_begins : (byte : ℕ) (bytes : List ℕ) (lines : List Line) → Begins bytes lines → Begins (byte ∷ bytes) (with_first byte lines)
with_first_begins byte bytes lines h = record {
  line = record h.line { bytes = byte ∷ h.line.bytes };
  others = h.others;
  parts = ap (with_first byte) h.parts;
  size = omega (arith, h.size);
}

byte_begins : (byte : ℕ) (lines : List Line) → Begins (byte ∷ []) (with_first byte lines)
byte_begins byte [] = record { line = record { bytes = byte ∷ []; is_whole = false }; others = []; parts = refl; size = omega arith }
byte_begins byte (line ∷ lines) =
    record { line = record line { bytes = byte ∷ line.bytes }; others = lines; parts = refl; size = omega arith }

-- bytes without a line feed stand in the first line, whatever stands behind them
pub first_line_begins : (byte : ℕ) (bytes rest : List ℕ) → IsFeedless (byte ∷ bytes)
    → Begins (byte ∷ bytes) (lines_of ((byte ∷ bytes) ++ rest))
unfolding lines_of
first_line_begins byte [] rest h = rw h.0 (byte_begins byte (lines_of rest))
first_line_begins byte (next ∷ bytes) rest h =
    rw h.0 (with_first_begins byte (next ∷ bytes) (lines_of ((next ∷ bytes) ++ rest)) (first_line_begins next bytes rest h.1))

-- bytes up to their first line feed, and what stands behind it
pub record HasFeed (bytes : List ℕ) : Type 0 where
  pub line : List ℕ
  pub rest : List ℕ
  pub parts : bytes ≡ (line ++ 10 ∷ []) ++ rest
  pub feedless : IsFeedless line

feed_further : (byte : ℕ) (bytes : List ℕ) → (byte == 10) ≡ false → HasFeed bytes ⊎ IsFeedless bytes
    → HasFeed (byte ∷ bytes) ⊎ IsFeedless (byte ∷ bytes)
feed_further byte bytes e (inl h) =
    inl (record { line = byte ∷ h.line; rest = h.rest; parts = ap (λ (x : List ℕ). byte ∷ x) h.parts; feedless = (e, h.feedless) })
feed_further byte bytes e (inr h) = inr (e, h)

pub first_feed : (bytes : List ℕ) → HasFeed bytes ⊎ IsFeedless bytes
first_feed [] = inr tt
first_feed (byte ∷ bytes) =
    elim (byte == 10) as (λ b. (byte == 10) ≡ b → HasFeed (byte ∷ bytes) ⊎ IsFeedless (byte ∷ bytes)) [
      | true ↦ λ e. inl (record { line = []; rest = bytes; parts = ap (λ (x : ℕ). x ∷ bytes) (eqb-true byte 10 e); feedless = tt })
      | false ↦ λ e. feed_further byte bytes e (first_feed bytes)
    ] refl
