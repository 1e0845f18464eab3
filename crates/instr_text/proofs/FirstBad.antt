-- The first pair that can't follow is the one that is refused.
use Rattle.std.proofs.Common.{◌≡◌, ℕ, zero, suc, ◌+◌, ◌-◌, ◌^◌, ◌<◌, ◌≤◌, List, [], ◌∷◌, ◌++◌, length, take, Option, Result, Ok, Err, refl, ap, subst, ◌∙◌, arith}
use Rattle.std.specs.List.{AllByRecursion}
use Rattle.std.proofs.lemmas.List.{length-take-le}
use Rattle.model_lines.specs.Reading.{Entry}
use Rattle.instr_grammar.specs.Taking.{Taken, step, with_text, taken_on, take_pairs, disassembled}
use Rattle.instr_text.specs.Taken.{IsPairOfBytes, IsAsm, IsFirstBad}
use Rattle.instr_text.proofs.Takings.{taken_on_ok, all_taken, disassembled_was, disassembled_again, first_bad}

-- where all pairs are taken apart, those of each front are
record IsRead (read : Result (List ℕ) ℕ) : Type 0 where
  text : List ℕ
  is : read ≡ Ok text

front_read : (n line : ℕ) (taken : Taken) (pairs : List Entry) (text : List ℕ) → take_pairs line taken pairs ≡ Ok text
    → IsRead (take_pairs line taken (take n pairs))
unfolding take_pairs
front_read zero line taken pairs text e = record { text = []; is = refl }
front_read (suc n) line taken [] text e = record { text = []; is = refl }
front_read (suc n) line taken (pair ∷ pairs) text e =
    let parts = taken_on_ok line (step taken pair) (λ next. take_pairs (line + 1) next pairs) text e in
    let later = front_read n (line + 1) parts.1.0 pairs parts.1.1.0 parts.1.1.1.1 in
    record {
      text = parts.0 ++ later.text;
      is = ap (λ (o : Option (List ℕ × Taken)). taken_on line o (λ next. take_pairs (line + 1) next (take n pairs))) parts.1.1.1.0
          ∙ ap (with_text parts.0) later.is;
    }

-- the front of the pairs of a text is the pairs of a text
front_is_asm : (n : ℕ) (pairs : List Entry) → AllByRecursion IsPairOfBytes pairs → length pairs < 2 ^ 63 → IsAsm pairs → IsAsm (take n pairs)
unfolding disassembled
front_is_asm n pairs are few h =
    let read = disassembled_again pairs h.0 few h.1.0 h.1.1 in
    let front = front_read n 1 (record { prefixes = []; index = 0 }) pairs _ read in
    let was = disassembled_was (take n pairs) front.text (all_taken IsPairOfBytes n pairs are) front.is in
    (was.0, (was.1.0, was.1.1))

front_of_front : (n m : ℕ) (pairs : List Entry) → n ≤ m → take n (take m pairs) ≡ take n pairs
front_of_front zero m pairs h = refl
front_of_front (suc n) zero pairs h = absurd (omega arith)
front_of_front (suc n) (suc m) [] h = refl
front_of_front (suc n) (suc m) (pair ∷ pairs) h = ap (λ (x : List Entry). pair ∷ x) (front_of_front n m pairs (omega arith))

-- a pair before the first bad one isn't the first bad one
not_before : (pairs : List Entry) (line other : ℕ) → AllByRecursion IsPairOfBytes pairs → length pairs < 2 ^ 63 → IsFirstBad pairs line → IsFirstBad pairs other
    → other < line → ⊥
not_before pairs line other are few first second h =
    let front : List Entry = take (line - 1) pairs in
    let short : length front < 2 ^ 63 = omega (arith, few, length-take-le (line - 1) pairs) in
    second.bad (subst IsAsm (front_of_front other (line - 1) pairs (omega arith))
    (front_is_asm other front (all_taken IsPairOfBytes (line - 1) pairs are) short first.front))

one_line : (pairs : List Entry) (line other : ℕ) → AllByRecursion IsPairOfBytes pairs → length pairs < 2 ^ 63 → IsFirstBad pairs line → IsFirstBad pairs other
    → other ≡ line
one_line pairs line other are few first second =
    let low = not_before pairs line other are few first second in
    let high = not_before pairs other line are few second first in
    omega (arith, low, high)

pub bad_refused : (pairs : List Entry) (line : ℕ) → AllByRecursion IsPairOfBytes pairs → length pairs < 2 ^ 63 → IsFirstBad pairs line
    → disassembled pairs ≡ Err line
bad_refused pairs line are few first = by (disassembled pairs) refl
  where
    by : (read : Result (List ℕ) ℕ) → disassembled pairs ≡ read → read ≡ Err line
    by (Ok text) e =
        let was = disassembled_was pairs text are e in
        absurd (first.bad (front_is_asm line pairs are few (was.0, (was.1.0, was.1.1))))
    by (Err other) e = ap (λ (n : ℕ). Err n) (one_line pairs line other are few first (first_bad pairs other are few e))
