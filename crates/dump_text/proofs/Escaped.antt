-- The printable form in which one byte more is spelled by its digits.
use Rattle.std.proofs.Common.{◌≡◌, ℕ, zero, suc, ◌<◌, true, false, ◌==◌, List, [], ◌∷◌, ◌++◌, length, take, drop, get_or, Some, refl, sym, ap, ◌∙◌, append_assoc, arith}
use Rattle.std.proofs.lemmas.Bool.{eqb-true, false_from_ne_true}
use Rattle.model_lines.specs.Printing.{in_digits, printable, printable_but}

-- the byte at a place is this one
abbrev IsByte : ℕ → List ℕ → ℕ → Type 0
IsByte escaped bytes k = (get_or bytes k 0 == escaped) ≡ true

-- up to the first place of the byte nothing is spelled otherwise
pub up_to_first : (escaped n : ℕ) (bytes : List ℕ) → n < length bytes → ((k : ℕ) → k < n → IsByte escaped bytes k → ⊥)
    → IsByte escaped bytes n
    → printable_but (Some escaped) bytes ≡ printable (take n bytes) ++
    (in_digits escaped ++ printable_but (Some escaped) (drop (suc n) bytes))
unfolding printable printable_but
up_to_first escaped n [] h none e = absurd (omega arith)
up_to_first escaped zero (byte ∷ rest) h none e = rw (e, eqb-true byte escaped e) refl
up_to_first escaped (suc n) (byte ∷ rest) h none e =
    let other : (byte == escaped) ≡ false = false_from_ne_true (byte == escaped) (none 0 (omega arith)) in
    let later = up_to_first escaped n rest (omega arith) (λ k l. none (suc k) (omega arith)) e in
    rw (other, later, append_assoc) refl

-- without the byte nothing is spelled otherwise
pub printable_without : (escaped : ℕ) (bytes : List ℕ) → ((k : ℕ) → k < length bytes → IsByte escaped bytes k → ⊥)
    → printable_but (Some escaped) bytes ≡ printable bytes
unfolding printable printable_but
printable_without escaped [] none = refl
printable_without escaped (byte ∷ rest) none =
    let other : (byte == escaped) ≡ false = false_from_ne_true (byte == escaped) (none 0 (omega arith)) in
    rw (other, printable_without escaped rest (λ k l. none (suc k) (omega arith))) refl

pub escaped_more : (to bytes total : List ℕ) (escaped n : ℕ) → n < length bytes → ((k : ℕ) → k < n → IsByte escaped bytes k → ⊥)
    → IsByte escaped bytes n
    → to ++ printable_but (Some escaped) bytes ≡ total
    → ((to ++ printable (take n bytes)) ++ in_digits escaped) ++ printable_but (Some escaped) (drop (suc n) bytes) ≡ total
escaped_more to bytes total escaped n h none e so_far =
    append_assoc (to ++ printable (take n bytes)) (in_digits escaped) (printable_but (Some escaped) (drop (suc n) bytes))
    ∙ append_assoc to (printable (take n bytes)) (in_digits escaped ++ printable_but (Some escaped) (drop (suc n) bytes))
    ∙ ap (λ (x : List ℕ). to ++ x) (sym (up_to_first escaped n bytes h none e)) ∙ so_far
