-- The first word of bytes ends at their first space, or is all of them.
use Rattle.std.proofs.Common.{◌≡◌, ℕ, zero, suc, ◌<◌, true, false, ◌==◌, List, [], ◌∷◌, length, take, drop, get_or, refl, arith}
use Rattle.std.proofs.lemmas.Bool.{false_from_ne_true}
use Rattle.model_shell.specs.Tokens.{words_of}

abbrev pub IsSpace : List ℕ → ℕ → Type 0
IsSpace bytes k = (get_or bytes k 0 == 32) ≡ true

pub first_word : (n : ℕ) (bytes : List ℕ) → n < length bytes → ((k : ℕ) → k < n → IsSpace bytes k → ⊥) → IsSpace bytes n
    → words_of bytes ≡ take n bytes ∷ words_of (drop (suc n) bytes)
first_word n [] h none e = absurd (omega arith)
first_word zero (byte ∷ rest) h none e = rw e refl
first_word (suc n) (byte ∷ rest) h none e =
    let other : (byte == 32) ≡ false = false_from_ne_true (byte == 32) (none 0 (omega arith)) in
    let later = first_word n rest (omega arith) (λ k l. none (suc k) (omega arith)) e in
    rw (other, later) refl

pub only_word : (bytes : List ℕ) → ((k : ℕ) → k < length bytes → IsSpace bytes k → ⊥) → words_of bytes ≡ bytes ∷ []
only_word [] none = refl
only_word (byte ∷ rest) none =
    let other : (byte == 32) ≡ false = false_from_ne_true (byte == 32) (none 0 (omega arith)) in
    let later = only_word rest (λ k l. none (suc k) (omega arith)) in
    rw (other, later) refl
