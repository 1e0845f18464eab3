-- Bytes that may become UTF-8, as the standard library tells them.
use Rattle.std.proofs.Common.{◌≡◌, ◌<◌, ◌/◌, ◌%◌, ◌+◌, ⊎_elim, arith, [], ◌∷◌, ◌++◌, subst, cond, ltb, ℕ, Bool, true, false, not, List, drop, Option, refl, ap, sym, ◌∙◌}
use Rattle.std.specs.Prelude.{IsUtf8, is_some}
use Rattle.std.specs.Str.{is_utf8}
use Rattle.std.specs.Str.Lossy.{utf8_valid_len, utf8_error_len}
use Rattle.std.proofs.Math.Utf8.{scalar, scalar_cases}
use Rattle.std.proofs.lemmas.Bool.{ltb-true, and_parts}
use Rattle.std.specs.Str.{encode_utf8_all, all_scalars}
use Rattle.std.specs.Char.{encode_utf8}
use Rattle.instr_grammar.proofs.Runs.{AreBytes}
use Rattle.std.proofs.lemmas.Str.{IsUtf8-from_is_utf8, is_utf8-from_IsUtf8}
use Rattle.instr_grammar.specs.Reading.{may_be_utf8}

pub valid_may_be : (bytes : List ℕ) → IsUtf8 bytes → true ≡ may_be_utf8 bytes
valid_may_be bytes valid = rw (is_utf8-from_IsUtf8 bytes valid) refl

is_not : (bytes : List ℕ) → (IsUtf8 bytes → ⊥) → is_utf8 bytes ≡ false
is_not bytes invalid = by (is_utf8 bytes) refl
  where
    by : (b : Bool) → is_utf8 bytes ≡ b → b ≡ false
    by true e = absurd (invalid (IsUtf8-from_is_utf8 bytes e))
    by false e = refl

other_way : (b c : Bool) → c ≡ not b → b ≡ not c
other_way true c e = sym (ap not e)
other_way false c e = sym (ap not e)

pub fault_may_be : (bytes : List ℕ) → (IsUtf8 bytes → ⊥) → (place : ℕ) → place ≡ utf8_valid_len bytes → (len : Option ℕ) (none : Bool)
    → len ≡ utf8_error_len (drop place bytes) → is_some len ≡ not none → none ≡ may_be_utf8 bytes
fault_may_be bytes invalid place e len none is found =
    other_way none (is_some len) found
    ∙ ap (λ (o : Option ℕ). not (is_some o)) (is ∙ ap (λ n. utf8_error_len (drop n bytes)) e) ∙ rw (is_not bytes invalid) refl

-- ---- the bytes of a text are bytes

below_top : (c : ℕ) → scalar c ≡ true → c < 1114112
below_top c e = ⊎_elim (λ h. omega arith) (λ h. omega (arith, h.1)) (scalar_cases c e)

of_tests : (c : ℕ) (p q r : Bool) → ltb c 128 ≡ p → ltb c 2048 ≡ q → ltb c 65536 ≡ r → c < 1114112
    → AreBytes (cond p (c ∷ []) (cond q ((192 + c / 64) ∷ (128 + c % 64) ∷ []) (cond r ((224 + c / 4096) ∷ (128 + (c / 64) % 64) ∷ (128 + c % 64) ∷ [])
    ((240 + c / 262144) ∷ (128 + (c / 4096) % 64) ∷ (128 + (c / 64) % 64) ∷ (128 + c % 64) ∷ []))))
of_tests c true q r e f g h = let low = ltb-true c 128 e in (omega arith, tt)
of_tests c false true r e f g h = let low = ltb-true c 2048 f in (omega arith, (omega arith, tt))
of_tests c false false true e f g h = let low = ltb-true c 65536 g in (omega arith, (omega arith, (omega arith, tt)))
of_tests c false false false e f g h = (omega arith, (omega arith, (omega arith, (omega arith, tt))))

encoded_bytes : (c : ℕ) → scalar c ≡ true → AreBytes (encode_utf8 c)
unfolding encode_utf8
encoded_bytes c e = of_tests c (ltb c 128) (ltb c 2048) (ltb c 65536) refl refl refl (below_top c e)

both_bytes : (front rest : List ℕ) → AreBytes front → AreBytes rest → AreBytes (front ++ rest)
both_bytes [] rest h k = k
both_bytes (byte ∷ front) rest h k = (h.0, both_bytes front rest h.1 k)

all_encoded : (cs : List ℕ) → all_scalars cs ≡ true → AreBytes (encode_utf8_all cs)
all_encoded [] e = tt
all_encoded (c ∷ cs) e =
    let both = and_parts (scalar c) (all_scalars cs) e in
    both_bytes (encode_utf8 c) (encode_utf8_all cs) (encoded_bytes c both.0) (all_encoded cs both.1)

pub text_bytes : (text : List ℕ) → IsUtf8 text → AreBytes text
text_bytes text is = subst AreBytes is.1.1 (all_encoded is.0 is.1.0)
