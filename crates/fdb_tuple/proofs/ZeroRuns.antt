-- Byte strings up to their first 00.
use Rattle.std.proofs.Common.{◌≡◌, ℕ, zero, suc, ◌<◌, ◌≤◌, List, [], ◌∷◌, ◌++◌, length, get_or, take, drop, append_assoc, refl, sym, ap, ◌∙◌, arith, eq-eqb, Some}
use Rattle.std.specs.List.{flat_map}
use Rattle.std.proofs.lemmas.Bool.{eqb-true}
use Rattle.std.proofs.lemmas.List.{drop_more, take-append-drop, append-nil}
use Rattle.memchr.specs.Find.{IsFirstByte, is_byte}
use Rattle.fdb_tuple.specs.Zeros.{HasNoZero}
use Rattle.fdb_tuple.specs.Spelling.{escaped_byte}

no_zero_within : (bytes : List ℕ) (at : ℕ) → at ≤ length bytes → ((k : ℕ) → k < at → get_or bytes k 0 ≡ 0 → ⊥) → HasNoZero (take at bytes)
no_zero_within bytes zero le h = tt
no_zero_within [] (suc at) le h = tt
no_zero_within (b ∷ bytes) (suc at) le h = (h 0 (omega arith), no_zero_within bytes at (omega arith) (λ k lt. h (suc k) (omega arith)))

pub no_zero_before : (bytes : List ℕ) (at : ℕ) → IsFirstByte (is_byte 0) bytes (Some at) → HasNoZero (take at bytes)
no_zero_before bytes at first = no_zero_within bytes at (omega (arith, first.0.high)) (λ k lt e. first.0.before k (omega arith) lt (eq-eqb _ _ e))

pub split_there : (bytes : List ℕ) (at : ℕ) → IsFirstByte (is_byte 0) bytes (Some at) → bytes ≡ take at bytes ++ 0 ∷ drop 1 (drop at bytes)
split_there bytes at first =
    let lt : at < length bytes = first.0.high in
    let is_zero : get_or bytes at 0 ≡ 0 = eqb-true _ _ first.1 in
    sym (take-append-drop at bytes) ∙ ap (λ (bs : List ℕ). take at bytes ++ bs) (rw (drop_more bytes at 0 lt, is_zero) refl)

pub escaped_run : (run rest : List ℕ) → HasNoZero run → flat_map escaped_byte (run ++ rest) ≡ run ++ flat_map escaped_byte rest
escaped_run [] rest h = refl
escaped_run (zero ∷ run) rest h = absurd (h.0 refl)
escaped_run (suc b ∷ run) rest h = ap (λ (bs : List ℕ). suc b ∷ bs) (escaped_run run rest h.1)

-- a run and an escaped 00 are written, and the rest is left
pub escaped_more : (whole_out out rest run after written : List ℕ) → out ++ flat_map escaped_byte rest ≡ whole_out → HasNoZero run
    → rest ≡ run ++ 0 ∷ after → written ≡ out ++ run ++ 0 ∷ 0xFF ∷ [] → written ++ flat_map escaped_byte after ≡ whole_out
escaped_more whole_out out rest run after written so_far h split e =
    let one : flat_map escaped_byte rest ≡ run ++ 0 ∷ 0xFF ∷ flat_map escaped_byte after = ap (flat_map escaped_byte) split ∙ escaped_run run (0 ∷ after) h in
    let step : written ++ flat_map escaped_byte after ≡ out ++ flat_map escaped_byte rest = rw (e, one) (simp append_assoc) in
    step ∙ so_far

-- a run without 00 is written as it is
pub escaped_last : (rest : List ℕ) → HasNoZero rest → flat_map escaped_byte rest ≡ rest
escaped_last rest h = ap (flat_map escaped_byte) (sym (append-nil rest)) ∙ escaped_run rest [] h ∙ append-nil rest
