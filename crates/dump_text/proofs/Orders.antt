-- A line of an order, spelled out, and where it ends.
use Rattle.std.proofs.Common.{◌≡◌, ℕ, zero, suc, ◌+◌, ◌<◌, true, not, T, List, [], ◌∷◌, ◌++◌, length, take, drop, refl, sym, ap, subst, arith}
use Rattle.std.proofs.lemmas.Bool.{and_parts, ltb-true}
use Rattle.std.proofs.lemmas.Fmt.{decimal_digit}
use Rattle.model_lines.specs.Printing.{order_line}
use Rattle.model_lines.specs.Reading.{lines_of}
use Rattle.dump_text.specs.InputLines.{ends_at, has_three}
use Rattle.dump_text.proofs.Inputs.{whole_line}

-- four bytes that are added one by one
four : (to : List ℕ) (a b c d : ℕ) → (((to ++ a ∷ []) ++ b ∷ []) ++ c ∷ []) ++ d ∷ [] ≡ to ++ a ∷ b ∷ c ∷ d ∷ []
four [] a b c d = refl
four (byte ∷ to) a b c d = ap (λ (x : List ℕ). byte ∷ x) (four to a b c d)

-- the line of a machine of one digit
pub short_order : (to : List ℕ) (machine : ℕ) → machine < 10
    → (((to ++ 79 ∷ []) ++ 32 ∷ []) ++ (48 + machine) ∷ []) ++ 10 ∷ [] ≡ to ++ order_line machine
unfolding order_line
short_order to machine h = rw (decimal_digit machine h) (four to 79 32 (48 + machine) 10)

never : (place : ℕ) (bytes : List ℕ) → not (ends_at place bytes) ≡ true → ends_at place bytes ≡ true → ⊥
never place bytes other e =
    let wrong : not true ≡ true = rw e at other in
    subst T (sym wrong) tt

no_earlier : (bytes : List ℕ) → not (ends_at 0 bytes) ≡ true → not (ends_at 1 bytes) ≡ true → not (ends_at 2 bytes) ≡ true
    → (k : ℕ) → k < 3 → ends_at k bytes ≡ true → ⊥
no_earlier bytes a b c zero h e = never 0 bytes a e
no_earlier bytes a b c (suc zero) h e = never 1 bytes b e
no_earlier bytes a b c (suc (suc zero)) h e = never 2 bytes c e
no_earlier bytes a b c (suc (suc (suc k))) h e = absurd (omega arith)

-- a line of three bytes
pub three_bytes : (bytes : List ℕ) → has_three bytes ≡ true
    → lines_of bytes ≡ record { bytes = take 3 bytes; is_whole = true } ∷ lines_of (drop 4 bytes)
three_bytes bytes h =
    let last = and_parts _ (ends_at 3 bytes) h in
    let third = and_parts _ (not (ends_at 2 bytes)) last.0 in
    let second = and_parts _ (not (ends_at 1 bytes)) third.0 in
    let first = and_parts _ (not (ends_at 0 bytes)) second.0 in
    whole_line 3 bytes (ltb-true 3 (length bytes) first.0) (no_earlier bytes first.1 second.1 third.1) last.1
