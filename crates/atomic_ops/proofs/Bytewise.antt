-- Two byte strings joined byte by byte.
use Rattle.std.proofs.Common.{◌≡◌, ℕ, ◌+◌, ◌<◌, ◌≤◌, List, [], ◌∷◌, ◌++◌, length, get_or, take, sym, ap, ◌∙◌, arith}
use Rattle.std.specs.List.{zip}
use Rattle.std.proofs.lemmas.List.{get_or-map, take_more, take_all, length-map}
use Rattle.std.proofs.lemmas.Slice.Zip.{get_or-zip, length-zip}
use Rattle.model_database.specs.Atomics.{bytewise, fitted}
use Rattle.atomic_ops.proofs.Fitted.{length-fitted, get_or-fitted}

length-bytewise : (joined : ℕ → ℕ → ℕ) (old operand : List ℕ) → length (bytewise joined (fitted old operand) operand) ≡ length operand
unfolding bytewise
length-bytewise joined old operand = simp (length-map, length-zip) (omega (arith, length-fitted old operand))

get_or-bytewise : (joined : ℕ → ℕ → ℕ) (old operand : List ℕ) (i : ℕ) → i < length operand
    → get_or (bytewise joined (fitted old operand) operand) i 0 ≡ joined (get_or old i 0) (get_or operand i 0)
unfolding bytewise
get_or-bytewise joined old operand i inside =
    let kept : i < length (fitted old operand) = omega (arith, length-fitted old operand) in
    let both : i < length (zip (fitted old operand) operand) = simp length-zip (omega arith) in
    get_or-map (λ (pair : ℕ × ℕ). joined pair.0 pair.1) (zip (fitted old operand) operand) i (0, 0) 0 both
    ∙ ap (λ (pair : ℕ × ℕ). joined pair.0 pair.1) (get_or-zip (fitted old operand) operand i (0, 0) kept inside)
    ∙ ap (λ (byte : ℕ). joined byte (get_or operand i 0)) (get_or-fitted old operand i inside)

pub joined_more : (joined : ℕ → ℕ → ℕ) (old operand : List ℕ) (i : ℕ) → i < length operand
    → take i (bytewise joined (fitted old operand) operand) ++ joined (get_or old i 0) (get_or operand i 0) ∷ [] ≡ take (i + 1) (bytewise joined (fitted old operand) operand)
joined_more joined old operand i inside =
    let all = bytewise joined (fitted old operand) operand in
    let within : i < length all = omega (arith, length-bytewise joined old operand) in
    sym (take_more all i 0 within ∙ ap (λ (byte : ℕ). take i all ++ byte ∷ []) (get_or-bytewise joined old operand i inside))

pub joined_all : (joined : ℕ → ℕ → ℕ) (old operand : List ℕ) (i : ℕ) → length operand ≤ i
    → take i (bytewise joined (fitted old operand) operand) ≡ bytewise joined (fitted old operand) operand
joined_all joined old operand i past = take_all i (bytewise joined (fitted old operand) operand) (omega (arith, length-bytewise joined old operand))
