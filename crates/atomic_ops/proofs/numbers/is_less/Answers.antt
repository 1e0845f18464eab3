use Rattle.std.proofs.Common.{◌≡◌, ℕ, suc, ◌+◌, ◌-◌, ◌<◌, List, Fits, w8, refl, length, get_or, drop, sym, ◌∙◌, arith}
use Rattle.std.proofs.lemmas.List.{drop_all, drop_more}
use Rattle.std.proofs.lemmas.List.Elements.{All-from_get_or}
use Rattle.key_bytes.specs.Keys.{IsByteString}
use Rattle.model_database.specs.Atomics.{fitted}
use Rattle.atomic_ops.proofs.Fitted.{length-fitted, get_or-fitted, fitted-IsByteString}
use Rattle.atomic_ops.proofs.Little.{nat_lt-number_low}
use Rattle.atomic_ops.proofs.numbers.is_less.Goals as goal

-- one byte more is the same
same_from : (kept operand : List ℕ) (i : ℕ) → length kept ≡ length operand → i < length operand → get_or kept i 0 ≡ get_or operand i 0
    → drop (suc i) kept ≡ drop (suc i) operand
    → drop i kept ≡ drop i operand
same_from kept operand i long inside same above =
    let next : i + 1 ≡ suc i = omega arith in
    drop_more kept i 0 (omega arith) ∙ rw next (rw (same, above) refl) ∙ sym (drop_more operand i 0 inside)

pub loop-place-init : goal.loop-place-init
loop-place-init c =
    let old = c.args.old.now in
    let operand = c.args.operand.now in
    drop_all (length operand) (fitted old operand) (omega (arith, length-fitted old operand))
    ∙ sym (drop_all (length operand) operand (omega arith))

-- each element of a slice of bytes fits a byte
is_byte_string : (bytes : List ℕ) → ((i : ℕ) → Fits w8 (get_or bytes i 0)) → IsByteString bytes
is_byte_string bytes fits = All-from_get_or (λ b. b < 256) bytes 0 (λ i inside. omega (arith, fits i))

pub returns-then-kept-operand : goal.returns-then-kept-operand
returns-then-kept-operand c =
    let old = c.args.old.now in
    let operand = c.args.operand.now in
    let i = c.loop-place.place - 1 in
    let next : suc i ≡ c.loop-place.place = omega arith in
    let inside : i < length operand = omega (arith, c.loop-place.auto.place) in
    let byte : c.byte_at-kept.result ≡ get_or (fitted old operand) i 0 = c.byte_at-kept.ensures ∙ sym (get_or-fitted old operand i inside) in
    let kept_bytes = fitted-IsByteString old operand (is_byte_string old c.type_inv.old) in
    rw byte (nat_lt-number_low (fitted old operand) operand i kept_bytes (is_byte_string operand c.type_inv.operand) (length-fitted old operand)
    (omega (arith, length-fitted old operand, inside)) (rw next c.loop-place.invariant) (λ e. c.if-kept-operand.true (byte ∙ e)))

pub loop-place-preserved : goal.loop-place-preserved
loop-place-preserved c =
    let old = c.args.old.now in
    let operand = c.args.operand.now in
    let i = c.loop-place.place - 1 in
    let next : suc i ≡ c.loop-place.place = omega arith in
    let inside : i < length operand = omega (arith, c.loop-place.auto.place) in
    same_from (fitted old operand) operand i (length-fitted old operand) inside
    (sym (c.byte_at-kept.ensures ∙ sym (get_or-fitted old operand i inside)) ∙ c.if-kept-operand.false) (rw next c.loop-place.invariant)
