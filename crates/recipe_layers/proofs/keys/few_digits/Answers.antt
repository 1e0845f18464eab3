use Rattle.std.proofs.Common.{arith, refl}
use Rattle.key_bytes.specs.Numbers.{number_low}
use Rattle.fdb_tuple.proofs.ByteLists.{AreBytes-by_place}
use Rattle.model_allocator.proofs.Digits.{digits_fit, digits_more}
use Rattle.recipe_layers.proofs.keys.few_digits.Goals as goal

pub loop-digit-init : goal.loop-digit-init
unfolding number_low
loop-digit-init c = refl

pub overflow_mul-number : goal.overflow_mul-number
overflow_mul-number c =
    let few = digits_fit c.args.digits.now c.loop-digit.digit-index c.loop-digit-test.true c.requires (AreBytes-by_place c.args.digits.now (λ i. omega (arith, c.type_inv.digits i))) in
    omega (arith, few, c.loop-digit.invariant)

pub overflow_add-number : goal.overflow_add-number
overflow_add-number c =
    let few = digits_fit c.args.digits.now c.loop-digit.digit-index c.loop-digit-test.true c.requires (AreBytes-by_place c.args.digits.now (λ i. omega (arith, c.type_inv.digits i))) in
    omega (arith, few, c.loop-digit.invariant)

pub loop-digit-preserved : goal.loop-digit-preserved
loop-digit-preserved c =
    let more = digits_more c.args.digits.now c.loop-digit.digit-index c.loop-digit-test.true in
    omega (arith, more, c.loop-digit.invariant)
