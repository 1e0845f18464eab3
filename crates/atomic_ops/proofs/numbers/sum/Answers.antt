use Rattle.std.proofs.Common.{◌≡◌, ◌+◌, ◌/◌, ◌<◌, get_or, sym, ◌∙◌, subst, arith}
use Rattle.model_database.specs.Atomics.{fitted, little_sum}
use Rattle.atomic_ops.proofs.Fitted.{length-fitted, get_or-fitted}
use Rattle.atomic_ops.proofs.Little.{IsSummed, IsSummed-none, IsSummed-more, IsSummed-all}
use Rattle.atomic_ops.proofs.numbers.sum.Goals as goal

pub loop-place-init : goal.loop-place-init
loop-place-init c =
    let kept = fitted c.args.old.now c.args.operand.now in
    subst (IsSummed kept c.args.operand.now 0 0) (sym c.in_ok-sum.ensures.items) (IsSummed-none kept c.args.operand.now)

pub loop-place-preserved : goal.loop-place-preserved
loop-place-preserved c =
    let old = c.args.old.now in
    let operand = c.args.operand.now in
    let i = c.loop-place.place in
    let carry = c.loop-place.carry in
    let kept : c.from.result ≡ get_or (fitted old operand) i 0 = c.from.ensures ∙ c.byte_at.ensures ∙ sym (get_or-fitted old operand i (omega arith)) in
    let kept_fits : c.from.result < 256 = omega (arith, c.from.ensures, c.byte_at.type_inv) in
    let byte_fits : c.from-in-loop-place.result < 256 = omega (arith, c.from-in-loop-place.ensures, c.type_inv.operand i) in
    subst (IsSummed (fitted old operand) operand (i + 1) ((c.from.result + c.from-in-loop-place.result + carry) / 256)) (sym c.in_ok-push.ensures.items)
    (IsSummed-more (fitted old operand) operand i carry c.from.result c.from-in-loop-place.result c.loop-place.sum.items c.loop-place.invariant
    kept c.from-in-loop-place.ensures kept_fits byte_fits)

pub returns : goal.returns
returns c =
    let old = c.args.old.now in
    let operand = c.args.operand.now in
    let summed : c.loop-place.sum.items ≡ little_sum (fitted old operand) operand =
    IsSummed-all (fitted old operand) operand c.loop-place.place c.loop-place.carry c.loop-place.sum.items c.loop-place.invariant (omega (arith, length-fitted old operand)) (omega arith) in
    rw (← summed) c.from_vec.ensures
