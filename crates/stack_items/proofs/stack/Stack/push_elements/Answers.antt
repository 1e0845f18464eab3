use Rattle.std.proofs.Common.{map, take, arith}
use Rattle.std.proofs.lemmas.List.{take_more}
use Rattle.std.proofs.lemmas.Result.{err_from_is_err_and}
use Rattle.model_machine.specs.StackOperations.{packed_alone}
use Rattle.stack_items.proofs.Pushing.{pushed_more, pushed-EndsIn}
use Rattle.stack_items.proofs.stack.Stack.push_elements.Goals as goal

pub returns-in_err-packed-clause-err : goal.returns-in_err-packed-clause-err
returns-in_err-packed-clause-err c =
    let is_err = err_from_is_err_and c.from_residual.result c.from_residual.ensures.1 in
    rw (is_err.1, c.loop-element.invariant) (pushed-EndsIn c.args.instruction (map packed_alone (take c.loop-element.element-index c.as_slice-element-items.result.now)) c.args.self.now)

pub returns-in_err-push-clause-err : goal.returns-in_err-push-clause-err
returns-in_err-push-clause-err c =
    let is_err = err_from_is_err_and c.from_residual-in_err-push.result c.from_residual-in_err-push.ensures.1 in
    rw (is_err.1, c.in_err-push.ensures.err, c.loop-element.invariant) (pushed-EndsIn c.args.instruction (map packed_alone (take c.loop-element.element-index c.as_slice-element-items.result.now)) c.args.self.now)

pub loop-element-preserved : goal.loop-element-preserved
loop-element-preserved c =
    let elements = c.as_slice-element-items.result.now in
    let index = c.loop-element.element-index in
    let one_more = take_more elements index c.element-item.result (omega arith) in
    rw (c.in_ok-push.ensures.ok, c.in_ok-packed.ensures, one_more, ← c.element-item.is)
    (pushed_more c.args.instruction packed_alone (take index elements) c.element-item.result c.args.self.now c.loop-element.self c.loop-element.invariant)
