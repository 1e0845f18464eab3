use Rattle.std.proofs.Common.{map, ◌∙◌}
use Rattle.std.proofs.lemmas.Result.{err_from_is_err_and}
use Rattle.fdb_tuple.specs.declared.tuple.Elem.TheVariants as elem
use Rattle.stack_items.proofs.Pushing.{pushed_more, pushed-EndsIn}
use Rattle.stack_items.proofs.stack.Stack.push_strings.Goals as goal

pub loop-string-preserved : goal.loop-string-preserved
loop-string-preserved c =
    c.in_ok-push.ensures.ok
    ∙ pushed_more c.args.instruction (λ bytes. elem.Bytes bytes) c.loop-string.yielded c.in-Some.string c.args.self.now c.loop-string.self c.loop-string.invariant

pub returns-in_err-push-clause-err : goal.returns-in_err-push-clause-err
returns-in_err-push-clause-err c =
    let is_err = err_from_is_err_and c.from_residual.result c.from_residual.ensures.1 in
    rw (is_err.1, c.in_err-push.ensures.err, c.loop-string.invariant) (pushed-EndsIn c.args.instruction (map (λ bytes. elem.Bytes bytes) c.loop-string.yielded) c.args.self.now)
