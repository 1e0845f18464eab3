use Rattle.std.proofs.Common.{◌∷◌, [], ◌++◌, ◌∙◌, arith}
use Rattle.std.proofs.lemmas.Result.{err_from_is_err_and}
use Rattle.model_machine.specs.Operands.{bytes_operand}
use Rattle.stack_items.specs.Looks.{left_in}
use Rattle.stack_items.proofs.Repeats.{after_more, after_all, refused_after}
use Rattle.stack_items.proofs.operands.Operands.pass_bytes.Goals as goal

pub returns-in_err-bytes : goal.returns-in_err-bytes
returns-in_err-bytes c =
    let refused = err_from_is_err_and c.from_residual.result c.from_residual.ensures.1 in (
      c.in_err-bytes.ensures.0 ∙ c.loop-passed.invariant.whole,
      rw (refused.1, refused.2, c.loop-passed.invariant.found)
          (refused_after bytes_operand c.in_err-bytes.field-0.0 c.loop-passed.invariant.firsts c.args.count c.loop-passed._passed (left_in c.loop-passed.self) (left_in c.bytes.new.self) (omega arith) c.in_err-bytes.ensures.1),
    )

pub loop-passed-preserved : goal.loop-passed-preserved
loop-passed-preserved c = record {
  whole = c.in_ok-bytes.ensures.0 ∙ c.loop-passed.invariant.whole;
  firsts = c.loop-passed.invariant.firsts ++ c.in_ok-bytes.field-0.now ∷ [];
  found =
      c.loop-passed.invariant.found
      ∙ after_more bytes_operand c.loop-passed.invariant.firsts c.args.count c.loop-passed._passed (left_in c.loop-passed.self) (left_in c.bytes.new.self) c.in_ok-bytes.field-0.now (omega arith) c.in_ok-bytes.ensures.1;
}

pub returns : goal.returns
returns c = (
  c.loop-passed.invariant.whole,
  (
    c.loop-passed.invariant.firsts,
    c.loop-passed.invariant.found ∙ after_all bytes_operand c.loop-passed.invariant.firsts c.args.count c.loop-passed._passed (left_in c.loop-passed.self) (omega arith),
  ),
)
