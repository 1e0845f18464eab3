use Rattle.std.proofs.Common.{ℕ, List, ◌-◌, ◌+◌, ◌∷◌, [], ◌++◌, ◌∙◌, ap, sym, arith}
use Rattle.std.proofs.lemmas.Result.{err_from_is_err_and}
use Rattle.model_machine.specs.Operands.{operand_by}
use Rattle.model_machine.specs.Directories.{text_of}
use Rattle.stack_items.specs.Looks.{left_in}
use Rattle.stack_items.proofs.Repeats.{operands_after, after_more, after_all, refused_after}
use Rattle.stack_directories.proofs.Refused.{refuses}
use Rattle.stack_directories.proofs.operands.names.Goals as goal

pub returns-in_err-name : goal.returns-in_err-name
returns-in_err-name c =
    let refused = err_from_is_err_and c.from_residual.result c.from_residual.ensures.1 in (
      c.in_err-name.ensures.0 ∙ c.loop-seen.invariant.whole,
      rw (refused.1, refused.2, c.loop-seen.invariant.found)
          (refuses c.in_err-name.field-0.0 _ _
          (refused_after (λ stack. operand_by text_of stack) c.in_err-name.field-0.0 c.loop-seen.path c.args.count c.loop-seen._seen (left_in c.loop-seen.operands) (left_in c.text.new.operands) (omega arith) c.in_err-name.ensures.1)),
    )

pub loop-seen-preserved : goal.loop-seen-preserved
loop-seen-preserved c = record {
  whole = c.in_ok-name.ensures.0 ∙ c.loop-seen.invariant.whole;
  found =
      c.loop-seen.invariant.found
      ∙ after_more (λ stack. operand_by text_of stack) c.loop-seen.path c.args.count c.loop-seen._seen (left_in c.loop-seen.operands) (left_in c.text.new.operands) c.in_ok-name.name.now (omega arith) c.in_ok-name.ensures.1
      ∙ ap (λ (firsts : List (List ℕ)). operands_after (λ stack. operand_by text_of stack) firsts (c.args.count - (c.loop-seen._seen + 1)) (left_in c.text.new.operands))
      (ap (λ (name : List ℕ). c.loop-seen.path ++ name ∷ []) (sym c.in_ok-copy.ensures) ∙ sym c.in_ok-push.ensures.ok);
}

pub returns : goal.returns
returns c = (
  c.loop-seen.invariant.whole,
  c.loop-seen.invariant.found
      ∙ after_all (λ stack. operand_by text_of stack) c.loop-seen.path c.args.count c.loop-seen._seen (left_in c.loop-seen.operands) (omega arith),
)
