use Rattle.std.proofs.Common.{◌≡◌, ◌∷◌, [], ◌++◌, ◌-◌, ◌+◌, ◌∙◌, arith}
use Rattle.std.proofs.lemmas.Result.{err_from_is_err_and}
use Rattle.model_machine.specs.Operands.{bytes_of, bytes_operand, operands_by}
use Rattle.stack_items.proofs.Below.{operand_leaves}
use Rattle.stack_items.proofs.Repeats.{operands_after, after_more, after_all, never_refused, left_below}
use Rattle.stack_items.proofs.stack.Stack.take_byte_strings.Goals as goal
use Rattle.stack_items.proofs.stack.Stack.take_byte_strings.Goals.{In_err-string, In_ok-string}

never : (c : In_err-string) → ⊥
never c =
    never_refused (λ bytes. bytes) bytes_operand c.in_err-string.field-0.0 (operands_by bytes_operand c.args.count c.args.self.now) c.loop-taken.strings.items c.args.count c.loop-taken._taken
    c.loop-taken.self c.pop_bytes.new.self (omega arith) c.requires c.loop-taken.invariant c.in_err-string.ensures

pub returns-in_err-string-clause-memory : goal.returns-in_err-string-clause-memory
returns-in_err-string-clause-memory c = absurd (never (goal.at.returns-in_err-string-clause-memory c).In_err-string)

pub returns-in_err-string-clause-cause : goal.returns-in_err-string-clause-cause
returns-in_err-string-clause-cause c = absurd (never (goal.at.returns-in_err-string-clause-cause c).In_err-string)

-- so many are what was taken, with this iteration's, and the rest
taken_one : (c : In_ok-string)
    → operands_by bytes_operand c.args.count c.args.self.now
    ≡ operands_after bytes_operand (c.loop-taken.strings.items ++ c.in_ok-string.string ∷ []) (c.args.count - (c.loop-taken._taken + 1)) c.pop_bytes.new.self
taken_one c =
    c.loop-taken.invariant
    ∙ after_more bytes_operand c.loop-taken.strings.items c.args.count c.loop-taken._taken c.loop-taken.self c.pop_bytes.new.self c.in_ok-string.string (omega arith) c.in_ok-string.ensures

pub returns-in_err-push-clause-memory : goal.returns-in_err-push-clause-memory
returns-in_err-push-clause-memory c =
    let is_err = err_from_is_err_and c.from_residual-in_err-push.result c.from_residual-in_err-push.ensures.1 in
    rw is_err.1
    (left_below bytes_operand (operand_leaves bytes_of) (operands_by bytes_operand c.args.count c.args.self.now) (c.loop-taken.strings.items ++ c.in_ok-string.string ∷ [])
    (c.args.count - (c.loop-taken._taken + 1)) c.pop_bytes.new.self c.args.self.now c.requires
    (taken_one (goal.at.returns-in_err-push-clause-memory c).In_ok-string))

pub loop-taken-preserved : goal.loop-taken-preserved
loop-taken-preserved c = rw c.in_ok-push.ensures.items (taken_one (goal.at.loop-taken-preserved c).In_ok-string)

pub returns-clause-taken : goal.returns-clause-taken
returns-clause-taken c = c.loop-taken.invariant
    ∙ after_all bytes_operand c.loop-taken.strings.items c.args.count c.loop-taken._taken c.loop-taken.self (omega arith)
