use Rattle.std.proofs.Common.{◌≡◌, ◌∷◌, [], ◌++◌, ◌-◌, ◌+◌, ap, ◌∙◌, arith}
use Rattle.std.proofs.lemmas.Result.{err_from_is_err_and}
use Rattle.fdb_tuple.specs.Listed.{elements_of}
use Rattle.model_machine.specs.Operands.{element_operand, operands_by}
use Rattle.stack_items.proofs.Below.{element_leaves}
use Rattle.stack_items.proofs.Repeats.{operands_after, after_more, after_all, element_of_item, element_refused, never_refused, left_below}
use Rattle.stack_items.proofs.stack.Stack.take_elements.Goals as goal
use Rattle.stack_items.proofs.stack.Stack.take_elements.Goals.{In_err-element, In_ok-element}

never : (c : In_err-element) → ⊥
never c =
    never_refused (λ element. element) element_operand c.in_err-element.field-0.0 (operands_by element_operand c.args.count c.args.self.now) (elements_of c.loop-taken.tuple) c.args.count c.loop-taken._taken
    c.loop-taken.self c.pop_item.new.self (omega arith) c.requires c.loop-taken.invariant
    (element_refused c.in_err-element.field-0.0 c.loop-taken.self c.pop_item.new.self c.in_err-element.ensures.popped)

pub returns-in_err-element-clause-memory : goal.returns-in_err-element-clause-memory
returns-in_err-element-clause-memory c = absurd (never (goal.at.returns-in_err-element-clause-memory c).In_err-element)

pub returns-in_err-element-clause-cause : goal.returns-in_err-element-clause-cause
returns-in_err-element-clause-cause c = absurd (never (goal.at.returns-in_err-element-clause-cause c).In_err-element)

-- so many are what was taken, with this iteration's, and the rest
taken_one : (c : In_ok-element)
    → operands_by element_operand c.args.count c.args.self.now
    ≡ operands_after element_operand (elements_of c.loop-taken.tuple ++ c.in_ok-element.element ∷ []) (c.args.count - (c.loop-taken._taken + 1)) c.pop_item.new.self
taken_one c =
    c.loop-taken.invariant
    ∙ after_more element_operand (elements_of c.loop-taken.tuple) c.args.count c.loop-taken._taken c.loop-taken.self c.pop_item.new.self c.in_ok-element.element (omega arith)
    (ap element_of_item c.in_ok-element.ensures.popped)

pub returns-in_err-add_element-clause-memory : goal.returns-in_err-add_element-clause-memory
returns-in_err-add_element-clause-memory c =
    let is_err = err_from_is_err_and c.from_residual-in_err-add_element.result c.from_residual-in_err-add_element.ensures.1 in
    rw is_err.1
    (left_below element_operand element_leaves (operands_by element_operand c.args.count c.args.self.now) (elements_of c.loop-taken.tuple ++ c.in_ok-element.element ∷ [])
    (c.args.count - (c.loop-taken._taken + 1)) c.pop_item.new.self c.args.self.now c.requires
    (taken_one (goal.at.returns-in_err-add_element-clause-memory c).In_ok-element))

pub loop-taken-preserved : goal.loop-taken-preserved
loop-taken-preserved c = rw c.in_ok-add_element.ensures.ok (taken_one (goal.at.loop-taken-preserved c).In_ok-element)

pub returns-clause-taken : goal.returns-clause-taken
returns-clause-taken c = c.loop-taken.invariant
    ∙ after_all element_operand (elements_of c.loop-taken.tuple) c.args.count c.loop-taken._taken c.loop-taken.self (omega arith)
