-- What a call answers, from what its last step answered.
use Rattle.std.proofs.Common.{◌≡◌, ℕ, List, Ok, Err, Result, IfOk, OnOk, ap, ◌∙◌}
use Rattle.std.specs.Prelude.{IsOkUnless}
use Rattle.fdb_tuple.specs.declared.tuple.Elem.{Elem}
use Rattle.fdb_tuple.specs.Tuples.{Elements}
use Rattle.fdb_tuple.specs.Listed.{tuple_of, elements_of, tuple_of-elements_of}
use Rattle.model_machine.specs.declared.Item.{Item}
use Rattle.model_machine.specs.Operands.{◌>>=◌, Popped, count_operand, element_operand, operands_by, tuple_operand}
use Rattle.model_machine.specs.StackOperations.{Operated}
use Rattle.stack_items.specs.declared.fault.StackFault.{StackFault}
use Rattle.stack_items.specs.declared.fault.StackFault.TheVariants as fault
use Rattle.stack_items.specs.Pops.{PopsUnlessFull, Does}

-- a tuple of the elements that were counted and taken
abbrev as_tuple : Popped (List Elem) → Popped Elements
as_tuple elements = elements >>= (λ found. Ok (tuple_of found.0, found.1))

abbrev counted_tuple : Popped ℕ → Popped Elements
counted_tuple count = as_tuple (count >>= (λ found. operands_by element_operand found.0 found.1))

pub tuple_taken : (result : Result Elements StackFault) (count : ℕ) (stack left new : List Item) → count_operand stack ≡ Ok (count, left)
    → IfOk result (λ tuple. operands_by element_operand count left ≡ Ok (elements_of tuple, new)) → IsOkUnless result fault.NoMemory
    → PopsUnlessFull (λ (tuple : Elements). tuple) result (tuple_operand stack) stack new
tuple_taken (Ok tuple) count stack left new e taken cause =
    ap counted_tuple e ∙ ap as_tuple taken ∙ ap (λ (found : Elements). Ok (found, new)) (tuple_of-elements_of tuple)
tuple_taken (Err fault.Underflow) count stack left new e taken cause = absurd cc
tuple_taken (Err fault.Operand) count stack left new e taken cause = absurd cc
tuple_taken (Err (fault.Waits life)) count stack left new e taken cause = absurd cc
tuple_taken (Err fault.NoMemory) count stack left new e taken cause = tt

pub does_all : (result : Result (Unit {0}) StackFault) (said : Operated) (target old new : List Item) → said ≡ Ok target
    → OnOk result (new ≡ target) → IsOkUnless result fault.NoMemory → Does result said old new
does_all (Ok done) said target old new e whole cause = rw whole e
does_all (Err fault.Underflow) said target old new e whole cause = absurd cc
does_all (Err fault.Operand) said target old new e whole cause = absurd cc
does_all (Err (fault.Waits life)) said target old new e whole cause = absurd cc
does_all (Err fault.NoMemory) said target old new e whole cause = tt
