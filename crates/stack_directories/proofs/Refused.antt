-- A look that never finds too little memory is one that may, and what goes on with an operand is refused as it is.
use Rattle.std.proofs.Common.{List, ap}
use Rattle.model_machine.specs.declared.Item.{Item}
use Rattle.model_machine.specs.Operands.{◌>>=◌, Popped}
use Rattle.stack_items.specs.declared.fault.StackFault.{StackFault}
use Rattle.stack_items.specs.declared.fault.StackFault.TheVariants as fault
use Rattle.stack_items.specs.Looks.{Refuses, RefusesOnly}

pub refuses : {A : Type 0} (why : StackFault) (said : Popped A) (left : List Item) → RefusesOnly why said left → Refuses why said left
refuses fault.Underflow said left is = is
refuses fault.Operand said left is = is
refuses (fault.Waits life) said left is = is
refuses fault.NoMemory said left is = tt

-- what goes on with an operand is refused as the operand is
pub refuses_then : {A B : Type 0} (why : StackFault) (said : Popped A) (onward : A × List Item → Popped B) (left : List Item)
    → Refuses why said left → Refuses why (said >>= onward) left
refuses_then fault.Underflow said onward left is = ap (λ found. found >>= onward) is
refuses_then fault.Operand said onward left is = ap (λ found. found >>= onward) is
refuses_then (fault.Waits life) said onward left is = ap (λ found. found >>= onward) is
refuses_then fault.NoMemory said onward left is = tt
