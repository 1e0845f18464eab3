-- The fault of a call of a layer, where one of the transaction's calls has a fault.
use Rattle.std.specs.Prelude.{Result, Ok, Err}
use Rattle.fdb_calls.specs.declared.fault.TrFault.{TrFault}
use Rattle.fdb_calls.specs.declared.fault.TrFault.TheVariants as tr
use Rattle.model_recipes.specs.declared.fault.RecipeFault.{RecipeFault}
use Rattle.model_recipes.specs.declared.fault.RecipeFault.TheVariants as fault

abbrev pub fault_of : TrFault → RecipeFault
fault_of (tr.Code code) = fault.Tr code
fault_of tr.NoMemory = fault.NoMemory

-- what was answered, with such a fault
abbrev pub from_tr : {X : Type 0} → Result X TrFault → Result X RecipeFault
from_tr (Ok value) = Ok value
from_tr (Err fault) = Err (fault_of fault)
