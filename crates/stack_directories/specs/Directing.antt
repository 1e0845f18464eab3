-- What an operation on the directories comes to, as the code has it, and the operands that it looks at.
use Rattle.std.specs.Prelude.{◌≡◌, ℕ, List, Result, Ok, Err, codes, ⊤}
use Rattle.std.specs.List.{AllByRecursion}
use Rattle.fdb_tuple.specs.declared.tuple.Elem.{Elem}
use Rattle.fdb_tuple.specs.Tuples.{Elements}
use Rattle.fdb_tuple.specs.Listed.{IsElement, tuple_of}
use Rattle.fdb_tuple.specs.Spelling.{spelling}
use Rattle.model_machine.specs.declared.Item.{Item}
use Rattle.model_machine.specs.Operands.{◌>>=◌, Popped, element_operand, operands_by}
use Rattle.model_machine.specs.Directories.{Directed, Appends, Gives, Chooses, FallsTo, Faults, Asks}
use Rattle.stack_items.specs.declared.fault.StackFault.{StackFault}
use Rattle.stack_items.specs.Looks.{Look, left_in, Refuses}
use Rattle.stack_directories.specs.declared.outcomes.Directed.{Directed as Answer}
use Rattle.stack_directories.specs.declared.outcomes.Directed.TheVariants as answer
use Rattle.stack_directories.specs.declared.outcomes.ListFault.{ListFault}
use Rattle.stack_directories.specs.declared.outcomes.ListFault.TheVariants as fault

-- the name of a fault
abbrev pub name_of : ListFault → List ℕ
name_of fault.NoSuchIndex = codes "NoSuchIndex"
name_of fault.NotASubspace = codes "NotASubspace"
name_of fault.NotADirectory = codes "NotADirectory"
name_of fault.NotInside = codes "NotInside"
name_of fault.BadTuple = codes "BadTuple"
name_of fault.RootCannotMove = codes "RootCannotMove"

-- what came of an operation, as the definitions have it
abbrev pub said : Answer → Directed
said (answer.Appends object) = Appends object
said (answer.Gives elements) = Gives elements.items
said (answer.Chooses index) = Chooses index
said (answer.FallsTo index) = FallsTo index
said (answer.Faults fault) = Faults (name_of fault)
said (answer.Asks request awaits) = Asks request awaits

-- each is an element of some tuple
abbrev pub AreElements : List Elem → Type 0
AreElements elements = AllByRecursion IsElement elements

-- elements that are given are those of a tuple
abbrev pub GivesElements : Answer → Type 0
GivesElements (answer.Gives elements) = AreElements elements.items
GivesElements _ = ⊤

-- The packed bytes of a tuple that was seen as is said, or it was refused as is said, unless memory ran out.
abbrev pub SeesPacked : Result (List ℕ) StackFault → Popped Elements → List Item → Type 0
SeesPacked (Ok packed) seen left = (tuple : Elements) × (seen ≡ Ok (tuple, left)) × (packed ≡ spelling tuple)
SeesPacked (Err refusal) seen left = Refuses refusal seen left

abbrev pub LooksPacked : Result (List ℕ) StackFault → (List Item → Popped Elements) → (old new : Look) → Type 0
LooksPacked result operand old new = (new.whole ≡ old.whole) × SeesPacked result (operand (left_in old)) (left_in new)

-- so many elements, as a tuple
abbrev pub counted_tuple : ℕ → List Item → Popped Elements
counted_tuple count stack = do
  elements ← operands_by element_operand count stack
  Ok (tuple_of elements.0, elements.1)
