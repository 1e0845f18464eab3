-- What a call on a stack answers, and the stack that it leaves of an old one, the top first.
use Rattle.std.specs.Prelude.{◌≡◌, ℕ, List, [], ◌∷◌, drop, Option, Some, None, Result, Ok, Err, ⊤}
use Rattle.std.specs.Borrow.{Bor}
use Rattle.fdb_tuple.specs.declared.tuple.Elem.{Elem}
use Rattle.model_machine.specs.declared.Item.{Item}
use Rattle.model_machine.specs.declared.ItemValue.TheVariants as value
use Rattle.model_machine.specs.Operands.{Missing, Unfit, Waiting, Popped}
use Rattle.model_machine.specs.StackOperations.{Operated}
use Rattle.stack_items.specs.declared.fault.StackFault.{StackFault}
use Rattle.stack_items.specs.declared.fault.StackFault.TheVariants as fault

-- the top item, as it lies there; none where there is no item
abbrev pub SeesTop : Option (Bor Item) → List Item → Type 0
SeesTop None stack = stack ≡ []
SeesTop (Some top) stack = (below : List Item) × (stack ≡ top.now ∷ below)

-- the element of an item and the number of its instruction, where it is known
abbrev pub Knows : Result (Elem × ℕ) StackFault → Item → Type 0
Knows (Ok known) item = item ≡ record { value = value.Known known.0; instruction = known.1 }
Knows (Err fault.Underflow) item = ⊥
Knows (Err fault.Operand) item = ⊥
Knows (Err (fault.Waits life)) item = item.value ≡ value.Waits life
Knows (Err fault.NoMemory) item = ⊥

-- An operand was popped as is said, seen by view, or was refused as is said; it never finds too little memory. Where an item
-- waits that is to be popped, all items stay.
abbrev pub Pops : {X A : Type 0} → (X → A) → Result X StackFault → Popped A → (old left : List Item) → Type 0
Pops view (Ok operand) said old left = said ≡ Ok (view operand, left)
Pops view (Err fault.Underflow) said old left = said ≡ Err (Missing left)
Pops view (Err fault.Operand) said old left = said ≡ Err (Unfit left)
Pops view (Err (fault.Waits life)) said old left = (said ≡ Err (Waiting life)) × (left ≡ old)
Pops view (Err fault.NoMemory) said old left = ⊥

-- The same, where memory may run out.
abbrev pub PopsUnlessFull : {X A : Type 0} → (X → A) → Result X StackFault → Popped A → (old left : List Item) → Type 0
PopsUnlessFull view (Ok operand) said old left = said ≡ Ok (view operand, left)
PopsUnlessFull view (Err fault.Underflow) said old left = said ≡ Err (Missing left)
PopsUnlessFull view (Err fault.Operand) said old left = said ≡ Err (Unfit left)
PopsUnlessFull view (Err (fault.Waits life)) said old left = (said ≡ Err (Waiting life)) × (left ≡ old)
PopsUnlessFull view (Err fault.NoMemory) said old left = ⊤

-- An operation was done as is said, or was refused as is said, unless memory ran out.
abbrev pub Does : {E : Type 0} → Result E StackFault → Operated → (old left : List Item) → Type 0
Does (Ok done) said old left = said ≡ Ok left
Does (Err fault.Underflow) said old left = said ≡ Err (Missing left)
Does (Err fault.Operand) said old left = said ≡ Err (Unfit left)
Does (Err (fault.Waits life)) said old left = (said ≡ Err (Waiting life)) × (left ≡ old)
Does (Err fault.NoMemory) said old left = ⊤

-- what a look at so many operands leaves of a stack: the items below them, or all items where it came to one that waits
abbrev pub settled_by : StackFault → ℕ → List Item → List Item
settled_by fault.Underflow popped stack = drop popped stack
settled_by fault.Operand popped stack = drop popped stack
settled_by (fault.Waits life) popped stack = stack
settled_by fault.NoMemory popped stack = drop popped stack

abbrev pub settled : {X : Type 0} → Result X StackFault → ℕ → List Item → List Item
settled (Ok operands) popped stack = drop popped stack
settled (Err refusal) popped stack = settled_by refusal popped stack
