-- What a look at operands answers, and how far it has come. It takes no item off.
use Rattle.std.specs.Prelude.{◌≡◌, ℕ, List, [], ◌∷◌, drop, Option, Some, None, Result, Ok, Err, ⊤}
use Rattle.std.specs.Borrow.{Bor}
use Rattle.fdb_tuple.specs.declared.tuple.Elem.{Elem}
use Rattle.model_machine.specs.declared.Item.{Item}
use Rattle.model_machine.specs.Operands.{Missing, Unfit, Waiting, ◌>>=◌, Popped, fitting, string_operand, two_operands}
use Rattle.model_machine.specs.StackOperations.{joined}
use Rattle.stack_items.specs.declared.fault.StackFault.{StackFault}
use Rattle.stack_items.specs.declared.fault.StackFault.TheVariants as fault

-- a look at the operands of an operation: the items of the stack, the top first, and how many it came past
pub record Look : Type 0 where
  pub whole : List Item
  pub popped : ℕ

-- the items below those
abbrev pub left_in : Look → List Item
left_in look = drop look.popped look.whole

-- the next item, as it lies there, which the look came past; none where none is left
abbrev pub ComesPast : Option (Bor Item) → (old new : Look) → Type 0
ComesPast None old new = (new ≡ old) × (left_in old ≡ [])
ComesPast (Some item) old new = (new.whole ≡ old.whole) × (left_in old ≡ item.now ∷ left_in new)

-- A refusal is as is said, unless memory ran out.
abbrev pub Refuses : {A : Type 0} → StackFault → Popped A → List Item → Type 0
Refuses fault.Underflow said left = said ≡ Err (Missing left)
Refuses fault.Operand said left = said ≡ Err (Unfit left)
Refuses (fault.Waits life) said left = said ≡ Err (Waiting life)
Refuses fault.NoMemory said left = ⊤

-- The same; it never finds too little memory.
abbrev pub RefusesOnly : {A : Type 0} → StackFault → Popped A → List Item → Type 0
RefusesOnly fault.Underflow said left = said ≡ Err (Missing left)
RefusesOnly fault.Operand said left = said ≡ Err (Unfit left)
RefusesOnly (fault.Waits life) said left = said ≡ Err (Waiting life)
RefusesOnly fault.NoMemory said left = ⊥

abbrev pub Sees : {X A : Type 0} → (X → A) → Result X StackFault → Popped A → List Item → Type 0
Sees view (Ok operand) said left = said ≡ Ok (view operand, left)
Sees view (Err refusal) said left = RefusesOnly refusal said left

abbrev pub SeesUnlessFull : {X A : Type 0} → (X → A) → Result X StackFault → Popped A → List Item → Type 0
SeesUnlessFull view (Ok operand) said left = said ≡ Ok (view operand, left)
SeesUnlessFull view (Err refusal) said left = Refuses refusal said left

-- An operand of the items that were left was seen as is said, by view, or was refused as is said; it never finds too little memory.
abbrev pub Looks : {X A : Type 0} → (X → A) → Result X StackFault → (List Item → Popped A) → (old new : Look) → Type 0
Looks view result operand old new = (new.whole ≡ old.whole) × Sees view result (operand (left_in old)) (left_in new)

-- The same, where memory may run out.
abbrev pub LooksUnlessFull : {X A : Type 0} → (X → A) → Result X StackFault → (List Item → Popped A) → (old new : Look) → Type 0
LooksUnlessFull view result operand old new = (new.whole ≡ old.whole) × SeesUnlessFull view result (operand (left_in old)) (left_in new)

-- ---- operands that are not kept

-- there is such an operand, and the look came past it
abbrev pub Passed : {E A : Type 0} → Result E StackFault → Popped A → List Item → Type 0
Passed {A = A} (Ok done) said left = (operand : A) × (said ≡ Ok (operand, left))
Passed (Err refusal) said left = RefusesOnly refusal said left

abbrev pub Passes : {E A : Type 0} → Result E StackFault → (List Item → Popped A) → (old new : Look) → Type 0
Passes result operand old new = (new.whole ≡ old.whole) × Passed result (operand (left_in old)) (left_in new)

-- ---- operands of one operation

-- two strings of one kind, one after the other
abbrev pub joined_operand : List Item → Popped Elem
joined_operand stack = do
  strings ← two_operands string_operand string_operand stack
  fitting (joined strings.0.0 strings.0.1) strings.1

-- Two strings were joined as is said, or they are not of one kind, unless memory ran out.
abbrev pub Joins : Result Elem StackFault → Option Elem → Type 0
Joins (Ok whole) said = said ≡ Some whole
Joins (Err fault.Underflow) said = ⊥
Joins (Err fault.Operand) said = said ≡ None
Joins (Err (fault.Waits life)) said = ⊥
Joins (Err fault.NoMemory) said = ⊤
