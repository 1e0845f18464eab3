-- Operands: what an operation pops from a stack, one item after the other, and the kinds that it takes. A stack is
-- the list of its items, the top first.
use Rattle.std.specs.Prelude.{ℕ, zero, suc, ◌==◌, Bool, List, [], ◌∷◌, ℤ, pos, negsuc, unsigned_abs, Option, Some, None, Result, Ok, Err, option_and_then, nat_lt, if◌then◌else◌}
use Rattle.model_database.specs.declared.mode.Mode.{Mode}
use Rattle.model_database.specs.declared.mode.Mode.TheVariants as mode
use Rattle.fdb_tuple.specs.declared.tuple.Elem.{Elem}
use Rattle.fdb_tuple.specs.declared.tuple.Elem.TheVariants as elem
use Rattle.fdb_tuple.specs.Tuples.{Elements}
use Rattle.fdb_tuple.specs.Listed.{tuple_of}
use Rattle.model_machine.specs.declared.Item.{Item}
use Rattle.model_machine.specs.declared.ItemValue.{ItemValue}
use Rattle.model_machine.specs.declared.ItemValue.TheVariants as value

-- ---- kinds

-- "bytes": a byte string, or a Unicode string taken as its UTF-8
abbrev pub bytes_of : Elem → Option (List ℕ)
bytes_of (elem.Bytes bytes) = Some bytes
bytes_of (elem.Text text) = Some text
bytes_of _ = None

-- a byte string or a Unicode string, as it is
abbrev pub string_of : Elem → Option Elem
string_of (elem.Bytes bytes) = Some (elem.Bytes bytes)
string_of (elem.Text text) = Some (elem.Text text)
string_of _ = None

-- "int": an integer
abbrev pub int_of : Elem → Option ℤ
int_of (elem.Int number) = Some number
int_of _ = None

-- "count": an integer from 0 upward
abbrev pub count_in : ℤ → Option ℕ
count_in (pos n) = Some n
count_in (negsuc n) = None

abbrev pub count_of : Elem → Option ℕ
count_of element = option_and_then count_in (int_of element)

-- "code": an integer from 0 to 65,535
abbrev pub code_in : ℕ → Option ℕ
code_in n = if nat_lt n 65536 then Some n else None

abbrev pub code_of : Elem → Option ℕ
code_of element = option_and_then code_in (count_of element)

-- "flag": an integer, true where it isn't 0, or a boolean
abbrev pub flag_of : Elem → Option Bool
flag_of (elem.Int number) = Some (nat_lt 0 (unsigned_abs number))
flag_of (elem.Bool flag) = Some flag
flag_of _ = None

-- "offset": an integer of 32 bits with a sign
abbrev pub offset_in : ℤ → Option ℤ
offset_in (pos n) = if nat_lt n 2147483648 then Some (pos n) else None
offset_in (negsuc n) = if nat_lt n 2147483648 then Some (negsuc n) else None

abbrev pub offset_of : Elem → Option ℤ
offset_of element = option_and_then offset_in (int_of element)

-- "limit": an integer from 0 to 2^31 - 1
abbrev pub limit_in : ℕ → Option ℕ
limit_in n = if nat_lt n 2147483648 then Some n else None

abbrev pub limit_of : Elem → Option ℕ
limit_of element = option_and_then limit_in (count_of element)

-- "mode": an integer from -2 to 4 (API reference, "FDBStreamingMode")
abbrev pub mode_in : ℤ → Option Mode
mode_in (pos n) =
    if n == 0 then Some mode.Exact
    else if n == 1 then Some mode.Small
    else if n == 2 then Some mode.Medium
    else if n == 3 then Some mode.Large
    else if n == 4 then Some mode.Serial
    else None
mode_in (negsuc n) = if n == 0 then Some mode.Iterator else if n == 1 then Some mode.WantAll else None

abbrev pub mode_of : Elem → Option Mode
mode_of element = option_and_then mode_in (int_of element)

-- ---- popping

-- why an operation was refused, and the items that are left
pub data Refusal : Type 0 where
  -- an item that is to be popped, copied or swapped is not there
  Missing : (left : List Item) → Refusal
  -- an operand is of a kind or range that the operation doesn't take
  Unfit : (left : List Item) → Refusal
  -- the item that is to be popped waits for this life
  Waiting : (life : ℕ) → Refusal

infixl 10 ◌>>=◌
abbrev pub ◌>>=◌ : {A B : Type 0} → Result A Refusal → (A → Result B Refusal) → Result B Refusal
(Ok x) >>= f = f x
(Err e) >>= f = Err e

-- what was popped, and the items that are left; or why not
abbrev pub Popped : Type 0 → Type 0
Popped A = Result (A × List Item) Refusal

-- what a value is, where it is known
abbrev pub known_by : {A : Type 0} → (Elem → A) → ItemValue → List Item → Popped A
known_by shown (value.Known element) left = Ok (shown element, left)
known_by shown (value.Waits life) left = Err (Waiting life)

-- an item that is known: its element, and the number of its instruction
abbrev pub item_operand : List Item → Popped (Elem × ℕ)
item_operand [] = Err (Missing [])
item_operand (top ∷ left) = known_by (λ element. (element, top.instruction)) top.value left

abbrev pub fitting : {A : Type 0} → Option A → List Item → Popped A
fitting (Some operand) left = Ok (operand, left)
fitting None left = Err (Unfit left)

-- an item of a kind: one of another kind is refused, and is gone
abbrev pub operand_by : {A : Type 0} → (Elem → Option A) → List Item → Popped A
operand_by kind stack = do
  top ← item_operand stack
  fitting (kind top.0.0) top.1

abbrev pub bytes_operand : List Item → Popped (List ℕ)
bytes_operand stack = operand_by bytes_of stack

abbrev pub string_operand : List Item → Popped Elem
string_operand stack = operand_by string_of stack

abbrev pub int_operand : List Item → Popped ℤ
int_operand stack = operand_by int_of stack

abbrev pub count_operand : List Item → Popped ℕ
count_operand stack = operand_by count_of stack

abbrev pub code_operand : List Item → Popped ℕ
code_operand stack = operand_by code_of stack

abbrev pub flag_operand : List Item → Popped Bool
flag_operand stack = operand_by flag_of stack

abbrev pub offset_operand : List Item → Popped ℤ
offset_operand stack = operand_by offset_of stack

abbrev pub limit_operand : List Item → Popped ℕ
limit_operand stack = operand_by limit_of stack

abbrev pub mode_operand : List Item → Popped Mode
mode_operand stack = operand_by mode_of stack

-- so many operands, in the order popped
unfoldable pub operands_by : {A : Type 0} → (List Item → Popped A) → ℕ → List Item → Popped (List A)
operands_by operand zero stack = Ok ([], stack)
operands_by operand (suc count) stack = do
  first ← operand stack
  others ← operands_by operand count first.1
  Ok (first.0 ∷ others.0, others.1)

abbrev pub element_operand : List Item → Popped Elem
element_operand stack = do
  top ← item_operand stack
  Ok (top.0.0, top.1)

-- "tuple": a count, and then so many items, in the order popped
abbrev pub elements_operand : List Item → Popped (List Elem)
elements_operand stack = do
  count ← count_operand stack
  operands_by element_operand count.0 count.1

abbrev pub tuple_operand : List Item → Popped Elements
tuple_operand stack = do
  elements ← elements_operand stack
  Ok (tuple_of elements.0, elements.1)

-- a count, and then so many byte strings, in the order popped
abbrev pub byte_strings_operand : List Item → Popped (List (List ℕ))
byte_strings_operand stack = do
  count ← count_operand stack
  operands_by bytes_operand count.0 count.1

-- two operands, one after the other
abbrev pub two_operands : {A B : Type 0} → (List Item → Popped A) → (List Item → Popped B) → List Item → Popped (A × B)
two_operands first second stack = do
  a ← first stack
  b ← second a.1
  Ok ((a.0, b.0), b.1)

-- the items that are left of a stack, of operands popped or refused; where one waits all are
abbrev pub left_of : {A : Type 0} → List Item → Popped A → List Item
left_of stack (Ok popped) = popped.1
left_of stack (Err (Missing left)) = left
left_of stack (Err (Unfit left)) = left
left_of stack (Err (Waiting life)) = stack
