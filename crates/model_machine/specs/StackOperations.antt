-- The operations on a stack alone (bindingApiTester.md). A stack is the list of its items, the top first; an item that
-- an operation pushes has the number of the instruction that is run.
use Rattle.std.specs.Prelude.{ℕ, ◌+◌, ◌-◌, ◌^◌, nat_lt, nat_le, if◌then◌else◌, List, [], ◌∷◌, ◌++◌, length, map, ℤ, ◌-ℤ◌, unsigned_abs, Option, Some, None, Result, Ok, Err, codes}
use Rattle.std.specs.List.{swap}
use Rattle.std.specs.Int.{is_negative}
use Rattle.std.specs.Ordering.{is_gt}
use Rattle.fdb_tuple.specs.declared.tuple.Elem.{Elem}
use Rattle.fdb_tuple.specs.declared.tuple.Elem.TheVariants as elem
use Rattle.fdb_tuple.specs.declared.fault.UnpackFault.{UnpackFault}
use Rattle.fdb_tuple.specs.declared.fault.StampPackFault.{StampPackFault}
use Rattle.fdb_tuple.specs.declared.fault.StampPackFault.TheVariants as stamp_fault
use Rattle.fdb_tuple.specs.Tuples.{Elements, Empty, greatest_magnitude}
use Rattle.fdb_tuple.specs.Listed.{before, elements_of}
use Rattle.fdb_tuple.specs.Spelling.{spelling}
use Rattle.fdb_tuple.specs.Order.{tuple_cmp}
use Rattle.fdb_tuple.specs.Reading.{read_tuple}
use Rattle.fdb_tuple.specs.Stamps.{stamp_packed}
use Rattle.model_machine.specs.declared.Item.{Item}
use Rattle.model_machine.specs.declared.ItemValue.TheVariants as value
use Rattle.model_machine.specs.declared.StackOperation.{StackOperation}
use Rattle.model_machine.specs.declared.StackOperation.TheVariants as operation
use Rattle.model_machine.specs.Operands.{Refusal, Missing, Unfit, ◌>>=◌, item_operand, bytes_operand, string_operand, int_operand, count_operand, tuple_operand, byte_strings_operand, two_operands}

-- the stack that an operation leaves, or why it is refused
abbrev pub Operated : Type 0
Operated = Result (List Item) Refusal

-- elements pushed one after the other by the instruction of this number
abbrev pub pushed : ℕ → List Elem → List Item → List Item
pushed number [] stack = stack
pushed number (element ∷ elements) stack = pushed number elements (record { value = value.Known element; instruction = number } ∷ stack)

-- a fixed text, as a byte string
abbrev pub text : List ℕ → Elem
text bytes = elem.Bytes bytes

-- a copy of the top item, which may wait
abbrev pub dup : List Item → Operated
dup [] = Err (Missing [])
dup (top ∷ below) = Ok (top ∷ top ∷ below)

-- the top item and the one at a depth, each in the other's place
abbrev pub swapped : ℕ → List Item → Operated
swapped depth stack = if nat_lt depth (length stack) then Ok (swap stack 0 depth) else Err (Missing stack)

abbrev pub swap_by_depth : List Item → Operated
swap_by_depth stack = do
  depth ← count_operand stack
  swapped depth.0 depth.1

abbrev pub pop : List Item → Operated
pop stack = do
  top ← item_operand stack
  Ok top.1

-- an integer of 128 bits; one past them is refused
abbrev pub pushed_integer : ℕ → ℤ → List Item → Operated
pushed_integer number integer stack =
    if nat_le (unsigned_abs integer) (greatest_magnitude (is_negative integer)) then Ok (pushed number (elem.Int integer ∷ []) stack) else Err (Unfit stack)

-- the integer on top, less the one below it
abbrev pub sub : ℕ → List Item → Operated
sub number stack = do
  integers ← two_operands int_operand int_operand stack
  pushed_integer number (integers.0.0 -ℤ integers.0.1) integers.1

-- two strings of one kind, one after the other
abbrev pub joined : Elem → Elem → Option Elem
joined (elem.Bytes a) (elem.Bytes b) = Some (elem.Bytes (a ++ b))
joined (elem.Text a) (elem.Text b) = Some (elem.Text (a ++ b))
joined _ _ = None

abbrev pub pushed_or_unfit : ℕ → Option Elem → List Item → Operated
pushed_or_unfit number (Some element) stack = Ok (pushed number (element ∷ []) stack)
pushed_or_unfit number None stack = Err (Unfit stack)

-- the string on top, followed by the one below it; that they are of one kind is judged after both were popped
abbrev pub concat : ℕ → List Item → Operated
concat number stack = do
  strings ← two_operands string_operand string_operand stack
  pushed_or_unfit number (joined strings.0.0 strings.0.1) strings.1

-- the top item is popped and pushed again, with its own number
abbrev pub wait_future : List Item → Operated
wait_future stack = do
  top ← item_operand stack
  Ok (record { value = value.Known top.0.0; instruction = top.0.1 } ∷ top.1)

abbrev pub tuple_pack : ℕ → List Item → Operated
tuple_pack number stack = do
  tuple ← tuple_operand stack
  Ok (pushed number (elem.Bytes (spelling tuple.0) ∷ []) tuple.1)

-- what is pushed of a tuple packed with the place of its incomplete versionstamp
abbrev pub stamp_answer : Result (List ℕ) StampPackFault → List Elem
stamp_answer (Ok packed) = text (codes "OK") ∷ elem.Bytes packed ∷ []
stamp_answer (Err stamp_fault.NoStamp) = text (codes "ERROR: NONE") ∷ []
stamp_answer (Err stamp_fault.ManyStamps) = text (codes "ERROR: MULTIPLE") ∷ []
stamp_answer (Err stamp_fault.NoMemory) = []

abbrev pub pushed_stamped : ℕ → List ℕ → Elements → List Item → Operated
pushed_stamped number prefix tuple stack =
    if nat_lt (length prefix + length (spelling tuple)) (2 ^ 32 - 4) then Ok (pushed number (stamp_answer (stamp_packed prefix tuple)) stack) else Err (Unfit stack)

-- a prefix and a tuple, whose bytes are together fewer than 2^32 - 4, so that the place has 4 bytes
abbrev pub tuple_pack_with_versionstamp : ℕ → List Item → Operated
tuple_pack_with_versionstamp number stack = do
  operands ← two_operands bytes_operand tuple_operand stack
  pushed_stamped number operands.0.0 operands.0.1 operands.1

-- an element packed alone
abbrev pub packed_alone : Elem → Elem
packed_alone element = elem.Bytes (spelling (before element Empty))

abbrev pub pushed_elements : ℕ → Result Elements UnpackFault → List Item → Operated
pushed_elements number (Ok tuple) stack = Ok (pushed number (map packed_alone (elements_of tuple)) stack)
pushed_elements number (Err fault) stack = Err (Unfit stack)

abbrev pub tuple_unpack : ℕ → List Item → Operated
tuple_unpack number stack = do
  packed ← bytes_operand stack
  pushed_elements number (read_tuple packed.0) packed.1

-- the ends of the range of the tuples that begin with this one
abbrev pub range_ends : Elements → List Elem
range_ends tuple = elem.Bytes (spelling tuple ++ 0 ∷ []) ∷ elem.Bytes (spelling tuple ++ 255 ∷ []) ∷ []

abbrev pub tuple_range : ℕ → List Item → Operated
tuple_range number stack = do
  tuple ← tuple_operand stack
  Ok (pushed number (range_ends tuple.0) tuple.1)

-- the tuples that byte strings spell; none where one of them spells no tuple
abbrev pub read_with : Result Elements UnpackFault → Option (List Elements) → Option (List Elements)
read_with (Ok tuple) (Some tuples) = Some (tuple ∷ tuples)
read_with _ _ = None

abbrev pub read_tuples : List (List ℕ) → Option (List Elements)
read_tuples [] = Some []
read_tuples (packed ∷ others) = read_with (read_tuple packed) (read_tuples others)

-- a tuple, put behind all that are less
abbrev pub inserted : Elements → List Elements → List Elements
inserted tuple [] = tuple ∷ []
inserted tuple (first ∷ others) = if is_gt (tuple_cmp tuple first) then first ∷ inserted tuple others else tuple ∷ first ∷ others

-- the tuples in their order
abbrev pub in_order : List Elements → List Elements
in_order [] = []
in_order (tuple ∷ others) = inserted tuple (in_order others)

abbrev pub packed_tuple : Elements → Elem
packed_tuple tuple = elem.Bytes (spelling tuple)

abbrev pub pushed_in_order : ℕ → Option (List Elements) → List Item → Operated
pushed_in_order number (Some tuples) stack = Ok (pushed number (map packed_tuple (in_order tuples)) stack)
pushed_in_order number None stack = Err (Unfit stack)

-- packed tuples, pushed in their order, so that the greatest is on top
abbrev pub tuple_sort : ℕ → List Item → Operated
tuple_sort number stack = do
  packed ← byte_strings_operand stack
  pushed_in_order number (read_tuples packed.0) packed.1

abbrev pub get_approximate_size : ℕ → List Item → Operated
get_approximate_size number stack = Ok (pushed number (text (codes "GOT_APPROXIMATE_SIZE") ∷ []) stack)

abbrev pub get_estimated_range_size : ℕ → List Item → Operated
get_estimated_range_size number stack = do
  ends ← two_operands bytes_operand bytes_operand stack
  Ok (pushed number (text (codes "GOT_ESTIMATED_RANGE_SIZE") ∷ []) ends.1)

-- the stack that an operation, run as the instruction of this number, leaves of a stack
unfoldable pub operated : StackOperation → ℕ → List Item → Operated
operated operation.Dup number stack = dup stack
operated operation.EmptyStack number stack = Ok []
operated operation.Swap number stack = swap_by_depth stack
operated operation.Pop number stack = pop stack
operated operation.Sub number stack = sub number stack
operated operation.Concat number stack = concat number stack
operated operation.WaitFuture number stack = wait_future stack
operated operation.TuplePack number stack = tuple_pack number stack
operated operation.TuplePackWithVersionstamp number stack = tuple_pack_with_versionstamp number stack
operated operation.TupleUnpack number stack = tuple_unpack number stack
operated operation.TupleRange number stack = tuple_range number stack
operated operation.TupleSort number stack = tuple_sort number stack
operated operation.GetApproximateSize number stack = get_approximate_size number stack
operated operation.GetEstimatedRangeSize number stack = get_estimated_range_size number stack
operated operation.UnitTests number stack = Ok stack
