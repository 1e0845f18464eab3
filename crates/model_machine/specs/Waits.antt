-- Items that wait: what an operation pops leaves no more of them, and it is refused for one only where one is there.
use Rattle.std.specs.Prelude.{◌≡◌, ℕ, zero, suc, ◌+◌, ◌-◌, ◌≤◌, ⊤, ℤ, Bool, true, false, cond, List, [], ◌∷◌, length, Option, Some, None, Result, Ok, Err, nat_lt, nat_le, unsigned_abs, ◌-ℤ◌, ◌^◌, refl}
use Rattle.std.specs.List.{swap}
use Rattle.std.specs.Int.{is_negative}
use Rattle.std.proofs.Common.{sym, subst, arith}
use Rattle.key_bytes.specs.declared.range.KeyRange.{KeyRange}
use Rattle.fdb_tuple.specs.declared.tuple.Elem.{Elem}
use Rattle.fdb_tuple.specs.declared.fault.UnpackFault.{UnpackFault}
use Rattle.fdb_tuple.specs.declared.tuple.Elem.TheVariants as elem
use Rattle.fdb_tuple.specs.Tuples.{Elements, greatest_magnitude}
use Rattle.fdb_tuple.specs.Spelling.{spelling}
use Rattle.fdb_tuple.specs.Reading.{read_tuple}
use Rattle.fdb_tuple.specs.Stamps.{stamp_packed}
use Rattle.fdb_calls.specs.declared.TxnCall.{TxnCall}
use Rattle.fdb_calls.specs.declared.TxnCall.TheVariants as call
use Rattle.model_machine.specs.declared.Item.{Item}
use Rattle.model_machine.specs.declared.ItemValue.{ItemValue}
use Rattle.model_machine.specs.declared.ItemValue.TheVariants as value
use Rattle.model_machine.specs.declared.StackOperation.{StackOperation}
use Rattle.model_machine.specs.declared.StackOperation.TheVariants as operation
use Rattle.model_machine.specs.declared.TransactionOperation.{TransactionOperation}
use Rattle.model_machine.specs.declared.TransactionOperation.TheVariants as on_transaction
use Rattle.model_machine.specs.declared.DatabaseOperation.{DatabaseOperation}
use Rattle.model_machine.specs.declared.DatabaseOperation.TheVariants as on_database
use Rattle.model_machine.specs.declared.Scope.{Scope}
use Rattle.model_machine.specs.Operands.{Refusal, Missing, Unfit, Waiting, ◌>>=◌, Popped, known_by, bytes_of, string_of, int_of, count_of, code_of, flag_of, offset_of, limit_of, mode_of, item_operand, fitting, operand_by, operands_by, two_operands, element_operand, elements_operand, tuple_operand, byte_strings_operand, count_operand, bytes_operand, string_operand, int_operand, code_operand, flag_operand, offset_operand, limit_operand, mode_operand}
use Rattle.model_machine.specs.StackOperations.{pushed, stamp_answer, dup, swapped, pushed_integer, joined, pushed_or_unfit, pushed_stamped, pushed_elements, read_tuples, pushed_in_order, operated}
use Rattle.model_machine.specs.declared.directories.DirectoryOperation.{DirectoryOperation}
use Rattle.model_machine.specs.declared.directories.DirectoryOperation.TheVariants as on_directories
use Rattle.model_machine.specs.Directories.{Directories, text_of, path_operand, bytes_if_any, name_operand, given_of, path_where, path_if_given, directed}
use Rattle.model_machine.specs.Calls.{selector_operand, options_operand, call_of, range_request, key_request, request_of}

-- ---- items that wait

-- one more, where an item waits
abbrev pub counted : ItemValue → ℕ → ℕ
counted (value.Known element) count = count
counted (value.Waits life) count = suc count

-- how many items wait
abbrev pub waiting_count : List Item → ℕ
waiting_count [] = 0
waiting_count (item ∷ below) = counted item.value (waiting_count below)

-- what is left of a stack has no more items, and no more that wait
pub record IsLeft (left stack : List Item) : Type 0 where
  pub fewer : length left ≤ length stack
  pub waits : waiting_count left ≤ waiting_count stack

-- the stack itself, what is left of what is left, and the items below the top
pub left_itself : (stack : List Item) → IsLeft stack stack
left_itself stack = record { fewer = omega arith; waits = omega arith }

pub left_further : (least left stack : List Item) → IsLeft least left → IsLeft left stack → IsLeft least stack
left_further least left stack one other = record {
  fewer = omega (arith, one.fewer, other.fewer);
  waits = omega (arith, one.waits, other.waits);
}

pub at_most_counted : (known : ItemValue) (count : ℕ) → count ≤ counted known count
at_most_counted (value.Known element) count = omega arith
at_most_counted (value.Waits life) count = omega arith

pub left_below : (top : Item) (below : List Item) → IsLeft below (top ∷ below)
left_below top below = record { fewer = omega arith; waits = at_most_counted top.value (waiting_count below) }

-- ---- operands

-- a refusal for an item that waits comes only where one waits
abbrev pub IsFair : Refusal → List Item → Type 0
IsFair (Missing left) stack = ⊤
IsFair (Unfit left) stack = ⊤
IsFair (Waiting life) stack = 1 ≤ waiting_count stack

abbrev pub IsRefusedFairly : {A : Type 0} → Result A Refusal → List Item → Type 0
IsRefusedFairly (Ok done) stack = ⊤
IsRefusedFairly (Err refusal) stack = IsFair refusal stack

-- operands are popped from a stack, or refused fairly
abbrev pub IsOf : {A : Type 0} → Popped A → List Item → Type 0
IsOf (Ok popped) stack = IsLeft popped.1 stack
IsOf (Err refusal) stack = IsFair refusal stack

-- what is said of the items that are left holds of the whole stack
fair_above : (refusal : Refusal) (left stack : List Item) → IsLeft left stack → IsFair refusal left → IsFair refusal stack
fair_above (Missing other) left stack is fair = tt
fair_above (Unfit other) left stack is fair = tt
fair_above (Waiting life) left stack is fair = omega (arith, is.waits, fair)

fairly_above : {A : Type 0} (result : Result A Refusal) (left stack : List Item) → IsLeft left stack → IsRefusedFairly result left
    → IsRefusedFairly result stack
fairly_above (Ok done) left stack is fair = tt
fairly_above (Err refusal) left stack is fair = fair_above refusal left stack is fair

of_above : {A : Type 0} (popped : Popped A) (left stack : List Item) → IsLeft left stack → IsOf popped left → IsOf popped stack
of_above (Ok popped) left stack is of = left_further popped.1 left stack of is
of_above (Err refusal) left stack is fair = fair_above refusal left stack is fair

-- operands are popped, and then others, or something else is done
fairly_then : {A B : Type 0} (popped : Popped A) (f : A × List Item → Result B Refusal) (stack : List Item)
    → IsOf popped stack → ((x : A × List Item) → IsRefusedFairly (f x) x.1) → IsRefusedFairly (popped >>= f) stack
fairly_then (Ok x) f stack of next = fairly_above (f x) x.1 stack of (next x)
fairly_then (Err refusal) f stack fair next = fair

pub of_then : {A B : Type 0} (popped : Popped A) (f : A × List Item → Popped B) (stack : List Item)
    → IsOf popped stack → ((x : A × List Item) → IsOf (f x) x.1) → IsOf (popped >>= f) stack
of_then (Ok x) f stack of next = of_above (f x) x.1 stack of (next x)
of_then (Err refusal) f stack fair next = fair

-- one item
of_known : {A : Type 0} (shown : Elem → A) (top : Item) (below : List Item) → IsOf (known_by shown top.value below) (top ∷ below)
of_known shown top below = by_value top.value refl
  where
    by_value : (v : ItemValue) → top.value ≡ v → IsOf (known_by shown v below) (top ∷ below)
    by_value (value.Known element) is = left_below top below
    by_value (value.Waits life) is = subst (λ v. 1 ≤ counted v (waiting_count below)) (sym is) (omega arith)

of_item : (stack : List Item) → IsOf (item_operand stack) stack
of_item [] = tt
of_item (top ∷ below) = of_known (λ element. (element, top.instruction)) top below

of_fitting : {A : Type 0} (operand : Option A) (left : List Item) → IsOf (fitting operand left) left
of_fitting (Some operand) left = left_itself left
of_fitting None left = tt

of_kind : {A : Type 0} (kind : Elem → Option A) (stack : List Item) → IsOf (operand_by kind stack) stack
of_kind kind stack = of_then (item_operand stack) _ stack (of_item stack) (λ top. of_fitting (kind top.0.0) top.1)

-- several, one after the other
of_two : {A B : Type 0} (first : List Item → Popped A) (second : List Item → Popped B) (stack : List Item)
    → ((items : List Item) → IsOf (first items) items) → ((items : List Item) → IsOf (second items) items)
    → IsOf (two_operands first second stack) stack
of_two first second stack one other =
    of_then (first stack) _ stack (one stack) (λ a. of_then (second a.1) _ a.1 (other a.1) (λ b. left_itself b.1))

of_operands : {A : Type 0} (operand : List Item → Popped A) (count : ℕ) (stack : List Item)
    → ((items : List Item) → IsOf (operand items) items) → IsOf (operands_by operand count stack) stack
unfolding operands_by
of_operands operand zero stack each = left_itself stack
of_operands operand (suc count) stack each =
    of_then (operand stack) _ stack (each stack)
    (λ first. of_then (operands_by operand count first.1) _ first.1 (of_operands operand count first.1 each)
    (λ others. left_itself others.1))

-- each kind
pub of_bytes : (stack : List Item) → IsOf (bytes_operand stack) stack
of_bytes stack = of_kind bytes_of stack

of_int : (stack : List Item) → IsOf (int_operand stack) stack
of_int stack = of_kind int_of stack

of_string : (stack : List Item) → IsOf (string_operand stack) stack
of_string stack = of_kind string_of stack

of_count : (stack : List Item) → IsOf (count_operand stack) stack
of_count stack = of_kind count_of stack

of_flag : (stack : List Item) → IsOf (flag_operand stack) stack
of_flag stack = of_kind flag_of stack

of_element : (stack : List Item) → IsOf (element_operand stack) stack
of_element stack = of_then (item_operand stack) _ stack (of_item stack) (λ top. left_itself top.1)

of_elements : (stack : List Item) → IsOf (elements_operand stack) stack
of_elements stack = of_then (count_operand stack) _ stack (of_count stack) (λ count. of_operands element_operand count.0 count.1 of_element)

of_tuple : (stack : List Item) → IsOf (tuple_operand stack) stack
of_tuple stack = of_then (elements_operand stack) _ stack (of_elements stack) (λ elements. left_itself elements.1)

of_byte_strings : (stack : List Item) → IsOf (byte_strings_operand stack) stack
of_byte_strings stack = of_then (count_operand stack) _ stack (of_count stack) (λ count. of_operands bytes_operand count.0 count.1 of_bytes)

-- ---- operations on the stack

-- what is done with the operands
fairly_tested : (test : Bool) (done : List Item) (refusal : Refusal) (stack : List Item) → IsFair refusal stack
    → IsRefusedFairly {A = List Item} (cond test (Ok done) (Err refusal)) stack
fairly_tested true done refusal stack fair = tt
fairly_tested false done refusal stack fair = fair

swapped_fairly : (depth : ℕ) (stack : List Item) → IsRefusedFairly (swapped depth stack) stack
swapped_fairly depth stack = fairly_tested (nat_lt depth (length stack)) (swap stack 0 depth) (Missing stack) stack tt

dup_fairly : (stack : List Item) → IsRefusedFairly (dup stack) stack
dup_fairly [] = tt
dup_fairly (top ∷ below) = tt

joined_fairly : (number : ℕ) (element : Option Elem) (stack : List Item) → IsRefusedFairly (pushed_or_unfit number element stack) stack
joined_fairly number (Some element) stack = tt
joined_fairly number None stack = tt

unpacked_fairly : (number : ℕ) (read : Result Elements UnpackFault) (stack : List Item)
    → IsRefusedFairly (pushed_elements number read stack) stack
unpacked_fairly number (Ok tuple) stack = tt
unpacked_fairly number (Err fault) stack = tt

sorted_fairly : (number : ℕ) (tuples : Option (List Elements)) (stack : List Item)
    → IsRefusedFairly (pushed_in_order number tuples stack) stack
sorted_fairly number (Some tuples) stack = tt
sorted_fairly number None stack = tt

integer_fairly : (number : ℕ) (integer : ℤ) (stack : List Item) → IsRefusedFairly (pushed_integer number integer stack) stack
integer_fairly number integer stack =
    fairly_tested (nat_le (unsigned_abs integer) (greatest_magnitude (is_negative integer)))
    (pushed number (elem.Int integer ∷ []) stack) (Unfit stack) stack tt

stamped_fairly : (number : ℕ) (prefix : List ℕ) (tuple : Elements) (stack : List Item)
    → IsRefusedFairly (pushed_stamped number prefix tuple stack) stack
stamped_fairly number prefix tuple stack =
    fairly_tested (nat_lt (length prefix + length (spelling tuple)) (2 ^ 32 - 4))
    (pushed number (stamp_answer (stamp_packed prefix tuple)) stack) (Unfit stack) stack tt

-- an operation is refused for an item that waits only where one waits
pub operated_fairly : (operation : StackOperation) (number : ℕ) (stack : List Item)
    → IsRefusedFairly (operated operation number stack) stack
unfolding operated
operated_fairly operation.Dup number stack = dup_fairly stack
operated_fairly operation.EmptyStack number stack = tt
operated_fairly operation.Swap number stack =
    fairly_then (count_operand stack) _ stack (of_count stack) (λ depth. swapped_fairly depth.0 depth.1)
operated_fairly operation.Pop number stack = fairly_then (item_operand stack) _ stack (of_item stack) (λ top. tt)
operated_fairly operation.Sub number stack =
    fairly_then (two_operands int_operand int_operand stack) _ stack (of_two int_operand int_operand stack of_int of_int)
    (λ integers. integer_fairly number (integers.0.0 -ℤ integers.0.1) integers.1)
operated_fairly operation.Concat number stack =
    fairly_then (two_operands string_operand string_operand stack) _ stack (of_two string_operand string_operand stack of_string of_string)
    (λ strings. joined_fairly number (joined strings.0.0 strings.0.1) strings.1)
operated_fairly operation.WaitFuture number stack = fairly_then (item_operand stack) _ stack (of_item stack) (λ top. tt)
operated_fairly operation.TuplePack number stack = fairly_then (tuple_operand stack) _ stack (of_tuple stack) (λ tuple. tt)
operated_fairly operation.TuplePackWithVersionstamp number stack =
    fairly_then (two_operands bytes_operand tuple_operand stack) _ stack (of_two bytes_operand tuple_operand stack of_bytes of_tuple)
    (λ operands. stamped_fairly number operands.0.0 operands.0.1 operands.1)
operated_fairly operation.TupleUnpack number stack =
    fairly_then (bytes_operand stack) _ stack (of_bytes stack) (λ packed. unpacked_fairly number (read_tuple packed.0) packed.1)
operated_fairly operation.TupleRange number stack = fairly_then (tuple_operand stack) _ stack (of_tuple stack) (λ tuple. tt)
operated_fairly operation.TupleSort number stack =
    fairly_then (byte_strings_operand stack) _ stack (of_byte_strings stack)
    (λ packed. sorted_fairly number (read_tuples packed.0) packed.1)
operated_fairly operation.GetApproximateSize number stack = tt
operated_fairly operation.GetEstimatedRangeSize number stack =
    fairly_then (two_operands bytes_operand bytes_operand stack) _ stack (of_two bytes_operand bytes_operand stack of_bytes of_bytes)
    (λ ends. tt)
operated_fairly operation.UnitTests number stack = tt

-- ---- requests

-- what requests pop
of_code : (stack : List Item) → IsOf (code_operand stack) stack
of_code stack = of_kind code_of stack

of_two_bytes : (stack : List Item) → IsOf (two_operands bytes_operand bytes_operand stack) stack
of_two_bytes stack = of_two bytes_operand bytes_operand stack of_bytes of_bytes

of_selector : (stack : List Item) → IsOf (selector_operand stack) stack
of_selector stack =
    of_then (bytes_operand stack) _ stack (of_bytes stack)
    (λ key. of_then (flag_operand key.1) _ key.1 (of_flag key.1)
    (λ or_equal. of_then (offset_operand or_equal.1) _ or_equal.1 (of_kind offset_of or_equal.1) (λ offset. left_itself offset.1)))

of_options : (stack : List Item) → IsOf (options_operand stack) stack
of_options stack =
    of_then (limit_operand stack) _ stack (of_kind limit_of stack)
    (λ limit. of_then (flag_operand limit.1) _ limit.1 (of_flag limit.1)
    (λ reverse. of_then (mode_operand reverse.1) _ reverse.1 (of_kind mode_of reverse.1) (λ mode. left_itself mode.1)))

of_three_bytes : (stack : List Item) → IsOf (two_operands bytes_operand (two_operands bytes_operand bytes_operand) stack) stack
of_three_bytes stack = of_two bytes_operand (two_operands bytes_operand bytes_operand) stack of_bytes of_two_bytes

-- a call on the database
pub of_call : (operation : DatabaseOperation) (scope : Scope) (stack : List Item) → IsOf (call_of operation scope stack) stack
of_call on_database.Get scope stack = of_then (bytes_operand stack) _ stack (of_bytes stack) (λ key. left_itself key.1)
of_call on_database.GetKey scope stack =
    of_then (selector_operand stack) _ stack (of_selector stack)
    (λ selector. of_then (bytes_operand selector.1) _ selector.1 (of_bytes selector.1) (λ prefix. left_itself prefix.1))
of_call on_database.GetRange scope stack =
    of_then (two_operands bytes_operand bytes_operand stack) _ stack (of_two_bytes stack)
    (λ ends. of_then (options_operand ends.1) _ ends.1 (of_options ends.1) (λ options. left_itself options.1))
of_call on_database.GetRangeStartsWith scope stack =
    of_then (bytes_operand stack) _ stack (of_bytes stack)
    (λ prefix. of_then (options_operand prefix.1) _ prefix.1 (of_options prefix.1) (λ options. left_itself options.1))
of_call on_database.GetRangeSelector scope stack =
    of_then (two_operands selector_operand selector_operand stack) _ stack
    (of_two selector_operand selector_operand stack of_selector of_selector)
    (λ ends. of_then (options_operand ends.1) _ ends.1 (of_options ends.1)
    (λ options. of_then (bytes_operand options.1) _ options.1 (of_bytes options.1) (λ prefix. left_itself prefix.1)))
of_call on_database.Set scope stack =
    of_then (two_operands bytes_operand bytes_operand stack) _ stack (of_two_bytes stack) (λ operands. left_itself operands.1)
of_call on_database.Clear scope stack = of_then (bytes_operand stack) _ stack (of_bytes stack) (λ key. left_itself key.1)
of_call on_database.ClearRange scope stack =
    of_then (two_operands bytes_operand bytes_operand stack) _ stack (of_two_bytes stack) (λ ends. left_itself ends.1)
of_call on_database.ClearRangeStartsWith scope stack =
    of_then (bytes_operand stack) _ stack (of_bytes stack) (λ prefix. left_itself prefix.1)
of_call on_database.AtomicOp scope stack =
    of_then (two_operands bytes_operand (two_operands bytes_operand bytes_operand) stack) _ stack (of_three_bytes stack)
    (λ operands. left_itself operands.1)

-- a request on the current transaction
of_range_request : (name : List ℕ) (call_on : KeyRange → TxnCall) (stack : List Item) → IsOf (range_request name call_on stack) stack
of_range_request name call_on stack =
    of_then (two_operands bytes_operand bytes_operand stack) _ stack (of_two_bytes stack) (λ ends. left_itself ends.1)

of_key_request : (name : List ℕ) (call_on : KeyRange → TxnCall) (stack : List Item) → IsOf (key_request name call_on stack) stack
of_key_request name call_on stack = of_then (bytes_operand stack) _ stack (of_bytes stack) (λ key. left_itself key.1)

pub of_request : (operation : TransactionOperation) (name : List ℕ) (seen : ℤ) (stack : List Item)
    → IsOf (request_of operation name seen stack) stack
of_request on_transaction.NewTransaction name seen stack = left_itself stack
of_request on_transaction.OnError name seen stack = of_then (code_operand stack) _ stack (of_code stack) (λ code. left_itself code.1)
of_request on_transaction.Reset name seen stack = left_itself stack
of_request on_transaction.Cancel name seen stack = left_itself stack
of_request on_transaction.Commit name seen stack = left_itself stack
of_request on_transaction.GetReadVersion name seen stack = left_itself stack
of_request on_transaction.SetReadVersion name seen stack = left_itself stack
of_request on_transaction.GetCommittedVersion name seen stack = left_itself stack
of_request on_transaction.ReadConflictRange name seen stack = of_range_request name call.ReadConflict stack
of_request on_transaction.WriteConflictRange name seen stack = of_range_request name call.WriteConflict stack
of_request on_transaction.ReadConflictKey name seen stack = of_key_request name call.ReadConflict stack
of_request on_transaction.WriteConflictKey name seen stack = of_key_request name call.WriteConflict stack
of_request on_transaction.DisableWriteConflict name seen stack = left_itself stack
of_request on_transaction.GetVersionstamp name seen stack = left_itself stack

-- ---- operations on the directories

of_path : (stack : List Item) → IsOf (path_operand stack) stack
of_path stack =
    of_then (count_operand stack) _ stack (of_count stack)
    (λ count. of_operands (λ stack. operand_by text_of stack) count.0 count.1 (of_kind text_of))

of_name : (stack : List Item) → IsOf (name_operand stack) stack
of_name stack = of_kind bytes_if_any stack

of_path_where : (given : Bool) (stack : List Item) → IsOf (path_where given stack) stack
of_path_where true stack = of_path stack
of_path_where false stack = left_itself stack

of_path_if_given : (stack : List Item) → IsOf (path_if_given stack) stack
of_path_if_given stack = of_then (operand_by given_of stack) _ stack (of_kind given_of stack) (λ given. of_path_where given.0 given.1)

-- one operand, whatever is made of it
of_one : {A B : Type 0} (popped : Popped A) (made : A → B) (stack : List Item) → IsOf popped stack
    → IsOf (popped >>= (λ operand. Ok (made operand.0, operand.1))) stack
of_one popped made stack of = of_then popped (λ operand. Ok (made operand.0, operand.1)) stack of (λ operand. left_itself operand.1)

of_path_and_name : (stack : List Item) → IsOf (two_operands path_operand name_operand stack) stack
of_path_and_name stack = of_two path_operand name_operand stack of_path of_name

pub of_directed : (operation : DirectoryOperation) (scope : Scope) (name : List ℕ) (directories : Directories) (stack : List Item)
    → IsOf (directed operation scope name directories stack) stack
unfolding directed
of_directed on_directories.CreateSubspace scope name directories stack =
    of_one (two_operands tuple_operand bytes_operand stack) _ stack (of_two tuple_operand bytes_operand stack of_tuple of_bytes)
of_directed on_directories.CreateLayer scope name directories stack =
    of_then (two_operands int_operand int_operand stack) _ stack (of_two int_operand int_operand stack of_int of_int)
    (λ indices. of_one (flag_operand indices.1) _ indices.1 (of_flag indices.1))
of_directed on_directories.CreateOrOpen scope name directories stack =
    of_one (two_operands path_operand name_operand stack) _ stack (of_path_and_name stack)
of_directed on_directories.Create scope name directories stack =
    of_then (two_operands path_operand name_operand stack) _ stack (of_path_and_name stack)
    (λ operands. of_one (name_operand operands.1) _ operands.1 (of_name operands.1))
of_directed on_directories.Open scope name directories stack =
    of_one (two_operands path_operand name_operand stack) _ stack (of_path_and_name stack)
of_directed on_directories.Change scope name directories stack = of_one (int_operand stack) _ stack (of_int stack)
of_directed on_directories.SetErrorIndex scope name directories stack = of_one (int_operand stack) _ stack (of_int stack)
of_directed on_directories.Move scope name directories stack =
    of_one (two_operands path_operand path_operand stack) _ stack (of_two path_operand path_operand stack of_path of_path)
of_directed on_directories.MoveTo scope name directories stack = of_one (path_operand stack) _ stack (of_path stack)
of_directed on_directories.Remove scope name directories stack = of_one (path_if_given stack) _ stack (of_path_if_given stack)
of_directed on_directories.RemoveIfExists scope name directories stack = of_one (path_if_given stack) _ stack (of_path_if_given stack)
of_directed on_directories.List scope name directories stack = of_one (path_if_given stack) _ stack (of_path_if_given stack)
of_directed on_directories.Exists scope name directories stack = of_one (path_if_given stack) _ stack (of_path_if_given stack)
of_directed on_directories.PackKey scope name directories stack = of_one (tuple_operand stack) _ stack (of_tuple stack)
of_directed on_directories.UnpackKey scope name directories stack = of_one (bytes_operand stack) _ stack (of_bytes stack)
of_directed on_directories.Range scope name directories stack = of_one (tuple_operand stack) _ stack (of_tuple stack)
of_directed on_directories.Contains scope name directories stack = of_one (bytes_operand stack) _ stack (of_bytes stack)
of_directed on_directories.OpenSubspace scope name directories stack = of_one (tuple_operand stack) _ stack (of_tuple stack)
of_directed on_directories.LogSubspace scope name directories stack = of_one (bytes_operand stack) _ stack (of_bytes stack)
of_directed on_directories.LogDirectory scope name directories stack = of_one (bytes_operand stack) _ stack (of_bytes stack)
of_directed on_directories.StripPrefix scope name directories stack = of_one (bytes_operand stack) _ stack (of_bytes stack)
