-- Packed tuples, read and put in order.
use Rattle.std.proofs.Common.{◌≡◌, ℕ, zero, suc, ◌<◌, Bool, true, false, List, [], ◌∷◌, length, get_or, map, Option, Some, None, Ok, Err, Result, refl, sym, ap, ◌∙◌, arith}
use Rattle.std.specs.Prelude.{if◌then◌else◌, IsPermutation, All, Any}
use Rattle.std.specs.List.{AllByRecursion}
use Rattle.std.specs.List.Sorted.{IsSorted}
use Rattle.std.specs.Ordering.{is_gt, is_eq}
use Rattle.std.specs.declared.cmp.Ordering.TheVariants.{Equal}
use Rattle.std.proofs.lemmas.Cmp.{nat_list_cmp_total}
use Rattle.std.proofs.lemmas.List.Elements.{recursion_from_All}
use Rattle.std.proofs.lemmas.Map.Text.{is_eq-slice_cmp}
use Rattle.std.proofs.lemmas.Slice.Eq.{bytes_eq-Decides}
use Rattle.key_bytes.specs.Keys.{key_cmp}
use Rattle.fdb_tuple.specs.declared.tuple.Elem.{Elem}
use Rattle.fdb_tuple.specs.declared.tuple.Elem.TheVariants as elem
use Rattle.fdb_tuple.specs.declared.fault.UnpackFault.{UnpackFault}
use Rattle.fdb_tuple.specs.Tuples.{Elements, IsTuple}
use Rattle.fdb_tuple.specs.Spelling.{spelling}
use Rattle.fdb_tuple.specs.Order.{tuple_cmp}
use Rattle.fdb_tuple.specs.OrderLaws.{key_cmp-spelling}
use Rattle.fdb_tuple.specs.Reading.{read_tuple}
use Rattle.model_machine.specs.declared.Item.{Item}
use Rattle.model_machine.specs.Operands.{◌>>=◌, Popped, byte_strings_operand}
use Rattle.model_machine.specs.StackOperations.{Operated, pushed, read_with, read_tuples, inserted, in_order, packed_tuple, pushed_in_order, tuple_sort}
use Rattle.stack_items.specs.declared.fault.StackFault.{StackFault}
use Rattle.stack_items.specs.declared.fault.StackFault.TheVariants as fault
use Rattle.stack_items.specs.Pops.{Does}
use Rattle.stack_items.specs.Unpacked.{PacksSome, PacksNone, UnpacksEach}
use Rattle.stack_items.proofs.Sorting.{inserted_by, in_order_by, sorted-in_order_by}

-- ---- the order of tuples is that of their bytes

all-inserted : (tuple : Elements) (tuples : List Elements) → IsTuple tuple → AllByRecursion IsTuple tuples
    → AllByRecursion IsTuple (inserted tuple tuples)
all-inserted tuple [] here all = (here, tt)
all-inserted tuple (first ∷ others) here all = by (is_gt (tuple_cmp tuple first)) (all-inserted tuple others here all.1)
  where
    by : (greater : Bool) → AllByRecursion IsTuple (inserted tuple others) → AllByRecursion IsTuple (if greater then first ∷ inserted tuple others else tuple ∷ first ∷ others)
    by true later = (all.0, later)
    by false later = (here, all)

all-in_order : (tuples : List Elements) → AllByRecursion IsTuple tuples → AllByRecursion IsTuple (in_order tuples)
all-in_order [] all = tt
all-in_order (tuple ∷ others) all = all-inserted tuple (in_order others) all.0 (all-in_order others all.1)

map-inserted : (tuple : Elements) (tuples : List Elements) → IsTuple tuple → AllByRecursion IsTuple tuples
    → map spelling (inserted tuple tuples) ≡ inserted_by key_cmp (spelling tuple) (map spelling tuples)
map-inserted tuple [] here all = refl
map-inserted tuple (first ∷ others) here all =
    by (is_gt (tuple_cmp tuple first)) (is_gt (key_cmp (spelling tuple) (spelling first))) (ap is_gt (sym (key_cmp-spelling tuple first here all.0))) (map-inserted tuple others here all.1)
  where
    by : (greater greater' : Bool) → greater ≡ greater' → map spelling (inserted tuple others) ≡ inserted_by key_cmp (spelling tuple) (map spelling others)
        → map spelling (if greater then first ∷ inserted tuple others else tuple ∷ first ∷ others)
        ≡ (if greater' then spelling first ∷ inserted_by key_cmp (spelling tuple) (map spelling others) else spelling tuple ∷ spelling first ∷ map spelling others)
    by true true e later = ap (λ (rest : List (List ℕ)). spelling first ∷ rest) later
    by false false e later = refl
    by true false e later = absurd cc
    by false true e later = absurd cc

pub map-in_order : (tuples : List Elements) → AllByRecursion IsTuple tuples
    → map spelling (in_order tuples) ≡ in_order_by key_cmp (map spelling tuples)
map-in_order [] all = refl
map-in_order (tuple ∷ others) all = map-inserted tuple (in_order others) all.0 (all-in_order others all.1)
    ∙ ap (inserted_by key_cmp (spelling tuple)) (map-in_order others all.1)

key_cmp-ties : (a b : List ℕ) → key_cmp a b ≡ Equal → a ≡ b
key_cmp-ties a b e = (bytes_eq-Decides a b).0 (sym (is_eq-slice_cmp a b) ∙ ap is_eq e)

-- sorted byte strings that pack tuples are the tuples in their order, packed
pub sorted-map : (tuples : List Elements) (sorted : List (List ℕ)) → AllByRecursion IsTuple tuples
    → IsPermutation (map spelling tuples) sorted → IsSorted key_cmp sorted → sorted ≡ map spelling (in_order tuples)
sorted-map tuples sorted all moved rises = sorted-in_order_by key_cmp nat_list_cmp_total key_cmp-ties (map spelling tuples) sorted moved rises ∙ sym (map-in_order tuples all)

-- ---- what the byte strings pack

pub record PackTuples (strings : List (List ℕ)) : Type 0 where
  pub tuples : List Elements
  pub read : read_tuples strings ≡ Some tuples
  pub are_tuples : AllByRecursion IsTuple tuples
  pub spelled : strings ≡ map spelling tuples

read_each : (strings : List (List ℕ)) → AllByRecursion PacksSome strings → PackTuples strings
read_each [] all = record { tuples = []; read = refl; are_tuples = tt; spelled = refl }
read_each (packed ∷ others) all =
    let first = all.0 in
    let rest = read_each others all.1 in
    record {
      tuples = first.0 ∷ rest.tuples;
      read = ap (λ (tuple : Result Elements UnpackFault). read_with tuple (read_tuples others)) first.1.read
          ∙ ap (read_with (Ok first.0)) rest.read;
      are_tuples = (first.1.is_tuple, rest.are_tuples);
      spelled = cc (first.1.spelled, rest.spelled);
    }

pub read_all : (strings : List (List ℕ)) → All PacksSome strings → PackTuples strings
read_all strings all = read_each strings (recursion_from_All PacksSome strings all)

read_with-none : (tuple : Result Elements UnpackFault) → read_with tuple None ≡ None
read_with-none (Ok tuple) = refl
read_with-none (Err why) = refl

none_read : (strings : List (List ℕ)) (k : ℕ) (packed : List ℕ) → k < length strings → get_or strings k packed ≡ packed → PacksNone packed
    → read_tuples strings ≡ None
none_read [] k packed lt here none = absurd (omega arith)
none_read (first ∷ others) zero packed lt here none = ap (λ (tuple : Result Elements UnpackFault). read_with tuple (read_tuples others)) (ap read_tuple here ∙ none.1)
none_read (first ∷ others) (suc k) packed lt here none = ap (read_with (read_tuple first)) (none_read others k packed (omega arith) here none) ∙ read_with-none (read_tuple first)

pub read_none : (strings : List (List ℕ)) → Any PacksNone strings → read_tuples strings ≡ None
read_none strings any = none_read strings any.0 any.1 any.2 any.3 any.4

-- ---- what the operation says

-- byte strings, put in order as the tuples that they pack
abbrev sort_from : ℕ → Popped (List (List ℕ)) → Operated
sort_from number strings = strings >>= (λ packed. pushed_in_order number (read_tuples packed.0) packed.1)

map-packed_tuple : (tuples : List Elements) → map packed_tuple tuples ≡ map (λ (bytes : List ℕ). elem.Bytes bytes) (map spelling tuples)
map-packed_tuple [] = refl
map-packed_tuple (tuple ∷ others) = ap (λ (elements : List Elem). packed_tuple tuple ∷ elements) (map-packed_tuple others)

pub tuple_sort-done : (number : ℕ) (stack left : List Item) (strings sorted : List (List ℕ))
    → byte_strings_operand stack ≡ Ok (strings, left) → All PacksSome strings → IsPermutation strings sorted
    → IsSorted key_cmp sorted → tuple_sort number stack ≡ Ok (pushed number (map (λ (bytes : List ℕ). elem.Bytes bytes) sorted) left)
tuple_sort-done number stack left strings sorted e all moved rises =
    let packed = read_all strings all in
    let in_their_order = sorted-map packed.tuples sorted packed.are_tuples (rw packed.spelled at moved) rises in
    ap (sort_from number) e
    ∙ ap (λ (tuples : Option (List Elements)). pushed_in_order number tuples left) packed.read
    ∙ ap (λ (elements : List Elem). Ok (pushed number elements left)) (map-packed_tuple (in_order packed.tuples) ∙ ap (map (λ (bytes : List ℕ). elem.Bytes bytes)) (sym in_their_order))

pub tuple_sort-refused : (number : ℕ) (stack left : List Item) (strings : List (List ℕ)) (why : StackFault)
    → byte_strings_operand stack ≡ Ok (strings, left)
    → UnpacksEach {E = Unit {0}} (Err why) strings → Does {E = Unit {0}} (Err why) (tuple_sort number stack) stack left
tuple_sort-refused number stack left strings fault.Underflow e each = absurd each
tuple_sort-refused number stack left strings fault.Operand e each =
    ap (sort_from number) e ∙ ap (λ (tuples : Option (List Elements)). pushed_in_order number tuples left) (read_none strings each)
tuple_sort-refused number stack left strings (fault.Waits life) e each = absurd each
tuple_sort-refused number stack left strings fault.NoMemory e each = tt
