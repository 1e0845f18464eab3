-- What the counts are after an add and after a subtract.
use Rattle.std.proofs.Common.{◌≡◌, ℕ, zero, suc, ◌+◌, ◌-◌, ◌<◌, ◌≤◌, ◌^◌, Bool, true, false, cond, not, ◌&&◌, List, [], ◌∷◌, ◌++◌, length, Option, Some, None, Result, Ok, Err, refl, sym, ap, ◌∙◌, subst, arith}
use Rattle.std.specs.Prelude.{◌==◌, nat_lt, bytes_eq, OnOk, IfOk}
use Rattle.std.specs.Int.{w64, to_le_bytes, from_le_bytes}
use Rattle.std.specs.Option.{option_map}
use Rattle.std.specs.FinMap as finite
use Rattle.std.specs.List.{list_all}
use Rattle.std.specs.Ordering.{is_lt, is_eq}
use Rattle.std.specs.declared.cmp.Ordering.{Ordering}
use Rattle.std.specs.declared.cmp.Ordering.TheVariants.{Less, Equal, Greater}
use Rattle.std.specs.Cmp.Lexicographic.{texts_ties}
use Rattle.std.proofs.lemmas.Bool.{and_parts, and_from, false_from_ne_true, eqb-true, eqb-false, ltb-true, lt-ltb}
use Rattle.std.proofs.lemmas.Option.{cond_some}
use Rattle.std.proofs.lemmas.Nat.{from_le_bytes-to_le_bytes_8}
use Rattle.std.proofs.lemmas.Map.Lookups.{exact_bytes}
use Rattle.key_bytes.specs.Keys.{IsByteString, key_cmp}
use Rattle.key_bytes.proofs.Orders.{key_cmp-same_front, key_cmp-first_less, key_cmp-first_greater}
use Rattle.fdb_tuple.specs.declared.fault.UnpackFault.{UnpackFault}
use Rattle.fdb_tuple.specs.Tuples.{Elements, Empty, Single, Bytes, IsTuple}
use Rattle.fdb_tuple.specs.Reading.{read_tuple}
use Rattle.fdb_tuple.specs.Spelling.{spelling, string_spelled}
use Rattle.fdb_tuple.proofs.ReadLaws.{read_tuple_again}
use Rattle.model_database.specs.Databases.{Database, Set, Clear}
use Rattle.model_database.specs.Histories.{Setting}
use Rattle.model_database.specs.Reads.{Get, GetKeyRange}
use Rattle.model_database.specs.Transactions.{Transaction, view}
use Rattle.model_database.proofs.Ranges.{covers_one}
use Rattle.model_allocator.specs.Acts.{Act, Reads, Writes, act_called, all_acted}
use Rattle.model_allocator.proofs.Viewing.{itself, after_read, spared, spares}
use Rattle.model_recipes.specs.declared.Count.{Count}
use Rattle.model_recipes.specs.declared.fault.RecipeFault.{RecipeFault}
use Rattle.model_recipes.specs.declared.fault.RecipeFault.TheVariants as fault
use Rattle.model_recipes.specs.declared.TheConstants.{GREATEST_COUNT}
use Rattle.model_recipes.specs.Turns.{Call, replying, turned_by, acts, acts_behind, ending, view_after, is_inside, space_begin, space_end, IsAnswered, KeepsAll}
use Rattle.model_recipes.specs.Multimaps.{pair_key, count_said, count_at, count_of, IsRecounted, one_more, sets_count, add_call, IsAdded, there, lowers, subtract_call, IsSubtracted, key_space, counts_in, values_call, AreCountsOf, AreValues}
use Rattle.model_recipes.proofs.Seeing.{readable_after, set_value, clear_value}
use Rattle.model_recipes.proofs.Pairs.{SameBut}
use Rattle.model_recipes.proofs.Listing.{counts_listed}
use Rattle.model_recipes.proofs.Calling.{each_through, none_acted, SpareOutside, others_kept, apart, all_kept}

-- ---- keys of pairs

-- the key of a pair lies in the subspace
pub pair_inside : (space key value : List ℕ) → is_inside space (pair_key space key value) ≡ true
pair_inside space key value = and_from _ _ (ap not (ap is_lt from)) (ap is_lt to)
  where
    from : key_cmp (pair_key space key value) (space_begin space) ≡ Greater
    from =
        key_cmp-same_front space (spelling (Single (Bytes key) (Single (Bytes value) Empty))) (0 ∷ [])
        ∙ key_cmp-first_greater 1 0 (string_spelled key ++ spelling (Single (Bytes value) Empty)) [] (omega arith)

    to : key_cmp (pair_key space key value) (space_end space) ≡ Less
    to =
        key_cmp-same_front space (spelling (Single (Bytes key) (Single (Bytes value) Empty))) (255 ∷ [])
        ∙ key_cmp-first_less 1 255 (string_spelled key ++ spelling (Single (Bytes value) Empty)) [] (omega arith)

equal_of : (o : Ordering) → is_eq o ≡ true → o ≡ Equal
equal_of Less is = absurd cc
equal_of Equal is = refl
equal_of Greater is = absurd cc

abbrev pair_tuple : (key value : List ℕ) → Elements
pair_tuple key value = Single (Bytes key) (Single (Bytes value) Empty)

is_pair : (key value : List ℕ) → IsByteString key → IsByteString value → IsTuple (pair_tuple key value)
is_pair key value key_bytes value_bytes = ((key_bytes, (value_bytes, tt)), omega arith)

same_read : (key value other_key other : List ℕ) (read : Result Elements UnpackFault) → read ≡ Ok (pair_tuple other_key other)
    → read ≡ Ok (pair_tuple key value) → (other_key ≡ key) × (other ≡ value)
same_read key value other_key other read one two = (cc, cc)

-- two pairs have two keys
pair_apart : (space key value other_key other : List ℕ) → IsByteString key → IsByteString value → IsByteString other_key → IsByteString other
    → ((other_key ≡ key) × (other ≡ value) → ⊥) → bytes_eq (pair_key space other_key other) (pair_key space key value) ≡ false
pair_apart space key value other_key other key_bytes value_bytes other_key_bytes other_bytes differ =
    false_from_ne_true (bytes_eq (pair_key space other_key other) (pair_key space key value)) (λ same.
    let x = spelling (pair_tuple other_key other) in
    let y = spelling (pair_tuple key value) in
    let tied : key_cmp x y ≡ Equal = equal_of (key_cmp x y)
    (ap is_eq (sym (key_cmp-same_front space x y)) ∙ sym (texts_ties (pair_key space other_key other) (pair_key space key value)) ∙ same) in
    let one = read_tuple_again (pair_tuple other_key other) (is_pair other_key other other_key_bytes other_bytes) in
    let two = read_tuple_again (pair_tuple key value) (is_pair key value key_bytes value_bytes) in
    differ (same_read key value other_key other (read_tuple x) one (ap read_tuple (exact_bytes x y tied) ∙ two)))

-- ---- counts as bytes

pub said_again : (count : ℕ) → 0 < count → count < 2 ^ 64 → count_said (to_le_bytes w64 count) ≡ Some count
unfolding count_said
said_again count some small =
    ap (λ number. cond (nat_lt 0 number && nat_lt number (suc GREATEST_COUNT)) (Some number) None) (from_le_bytes-to_le_bytes_8 count small)
    ∙ ap (λ b. cond b (Some count) None) (and_from _ _ (lt-ltb 0 count some) (lt-ltb count (suc GREATEST_COUNT) (omega arith)))

-- a count that is said is a number of 64 bits
said_small : (bytes : List ℕ) (count : ℕ) → count_said bytes ≡ Some count → count ≤ GREATEST_COUNT
unfolding count_said
said_small bytes count is =
    let number = from_le_bytes w64 bytes in
    let both = cond_some (length bytes == 8 && nat_lt 0 number && nat_lt number (suc GREATEST_COUNT)) number count is in
    let parts = and_parts (length bytes == 8 && nat_lt 0 number) (nat_lt number (suc GREATEST_COUNT)) both.0 in
    omega (arith, ltb-true number (suc GREATEST_COUNT) parts.1, both.1)

count_small : (value : Option (List ℕ)) (count : ℕ) → count_at value ≡ Some count → count ≤ GREATEST_COUNT
count_small None count is = let zero_is : 0 ≡ count = cc in omega (arith, zero_is)
count_small (Some bytes) count is = said_small bytes count is

-- ---- a read of a key, and a write of it

abbrev reads_key : (at : List ℕ) → Act
reads_key at = Reads (Get at) false

-- one key is made so, and each other is seen as before
record IsMade (at : List ℕ) (value : Option (List ℕ)) (before after : Database) : Type 0 where
  its : finite.get after at ≡ value
  others : SameBut at before after

set_made : (at bytes : List ℕ) (setting : Setting) (t : Transaction)
    → (all_acted setting (reads_key at ∷ Writes (Set at bytes) ∷ []) t).refused ≡ None
    → IsMade at (Some bytes) (view setting t) (view setting (all_acted setting (reads_key at ∷ Writes (Set at bytes) ∷ []) t).transaction)
set_made at bytes setting t none =
    let first = each_through setting (reads_key at) (Writes (Set at bytes) ∷ []) t none in
    let t1 = (act_called setting t (reads_key at)).transaction in
    let second = each_through setting (Writes (Set at bytes)) [] t1 first.others in
    let t2 = (act_called setting t1 (Writes (Set at bytes))).transaction in
    let readable = readable_after setting t false (Get at) at first.passed (covers_one at at ∙ itself at) in
    let after = first.left ∙ second.left ∙ (none_acted setting t2).1 in
    record {
      its = ap (λ u. finite.get (view setting u) at) after ∙ set_value setting t1 at bytes readable second.passed;
      others = λ q other. ap (λ u. finite.get (view setting u) q) after
          ∙ spared setting (Writes (Set at bytes)) t1 q (ap not other) ∙ ap (λ m. finite.get m q) (after_read setting t (Get at) false);
    }

clear_made : (at : List ℕ) (setting : Setting) (t : Transaction)
    → (all_acted setting (reads_key at ∷ Writes (Clear at) ∷ []) t).refused ≡ None
    → IsMade at None (view setting t) (view setting (all_acted setting (reads_key at ∷ Writes (Clear at) ∷ []) t).transaction)
clear_made at setting t none =
    let first = each_through setting (reads_key at) (Writes (Clear at) ∷ []) t none in
    let t1 = (act_called setting t (reads_key at)).transaction in
    let second = each_through setting (Writes (Clear at)) [] t1 first.others in
    let t2 = (act_called setting t1 (Writes (Clear at))).transaction in
    let after = first.left ∙ second.left ∙ (none_acted setting t2).1 in
    record {
      its = ap (λ u. finite.get (view setting u) at) after ∙ clear_value setting t1 at second.passed;
      others = λ q other. ap (λ u. finite.get (view setting u) q) after
          ∙ spared setting (Writes (Clear at)) t1 q (ap not other) ∙ ap (λ m. finite.get m q) (after_read setting t (Get at) false);
    }

-- so the counts are
recounted : (space key value : List ℕ) (made : ℕ → ℕ) (bytes : Option (List ℕ)) (count : ℕ) (before after : Database)
    → IsByteString key → IsByteString value → count_of space before key value ≡ Some count → count_at bytes ≡ Some (made count)
    → IsMade (pair_key space key value) bytes before after → IsRecounted space key value made before after
recounted space key value made bytes count before after key_bytes value_bytes had has done = record {
  its = ap count_at done.its ∙ has ∙ sym (ap (option_map made) had);
  others = λ other_key other other_key_bytes other_bytes differ. ap count_at (done.others (pair_key space other_key other)
      (pair_apart space key value other_key other key_bytes value_bytes other_key_bytes other_bytes differ));
}

-- ---- add

-- an add by the count that was found
abbrev adding : (at : List ℕ) → Result ℕ RecipeFault → Call (Unit {0})
adding at found = record { read = Get at; turn = turned_by (sets_count at) found }

pub add_counts : (space key value : List ℕ) (setting : Setting) (t : Transaction) (done : Unit {0}) → IsByteString key → IsByteString value
    → (all_acted setting (acts (add_call space key value (view setting t))) t).refused ≡ None
    → ending (add_call space key value (view setting t)).turn ≡ Ok done
    → IsRecounted space key value (λ count. count + 1) (view setting t) (view_after setting (add_call space key value (view setting t)) t)
unfolding add_call
add_counts space key value setting t done key_bytes value_bytes none ends = by (count_of space (view setting t) key value) refl none ends
  where
    by_greatest : (count : ℕ) (is_greatest : Bool) → (count == GREATEST_COUNT) ≡ is_greatest → count_of space (view setting t) key value ≡ Some count
        → (all_acted setting (acts (adding (pair_key space key value) (cond is_greatest (Err fault.IndexEnd) (Ok (count + 1))))) t).refused ≡ None
        → ending (adding (pair_key space key value) (cond is_greatest (Err fault.IndexEnd) (Ok (count + 1)))).turn ≡ Ok done
        → IsRecounted space key value (λ count. count + 1) (view setting t)
        (view_after setting (adding (pair_key space key value) (cond is_greatest (Err fault.IndexEnd) (Ok (count + 1)))) t)
    by_greatest count true is had none ends = absurd cc
    by_greatest count false is had none ends =
        let differ = eqb-false count GREATEST_COUNT is in
        let small = count_small (finite.get (view setting t) (pair_key space key value)) count had in
        recounted space key value (λ count. count + 1) (Some (to_le_bytes w64 (count + 1))) count (view setting t) _ key_bytes value_bytes had
        (said_again (count + 1) (omega arith) (omega arith))
        (set_made (pair_key space key value) (to_le_bytes w64 (count + 1)) setting t none)

    by : (had : Option ℕ) → count_of space (view setting t) key value ≡ had
        → (all_acted setting (acts (adding (pair_key space key value) (one_more (pair_key space key value) had))) t).refused ≡ None
        → ending (adding (pair_key space key value) (one_more (pair_key space key value) had)).turn ≡ Ok done
        → IsRecounted space key value (λ count. count + 1) (view setting t)
        (view_after setting (adding (pair_key space key value) (one_more (pair_key space key value) had)) t)
    by None had none ends = absurd cc
    by (Some count) had none ends = by_greatest count (count == GREATEST_COUNT) refl had none ends

add_spares : (space key value : List ℕ) (setting : Setting) (t : Transaction)
    → SpareOutside space (acts (add_call space key value (view setting t)))
unfolding add_call
add_spares space key value setting t q outside = by (one_more (pair_key space key value) (count_of space (view setting t) key value))
  where
    by : (found : Result ℕ RecipeFault) → list_all (spares q) (acts_behind (turned_by (sets_count (pair_key space key value)) found)) ≡ true
    by (Err fault) = refl
    by (Ok count) = and_from _ _ (ap not (apart space q (pair_key space key value) outside (pair_inside space key value))) refl

counts_added : (result : Result (Unit {0}) RecipeFault) (setting : Setting) (stands : Transaction → Type 0) (space key value : List ℕ) (t : Transaction)
    → IsByteString key → IsByteString value → IsAnswered result setting stands (add_call space key value (view setting t)) t
    → OnOk result (IsRecounted space key value (λ count. count + 1) (view setting t) (view_after setting (add_call space key value (view setting t)) t))
counts_added (Ok done) setting stands space key value t key_bytes value_bytes answered =
    add_counts space key value setting t done key_bytes value_bytes answered.0 answered.1
counts_added (Err fault) setting stands space key value t key_bytes value_bytes answered = tt

-- an add by what it answers
pub added : (result : Result (Unit {0}) RecipeFault) (setting : Setting) (stands : Transaction → Type 0) (space key value : List ℕ) (t : Transaction)
    → IsByteString key → IsByteString value → IsAnswered result setting stands (add_call space key value (view setting t)) t
    → IsAdded result setting stands space key value t
added result setting stands space key value t key_bytes value_bytes answered = record {
  answered = answered;
  counts = counts_added result setting stands space key value t key_bytes value_bytes answered;
  others = others_kept space setting _ t (add_spares space key value setting t);
}

-- ---- subtract

-- a subtract by the count that was found
abbrev subtracting : (at : List ℕ) → Result ℕ RecipeFault → Call (Unit {0})
subtracting at found = record { read = Get at; turn = turned_by (lowers at) found }

-- nothing is written
same_recounted : (space key value : List ℕ) (setting : Setting) (t : Transaction) → count_of space (view setting t) key value ≡ Some 0
    → IsRecounted space key value (λ count. count - 1) (view setting t)
    (view setting (all_acted setting (reads_key (pair_key space key value) ∷ []) t).transaction)
same_recounted space key value setting t had =
    subst (IsRecounted space key value (λ count. count - 1) (view setting t))
    (sym (all_kept setting (Get (pair_key space key value)) t 1))
    (record { its = had ∙ sym (ap (option_map (λ count. count - 1)) had); others = λ other_key other other_key_bytes other_bytes differ. refl })

pub subtract_counts : (space key value : List ℕ) (setting : Setting) (t : Transaction) (done : Unit {0}) → IsByteString key → IsByteString value
    → (all_acted setting (acts (subtract_call space key value (view setting t))) t).refused ≡ None
    → ending (subtract_call space key value (view setting t)).turn ≡ Ok done
    → IsRecounted space key value (λ count. count - 1) (view setting t) (view_after setting (subtract_call space key value (view setting t)) t)
unfolding subtract_call
subtract_counts space key value setting t done key_bytes value_bytes none ends = by (count_of space (view setting t) key value) refl none ends
  where
    lowered : (left : ℕ) (is_last : Bool) → (left == 0) ≡ is_last → count_of space (view setting t) key value ≡ Some (suc left)
        → (all_acted setting (reads_key (pair_key space key value) ∷ acts_behind {X = Unit {0}} (Ok (cond is_last (record { writes = Clear (pair_key space key value) ∷ []; reply = tt }) (sets_count (pair_key space key value) left)))) t).refused ≡ None
        → IsRecounted space key value (λ count. count - 1) (view setting t)
        (view setting (all_acted setting (reads_key (pair_key space key value) ∷ acts_behind {X = Unit {0}} (Ok (cond is_last (record { writes = Clear (pair_key space key value) ∷ []; reply = tt }) (sets_count (pair_key space key value) left)))) t).transaction)
    lowered left true is had none =
        let none_left = eqb-true left 0 is in
        let zero_is : 0 ≡ suc left - 1 = omega (arith, none_left) in
        recounted space key value (λ count. count - 1) None (suc left) (view setting t) _ key_bytes value_bytes had (ap Some zero_is)
        (clear_made (pair_key space key value) setting t none)
    lowered left false is had none =
        let some_left = eqb-false left 0 is in
        let small = count_small (finite.get (view setting t) (pair_key space key value)) (suc left) had in
        let left_is : left ≡ suc left - 1 = omega arith in
        recounted space key value (λ count. count - 1) (Some (to_le_bytes w64 left)) (suc left) (view setting t) _ key_bytes value_bytes had
        (said_again left (omega arith) (omega arith) ∙ ap Some left_is)
        (set_made (pair_key space key value) (to_le_bytes w64 left) setting t none)

    by : (had : Option ℕ) → count_of space (view setting t) key value ≡ had
        → (all_acted setting (acts (subtracting (pair_key space key value) (there (pair_key space key value) had))) t).refused ≡ None
        → ending (subtracting (pair_key space key value) (there (pair_key space key value) had)).turn ≡ Ok done
        → IsRecounted space key value (λ count. count - 1) (view setting t)
        (view_after setting (subtracting (pair_key space key value) (there (pair_key space key value) had)) t)
    by None had none ends = absurd cc
    by (Some zero) had none ends = same_recounted space key value setting t had
    by (Some (suc left)) had none ends = lowered left (left == 0) refl had none

subtract_spares : (space key value : List ℕ) (setting : Setting) (t : Transaction)
    → SpareOutside space (acts (subtract_call space key value (view setting t)))
unfolding subtract_call
subtract_spares space key value setting t q outside = by (there (pair_key space key value) (count_of space (view setting t) key value))
  where
    lowered : (left : ℕ) (is_last : Bool)
        → list_all (spares q) (acts_behind {X = Unit {0}} (Ok (cond is_last (record { writes = Clear (pair_key space key value) ∷ []; reply = tt }) (sets_count (pair_key space key value) left)))) ≡ true
    lowered left true = and_from _ _ (ap not (apart space q (pair_key space key value) outside (pair_inside space key value))) refl
    lowered left false = and_from _ _ (ap not (apart space q (pair_key space key value) outside (pair_inside space key value))) refl

    by : (found : Result ℕ RecipeFault) → list_all (spares q) (acts_behind (turned_by (lowers (pair_key space key value)) found)) ≡ true
    by (Err fault) = refl
    by (Ok zero) = refl
    by (Ok (suc left)) = lowered left (left == 0)

counts_subtracted : (result : Result (Unit {0}) RecipeFault) (setting : Setting) (stands : Transaction → Type 0) (space key value : List ℕ)
    (t : Transaction) → IsByteString key → IsByteString value → IsAnswered result setting stands (subtract_call space key value (view setting t)) t
    → OnOk result (IsRecounted space key value (λ count. count - 1) (view setting t)
    (view_after setting (subtract_call space key value (view setting t)) t))
counts_subtracted (Ok done) setting stands space key value t key_bytes value_bytes answered =
    subtract_counts space key value setting t done key_bytes value_bytes answered.0 answered.1
counts_subtracted (Err fault) setting stands space key value t key_bytes value_bytes answered = tt

-- a subtract by what it answers
pub subtracted : (result : Result (Unit {0}) RecipeFault) (setting : Setting) (stands : Transaction → Type 0) (space key value : List ℕ) (t : Transaction)
    → IsByteString key → IsByteString value → IsAnswered result setting stands (subtract_call space key value (view setting t)) t
    → IsSubtracted result setting stands space key value t
subtracted result setting stands space key value t key_bytes value_bytes answered = record {
  answered = answered;
  counts = counts_subtracted result setting stands space key value t key_bytes value_bytes answered;
  others = others_kept space setting _ t (subtract_spares space key value setting t);
}

-- ---- values

values_kept : (space key : List ℕ) (setting : Setting) (t : Transaction) → KeepsAll setting (acts (values_call space key (view setting t))) t
unfolding values_call
values_kept space key setting t = by (counts_in (key_space space key) _)
  where
    by : (found : Result (List Count) RecipeFault)
        → KeepsAll setting (acts (record { read = GetKeyRange (space_begin (key_space space key)) (space_end (key_space space key)) 0 false; turn = turned_by (λ counts. record { writes = []; reply = counts }) found })) t
    by (Ok counts) = all_kept setting _ t
    by (Err fault) = all_kept setting _ t

counts_told : (result : Result (List Count) RecipeFault) (setting : Setting) (stands : Transaction → Type 0) (space key : List ℕ) (t : Transaction)
    → IsAnswered result setting stands (values_call space key (view setting t)) t
    → IfOk result (λ counts. AreCountsOf counts space key (view setting t))
unfolding values_call
counts_told (Ok counts) setting stands space key t answered =
    counts_listed space key (view setting t) counts (by (counts_in (key_space space key) _) answered.1)
  where
    by : (found : Result (List Count) RecipeFault) → ending (turned_by (λ counts. replying counts) found) ≡ Ok counts → found ≡ Ok counts
    by (Ok others) is = is
    by (Err f) is = absurd cc
counts_told (Err fault) setting stands space key t answered = tt

-- the values by what the call answers
pub values_told : (result : Result (List Count) RecipeFault) (setting : Setting) (stands : Transaction → Type 0) (space key : List ℕ) (t : Transaction)
    → IsAnswered result setting stands (values_call space key (view setting t)) t → AreValues result setting stands space key t
values_told result setting stands space key t answered = record {
  answered = answered;
  counts = counts_told result setting stands space key t answered;
  same = values_kept space key setting t;
}
