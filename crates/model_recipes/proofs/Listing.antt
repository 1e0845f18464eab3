-- The values of a key that are listed are those that it has in the map, each once, in order.
use Rattle.std.proofs.Common.{◌≡◌, ℕ, suc, ◌<◌, Bool, true, false, cond, not, ◌&&◌, T, List, [], ◌∷◌, ◌++◌, length, map, take, drop, Option, Some, None, Result, Ok, Err, refl, sym, ap, ◌∙◌, subst, append_assoc, arith}
use Rattle.std.specs.Prelude.{◌==◌, nat_lt, bytes_eq}
use Rattle.std.specs.Int.{w64, from_le_bytes}
use Rattle.std.specs.FinMap as finite
use Rattle.std.specs.FinMap.Entries.{find, below_all, is_sorted}
use Rattle.std.specs.List.{AllByRecursion}
use Rattle.std.specs.List.Sorted.{IsStrictlySortedBy}
use Rattle.std.specs.Ordering.{is_lt, is_eq}
use Rattle.std.specs.declared.cmp.Ordering.TheVariants.{Less, Greater}
use Rattle.std.specs.Cmp.Lexicographic.{texts_ties, same_text}
use Rattle.std.proofs.lemmas.Bool.{and_parts, and_from, ltb-true}
use Rattle.std.proofs.lemmas.List.{append-nil, take-append-drop}
use Rattle.std.proofs.lemmas.Option.{cond_some}
use Rattle.key_bytes.specs.Keys.{key_cmp, key_lt, begins_with}
use Rattle.key_bytes.proofs.Orders.{less, key_cmp-same_front, key_cmp-first_less, key_cmp-first_greater, ordering_then-equal}
use Rattle.fdb_subspace.specs.declared.fault.SubFault.{SubFault}
use Rattle.fdb_subspace.specs.declared.fault.SubFault.TheVariants as sub
use Rattle.fdb_subspace.specs.Inside.{behind_by, behind_read, key_read}
use Rattle.fdb_tuple.specs.declared.fault.UnpackFault.{UnpackFault}
use Rattle.fdb_tuple.specs.Tuples.{Elements, Empty, Single, Bytes}
use Rattle.fdb_tuple.specs.Spelling.{string_spelled, spelling}
use Rattle.fdb_tuple.specs.Reading.{read_tuple}
use Rattle.fdb_tuple.specs.BytesOrder.{key_cmp-escaped}
use Rattle.model_database.specs.Databases.{Database}
use Rattle.model_database.specs.Slices.{Entries}
use Rattle.model_recipes.specs.declared.Count.{Count}
use Rattle.model_recipes.specs.declared.fault.RecipeFault.{RecipeFault}
use Rattle.model_recipes.specs.declared.TheConstants.{GREATEST_COUNT}
use Rattle.model_recipes.specs.Turns.{is_inside, space_begin, space_end, pairs_of}
use Rattle.model_recipes.specs.Multimaps.{pair_key, count_said, count_at, key_space, bytes_alone, counted_by, counted, told_count, count_in, before_others, counts_in, listed, AreCountsOf}
use Rattle.model_recipes.proofs.Pairs.{pairs_sorted, found_inside}
use Rattle.model_recipes.proofs.Alone.{alone_spelled}

-- ---- keys under what the keys of a key's pairs begin with

abbrev value_key : (front value : List ℕ) → List ℕ
value_key front value = front ++ spelling (Single (Bytes value) Empty)

-- they are in the order of their values
value_cmp : (front one other : List ℕ) → key_cmp (value_key front one) (value_key front other) ≡ key_cmp one other
value_cmp front one other =
    key_cmp-same_front front (spelling (Single (Bytes one) Empty)) (spelling (Single (Bytes other) Empty))
    ∙ rw (append-nil (string_spelled one), append-nil (string_spelled other)) (key_cmp-escaped one other [] [] tt tt)
    ∙ ordering_then-equal (key_cmp one other)

-- the key of a pair is one of them
pair_key_is : (space key value : List ℕ) → pair_key space key value ≡ value_key (key_space space key) value
pair_key_is space key value =
    let first = spelling (Single (Bytes key) Empty) in
    let second = spelling (Single (Bytes value) Empty) in
    ap (λ bytes. space ++ bytes) (ap (λ front. front ++ second) (sym (append-nil (1 ∷ string_spelled key))))
    ∙ sym (append_assoc space first second)

value_inside : (front value : List ℕ) → is_inside front (value_key front value) ≡ true
value_inside front value =
    let spelled = string_spelled value ++ [] in
    let from : key_cmp (value_key front value) (space_begin front) ≡ Greater = key_cmp-same_front front (1 ∷ spelled) (0 ∷ [])
    ∙ key_cmp-first_greater 1 0 spelled [] (omega arith) in
    let to : key_cmp (value_key front value) (space_end front) ≡ Less = key_cmp-same_front front (1 ∷ spelled) (255 ∷ [])
    ∙ key_cmp-first_less 1 255 spelled [] (omega arith) in
    and_from _ _ (ap not (ap is_lt from)) (ap is_lt to)

-- ---- what a pair has that is listed

alone_is : (read : Result Elements SubFault) (value : List ℕ) → bytes_alone read ≡ Some value → read ≡ Ok (Single (Bytes value) Empty)
alone_is (Ok (Single (Bytes bytes) Empty)) value is = cc
alone_is read value is = absurd cc

-- a key that is read as a byte string alone is the key of that value
read_key : (front key value : List ℕ) → key_read front key ≡ Ok (Single (Bytes value) Empty) → key ≡ value_key front value
read_key front key value is = by (begins_with key front) refl is
  where
    behind : List ℕ
    behind = drop (length front) key

    by_read : (read : Result Elements UnpackFault) → behind_by read ≡ Ok (Single (Bytes value) Empty) → read ≡ Ok (Single (Bytes value) Empty)
    by_read (Ok tuple) is = cc
    by_read (Err f) is = absurd cc

    by : (begins : Bool) → begins_with key front ≡ begins → cond begins (behind_read behind) (Err sub.NotInside) ≡ Ok (Single (Bytes value) Empty)
        → key ≡ value_key front value
    by true begins is =
        sym (take-append-drop (length front) key)
        ∙ ap (λ bytes. bytes ++ behind) (sym (same_text front (take (length front) key) (sym begins)))
        ∙ ap (λ bytes. front ++ bytes) (alone_spelled behind value (by_read (read_tuple behind) is))
    by false begins is = absurd cc

-- its key is that of the value, and its bytes say the count
record IsCounted (front : List ℕ) (pair : List ℕ × List ℕ) (count : Count) : Type 0 where
  key : pair.0 ≡ value_key front count.value
  said : count_said pair.1 ≡ Some count.count

counted_is : (front : List ℕ) (pair : List ℕ × List ℕ) (count : Count) → count_in front pair ≡ Ok count → IsCounted front pair count
unfolding count_in counted
counted_is front pair count is = by (bytes_alone (key_read front pair.0)) (count_said pair.1) refl refl is
  where
    by : (alone : Option (List ℕ)) (said : Option ℕ) → bytes_alone (key_read front pair.0) ≡ alone → count_said pair.1 ≡ said
        → told_count pair.0 (counted_by alone said) ≡ Ok count → IsCounted front pair count
    by None said alone says is = absurd cc
    by (Some value) None alone says is = absurd cc
    by (Some value) (Some number) alone says is =
        let same : ◌≡◌ {A = Count} (record { value = value; count = number }) count = cc in
        subst (IsCounted front pair) same
        (record { key = read_key front pair.0 value (alone_is (key_read front pair.0) value alone); said = says })

-- one after the other
abbrev AreCounted : (front : List ℕ) → Entries → List Count → Type 0
AreCounted front [] [] = Unit {0}
AreCounted front [] (count ∷ counts) = ⊥
AreCounted front (pair ∷ pairs) [] = ⊥
AreCounted front (pair ∷ pairs) (count ∷ counts) = IsCounted front pair count × AreCounted front pairs counts

all_counted : (front : List ℕ) (pairs : Entries) (counts : List Count) → counts_in front pairs ≡ Ok counts → AreCounted front pairs counts
unfolding counts_in
all_counted front [] counts is = let none : [] ≡ counts = cc in subst (AreCounted front []) none tt
all_counted front (pair ∷ pairs) counts is = by (count_in front pair) (counts_in front pairs) refl is (all_counted front pairs)
  where
    by : (first : Result Count RecipeFault) (others : Result (List Count) RecipeFault) → count_in front pair ≡ first
        → before_others first others ≡ Ok counts → ((more : List Count) → others ≡ Ok more → AreCounted front pairs more)
        → AreCounted front (pair ∷ pairs) counts
    by (Ok count) (Ok more) first is rest =
        let same : count ∷ more ≡ counts = cc in
        subst (AreCounted front (pair ∷ pairs)) same (counted_is front pair count first, rest more refl)
    by (Ok count) (Err f) first is rest = absurd cc
    by (Err f) others first is rest = absurd cc

-- ---- each once, in order

-- what is found among the pairs is what is listed
found_listed : (front : List ℕ) (pairs : Entries) (counts : List Count) → AreCounted front pairs counts → (value : List ℕ)
    → count_at (find key_cmp (value_key front value) pairs) ≡ Some (listed counts value)
found_listed front [] [] are value = refl
found_listed front [] (count ∷ counts) are value = absurd are
found_listed front (pair ∷ pairs) [] are value = absurd are
found_listed front (pair ∷ pairs) (count ∷ counts) are value =
    ap (λ it. count_at (cond it (Some pair.1) others)) test ∙ by (bytes_eq value count.value) (found_listed front pairs counts are.1 value)
  where
    others : Option (List ℕ)
    others = find key_cmp (value_key front value) pairs

    test : is_eq (key_cmp (value_key front value) pair.0) ≡ bytes_eq value count.value
    test =
        ap (λ key. is_eq (key_cmp (value_key front value) key)) are.0.key
        ∙ ap is_eq (value_cmp front value count.value) ∙ sym (texts_ties value count.value)

    by : (it : Bool) → count_at others ≡ Some (listed counts value)
        → count_at (cond it (Some pair.1) others) ≡ Some (cond it count.count (listed counts value))
    by true rest = are.0.said
    by false rest = rest

some_said : (bytes : List ℕ) (count : ℕ) → count_said bytes ≡ Some count → 0 < count
unfolding count_said
some_said bytes count is =
    let number = from_le_bytes w64 bytes in
    let both = cond_some (length bytes == 8 && nat_lt 0 number && nat_lt number (suc GREATEST_COUNT)) number count is in
    let parts = and_parts (length bytes == 8 && nat_lt 0 number) (nat_lt number (suc GREATEST_COUNT)) both.0 in
    let first = and_parts (length bytes == 8) (nat_lt 0 number) parts.0 in
    omega (arith, ltb-true 0 number first.1, both.1)

each_there : (front : List ℕ) (pairs : Entries) (counts : List Count) → AreCounted front pairs counts
    → AllByRecursion (λ (count : Count). 0 < count.count) counts
each_there front [] [] are = tt
each_there front [] (count ∷ counts) are = absurd are
each_there front (pair ∷ pairs) [] are = absurd are
each_there front (pair ∷ pairs) (count ∷ counts) are = (some_said pair.1 count.count are.0.said, each_there front pairs counts are.1)

both_true : (a b : Bool) → T (a && b) → (a ≡ true) × T b
both_true true b holds = (refl, holds)
both_true false b holds = absurd holds

is_true : (a : Bool) → a ≡ true → T a
is_true true is = tt
is_true false is = absurd cc

abbrev values : List Count → List (List ℕ)
values counts = map (λ (count : Count). count.value) counts

-- above a first key are those of greater values
each_above : (front key value : List ℕ) (pairs : Entries) (counts : List Count) → key ≡ value_key front value → AreCounted front pairs counts
    → T (below_all key_cmp key pairs) → AllByRecursion (λ other. key_cmp value other ≡ Less) (values counts)
each_above front key value [] [] is are below = tt
each_above front key value [] (count ∷ counts) is are below = absurd are
each_above front key value (pair ∷ pairs) [] is are below = absurd are
each_above front key value (pair ∷ pairs) (count ∷ counts) is are below =
    let parts = both_true (key_lt key pair.0) (below_all key_cmp key pairs) below in
    let first = less (key_cmp key pair.0) parts.0 in (
      sym (value_cmp front value count.value) ∙ ap (λ k. key_cmp k (value_key front count.value)) (sym is)
          ∙ ap (key_cmp key) (sym are.0.key) ∙ first,
      each_above front key value pairs counts is are.1 parts.1,
    )

ascending : (front : List ℕ) (pairs : Entries) (counts : List Count) → AreCounted front pairs counts → T (is_sorted key_cmp pairs)
    → IsStrictlySortedBy key_cmp (values counts)
unfolding IsStrictlySortedBy
ascending front [] [] are sorted = tt
ascending front [] (count ∷ counts) are sorted = absurd are
ascending front (pair ∷ pairs) [] are sorted = absurd are
ascending front (pair ∷ pairs) (count ∷ counts) are sorted =
    let parts = both_true (below_all key_cmp pair.0 pairs) (is_sorted key_cmp pairs) sorted in (
      each_above front pair.0 count.value pairs counts are.0.key are.1 (is_true (below_all key_cmp pair.0 pairs) parts.0),
      ascending front pairs counts are.1 parts.1,
    )

-- what is listed of a key's pairs are its values in the map
pub counts_listed : (space key : List ℕ) (database : Database) (counts : List Count)
    → counts_in (key_space space key) (pairs_of (key_space space key) database) ≡ Ok counts → AreCountsOf counts space key database
counts_listed space key database counts is =
    let front = key_space space key in
    let pairs = pairs_of front database in
    let are = all_counted front pairs counts is in
    record {
      each = λ value.
          ap (λ at. count_at (finite.get database at)) (pair_key_is space key value)
          ∙ ap count_at (sym (found_inside front database (value_key front value) (value_inside front value)))
          ∙ found_listed front pairs counts are value;
      there = each_there front pairs counts are;
      order = ascending front pairs counts are (pairs_sorted front database);
    }
