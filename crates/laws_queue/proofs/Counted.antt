-- The counts after scripts of adds and subtracts, after commits that ran whole, and over a legal history and every run.
use Rattle.std.proofs.Common.{◌≡◌, ℕ, suc, ◌+◌, ◌<◌, ◌≤◌, ◌^◌, Bool, true, false, cond, List, [], ◌∷◌, ◌++◌, length, take, drop, Option, Some, None, Result, Ok, Err, refl, sym, ap, ◌∙◌, subst, append_assoc, arith}
use Rattle.std.specs.Prelude.{not, ◌&&◌, ◌==◌, bytes_eq, nat_lt}
use Rattle.std.specs.Int.{w64, to_le_bytes, from_le_bytes}
use Rattle.std.specs.Option.{option_map}
use Rattle.std.specs.FinMap as finite
use Rattle.std.specs.List.{AllByRecursion}
use Rattle.std.specs.Ordering.{is_eq}
use Rattle.std.specs.declared.cmp.Ordering.{Ordering}
use Rattle.std.specs.declared.cmp.Ordering.TheVariants.{Less, Equal, Greater}
use Rattle.std.specs.Cmp.Lexicographic.{texts_ties, same_text}
use Rattle.std.proofs.lemmas.Bool.{and_parts, and_from, false_from_ne_true, eqb-true, eqb-false, ltb-true}
use Rattle.std.proofs.lemmas.List.{append-nil}
use Rattle.std.proofs.lemmas.Option.{cond_some}
use Rattle.std.proofs.lemmas.Map.Lookups.{exact_bytes}
use Rattle.key_bytes.specs.Keys.{IsByteString, key_cmp}
use Rattle.key_bytes.proofs.Orders.{key_cmp-same_front}
use Rattle.fdb_tuple.specs.declared.fault.UnpackFault.{UnpackFault}
use Rattle.fdb_tuple.specs.Tuples.{Elements, Empty, Single, Bytes, IsTuple}
use Rattle.fdb_tuple.specs.Reading.{read_tuple}
use Rattle.fdb_tuple.specs.Spelling.{spelling}
use Rattle.fdb_tuple.proofs.ReadLaws.{read_tuple_again}
use Rattle.model_database.specs.Databases.{Database, Mutation, Set, Clear, do_all}
use Rattle.model_database.specs.Histories.{Script, Wrote, HasRead, Granted, Commit, after_commits, at, stamp_of, written}
use Rattle.model_database.specs.KeyByKey.{at_key, at_keys}
use Rattle.model_database.specs.Reads.{Get, ValueIs, answer}
use Rattle.model_database.specs.States.{all_filled, filled, seen}
use Rattle.model_database.proofs.KeyByKey.{get-do_all}
use Rattle.model_allocator.proofs.Viewing.{get-seen, get-seen_more, itself}
use Rattle.model_machine.specs.Runs.{start}
use Rattle.model_machine.specs.Worlds.{begun}
use Rattle.model_machine.proofs.Runs.{run_keeps}
use Rattle.laws_history.specs.Whole.{EachRead, RunsWhole}
use Rattle.laws_history.proofs.Legal.{runs_legal}
use Rattle.model_recipes.specs.declared.fault.RecipeFault.TheVariants as fault
use Rattle.model_recipes.specs.declared.TheConstants.{GREATEST_COUNT}
use Rattle.model_recipes.specs.Turns.{is_inside}
use Rattle.model_recipes.specs.Multimaps.{pair_key, count_said, count_at, count_of, one_more}
use Rattle.model_recipes.proofs.Counting.{pair_inside, said_again}
use Rattle.laws_queue.specs.Laws.{DidItsScript, HasScripts, RunWhole, commits_from}
use Rattle.laws_queue.specs.Scripts.{LeavesAlone}
use Rattle.laws_queue.specs.Counts.{Change, add_of, subtract_of, changed, counted, AreCounted, lowered, IsOfCounts, AreOfCounts, CountsFollow, LegalCountsFollow, RunsCountsFollow}
use Rattle.laws_queue.proofs.Stamps.{unmodified, filled_unmodified}
use Rattle.laws_queue.proofs.Scripts.{seen_same, AllReadable, readable_more}
use Rattle.laws_queue.proofs.Commits.{legal_behind, ran_whole, at_later}
use Rattle.laws_queue.proofs.Runs.{IsHeld, law_kept, holds, scripts_begin, all_did}

-- ---- two pairs have two keys

equal_of : (o : Ordering) → is_eq o ≡ true → o ≡ Equal
equal_of Less is = absurd cc
equal_of Equal is = refl
equal_of Greater is = absurd cc

abbrev pair_tuple : (key value : List ℕ) → Elements
pair_tuple key value = Single (Bytes key) (Single (Bytes value) Empty)

is_pair : (key value : List ℕ) → IsByteString key → IsByteString value → IsTuple (pair_tuple key value)
is_pair key value key_bytes value_bytes = ((key_bytes, (value_bytes, tt)), omega arith)

same_read : (key value other_key other : List ℕ) (read : Result Elements UnpackFault) → read ≡ Ok (pair_tuple other_key other)
    → read ≡ Ok (pair_tuple key value) → (other_key ≡ key) × (other ≡ value)
same_read key value other_key other read one two = (cc, cc)

pair_apart : (space key value other_key other : List ℕ) → IsByteString key → IsByteString value → IsByteString other_key → IsByteString other
    → ((other_key ≡ key) × (other ≡ value) → ⊥) → bytes_eq (pair_key space other_key other) (pair_key space key value) ≡ false
pair_apart space key value other_key other key_bytes value_bytes other_key_bytes other_bytes differ =
    false_from_ne_true (bytes_eq (pair_key space other_key other) (pair_key space key value)) (λ same.
    let x = spelling (pair_tuple other_key other) in
    let y = spelling (pair_tuple key value) in
    let tied : key_cmp x y ≡ Equal = equal_of (key_cmp x y)
    (ap is_eq (sym (key_cmp-same_front space x y)) ∙ sym (texts_ties (pair_key space other_key other) (pair_key space key value)) ∙ same) in
    let one = read_tuple_again (pair_tuple other_key other) (is_pair other_key other other_key_bytes other_bytes) in
    let two = read_tuple_again (pair_tuple key value) (is_pair key value key_bytes value_bytes) in
    differ (same_read key value other_key other (read_tuple x) one (ap read_tuple (exact_bytes x y tied) ∙ two)))

-- ---- numbers

said_small : (bytes : List ℕ) (count : ℕ) → count_said bytes ≡ Some count → count ≤ GREATEST_COUNT
unfolding count_said
said_small bytes count is =
    let number = from_le_bytes w64 bytes in
    let both = cond_some (length bytes == 8 && nat_lt 0 number && nat_lt number (suc GREATEST_COUNT)) number count is in
    let parts = and_parts (length bytes == 8 && nat_lt 0 number) (nat_lt number (suc GREATEST_COUNT)) both.0 in
    omega (arith, ltb-true number (suc GREATEST_COUNT) parts.1, both.1)

count_small : (value : Option (List ℕ)) (count : ℕ) → count_at value ≡ Some count → count ≤ GREATEST_COUNT
count_small None count is = let zero_is : 0 ≡ count = cc in omega (arith, zero_is)
count_small (Some bytes) count is = said_small bytes count is

-- an add that had no fault found a count below the greatest
record WasMore (had : Option ℕ) (count : ℕ) : Type 0 where
  pub before : ℕ
  pub is : had ≡ Some before
  pub more : before + 1 ≡ count
  pub below : before ≡ GREATEST_COUNT → ⊥

was_more : (at : List ℕ) (had : Option ℕ) (count : ℕ) → one_more at had ≡ Ok count → WasMore had count
was_more at None count is = absurd cc
was_more at (Some before) count is = by (before == GREATEST_COUNT) refl is
  where
    by : (greatest : Bool) → (before == GREATEST_COUNT) ≡ greatest → cond greatest (Err fault.IndexEnd) (Ok (before + 1)) ≡ Ok count
        → WasMore (Some before) count
    by true test is = absurd cc
    by false test is = record { before = before; is = refl; more = cc; below = eqb-false before GREATEST_COUNT test }

-- ---- changes, one after the other

mapped_same : (count : Option ℕ) → option_map (λ (n : ℕ). n) count ≡ count
mapped_same None = refl
mapped_same (Some n) = refl

mapped_twice : (one other : ℕ → ℕ) (count : Option ℕ) → option_map other (option_map one count) ≡ option_map (λ n. other (one n)) count
mapped_twice one other None = refl
mapped_twice one other (Some n) = refl

mapped_alike : (one other : ℕ → ℕ) (count : Option ℕ) → ((n : ℕ) → one n ≡ other n) → option_map one count ≡ option_map other count
mapped_alike one other None same = refl
mapped_alike one other (Some n) same = ap Some (same n)

counted-append : (changes more : List Change) (key value : List ℕ) (n : ℕ)
    → counted more key value (counted changes key value n) ≡ counted (changes ++ more) key value n
counted-append [] more key value n = refl
counted-append (change ∷ changes) more key value n =
    counted-append changes more key value (cond (bytes_eq key change.key && bytes_eq value change.value) (changed change.is_add n) n)

counted_then : (space : List ℕ) (first second last : Database) (changes more : List Change) → AreCounted space first second changes
    → AreCounted space second last more → AreCounted space first last (changes ++ more)
counted_then space first second last changes more one other key value key_bytes value_bytes =
    other key value key_bytes value_bytes
    ∙ ap (option_map (counted more key value)) (one key value key_bytes value_bytes)
    ∙ mapped_twice (counted changes key value) (counted more key value) (count_of space first key value)
    ∙ mapped_alike (λ n. counted more key value (counted changes key value n)) (counted (changes ++ more) key value)
    (count_of space first key value) (counted-append changes more key value)

-- where each key of the subspace is as before
counted_same : (space : List ℕ) (before after : Database)
    → ((q : List ℕ) → is_inside space q ≡ true → finite.get after q ≡ finite.get before q) → AreCounted space before after []
counted_same space before after same key value key_bytes value_bytes =
    ap count_at (same (pair_key space key value) (pair_inside space key value))
    ∙ sym (mapped_same (count_of space before key value))

-- one pair's count is changed, and each other key is as before
one_changed : (space : List ℕ) (change : Change) (count : ℕ) (before after : Database) → IsByteString change.key → IsByteString change.value
    → count_of space before change.key change.value ≡ Some count
    → count_of space after change.key change.value ≡ Some (changed change.is_add count)
    → ((q : List ℕ) → bytes_eq q (pair_key space change.key change.value) ≡ false → finite.get after q ≡ finite.get before q)
    → AreCounted space before after (change ∷ [])
one_changed space change count before after change_key change_value had has others key value key_bytes value_bytes =
    by (bytes_eq key change.key && bytes_eq value change.value) refl
  where
    by : (test : Bool) → (bytes_eq key change.key && bytes_eq value change.value) ≡ test
        → count_of space after key value ≡ option_map (counted (change ∷ []) key value) (count_of space before key value)
    by true test =
        let both = and_parts (bytes_eq key change.key) (bytes_eq value change.value) test in
        let key_is : key ≡ change.key = same_text key change.key (sym both.0) in
        let value_is : value ≡ change.value = same_text value change.value (sym both.1) in
        ap (λ (k : List ℕ). count_of space after k value) key_is ∙ ap (count_of space after change.key) value_is ∙ has
        ∙ ap (λ (b : Bool). Some (cond b (changed change.is_add count) count)) (sym test)
        ∙ ap (option_map (counted (change ∷ []) key value))
        (sym (ap (λ (k : List ℕ). count_of space before k value) key_is ∙ ap (count_of space before change.key) value_is ∙ had))
    by false test =
        let apart = pair_apart space change.key change.value key value change_key change_value key_bytes value_bytes (λ same.
        let yes : (bytes_eq key change.key && bytes_eq value change.value) ≡ true =
        and_from (bytes_eq key change.key) (bytes_eq value change.value)
        (ap (bytes_eq key) (sym same.0) ∙ itself key) (ap (bytes_eq value) (sym same.1) ∙ itself value) in
        let no : true ≡ false = sym yes ∙ test in cc) in
        ap count_at (others (pair_key space key value) apart)
        ∙ sym (mapped_same (count_of space before key value))
        ∙ ap (λ (b : Bool). option_map (λ (n : ℕ). cond b (changed change.is_add n) n) (count_of space before key value)) (sym test)

-- ---- scripts

record Leaves (space : List ℕ) (database : Database) (before after : List Mutation) (changes : List Change) : Type 0 where
  counts : AreCounted space (seen before database) (seen after database) changes
  readable : AllReadable space after

-- a write, and the writes of the rest of the script
leaves_then : (space : List ℕ) (database : Database) (before : List Mutation) (mutation : Mutation) (script : Script)
    (changes more : List Change) → Leaves space database before (before ++ mutation ∷ []) changes
    → Leaves space database (before ++ mutation ∷ []) (before ++ mutation ∷ [] ++ written script) more
    → Leaves space database before (before ++ (mutation ∷ written script)) (changes ++ more)
leaves_then space database before mutation script changes more one others =
    let after = before ++ mutation ∷ [] in
    subst (λ writes. Leaves space database before writes (changes ++ more))
    (append_assoc before (mutation ∷ []) (written script))
    (record {
      counts = counted_then space (seen before database) (seen after database) (seen (after ++ written script) database) changes more
          one.counts others.counts;
      readable = others.readable;
    })

same_value : (one other : Option (List ℕ)) → ValueIs one ≡ ValueIs other → one ≡ other
same_value one other same = cc

-- what was read of the count is what is seen
had_count : (database : Database) (key : List ℕ) (given : Option (List ℕ)) → ValueIs given ≡ answer (Get key) database
    → count_at (finite.get database key) ≡ count_at given
unfolding answer
had_count database key given answered = ap count_at (sym (same_value given (finite.get database key) answered))

-- a key of the subspace is set, or cleared
set_leaves : (space : List ℕ) (database : Database) (before : List Mutation) (change : Change) (had count : ℕ) → AllReadable space before
    → IsByteString change.key → IsByteString change.value
    → count_of space (seen before database) change.key change.value ≡ Some had → count ≡ changed change.is_add had → 0 < count → count < 2 ^ 64
    → Leaves space database before (before ++ Set (pair_key space change.key change.value) (to_le_bytes w64 count) ∷ []) (change ∷ [])
set_leaves space database before change had count readable key_bytes value_bytes is made some small =
    let key = pair_key space change.key change.value in
    let bytes = to_le_bytes w64 count in
    let old = finite.get (do_all before database) key in
    record {
      counts = one_changed space change had (seen before database) (seen (before ++ Set key bytes ∷ []) database) key_bytes value_bytes is
          (ap count_at (get-seen_more before (Set key bytes) database key refl
          ∙ ap (λ hidden. cond (not hidden) (at_key (Set key bytes) key old) None) (readable key (pair_inside space change.key change.value))
          ∙ ap (λ touched. cond touched (Some bytes) old) (itself key))
          ∙ said_again count some small ∙ ap Some made)
          (λ q other. seen_same before (Set key bytes) database q (ap (λ touched. touched && true) other) refl);
      readable = readable_more space before (Set key bytes) readable (λ q inside. refl);
    }

clear_leaves : (space : List ℕ) (database : Database) (before : List Mutation) (change : Change) (had : ℕ) → AllReadable space before
    → IsByteString change.key → IsByteString change.value
    → count_of space (seen before database) change.key change.value ≡ Some had → 0 ≡ changed change.is_add had
    → Leaves space database before (before ++ Clear (pair_key space change.key change.value) ∷ []) (change ∷ [])
clear_leaves space database before change had readable key_bytes value_bytes is made =
    let key = pair_key space change.key change.value in
    let old = finite.get (do_all before database) key in
    record {
      counts = one_changed space change had (seen before database) (seen (before ++ Clear key ∷ []) database) key_bytes value_bytes is
          (ap count_at (get-seen_more before (Clear key) database key refl
          ∙ ap (λ hidden. cond (not hidden) (at_key (Clear key) key old) None) (readable key (pair_inside space change.key change.value))
          ∙ ap (λ touched. cond touched None old) (itself key))
          ∙ ap Some made)
          (λ q other. seen_same before (Clear key) database q (ap (λ touched. touched && true) other) refl);
      readable = readable_more space before (Clear key) readable (λ q inside. refl);
    }

add_leaves : (space : List ℕ) (database : Database) (before : List Mutation) (key value : List ℕ) (given : Option (List ℕ)) (count : ℕ)
    → AllReadable space before → IsByteString key → IsByteString value
    → ValueIs given ≡ answer (Get (pair_key space key value)) (seen before database)
    → one_more (pair_key space key value) (count_at given) ≡ Ok count
    → Leaves space database before (before ++ Set (pair_key space key value) (to_le_bytes w64 count) ∷ []) (add_of key value ∷ [])
add_leaves space database before key value given count readable key_bytes value_bytes answered is =
    let was = was_more (pair_key space key value) (count_at given) count is in
    let small = count_small given was.before was.is in
    set_leaves space database before (add_of key value) was.before count readable key_bytes value_bytes
    (had_count (seen before database) (pair_key space key value) given answered ∙ was.is) (sym was.more)
    (omega (arith, was.more)) (omega (arith, was.more, small, was.below))

subtract_leaves : (space : List ℕ) (database : Database) (before : List Mutation) (key value : List ℕ) (given : Option (List ℕ)) (left : ℕ)
    → AllReadable space before → IsByteString key → IsByteString value
    → ValueIs given ≡ answer (Get (pair_key space key value)) (seen before database) → count_at given ≡ Some (suc left)
    → Leaves space database before (before ++ lowered (pair_key space key value) left ∷ []) (subtract_of key value ∷ [])
subtract_leaves space database before key value given left readable key_bytes value_bytes answered is = by (left == 0) refl
  where
    had : count_of space (seen before database) key value ≡ Some (suc left)
    had = had_count (seen before database) (pair_key space key value) given answered ∙ is

    by : (none : Bool) → (left == 0) ≡ none → Leaves space database before
        (before ++ cond none (Clear (pair_key space key value)) (Set (pair_key space key value) (to_le_bytes w64 left)) ∷ []) (subtract_of key value ∷ [])
    by true test =
        let zero_left = eqb-true left 0 test in
        clear_leaves space database before (subtract_of key value) (suc left) readable key_bytes value_bytes had (omega (arith, zero_left))
    by false test =
        let some_left = eqb-false left 0 test in
        let small = count_small given (suc left) is in
        set_leaves space database before (subtract_of key value) (suc left) left readable key_bytes value_bytes had (omega arith)
        (omega (arith, some_left)) (omega (arith, small))

-- a subtract from a pair that isn't there changes nothing
stay_counts : (space : List ℕ) (database : Database) (before : List Mutation) (key value : List ℕ) (given : Option (List ℕ))
    → IsByteString key → IsByteString value
    → ValueIs given ≡ answer (Get (pair_key space key value)) (seen before database) → count_at given ≡ Some 0
    → AreCounted space (seen before database) (seen before database) (subtract_of key value ∷ [])
stay_counts space database before key value given key_bytes value_bytes answered is =
    let had : count_of space (seen before database) key value ≡ Some 0 =
    had_count (seen before database) (pair_key space key value) given answered ∙ is in
    one_changed space (subtract_of key value) 0 (seen before database) (seen before database) key_bytes value_bytes had had (λ q other. refl)

other_leaves : (space : List ℕ) (database : Database) (before : List Mutation) (mutation : Mutation) → AllReadable space before
    → LeavesAlone space mutation → Leaves space database before (before ++ mutation ∷ []) []
other_leaves space database before mutation readable alone = record {
  counts = counted_same space (seen before database) (seen (before ++ mutation ∷ []) database)
      (λ q inside. seen_same before mutation database q (alone.unwritten q inside) (alone.readable q inside));
  readable = readable_more space before mutation readable alone.readable;
}

script_leaves : (space : List ℕ) (database : Database) (script : Script) (changes : List Change) → IsOfCounts space script changes
    → (before : List Mutation) → AllReadable space before
    → EachRead (λ writes read given. given ≡ answer read (seen writes database)) before script
    → Leaves space database before (before ++ written script) changes
script_leaves space database _ _ IsOfCounts.ends before readable whole =
    subst (λ after. Leaves space database before after []) (sym (append-nil before))
    (record { counts = counted_same space (seen before database) (seen before database) (λ q inside. refl); readable = readable })
script_leaves space database _ _ (IsOfCounts.adds key value given count adds_conflict script changes key_bytes value_bytes is others) before readable whole =
    let mutation = Set (pair_key space key value) (to_le_bytes w64 count) in
    let one = add_leaves space database before key value given count readable key_bytes value_bytes whole.0 is in
    leaves_then space database before mutation script (add_of key value ∷ []) changes one
    (script_leaves space database script changes others (before ++ mutation ∷ []) one.readable whole.1)
script_leaves space database _ _ (IsOfCounts.subtracts key value given left adds_conflict script changes key_bytes value_bytes is others) before readable whole =
    let mutation = lowered (pair_key space key value) left in
    let one = subtract_leaves space database before key value given left readable key_bytes value_bytes whole.0 is in
    leaves_then space database before mutation script (subtract_of key value ∷ []) changes one
    (script_leaves space database script changes others (before ++ mutation ∷ []) one.readable whole.1)
script_leaves space database _ _ (IsOfCounts.stays key value given script changes key_bytes value_bytes is others) before readable whole =
    let later = script_leaves space database script changes others before readable whole.1 in
    record {
      counts = counted_then space (seen before database) (seen before database) (seen (before ++ written script) database)
          (subtract_of key value ∷ []) changes (stay_counts space database before key value given key_bytes value_bytes whole.0 is) later.counts;
      readable = later.readable;
    }
script_leaves space database _ _ (IsOfCounts.does (Wrote mutation adds_conflict) script changes alone others) before readable whole =
    let one = other_leaves space database before mutation readable alone in
    leaves_then space database before mutation script [] changes one
    (script_leaves space database script changes others (before ++ mutation ∷ []) one.readable whole)
script_leaves space database _ _ (IsOfCounts.does (HasRead read given) script changes alone others) before readable whole =
    script_leaves space database script changes others before readable whole.1
script_leaves space database _ _ (IsOfCounts.does (Granted other number from) script changes alone others) before readable whole =
    script_leaves space database script changes others before readable whole

-- a versionstamp that is filled in makes no difference to a key of the subspace
lowered_filled : (stamp : List ℕ) (key : List ℕ) (left : ℕ) → filled stamp (lowered key left) ≡ lowered key left
lowered_filled stamp key left = by (left == 0)
  where
    by : (none : Bool) → filled stamp (cond none (Clear key) (Set key (to_le_bytes w64 left))) ≡ cond none (Clear key) (Set key (to_le_bytes w64 left))
    by true = refl
    by false = refl

filled_same : (space : List ℕ) (version : ℕ) (q : List ℕ) → is_inside space q ≡ true → (script : Script) (changes : List Change)
    → IsOfCounts space script changes → (old : Option (List ℕ))
    → at_keys (all_filled (stamp_of version) (written script)) q old ≡ at_keys (written script) q old
filled_same space version q inside _ _ IsOfCounts.ends old = refl
filled_same space version q inside _ _ (IsOfCounts.adds key value given count adds_conflict script changes key_bytes value_bytes is others) old =
    filled_same space version q inside script changes others (at_key (Set (pair_key space key value) (to_le_bytes w64 count)) q old)
filled_same space version q inside _ _ (IsOfCounts.subtracts key value given left adds_conflict script changes key_bytes value_bytes is others) old =
    ap (λ (mutation : Mutation). at_keys (all_filled (stamp_of version) (written script)) q (at_key mutation q old))
    (lowered_filled (stamp_of version) (pair_key space key value) left)
    ∙ filled_same space version q inside script changes others (at_key (lowered (pair_key space key value) left) q old)
filled_same space version q inside _ _ (IsOfCounts.stays key value given script changes key_bytes value_bytes is others) old =
    filled_same space version q inside script changes others old
filled_same space version q inside _ _ (IsOfCounts.does (Wrote mutation adds_conflict) script changes alone others) old =
    ap (at_keys (all_filled (stamp_of version) (written script)) q)
    (filled_unmodified version mutation q old (alone.unwritten q inside) (alone.readable q inside)
    ∙ sym (unmodified mutation q old (alone.unwritten q inside)))
    ∙ filled_same space version q inside script changes others (at_key mutation q old)
filled_same space version q inside _ _ (IsOfCounts.does (HasRead read given) script changes alone others) old =
    filled_same space version q inside script changes others old
filled_same space version q inside _ _ (IsOfCounts.does (Granted other number from) script changes alone others) old =
    filled_same space version q inside script changes others old

-- ---- commits

commit_counted : (space : List ℕ) (database : Database) (commit : Commit) (changes : List Change) → IsOfCounts space commit.script changes
    → DidItsScript commit → RunsWhole database commit.script → AreCounted space database (do_all commit.mutations database) changes
commit_counted space database commit changes of_counts did whole key value key_bytes value_bytes =
    ap count_at (same (pair_key space key value) (pair_inside space key value))
    ∙ leaves.counts key value key_bytes value_bytes
    ∙ ap (λ found. option_map (counted changes key value) (count_at found)) (get-seen [] database (pair_key space key value))
  where
    writes : List Mutation
    writes = written commit.script

    leaves : Leaves space database [] writes changes
    leaves = script_leaves space database commit.script changes of_counts [] (λ q inside. refl) whole

    same : (q : List ℕ) → is_inside space q ≡ true → finite.get (do_all commit.mutations database) q ≡ finite.get (seen writes database) q
    same q inside =
        ap (λ mutations. finite.get (do_all mutations database) q) did.is
        ∙ get-do_all (all_filled (stamp_of did.version) writes) database q
        ∙ filled_same space did.version q inside commit.script changes of_counts (finite.get database q)
        ∙ sym (get-do_all writes database q)
        ∙ sym (get-seen writes database q ∙ ap (λ hidden. cond (not hidden) (finite.get (do_all writes database) q) None) (leaves.readable q inside))

after_counted : (space : List ℕ) (commits : List Commit) (changes : List Change) → AreOfCounts space commits changes → (database : Database)
    → AllByRecursion DidItsScript commits → RunWhole database commits → AreCounted space database (after_commits commits database) changes
after_counted space _ _ AreOfCounts.end database did whole = counted_same space database database (λ q inside. refl)
after_counted space _ _ (AreOfCounts.one commit commits changes more first others) database did whole =
    let after = do_all commit.mutations database in
    counted_then space database after (after_commits commits after) changes more
    (commit_counted space database commit changes first did.0 whole.0) (after_counted space commits more others after did.1 whole.1)

pub counts_follow : CountsFollow
counts_follow space database commits changes of_counts did whole = after_counted space commits changes of_counts database did whole

pub legal_counts_follow : LegalCountsFollow
legal_counts_follow history space version count changes legal of_counts did none =
    subst (λ database. AreCounted space (at history version) database changes) (sym (at_later history version count))
    (counts_follow space (at history version) (commits_from version count history) changes of_counts did
    (ran_whole count (take version history) (drop version history) (at history version) (legal_behind version [] history finite.empty legal.legal) none))

pub runs_counts_follow : RunsCountsFollow
runs_counts_follow pairs arguments order run space version count changes small few is past of_counts none =
    let history = run.world.setting.history in
    let begins = holds (begun pairs arguments) (scripts_begin pairs arguments) in
    let after = run_keeps HasScripts IsHeld law_kept order (start pairs arguments) run begins is in
    legal_counts_follow history space version count changes (runs_legal pairs arguments order run small few is) of_counts
    (all_did history version count after.there.grown past) none
