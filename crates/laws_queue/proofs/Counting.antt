-- Calls of add, subtract and values leave scripts of counts.
use Rattle.std.proofs.Common.{◌≡◌, ℕ, zero, suc, Bool, true, false, cond, List, [], ◌∷◌, ◌++◌, Option, Some, None, Result, Ok, Err, refl, sym, subst}
use Rattle.std.specs.Prelude.{◌==◌}
use Rattle.std.specs.Int.{w64, to_le_bytes}
use Rattle.std.specs.FinMap as finite
use Rattle.std.proofs.lemmas.List.{append-nil}
use Rattle.key_bytes.specs.Keys.{IsByteString}
use Rattle.model_database.specs.Databases.{Set, Clear}
use Rattle.model_database.specs.Histories.{Script, Wrote, HasRead, Setting}
use Rattle.model_database.specs.Reads.{Get, GetKeyRange, ValueIs, answer}
use Rattle.model_database.specs.Transactions.{Transaction, view}
use Rattle.model_recipes.specs.declared.Count.{Count}
use Rattle.model_recipes.specs.declared.fault.RecipeFault.{RecipeFault}
use Rattle.model_recipes.specs.Turns.{Call, ending, space_begin, space_end, turned_by, replying, writing}
use Rattle.model_recipes.specs.Multimaps.{pair_key, count_at, one_more, sets_count, add_call, there, lowers, subtract_call, key_space, counts_in, values_call}
use Rattle.laws_queue.specs.Scripts.{IsLetThrough, script_after}
use Rattle.laws_queue.specs.Counts.{Change, add_of, subtract_of, change_by, IsOfCounts, CountCallsGoOn}
use Rattle.laws_queue.proofs.Calls.{read_alone, read_and_write, adds_behind}

-- one script behind another
then : (space : List ℕ) (script : Script) (changes : List Change) → IsOfCounts space script changes
    → (more : Script) (more_changes : List Change) → IsOfCounts space more more_changes
    → IsOfCounts space (script ++ more) (changes ++ more_changes)
then space _ _ IsOfCounts.ends more more_changes behind = behind
then space _ _ (IsOfCounts.adds key value given count adds_conflict script changes key_bytes value_bytes is others) more more_changes behind =
    IsOfCounts.adds key value given count adds_conflict (script ++ more) (changes ++ more_changes) key_bytes value_bytes is
    (then space script changes others more more_changes behind)
then space _ _ (IsOfCounts.subtracts key value given left adds_conflict script changes key_bytes value_bytes is others) more more_changes behind =
    IsOfCounts.subtracts key value given left adds_conflict (script ++ more) (changes ++ more_changes) key_bytes value_bytes is
    (then space script changes others more more_changes behind)
then space _ _ (IsOfCounts.stays key value given script changes key_bytes value_bytes is others) more more_changes behind =
    IsOfCounts.stays key value given (script ++ more) (changes ++ more_changes) key_bytes value_bytes is
    (then space script changes others more more_changes behind)
then space _ _ (IsOfCounts.does entry script changes alone others) more more_changes behind =
    IsOfCounts.does entry (script ++ more) (changes ++ more_changes) alone (then space script changes others more more_changes behind)

module _ (setting : Setting) (space : List ℕ) (t : Transaction) (changes : List Change) (before : IsOfCounts space t.script changes) where
  changed_more : (after more : Script) (more_changes : List Change) → after ≡ t.script ++ more → IsOfCounts space more more_changes
      → IsOfCounts space after (changes ++ more_changes)
  changed_more after more more_changes is behind =
      subst (λ script. IsOfCounts space script (changes ++ more_changes)) (sym is) (then space t.script changes before more more_changes behind)

  unchanged : (after more : Script) → after ≡ t.script ++ more → IsOfCounts space more [] → IsOfCounts space after changes
  unchanged after more is behind = subst (IsOfCounts space after) (append-nil changes) (changed_more after more [] is behind)

  -- ---- add

  abbrev adding : (key value : List ℕ) → Result ℕ RecipeFault → Call (Unit {0})
  adding key value found = record { read = Get (pair_key space key value); turn = turned_by (sets_count (pair_key space key value)) found }

  add_goes_on : (key value : List ℕ) → IsByteString key → IsByteString value
      → IsLetThrough setting (add_call space key value (view setting t)) t
      → IsOfCounts space (script_after setting (add_call space key value (view setting t)) t)
      (changes ++ change_by (add_of key value) (ending (add_call space key value (view setting t)).turn))
  unfolding add_call answer
  add_goes_on key value key_bytes value_bytes none = by (one_more at (count_at given)) refl none
    where
      at : List ℕ
      at = pair_key space key value

      given : Option (List ℕ)
      given = finite.get (view setting t) at

      by : (found : Result ℕ RecipeFault) → one_more at (count_at given) ≡ found → IsLetThrough setting (adding key value found) t
          → IsOfCounts space (script_after setting (adding key value found) t) (changes ++ change_by (add_of key value) (ending (adding key value found).turn))
      by (Err fault) is none =
          changed_more _ (HasRead (Get at) (ValueIs given) ∷ []) [] (read_alone setting t (Get at) none) (IsOfCounts.does _ [] [] tt IsOfCounts.ends)
      by (Ok count) is none =
          changed_more _ (HasRead (Get at) (ValueIs given) ∷ Wrote (Set at (to_le_bytes w64 count)) (adds_behind setting t (Get at)) ∷ [])
          (add_of key value ∷ []) (read_and_write setting t (Get at) (Set at (to_le_bytes w64 count)) none)
          (IsOfCounts.adds key value given count _ [] [] key_bytes value_bytes is IsOfCounts.ends)

  -- ---- subtract

  abbrev subtracting : (key value : List ℕ) → Result ℕ RecipeFault → Call (Unit {0})
  subtracting key value found = record { read = Get (pair_key space key value); turn = turned_by (lowers (pair_key space key value)) found }

  subtract_goes_on : (key value : List ℕ) → IsByteString key → IsByteString value
      → IsLetThrough setting (subtract_call space key value (view setting t)) t
      → IsOfCounts space (script_after setting (subtract_call space key value (view setting t)) t)
      (changes ++ change_by (subtract_of key value) (ending (subtract_call space key value (view setting t)).turn))
  unfolding subtract_call answer
  subtract_goes_on key value key_bytes value_bytes none = by (count_at given) refl none
    where
      at : List ℕ
      at = pair_key space key value

      given : Option (List ℕ)
      given = finite.get (view setting t) at

      -- what is written, by whether one is left
      writes : (left : ℕ) (is_none : Bool) → (left == 0) ≡ is_none → count_at given ≡ Some (suc left)
          → IsLetThrough setting (record { read = Get at; turn = Ok (cond is_none (writing (Clear at) tt) (sets_count at left)) }) t
          → IsOfCounts space (script_after setting (record { read = Get at; turn = Ok (cond is_none (writing (Clear at) tt) (sets_count at left)) }) t)
          (changes ++ subtract_of key value ∷ [])
      writes left true test is none =
          changed_more _ (HasRead (Get at) (ValueIs given) ∷ Wrote (Clear at) (adds_behind setting t (Get at)) ∷ []) (subtract_of key value ∷ [])
          (read_and_write setting t (Get at) (Clear at) none)
          (subst (λ (b : Bool). IsOfCounts space (HasRead (Get at) (ValueIs given) ∷ Wrote (cond b (Clear at) (Set at (to_le_bytes w64 left)))
          (adds_behind setting t (Get at)) ∷ []) (subtract_of key value ∷ [])) test
          (IsOfCounts.subtracts key value given left _ [] [] key_bytes value_bytes is IsOfCounts.ends))
      writes left false test is none =
          changed_more _ (HasRead (Get at) (ValueIs given) ∷ Wrote (Set at (to_le_bytes w64 left)) (adds_behind setting t (Get at)) ∷ [])
          (subtract_of key value ∷ []) (read_and_write setting t (Get at) (Set at (to_le_bytes w64 left)) none)
          (subst (λ (b : Bool). IsOfCounts space (HasRead (Get at) (ValueIs given) ∷ Wrote (cond b (Clear at) (Set at (to_le_bytes w64 left)))
          (adds_behind setting t (Get at)) ∷ []) (subtract_of key value ∷ [])) test
          (IsOfCounts.subtracts key value given left _ [] [] key_bytes value_bytes is IsOfCounts.ends))

      replies : (left : ℕ) (is_none : Bool)
          → ending (Ok (cond is_none (writing (Clear at) tt) (sets_count at left))) ≡ Ok tt
      replies left true = refl
      replies left false = refl

      by : (had : Option ℕ) → count_at given ≡ had → IsLetThrough setting (subtracting key value (there at had)) t
          → IsOfCounts space (script_after setting (subtracting key value (there at had)) t)
          (changes ++ change_by (subtract_of key value) (ending (subtracting key value (there at had)).turn))
      by None is none =
          changed_more _ (HasRead (Get at) (ValueIs given) ∷ []) [] (read_alone setting t (Get at) none) (IsOfCounts.does _ [] [] tt IsOfCounts.ends)
      by (Some zero) is none =
          changed_more _ (HasRead (Get at) (ValueIs given) ∷ []) (subtract_of key value ∷ []) (read_alone setting t (Get at) none)
          (IsOfCounts.stays key value given [] [] key_bytes value_bytes is IsOfCounts.ends)
      by (Some (suc left)) is none =
          subst (λ (end : Result (Unit {0}) RecipeFault). IsOfCounts space (script_after setting (subtracting key value (Ok (suc left))) t)
          (changes ++ change_by (subtract_of key value) end)) (sym (replies left (left == 0))) (writes left (left == 0) refl is none)

  -- ---- values

  values_go_on : (key : List ℕ) → IsLetThrough setting (values_call space key (view setting t)) t
      → IsOfCounts space (script_after setting (values_call space key (view setting t)) t) changes
  unfolding values_call
  values_go_on key none = by (counts_in front _) none
    where
      front : List ℕ
      front = key_space space key

      by : (found : Result (List Count) RecipeFault)
          → IsLetThrough setting (record { read = GetKeyRange (space_begin front) (space_end front) 0 false; turn = turned_by (λ counts. replying counts) found }) t
          → IsOfCounts space (script_after setting (record { read = GetKeyRange (space_begin front) (space_end front) 0 false; turn = turned_by (λ counts. replying counts) found }) t) changes
      by (Ok counts) none =
          unchanged _ _ (read_alone setting t (GetKeyRange (space_begin front) (space_end front) 0 false) none) (IsOfCounts.does _ [] [] tt IsOfCounts.ends)
      by (Err fault) none =
          unchanged _ _ (read_alone setting t (GetKeyRange (space_begin front) (space_end front) 0 false) none) (IsOfCounts.does _ [] [] tt IsOfCounts.ends)

pub count_calls_go_on : CountCallsGoOn
count_calls_go_on setting space t changes before = record {
  add = add_goes_on setting space t changes before;
  subtract = subtract_goes_on setting space t changes before;
  values = values_go_on setting space t changes before;
  other = λ entry alone. unchanged setting space t changes before (t.script ++ entry ∷ []) (entry ∷ []) refl
      (IsOfCounts.does entry [] [] alone IsOfCounts.ends);
}
