-- One boundary changes: its list of operations grows, or it gets another state.
use Rattle.std.proofs.Common.{◌≡◌, ℕ, Bool, true, false, cond, List, [], ◌∷◌, Option, None, Some, is_some, refl, sym, ap, subst, ◌∙◌}
use Rattle.std.proofs.lemmas.Bool.{false≢true}
use Rattle.std.specs.BTreeMap.{is_at}
use Rattle.std.specs.List.Sorted.{IsStrictlySortedBy}
use Rattle.std.specs.Map.{lookup}
use Rattle.std.specs.Option.{option_map}
use Rattle.key_bytes.specs.Keys.{key_cmp, after}
use Rattle.model_database.specs.declared.AtomicOp.{AtomicOp}
use Rattle.model_database.specs.States.{after_atomic}
use Rattle.range_map.specs.Boundaries.{Boundaries, held, boundaries_of, is_boundary, changed, changed_entries}
use Rattle.range_map.proofs.Bounded.{changed_back, changed_twice}
use Rattle.range_map.proofs.Held.{IsRising, held-at}
use Rattle.range_map.proofs.Lined.{keys_of-changed}
use Rattle.write_map.specs.declared.level.Level.{Level}
use Rattle.write_map.specs.declared.level.State.{State}
use Rattle.write_map.specs.Pending.{is_single_state}
use Rattle.write_map.specs.Levels.{hidden, state_of, with_state, AreSingle, IsEdited}
use Rattle.write_map.proofs.Splits.{IsSplit}

-- what was taken out of a boundary is put back, after it changed
module _ (key : List ℕ) (old between new : Boundaries Level) (bare taken level : Level)
    (out : between ≡ changed (is_at (key_cmp key)) (λ _. bare) old) (was : taken ≡ held old key)
    (back : new ≡ changed (is_at (key_cmp key)) (λ _. level) between) where
  replaced : new ≡ changed (is_at (key_cmp key)) (λ _. level) old
  replaced =
      back ∙ ap (changed (is_at (key_cmp key)) (λ _. level)) out ∙ changed_twice (is_at (key_cmp key)) bare level old

  pub edited : (op : AtomicOp) (operand : List ℕ) → state_of level.state ≡ after_atomic op operand (state_of taken.state)
      → level.is_unreadable ≡ taken.is_unreadable → IsEdited key op operand old new
  edited op operand made readable = record {
    state = level.state;
    made = made ∙ ap (λ level. after_atomic op operand (state_of level.state)) was;
    levels =
        replaced
        ∙ ap (λ (flag : Bool). changed (is_at (key_cmp key)) (λ _. record { state = level.state; is_unreadable = flag }) old)
        (readable ∙ ap (λ level. level.is_unreadable) was);
  }

  pub unedited : IsRising old.entries → is_boundary key old ≡ true → level ≡ taken → new ≡ old
  unedited rising there same =
      replaced ∙ ap (λ level. changed (is_at (key_cmp key)) (λ _. level) old) (same ∙ was) ∙ changed_back key old rising there

-- levels whose state at a key is of this key alone need no new boundary
pub is_split_already : (key : List ℕ) (levels : Boundaries Level) → AreSingle levels
    → is_single_state (state_of (held levels key).state) ≡ true → IsSplit key (after key) levels levels
is_split_already key levels single alone =
    let boundaries = single key alone in
    record { base = refl; same = λ k. refl; kept = λ q there. there; begins = boundaries.0; ends = boundaries.1 }

-- ---- a boundary gets another state

module _ (key : List ℕ) where
  found_given : {X : Type 0} (x : X) (es : List (List ℕ × X))
      → lookup (is_at (key_cmp key)) (changed_entries (is_at (key_cmp key)) (λ _. x) es)
      ≡ option_map (λ _. x) (lookup (is_at (key_cmp key)) es)
  found_given x [] = refl
  found_given x (e ∷ es) = elim (is_at (key_cmp key) e.0)
      as (λ t. cond t (Some (cond t x e.1)) (lookup (is_at (key_cmp key)) (changed_entries (is_at (key_cmp key)) (λ _. x) es))
      ≡ option_map (λ _. x) (cond t (Some e.1) (lookup (is_at (key_cmp key)) es))) [ true ↦ refl | false ↦ found_given x es ]

  some_given : {X : Type 0} (x : X) (o : Option X) → is_some o ≡ true → option_map (λ _. x) o ≡ Some x
  some_given x None there = absurd (false≢true there)
  some_given x (Some y) there = refl

  -- what boundaries have may change, and the boundaries still rise that rose before
  pub rising_before : (x : Level) (old new : Boundaries Level) → new ≡ changed (is_at (key_cmp key)) (λ _. x) old → IsRising new.entries
      → IsRising old.entries
  rising_before x old new is rising =
      subst (IsStrictlySortedBy key_cmp) (ap boundaries_of is ∙ keys_of-changed (is_at (key_cmp key)) (λ _. x) old.entries) rising

  -- a boundary has what it is given
  held_given : (level : Level) (old new : Boundaries Level) → new ≡ changed (is_at (key_cmp key)) (λ _. level) old → IsRising new.entries
      → is_boundary key old ≡ true → held new key ≡ level
  held_given level old new is rising there =
      ap (λ levels. held levels key) is
      ∙ held-at old.base level (changed_entries (is_at (key_cmp key)) (λ _. level) old.entries) key
      (subst (λ levels. IsRising levels.entries) is rising)
      (found_given level old.entries ∙ some_given level (lookup (is_at (key_cmp key)) old.entries) there)

  -- a boundary is made unreadable again, by what it had in between
  pub hidden_back : (old back new : Boundaries Level) (before taken last : Level) → back ≡ changed (is_at (key_cmp key)) (λ _. before) old
      → taken ≡ held old key → new ≡ changed (is_at (key_cmp key)) (λ _. last) back → last ≡ hidden taken
      → new ≡ changed (is_at (key_cmp key)) (λ _. hidden (held old key)) old
  hidden_back old back new before taken last out was back_in made =
      back_in
      ∙ ap (changed (is_at (key_cmp key)) (λ _. last)) out
      ∙ changed_twice (is_at (key_cmp key)) before last old
      ∙ ap (λ level. changed (is_at (key_cmp key)) (λ _. level) old) (made ∙ ap hidden was)

  -- an unreadable boundary that was given a state has the state, and is unreadable, once it is made so again
  pub hidden_again : (state : State) (old given new : Boundaries Level) (level before : Level) → IsRising given.entries
      → is_boundary key old ≡ true → level ≡ record { state = state; is_unreadable = false }
      → given ≡ changed (is_at (key_cmp key)) (λ _. level) old → before ≡ held old key → before.is_unreadable ≡ true
      → new ≡ changed (is_at (key_cmp key)) (λ _. hidden (held given key)) given
      → new ≡ changed (is_at (key_cmp key)) (λ _. with_state state (held old key)) old
  hidden_again state old given new level before rising there is first was hides second =
      second
      ∙ ap (changed (is_at (key_cmp key)) (λ _. hidden (held given key))) first
      ∙ changed_twice (is_at (key_cmp key)) level (hidden (held given key)) old
      ∙ ap (λ level. changed (is_at (key_cmp key)) (λ _. level) old)
      (ap hidden (held_given level old given first rising there ∙ is)
      ∙ ap (λ (flag : Bool). record { state = state; is_unreadable = flag }) (sym (sym (ap (λ level. level.is_unreadable) was) ∙ hides)))
