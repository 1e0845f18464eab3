-- One mutation more: levels that follow it are those of the list with the mutation at its end.
use Rattle.std.proofs.Common.{◌≡◌, ℕ, Bool, true, false, cond, not, ◌&&◌, ◌||◌, List, [], ◌∷◌, ◌++◌, Some, None, refl, sym, ap, subst, ◌∙◌, true≢false, bytes_eq}
use Rattle.std.proofs.Math.Bool.{and-false, or-false}
use Rattle.std.proofs.lemmas.List.{append-nil}
use Rattle.std.proofs.lemmas.Map.Lookups.{exact_bytes}
use Rattle.std.proofs.lemmas.Map.Text.{is_eq-slice_cmp}
use Rattle.std.proofs.lemmas.Map.Views.{tells_apart}
use Rattle.std.specs.BTreeMap.{is_at}
use Rattle.std.specs.Cmp.{eq_by_cmp_equiv}
use Rattle.std.specs.Cmp.Lexicographic.{nat_list_cmp_total}
use Rattle.key_bytes.specs.declared.range.KeyRange.{KeyRange}
use Rattle.key_bytes.specs.Keys.{key_cmp, within, after}
use Rattle.model_database.specs.declared.AtomicOp.{AtomicOp}
use Rattle.model_database.specs.declared.AtomicOp.TheVariants as atomic
use Rattle.model_database.specs.Atomics.{is_versionstamped}
use Rattle.model_database.specs.Databases.{Mutation, Set, Clear, ClearRange, Atomic}
use Rattle.model_database.specs.States.{KeyState, Unmodified, Decided, after_atomic, state_after, covers, unreadable_by, unreadable}
use Rattle.model_database.proofs.States.{states_after-append, covers-unreadable-append}
use Rattle.range_map.specs.Boundaries.{Boundaries, held, is_boundary, changed}
use Rattle.range_map.proofs.Bounded.{boundary_changed, held-changed_one}
use Rattle.range_map.proofs.Held.{IsRising, held-changed}
use Rattle.write_map.specs.declared.level.Level.{Level}
use Rattle.write_map.specs.declared.level.State.{State}
use Rattle.write_map.specs.Pending.{IsOn, is_single_state}
use Rattle.write_map.specs.Levels.{state_of, with_state, cleared, hidden, AreSingle, AreLevels}
use Rattle.write_map.proofs.Splits.{IsSplit}

-- the levels follow a mutation
pub record IsStep (mutation : Mutation) (old new : Boundaries Level) : Type 0 where
  pub base : new.base ≡ old.base
  pub states : (key : List ℕ) → state_of (held new key).state ≡ state_after mutation key (state_of (held old key).state)
  pub readable : (key : List ℕ) → (held new key).is_unreadable ≡ ((held old key).is_unreadable || covers (unreadable_by mutation) key)
  pub single : AreSingle new

pub levels_added : (mutations : List Mutation) (mutation : Mutation) (old new : Boundaries Level) → AreLevels mutations old
    → IsStep mutation old new → AreLevels (mutations ++ mutation ∷ []) new
levels_added mutations mutation old new are step = record {
  base = step.base ∙ are.base;
  agree = λ key. record {
    state =
        states_after-append mutations (mutation ∷ []) key Unmodified
        ∙ ap (state_after mutation key) (are.agree key).state
        ∙ sym (step.states key);
    readable =
        covers-unreadable-append mutations (mutation ∷ []) key
        ∙ ap (λ ranges. covers (unreadable mutations) key || covers ranges key) (append-nil (unreadable_by mutation))
        ∙ ap (λ b. b || covers (unreadable_by mutation) key) (are.agree key).readable
        ∙ sym (step.readable key);
  };
  single = step.single;
}

-- ---- a mutation of one key

-- two keys have the same text where they compare as equal
text_same : (k key own : List ℕ) → own ≡ key → bytes_eq k own ≡ is_at (key_cmp key) k
text_same k key own same =
    ap (bytes_eq k) same ∙ sym (is_eq-slice_cmp k key) ∙ (eq_by_cmp_equiv nat_list_cmp_total).symm k key

-- it leaves the state of each other key
others_same : (key k : List ℕ) (mutation : Mutation) (state : KeyState) → IsOn key mutation → is_at (key_cmp key) k ≡ false
    → state_after mutation k state ≡ state
others_same key k (Set own value) state on other =
    ap (λ t. cond t (Decided (Some value)) state) (text_same k key own on ∙ other)
others_same key k (Clear own) state on other = ap (λ t. cond t (Decided None) state) (text_same k key own on ∙ other)
others_same key k (ClearRange begin end) state on other = absurd on
others_same key k (Atomic op own operand) state on other =
    ap (λ t. cond (t && not (is_versionstamped op)) (after_atomic op operand state) state) (text_same k key own on.0 ∙ other)

-- it makes no key unreadable
on_readable : (key : List ℕ) (mutation : Mutation) → IsOn key mutation → unreadable_by mutation ≡ []
on_readable key (Set own value) on = refl
on_readable key (Clear own) on = refl
on_readable key (ClearRange begin end) on = absurd on
on_readable key (Atomic op own operand) on = plain op on.1
  where
    plain : (op : AtomicOp) → is_versionstamped op ≡ false → unreadable_by (Atomic op own operand) ≡ []
    plain atomic.SetVersionstampedKey is = absurd (true≢false is)
    plain atomic.SetVersionstampedValue is = absurd (true≢false is)
    plain atomic.OldStampedKey is = absurd (true≢false is)
    plain atomic.OldStampedValue is = absurd (true≢false is)
    plain _ is = refl

-- an atomic operation without a versionstamp makes of the state of its key what it makes
pub atomic_here : (op : AtomicOp) (key operand : List ℕ) (state : KeyState) → is_versionstamped op ≡ false
    → after_atomic op operand state ≡ state_after (Atomic op key operand) key state
atomic_here op key operand state plain =
    let itself : bytes_eq key key ≡ true = text_same key key key refl ∙ (eq_by_cmp_equiv nat_list_cmp_total).refl key in
    λ i. cond (sym itself i && not (sym plain i)) (after_atomic op operand state) state

module _ (key : List ℕ) (mutation : Mutation) (state : State) (old split : Boundaries Level) (on : IsOn key mutation)
    (gives : state_of state ≡ state_after mutation key (state_of (held old key).state)) (single : AreSingle old)
    (is : IsSplit key (after key) old split) (rising : IsRising split.entries) where
  abbrev made : Level
  made = with_state state (held split key)

  abbrev put : Boundaries Level
  put = changed (is_at (key_cmp key)) (λ _. made) split

  held-put : (k : List ℕ) → held put k ≡ cond (is_at (key_cmp key) k) made (held split k)
  held-put k = held-changed_one key (λ _. made) split k rising is.begins is.ends

  boundary_put : (q : List ℕ) → is_boundary q split ≡ true → is_boundary q put ≡ true
  boundary_put q there = boundary_changed q (is_at (key_cmp key)) (λ _. made) split ∙ there

  pub step_put : IsStep mutation old put
  step_put = record {
    base = is.base;
    states = λ k. ap (λ level. state_of level.state) (held-put k) ∙ states_by k (is_at (key_cmp key) k) refl;
    readable =
        λ k. ap (λ level. level.is_unreadable) (held-put k)
        ∙ readable_by k (is_at (key_cmp key) k) refl
        ∙ sym (or-false (held old k).is_unreadable)
        ∙ ap (λ ranges. (held old k).is_unreadable || covers ranges k) (sym (on_readable key mutation on));
    single =
        λ k alone. single_by k (is_at (key_cmp key) k) refl
        (sym (ap (λ level. is_single_state (state_of level.state)) (held-put k)) ∙ alone);
  }
    where
      states_by : (k : List ℕ) (t : Bool) → is_at (key_cmp key) k ≡ t
          → state_of (cond t made (held split k)).state ≡ state_after mutation k (state_of (held old k).state)
      states_by k true same =
          gives ∙ ap (λ k. state_after mutation k (state_of (held old k).state)) (tells_apart exact_bytes key k same)
      states_by k false other =
          ap (λ level. state_of level.state) (is.same k)
          ∙ sym (others_same key k mutation (state_of (held old k).state) on other)

      readable_by : (k : List ℕ) (t : Bool) → is_at (key_cmp key) k ≡ t
          → (cond t made (held split k)).is_unreadable ≡ (held old k).is_unreadable
      readable_by k true same =
          ap (λ level. level.is_unreadable) (is.same key) ∙ ap (λ k. (held old k).is_unreadable) (tells_apart exact_bytes key k same)
      readable_by k false other = ap (λ level. level.is_unreadable) (is.same k)

      single_by : (k : List ℕ) (t : Bool) → is_at (key_cmp key) k ≡ t
          → is_single_state (state_of (cond t made (held split k)).state) ≡ true → (is_boundary k put ≡ true) × (is_boundary (after k) put ≡ true)
      single_by k true same alone =
          let P : List ℕ → Type 0 = λ k. (is_boundary k put ≡ true) × (is_boundary (after k) put ≡ true) in
          subst P (tells_apart exact_bytes key k same) (boundary_put key is.begins, boundary_put (after key) is.ends)
      single_by k false other alone =
          let boundaries = single k (sym (ap (λ level. is_single_state (state_of level.state)) (is.same k)) ∙ alone) in
          (boundary_put k (is.kept k boundaries.0), boundary_put (after k) (is.kept (after k) boundaries.1))

-- ---- a mutation of a range

-- a change of a level does what the mutation does to the keys of a range, and makes no state one of one key alone
pub record Follows (begin end : List ℕ) (mutation : Mutation) (f : Level → Level) : Type 0 where
  pub states : (key : List ℕ) (level : Level)
      → state_of (cond (within begin end key) (f level) level).state ≡ state_after mutation key (state_of level.state)
  pub readable : (key : List ℕ) (level : Level)
      → (cond (within begin end key) (f level) level).is_unreadable ≡ (level.is_unreadable || covers (unreadable_by mutation) key)
  pub single : (level : Level) → is_single_state (state_of (f level).state) ≡ true → is_single_state (state_of level.state) ≡ true

module _ (begin end : List ℕ) (mutation : Mutation) (f : Level → Level) (old split : Boundaries Level) (follows : Follows begin end mutation f)
    (single : AreSingle old) (is : IsSplit begin end old split) (rising : IsRising split.entries) where
  abbrev changed_range : Boundaries Level
  changed_range = changed (within begin end) f split

  held-range : (k : List ℕ) → held changed_range k ≡ cond (within begin end k) (f (held old k)) (held old k)
  held-range k =
      held-changed begin end f split k rising is.begins is.ends
      ∙ ap (λ level. cond (within begin end k) (f level) level) (is.same k)

  boundary_range : (q : List ℕ) → is_boundary q old ≡ true → is_boundary q changed_range ≡ true
  boundary_range q there = boundary_changed q (within begin end) f split ∙ is.kept q there

  pub step_range : IsStep mutation old changed_range
  step_range = record {
    base = is.base;
    states = λ k. ap (λ level. state_of level.state) (held-range k) ∙ follows.states k (held old k);
    readable = λ k. ap (λ level. level.is_unreadable) (held-range k) ∙ follows.readable k (held old k);
    single = λ k alone.
        let boundaries = single k (single_by k (within begin end k)
        (sym (ap (λ level. is_single_state (state_of level.state)) (held-range k)) ∙ alone)) in
        (boundary_range k boundaries.0, boundary_range (after k) boundaries.1);
  }
    where
      single_by : (k : List ℕ) (t : Bool) → is_single_state (state_of (cond t (f (held old k)) (held old k)).state) ≡ true
          → is_single_state (state_of (held old k).state) ≡ true
      single_by k true alone = follows.single (held old k) alone
      single_by k false alone = alone

-- a cleared range
pub follows_clear : (begin end : List ℕ) → Follows begin end (ClearRange begin end) cleared
follows_clear begin end = record {
  states = λ key level. elim (within begin end key)
      as (λ t. state_of (cond t (cleared level) level).state ≡ cond t (Decided None) (state_of level.state)) [ true ↦ refl | false ↦ refl ];
  readable = λ key level. elim (within begin end key)
      as (λ t. (cond t (cleared level) level).is_unreadable ≡ (level.is_unreadable || false)) [
        | true ↦ sym (or-false level.is_unreadable)
        | false ↦ sym (or-false level.is_unreadable)
      ];
  single = λ level alone. absurd (true≢false (sym alone));
}

-- what makes the keys of one range unreadable leaves each state
hidden_state : (mutation : Mutation) (range : KeyRange) (key : List ℕ) (state : KeyState) → unreadable_by mutation ≡ range ∷ []
    → state_after mutation key state ≡ state
hidden_state (Set own value) range key state is = absurd cc
hidden_state (Clear own) range key state is = absurd cc
hidden_state (ClearRange begin end) range key state is = absurd cc
hidden_state (Atomic op own operand) range key state is = left_out op is
  where
    left_out : (op : AtomicOp) → unreadable_by (Atomic op own operand) ≡ range ∷ []
        → cond (bytes_eq key own && not (is_versionstamped op)) (after_atomic op operand state) state ≡ state
    left_out atomic.SetVersionstampedKey is =
        ap (λ t. cond t (after_atomic atomic.SetVersionstampedKey operand state) state) (and-false (bytes_eq key own))
    left_out atomic.SetVersionstampedValue is =
        ap (λ t. cond t (after_atomic atomic.SetVersionstampedValue operand state) state) (and-false (bytes_eq key own))
    left_out atomic.OldStampedKey is =
        ap (λ t. cond t (after_atomic atomic.OldStampedKey operand state) state) (and-false (bytes_eq key own))
    left_out atomic.OldStampedValue is =
        ap (λ t. cond t (after_atomic atomic.OldStampedValue operand state) state) (and-false (bytes_eq key own))
    left_out _ is = absurd cc

-- a range of keys that are unreadable
pub follows_hide : (range : KeyRange) (mutation : Mutation) → unreadable_by mutation ≡ range ∷ []
    → Follows range.begin range.end mutation hidden
follows_hide range mutation is = record {
  states = λ key level.
      state_same (within range.begin range.end key) level ∙ sym (hidden_state mutation range key (state_of level.state) is);
  readable = λ key level.
      flag_same (within range.begin range.end key) level level.is_unreadable refl
      ∙ ap (λ ranges. level.is_unreadable || covers ranges key) (sym is);
  single = λ level alone. alone;
}
  where
    state_same : (t : Bool) (level : Level) → state_of (cond t (hidden level) level).state ≡ state_of level.state
    state_same true level = refl
    state_same false level = refl

    flag_same : (t : Bool) (level : Level) (b : Bool) → level.is_unreadable ≡ b
        → (cond t (hidden level) level).is_unreadable ≡ (level.is_unreadable || (t || false))
    flag_same true level true flag = sym (ap (λ b. b || true) flag)
    flag_same true level false flag = sym (ap (λ b. b || true) flag)
    flag_same false level b flag = sym (or-false level.is_unreadable)
