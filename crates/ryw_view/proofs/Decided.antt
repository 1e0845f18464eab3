-- Which keys mutations decide, and a walk over the segments of a range.
use Rattle.std.proofs.Common.{◌≡◌, ℕ, Bool, true, false, cond, not, ◌&&◌, ◌||◌, List, [], ◌∷◌, Option, Some, None, refl, sym, ap, ◌∙◌, true≢false, bytes_eq}
use Rattle.std.proofs.Math.Bool.{or-false}
use Rattle.std.proofs.lemmas.Bool.{and_parts, and_right, or_right, not-true}
use Rattle.std.proofs.lemmas.Map.Text.{is_eq-slice_cmp}
use Rattle.std.specs.Cmp.{eq_by_cmp_equiv}
use Rattle.std.specs.Cmp.Lexicographic.{nat_list_cmp_total}
use Rattle.std.specs.List.{list_any}
use Rattle.key_bytes.specs.declared.range.KeyRange.{KeyRange}
use Rattle.key_bytes.specs.Keys.{key_le, key_lt, within, after}
use Rattle.key_bytes.specs.Ranges.{meets}
use Rattle.key_bytes.proofs.Orders.{irreflexive, le_lt, lt_trans}
use Rattle.model_database.specs.declared.AtomicOp.{AtomicOp}
use Rattle.model_database.specs.Atomics.{is_versionstamped}
use Rattle.model_database.specs.Databases.{Mutation, Set, Clear, ClearRange, Atomic}
use Rattle.model_database.specs.Intervals.{decided_by, decided}
use Rattle.model_database.specs.States.{KeyState, Unmodified, Decided, Depends, after_atomic, state_after, states_after, state_under, covers, unreadable}
use Rattle.model_database.proofs.States.{or_assoc, covers-append}
use Rattle.range_map.proofs.Bounded.{within_one}
use Rattle.write_map.specs.Answers.{IsStateUnder}
use Rattle.write_map.specs.declared.state.KeyState.{KeyState as Shown}
use Rattle.write_map.specs.declared.state.KeyState.TheVariants as shown
use Rattle.ryw_view.specs.Segments.{is_hidden, is_open, AreAlikeUpTo}
use Rattle.ryw_view.proofs.Meetings.{common_meets, none_meets}

-- ---- decided keys

abbrev pub is_decided : KeyState → Bool
is_decided Unmodified = false
is_decided (Decided value) = true
is_decided (Depends mutations) = false

decided_by_test : (t : Bool) (value : Option (List ℕ)) (state : KeyState)
    → is_decided (cond t (Decided value) state) ≡ (is_decided state || (t || false))
decided_by_test true value state = sym (or_right (is_decided state) true refl)
decided_by_test false value state = sym (or-false (is_decided state))

one_key : (asked key : List ℕ) → bytes_eq asked key ≡ within key (after key) asked
one_key asked key =
    sym (is_eq-slice_cmp asked key) ∙ (eq_by_cmp_equiv nat_list_cmp_total).symm asked key ∙ sym (within_one key asked)

after_atomic_same : (op : AtomicOp) (operand : List ℕ) (state : KeyState) → is_decided (after_atomic op operand state) ≡ is_decided state
after_atomic_same op operand Unmodified = refl
after_atomic_same op operand (Decided value) = refl
after_atomic_same op operand (Depends mutations) = refl

decided_after : (mutation : Mutation) (asked : List ℕ) (state : KeyState)
    → is_decided (state_after mutation asked state) ≡ (is_decided state || covers (decided_by mutation) asked)
decided_after (Set key value) asked state =
    decided_by_test (bytes_eq asked key) (Some value) state ∙ ap (λ t. is_decided state || (t || false)) (one_key asked key)
decided_after (Clear key) asked state =
    decided_by_test (bytes_eq asked key) None state ∙ ap (λ t. is_decided state || (t || false)) (one_key asked key)
decided_after (ClearRange begin end) asked state = decided_by_test (within begin end asked) None state
decided_after (Atomic op key operand) asked state = same (bytes_eq asked key && not (is_versionstamped op)) ∙ sym (or-false (is_decided state))
  where
    same : (t : Bool) → is_decided (cond t (after_atomic op operand state) state) ≡ is_decided state
    same true = after_atomic_same op operand state
    same false = refl

decided_from : (mutations : List Mutation) (asked : List ℕ) (state : KeyState)
    → is_decided (states_after mutations asked state) ≡ (is_decided state || covers (decided mutations) asked)
decided_from [] asked state = sym (or-false (is_decided state))
decided_from (mutation ∷ mutations) asked state =
    decided_from mutations asked (state_after mutation asked state)
    ∙ ap (λ b. b || covers (decided mutations) asked) (decided_after mutation asked state)
    ∙ sym (or_assoc (is_decided state) (covers (decided_by mutation) asked) (covers (decided mutations) asked))
    ∙ ap (λ b. is_decided state || b) (sym (covers-append (decided_by mutation) (decided mutations) asked))

-- a key is decided exactly where a mutation sets or clears it; an atomic operation over such a one leaves it decided
pub decided_is : (mutations : List Mutation) (key : List ℕ) → is_decided (state_under mutations key) ≡ covers (decided mutations) key
decided_is mutations key = decided_from mutations key Unmodified

-- an answer says whether its key is unreadable
pub hidden_is : (mutations : List Mutation) (key : List ℕ) (answer : Shown) → IsStateUnder mutations key answer
    → is_hidden answer ≡ covers (unreadable mutations) key
hidden_is mutations key shown.Unmodified under = sym under.0
hidden_is mutations key (shown.Decided value) under = sym under.0
hidden_is mutations key (shown.Depends edits) under = sym under.0
hidden_is mutations key shown.Unreadable under = sym under

-- ---- a segment

-- of alike keys all are decided or none is
pub segment_open : (mutations : List Mutation) (from until : List ℕ) (b : Bool) → AreAlikeUpTo mutations from until
    → is_decided (state_under mutations from) ≡ b → (key : List ℕ)
    → (within from until key && not (covers (decided mutations) key)) ≡ (within from until key && not b)
segment_open mutations from until b alike is key = elim (within from until key)
    as (λ t. within from until key ≡ t → (t && not (covers (decided mutations) key)) ≡ (t && not b)) [
      | true ↦ λ inside.
          let parts = and_parts (key_le from key) (key_lt key until) inside in
          ap not (sym (decided_is mutations key) ∙ ap is_decided (sym (alike key parts.0 parts.1).states) ∙ is)
      | false ↦ λ _. refl
    ] refl

-- the answer of the first key of a segment says which of its keys are undecided
pub segment_is : (mutations : List Mutation) (from until : List ℕ) (answer : Shown) → AreAlikeUpTo mutations from until
    → IsStateUnder mutations from answer → is_hidden answer ≡ false → (key : List ℕ)
    → (within from until key && is_open answer) ≡ (within from until key && not (covers (decided mutations) key))
segment_is mutations from until shown.Unmodified alike under readable key =
    sym (segment_open mutations from until false alike (ap is_decided under.1) key)
segment_is mutations from until (shown.Decided value) alike under readable key =
    sym (segment_open mutations from until true alike (ap is_decided under.1) key)
segment_is mutations from until (shown.Depends edits) alike under readable key =
    sym (segment_open mutations from until false alike (ap is_decided under.1) key)
segment_is mutations from until shown.Unreadable alike under readable key = absurd (true≢false readable)

-- ---- a walk over the segments of a range

-- what lies from a first key up to a third, by a second between them
within_parts : (begin from until q : List ℕ) → key_le begin from ≡ true → key_lt from until ≡ true
    → within begin until q ≡ (within begin from q || within from until q)
within_parts begin from until q low high = elim (key_lt q from)
    as (λ t. key_lt q from ≡ t → (key_le begin q && key_lt q until) ≡ ((key_le begin q && t) || (not t && key_lt q until))) [
      | true ↦ λ below. ap (λ b. key_le begin q && b) (lt_trans q from until below high) ∙ sym (or-false (key_le begin q && true))
      | false ↦ λ above.
          let from_begin : key_lt q begin ≡ false = not_below q above in
          (λ i. not (from_begin i) && key_lt q until)
          ∙ ap (λ b. b || key_lt q until) (sym (and_right (key_le begin q) false refl))
    ] refl
  where
    not_below : (q : List ℕ) → key_lt q from ≡ false → key_lt q begin ≡ false
    not_below q above = elim (key_lt q begin) as (λ t. key_lt q begin ≡ t → t ≡ false) [
      | true ↦ λ below. absurd (true≢false (sym (le_lt from q begin above below) ∙ not-true (key_lt from begin) low))
      | false ↦ λ _. refl
    ] refl

module _ (mutations : List Mutation) (range : KeyRange) where
  -- the walk came to a key of the range, and could read all before it
  pub record HasWalked (from : List ℕ) : Type 0 where
    pub above : key_le range.begin from ≡ true
    pub below : key_lt from range.end ≡ true
    pub readable : (q : List ℕ) → within range.begin from q ≡ true → covers (unreadable mutations) q ≡ false

  pub at_begin : key_lt range.begin range.end ≡ true → HasWalked range.begin
  at_begin some = record {
    above = ap not (irreflexive range.begin);
    below = some;
    readable = λ q inside. absurd (true≢false (sym inside ∙ nothing q));
  }
    where
      nothing : (q : List ℕ) → within range.begin range.begin q ≡ false
      nothing q = elim (key_lt q range.begin) as (λ t. (not t && t) ≡ false) [ true ↦ refl | false ↦ refl ]

  module _ (from until : List ℕ) (walked : HasWalked from) (rises : key_lt from until ≡ true) where
    pub parts : (q : List ℕ) → within range.begin until q ≡ (within range.begin from q || within from until q)
    parts q = within_parts range.begin from until q walked.above rises

    -- over a segment that can be read
    readable_on : AreAlikeUpTo mutations from until → covers (unreadable mutations) from ≡ false → (q : List ℕ)
        → within range.begin until q ≡ true → covers (unreadable mutations) q ≡ false
    readable_on alike is q inside = elim (within range.begin from q)
        as (λ t. within range.begin from q ≡ t → covers (unreadable mutations) q ≡ false) [
          | true ↦ λ before. walked.readable q before
          | false ↦ λ behind.
              let here : within from until q ≡ true = sym (ap (λ b. b || within from until q) behind) ∙ sym (parts q) ∙ inside in
              let both = and_parts (key_le from q) (key_lt q until) here in
              sym (alike q both.0 both.1).readable ∙ is
        ] refl

    pub walked_on : AreAlikeUpTo mutations from until → covers (unreadable mutations) from ≡ false → key_lt until range.end ≡ true
        → HasWalked until
    walked_on alike is below = record {
      above = ap not (not_below walked.above);
      below = below;
      readable = readable_on alike is;
    }
      where
        not_below : key_le range.begin from ≡ true → key_lt until range.begin ≡ false
        not_below low = elim (key_lt until range.begin) as (λ t. key_lt until range.begin ≡ t → t ≡ false) [
          | true ↦ λ lower. absurd (true≢false (sym (lt_trans from until range.begin rises lower) ∙ not-true (key_lt from range.begin) low))
          | false ↦ λ _. refl
        ] refl

    -- what is added of a segment, behind what was added before it
    pub added_on : (old middle new : Bool) (q : List ℕ) (is_open : Bool) → middle ≡ (old || (within range.begin from q && is_open))
        → new ≡ (middle || (within from until q && is_open)) → new ≡ (old || (within range.begin until q && is_open))
    added_on old middle new q is_open before here =
        here
        ∙ ap (λ b. b || (within from until q && is_open)) before
        ∙ by_parts old (within range.begin from q) (within from until q) is_open
        ∙ ap (λ b. old || (b && is_open)) (sym (parts q))
      where
        by_parts : (a b c d : Bool) → ((a || (b && d)) || (c && d)) ≡ (a || ((b || c) && d))
        by_parts true b c d = refl
        by_parts false true true true = refl
        by_parts false true true false = refl
        by_parts false true false d = or-false d
        by_parts false false c d = refl

  -- an unreadable key that it comes to is met
  pub one_met : (from : List ℕ) → HasWalked from → covers (unreadable mutations) from ≡ true
      → list_any (meets range) (unreadable mutations) ≡ true
  one_met from walked is = common_meets range (unreadable mutations) from (λ i. walked.above i && walked.below i) is

  -- in the last segment its key decides
  pub last_met : (from : List ℕ) → HasWalked from → AreAlikeUpTo mutations from range.end
      → covers (unreadable mutations) from ≡ list_any (meets range) (unreadable mutations)
  last_met from walked alike = by (covers (unreadable mutations) from) refl
    where
      by : (b : Bool) → covers (unreadable mutations) from ≡ b → b ≡ list_any (meets range) (unreadable mutations)
      by true is = sym (one_met from walked is)
      by false is =
          sym (none_meets range (unreadable mutations) (readable_on from range.end walked walked.below alike is))
