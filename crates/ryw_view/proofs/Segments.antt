-- What a walk meets first in a segment of keys that mutations treat alike.
use Rattle.std.proofs.Common.{◌≡◌, ℕ, Bool, true, false, cond, not, ◌&&◌, ◌⊎◌, inl, inr, List, Option, Some, None, IfSome, refl, sym, ap, subst, ◌∙◌, true≢false}
use Rattle.std.proofs.lemmas.Bool.{and_parts, not-true}
use Rattle.std.proofs.lemmas.Option.{none-some}
use Rattle.std.specs.FinMap as finite
use Rattle.std.specs.Option.{option_map}
use Rattle.std.specs.List.{filter}
use Rattle.key_bytes.specs.Keys.{after, key_lt, key_le}
use Rattle.key_bytes.proofs.Orders.{above_not_below, irreflexive, le_lt, lt_after, lt_trans, lt_le}
use Rattle.key_map.specs.Ends.{first, last}
use Rattle.range_read.proofs.Rising.{first_passes}
use Rattle.write_map.specs.Answers.{IsStateUnder}
use Rattle.write_map.specs.declared.state.KeyState.{KeyState as Shown}
use Rattle.write_map.specs.declared.state.KeyState.TheVariants as shown
use Rattle.model_database.specs.Databases.{Database, Mutation}
use Rattle.model_database.specs.States.{KeyState, Unmodified, Decided, Depends, state_under, value_in, all_atoms, covers, unreadable, is_unmodified, seen}
use Rattle.range_map.specs.Boundaries.{IsBelowBoundary}
use Rattle.range_read.specs.Walks.{is_onward}
use Rattle.range_read.proofs.Walks.{Entry}
use Rattle.ryw_view.specs.Segments.{IsSegment, AreBare, is_bare}
use Rattle.ryw_view.specs.Walks.{meets_first, is_inside, inside_of, IsFirstMet, MeetsFirst}
use Rattle.write_map.specs.Pending.{AreAlike, IsBare, is_single_state}
use Rattle.ryw_view.proofs.Firsts.{not_first_itself, which_first}
use Rattle.ryw_view.proofs.Passed.{last_below}
use Rattle.ryw_view.proofs.Seen.{get-seen, seen_readable}

-- ---- the boundary of a segment

-- what is met before a key inside is inside
pub inside_before : (boundary : Option (List ℕ)) (backward : Bool) (q k : List ℕ) → meets_first backward q k ≡ true → is_inside boundary backward k ≡ true
    → is_inside boundary backward q ≡ true
inside_before None backward q k before inside = refl
inside_before (Some boundary) true q k before inside =
    ap not (above_not_below boundary q (le_lt boundary k q (not-true (key_lt k boundary) inside) before))
inside_before (Some boundary) false q k before inside = lt_trans q k boundary before inside

-- a key inside is met before one that is not
pub before_outside : (boundary : Option (List ℕ)) (backward : Bool) (q k : List ℕ) → is_inside boundary backward q ≡ true → is_inside boundary backward k ≡ false
    → meets_first backward q k ≡ true
before_outside None backward q k inside outside = absurd (true≢false outside)
before_outside (Some boundary) true q k inside outside = by (key_lt k boundary) refl outside
  where
    by : (b : Bool) → key_lt k boundary ≡ b → not b ≡ false → key_lt k q ≡ true
    by true below is = lt_le k boundary q below (not-true (key_lt q boundary) inside)
    by false below is = absurd (true≢false is)
before_outside (Some boundary) false q k inside outside = lt_le q boundary k inside outside

-- of what a walk meets first, the first in a segment is it, or none
pub met_inside : (database : Database) (from : List ℕ) (backward : Bool) (boundary : Option (List ℕ)) (pair : Option Entry)
    → IsFirstMet database from backward None pair → IsFirstMet database from backward boundary (inside_of boundary backward pair)
met_inside database from backward boundary None none = λ q is_on inside. none q is_on refl
met_inside database from backward boundary (Some pair) (met, _) =
    elim (is_inside boundary backward pair.0)
    as (λ b. is_inside boundary backward pair.0 ≡ b → IsFirstMet database from backward boundary (cond b (Some pair) None)) [
      | true ↦ λ inside. (met, inside)
      | false ↦ λ outside q is_on inside. met.gap q is_on (before_outside boundary backward q pair.0 inside outside)
    ] refl

-- where a view has inside a segment what is stored, it meets first what is met first of what is stored
module _ (view stored : Database) (from : List ℕ) (backward : Bool) (boundary : Option (List ℕ))
    (same : (q : List ℕ) → is_onward from backward q ≡ true → is_inside boundary backward q ≡ true → finite.get view q ≡ finite.get stored q) where
  pub stored_met : (pair : Option Entry) → IsFirstMet stored from backward boundary pair → IsFirstMet view from backward boundary pair
  stored_met None none = λ q is_on inside. same q is_on inside ∙ none q is_on inside
  stored_met (Some pair) (met, inside) = (
    record {
      onward = met.onward;
      there = same pair.0 met.onward inside ∙ met.there;
      gap = λ q is_on before. same q is_on (inside_before boundary backward q pair.0 before inside) ∙ met.gap q is_on before;
    },
    inside,
  )

-- ---- a segment

module _ (mutations : List Mutation) (stored : Database) (key from : List ℕ) (backward : Bool) (boundary : Option (List ℕ))
    (segment : IsSegment mutations key from backward boundary) where
  abbrev view : Database
  view = seen mutations stored

  abbrev hidden : Bool
  hidden = covers (unreadable mutations) key

  -- what the key has does not depend on what is stored of other keys
  abbrev IsOwn : Bool → KeyState → Type 0
  IsOwn hidden state = (hidden ≡ true) ⊎ (is_unmodified state ≡ false)

  of_state : (q : List ℕ) → is_onward from backward q ≡ true → is_inside boundary backward q ≡ true
      → finite.get view q ≡ cond hidden None (value_in (state_under mutations key) (finite.get stored q))
  of_state q is_on inside =
      let alike = segment.alike q is_on inside in
      get-seen mutations stored q
      ∙ (λ i. cond (sym alike.readable i) None (value_in (sym alike.states i) (finite.get stored q)))

  same_own : IsOwn hidden (state_under mutations key) → (q : List ℕ) → is_onward from backward q ≡ true → is_inside boundary backward q ≡ true
      → finite.get view q ≡ finite.get view key
  same_own own q is_on inside =
      of_state q is_on inside
      ∙ by hidden (state_under mutations key) own (λ is. segment.single is q is_on inside)
      ∙ sym (get-seen mutations stored key)
    where
      by : (hidden : Bool) (state : KeyState) → IsOwn hidden state → (is_single_state state ≡ true → q ≡ key)
          → cond hidden None (value_in state (finite.get stored q)) ≡ cond hidden None (value_in state (finite.get stored key))
      by true state own single = refl
      by false Unmodified (inl is) single = absurd (true≢false (sym is))
      by false Unmodified (inr is) single = absurd (true≢false is)
      by false (Decided value) own single = refl
      by false (Depends operations) own single = ap (λ k. all_atoms operations (finite.get stored k)) (single refl)

  alone : IsOwn hidden (state_under mutations key) → (value : List ℕ) → finite.get view key ≡ Some value → (q : List ℕ)
      → is_onward from backward q ≡ true → is_inside boundary backward q ≡ true → q ≡ key
  alone own value is q is_on inside =
      by hidden (state_under mutations key) own (λ is. segment.single is q is_on inside) (sym (get-seen mutations stored key) ∙ is)
    where
      by : (hidden : Bool) (state : KeyState) → IsOwn hidden state → (is_single_state state ≡ true → q ≡ key)
          → cond hidden None (value_in state (finite.get stored key)) ≡ Some value → q ≡ key
      by true state own single is = absurd (none-some value is)
      by false Unmodified (inl h) single is = absurd (true≢false (sym h))
      by false Unmodified (inr h) single is = absurd (true≢false h)
      by false (Decided None) own single is = absurd (none-some value is)
      by false (Decided (Some own_value)) own single is = single refl
      by false (Depends operations) own single is = single refl

  own_met : IsOwn hidden (state_under mutations key) → (value : Option (List ℕ)) → finite.get view key ≡ value
      → IsFirstMet view from backward boundary (option_map (λ v. (key, v)) value)
  own_met own None is = λ q on within. same_own own q on within ∙ is
  own_met own (Some value) is = (
    record {
      onward = segment.onward;
      there = is;
      gap = λ q on before. absurd
          (not_first_itself backward key
          (subst (λ k. meets_first backward k key ≡ true)
          (alone own value is q on (inside_before boundary backward q key before segment.inside)) before));
    },
    segment.inside,
  )

  is_own : (answer : Shown) → IsStateUnder mutations key answer → (answer ≡ shown.Unmodified → ⊥) → IsOwn hidden (state_under mutations key)
  is_own shown.Unmodified under other = absurd (other refl)
  is_own (shown.Decided value) under other = inr (ap is_unmodified under.1)
  is_own (shown.Depends edits) under other = inr (ap is_unmodified under.1)
  is_own shown.Unreadable under other = inl under

  -- where the key is modified or unreadable, the segment has what its key has
  pub met_own : (answer : Shown) → IsStateUnder mutations key answer → (answer ≡ shown.Unmodified → ⊥) → (pair : Option Entry)
      → pair ≡ option_map (λ v. (key, v)) (finite.get view key) → IsFirstMet view from backward boundary pair
  met_own answer under other pair is =
      subst (IsFirstMet view from backward boundary) (sym is) (own_met (is_own answer under other) (finite.get view key) refl)

  -- where it is neither, the segment has what is stored
  pub met_stored : IsStateUnder mutations key shown.Unmodified → (pair : Option Entry) → IsFirstMet stored from backward boundary pair
      → IsFirstMet view from backward boundary pair
  met_stored under pair met = stored_met view stored from backward boundary
      (λ q is_on inside. of_state q is_on inside ∙ (λ i. cond (under.0 i) None (value_in (under.1 i) (finite.get stored q)))) pair met

-- ---- segments between boundaries

same_key : (a b : List ℕ) → key_le a b ≡ true → key_le b a ≡ true → a ≡ b
same_key a b low high = elim (which_first false a b) [
  | inl same ↦ same
  | inr (inl below) ↦ absurd (true≢false (sym below ∙ not-true (key_lt a b) high))
  | inr (inr above) ↦ absurd (true≢false (sym above ∙ not-true (key_lt b a) low))
]

below_boundary : (boundary : Option (List ℕ)) (q : List ℕ) → is_inside boundary false q ≡ true → IsBelowBoundary q boundary
below_boundary None q inside = tt
below_boundary (Some boundary) q inside = inside

-- from a key up to the boundary above it
pub segment_up : (mutations : List Mutation) (boundaries : List (List ℕ)) (from : List ℕ) (boundary : Option (List ℕ))
    → boundary ≡ first (filter (key_lt from) boundaries)
    → ((q : List ℕ) → key_le from q ≡ true → IsBelowBoundary q boundary → AreAlike mutations from q)
    → (is_single_state (state_under mutations from) ≡ true → boundary ≡ Some (after from)) → IsSegment mutations from from false boundary
segment_up mutations boundaries from boundary is alike single = record {
  onward = ap not (irreflexive from);
  inside = inside boundary (sym is);
  alike = λ q is_on inside. alike q is_on (below_boundary boundary q inside);
  single = λ is q is_on inside. same_key q from
      (sym (lt_after q from) ∙ subst (λ boundary. is_inside boundary false q ≡ true) (single is) inside) is_on;
}
  where
    inside : (boundary : Option (List ℕ)) → first (filter (key_lt from) boundaries) ≡ boundary → is_inside boundary false from ≡ true
    inside None is = refl
    inside (Some boundary) is = first_passes (key_lt from) boundaries boundary is

-- below a key down to the boundary below it
pub segment_backward : (mutations : List Mutation) (boundaries : List (List ℕ)) (until boundary : List ℕ)
    → Some boundary ≡ last (filter (λ e. key_lt e until) boundaries)
    → ((q : List ℕ) → key_le boundary q ≡ true → key_lt q until ≡ true → AreAlike mutations boundary q)
    → (is_single_state (state_under mutations boundary) ≡ true → key_le until (after boundary) ≡ true)
    → IsSegment mutations boundary until true (Some boundary)
segment_backward mutations boundaries until boundary is alike single = record {
  onward = last_below boundaries until boundary (sym is);
  inside = ap not (irreflexive boundary);
  alike = λ q is_on inside. alike q inside is_on;
  single = λ is q is_on inside. same_key q boundary
      (sym (lt_after q boundary) ∙ lt_le q until (after boundary) is_on (not-true (key_lt (after boundary) until) (single is))) inside;
}

-- ---- untouched keys

unmodified_is : (state : KeyState) → is_unmodified state ≡ true → state ≡ Unmodified
unmodified_is Unmodified is = refl
unmodified_is (Decided value) is = absurd (true≢false (sym is))
unmodified_is (Depends operations) is = absurd (true≢false (sym is))

pub tells_bare : (mutations : List Mutation) (q : List ℕ) → IsBare mutations q → is_bare mutations q ≡ true
tells_bare mutations q bare i = is_unmodified (bare.unmodified i) && not (bare.readable i)

bare_told : (mutations : List Mutation) (q : List ℕ) → is_bare mutations q ≡ true → IsBare mutations q
bare_told mutations q is =
    let parts = and_parts (is_unmodified (state_under mutations q)) (not (covers (unreadable mutations) q)) is in record {
      unmodified = unmodified_is (state_under mutations q) parts.0;
      readable = not-true (covers (unreadable mutations) q) parts.1;
    }

-- a key that is alike to an untouched one is untouched
bare_alike : (mutations : List Mutation) (key q : List ℕ) → IsStateUnder mutations key shown.Unmodified → AreAlike mutations key q
    → is_bare mutations q ≡ true
bare_alike mutations key q under alike = tells_bare mutations q record {
  unmodified = sym alike.states ∙ under.1;
  readable = sym alike.readable ∙ under.0;
}

-- from an untouched key up to the boundary above it
pub bare_up : (mutations : List Mutation) (from : List ℕ) (boundary : Option (List ℕ)) → IsStateUnder mutations from shown.Unmodified
    → ((q : List ℕ) → key_le from q ≡ true → IsBelowBoundary q boundary → AreAlike mutations from q) → AreBare mutations from false boundary
bare_up mutations from boundary under alike q is_on inside = bare_alike mutations from q under (alike q is_on (below_boundary boundary q inside))

-- from an untouched boundary up to a key above it
pub bare_backward : (mutations : List Mutation) (until boundary : List ℕ) → IsStateUnder mutations boundary shown.Unmodified
    → ((q : List ℕ) → key_le boundary q ≡ true → key_lt q until ≡ true → AreAlike mutations boundary q)
    → AreBare mutations boundary false (Some until)
bare_backward mutations until boundary under alike q is_on inside = bare_alike mutations boundary q under (alike q is_on inside)

-- where no mutation touches the keys of a segment, what is met first there of what is stored is what is met first
pub bare_met : (mutations : List Mutation) (stored : Database) (from : List ℕ) (backward : Bool) (boundary : Option (List ℕ))
    → AreBare mutations from backward boundary → (pair : Option Entry) → IsFirstMet stored from backward boundary pair
    → IsFirstMet (seen mutations stored) from backward boundary pair
bare_met mutations stored from backward boundary bare pair met = stored_met (seen mutations stored) stored from backward boundary same pair met
  where
    same : (q : List ℕ) → is_onward from backward q ≡ true → is_inside boundary backward q ≡ true
        → finite.get (seen mutations stored) q ≡ finite.get stored q
    same q is_on inside =
        let here = bare_told mutations q (bare q is_on inside) in seen_readable mutations stored q Unmodified here.readable here.unmodified

-- and where it is met there, it is the first of all
pub bare_first : (mutations : List Mutation) (stored : Database) (from : List ℕ) (backward : Bool) (boundary : Option (List ℕ))
    → AreBare mutations from backward boundary → (pair : Option Entry) → IsFirstMet stored from backward boundary pair
    → IfSome pair (MeetsFirst (seen mutations stored) from backward)
bare_first mutations stored from backward boundary bare None none = tt
bare_first mutations stored from backward boundary bare (Some pair) met = (bare_met mutations stored from backward boundary bare (Some pair) met).0

-- of untouched keys, those from one of them on
pub untouched_up : (mutations : List Mutation) (low key : List ℕ) (high : Option (List ℕ)) → AreBare mutations low false high
    → key_le low key ≡ true → AreBare mutations key false high
untouched_up mutations low key high bare is q is_on inside = bare q (ap not (by (key_lt q low) refl)) inside
  where
    by : (b : Bool) → key_lt q low ≡ b → b ≡ false
    by true below = absurd
        (true≢false (sym (le_lt key q low (not-true (key_lt q key) is_on) below) ∙ not-true (key_lt key low) is))
    by false below = refl

-- and those below a key that is not above them
pub untouched_backward : (mutations : List Mutation) (low key : List ℕ) (high : Option (List ℕ)) → AreBare mutations low false high
    → ((q : List ℕ) → key_lt q key ≡ true → is_inside high false q ≡ true) → AreBare mutations key true (Some low)
untouched_backward mutations low key high bare is q is_on inside = bare q inside (is q is_on)
