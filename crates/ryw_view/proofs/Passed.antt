-- A walk from segment to segment.
use Rattle.std.proofs.Common.{◌≡◌, ℕ, ◌<◌, Bool, true, false, not, List, length, reverse, Option, Some, None, refl, sym, ap, ◌∙◌, true≢false}
use Rattle.std.proofs.lemmas.Bool.{not-true, not-false}
use Rattle.std.specs.FinMap as finite
use Rattle.key_bytes.specs.Keys.{key_lt}
use Rattle.std.specs.List.{filter}
use Rattle.key_bytes.proofs.Orders.{above_not_below, irreflexive, le_lt, lt_trans, lt_le}
use Rattle.key_map.specs.Ends.{first, last}
use Rattle.range_read.proofs.Lists.{filter-reverse, first-reverse}
use Rattle.range_read.proofs.Rising.{first_passes}
use Rattle.ryw_view.proofs.Lists.{has_first, has_reversed, fewer}
use Rattle.model_database.specs.Databases.{Database}
use Rattle.range_read.specs.Walks.{is_onward}
use Rattle.range_read.proofs.Walks.{Entry}
use Rattle.ryw_view.specs.Walks.{meets_first, is_inside, IsFirstMet}

-- a walk from start came to a key: the database has none of the keys that it met before
pub record HasPassed (database : Database) (start from : List ℕ) (backward : Bool) : Type 0 where
  pub onward : (q : List ℕ) → is_onward from backward q ≡ true → is_onward start backward q ≡ true
  pub none : (q : List ℕ) → is_onward start backward q ≡ true → is_onward from backward q ≡ false → finite.get database q ≡ None

pub not_passed : (database : Database) (start : List ℕ) (backward : Bool) → HasPassed database start start backward
not_passed database start backward = record {
  onward = λ q is_on. is_on;
  none = λ q is_on is_off. absurd (true≢false (sym is_on ∙ is_off));
}

-- what a walk that starts behind a key meets, one that starts at the key meets too
onward_from : (backward : Bool) (from boundary q : List ℕ) → meets_first backward from boundary ≡ true → is_onward boundary backward q ≡ true
    → is_onward from backward q ≡ true
onward_from true from boundary q before is_on = lt_trans q boundary from is_on before
onward_from false from boundary q before is_on =
    ap not (above_not_below from q (lt_le from boundary q before (not-true (key_lt q boundary) is_on)))

inside_or_onward : (backward : Bool) (boundary q : List ℕ) → is_onward boundary backward q ≡ false → is_inside (Some boundary) backward q ≡ true
inside_or_onward true boundary q is_off = ap not is_off
inside_or_onward false boundary q is_off = not-false (key_lt q boundary) is_off

module _ (database : Database) (start from : List ℕ) (backward : Bool) (passed : HasPassed database start from backward) where
  -- over a segment that has no key
  pub passed_segment : (boundary : List ℕ) → meets_first backward from boundary ≡ true → IsFirstMet database from backward (Some boundary) None
      → HasPassed database start boundary backward
  passed_segment boundary before none = record {
    onward = λ q is_on. passed.onward q (onward_from backward from boundary q before is_on);
    none = λ q is_on is_off. elim (is_onward from backward q) as (λ b. is_onward from backward q ≡ b → finite.get database q ≡ None) [
      | true ↦ λ on. none q on (inside_or_onward backward boundary q is_off)
      | false ↦ λ off. passed.none q is_on off
    ] refl;
  }

  -- what it meets first from there on it meets first from its start
  pub met_behind : (boundary : Option (List ℕ)) (pair : Entry) → IsFirstMet database from backward boundary (Some pair)
      → IsFirstMet database start backward None (Some pair)
  met_behind boundary pair (met, _) = (
    record {
      onward = passed.onward pair.0 met.onward;
      there = met.there;
      gap = λ q is_on before. elim (is_onward from backward q) as (λ b. is_onward from backward q ≡ b → finite.get database q ≡ None) [
        | true ↦ λ on. met.gap q on before
        | false ↦ λ off. passed.none q is_on off
      ] refl;
    },
    refl,
  )

  pub met_to_the_end : (pair : Option Entry) → IsFirstMet database from backward None pair → IsFirstMet database start backward None pair
  met_to_the_end None none = λ q is_on inside. elim (is_onward from backward q)
      as (λ b. is_onward from backward q ≡ b → finite.get database q ≡ None) [
        | true ↦ λ on. none q on refl
        | false ↦ λ off. passed.none q is_on off
      ] refl
  met_to_the_end (Some pair) met = met_behind None pair met

-- ---- the boundaries that are left

pub fewer_above : (boundaries : List (List ℕ)) (from boundary : List ℕ) → first (filter (key_lt from) boundaries) ≡ Some boundary
    → length (filter (key_lt boundary) boundaries) < length (filter (key_lt from) boundaries)
fewer_above boundaries from boundary is =
    fewer (key_lt from) (key_lt boundary) stricter boundaries boundary (has_first (key_lt from) boundaries boundary is) above (irreflexive boundary)
  where
    above : key_lt from boundary ≡ true
    above = first_passes (key_lt from) boundaries boundary is

    stricter : (k : List ℕ) → key_lt from k ≡ false → key_lt boundary k ≡ false
    stricter k low = above_not_below k boundary (le_lt k from boundary low above)

-- the last boundary below a key is the first from the end on
from_end : (boundaries : List (List ℕ)) (until boundary : List ℕ) → last (filter (λ e. key_lt e until) boundaries) ≡ Some boundary
    → first (filter (λ e. key_lt e until) (reverse boundaries)) ≡ Some boundary
from_end boundaries until boundary is =
    ap first (filter-reverse (λ e. key_lt e until) boundaries) ∙ first-reverse (filter (λ e. key_lt e until) boundaries) ∙ is

pub last_below : (boundaries : List (List ℕ)) (until boundary : List ℕ) → last (filter (λ e. key_lt e until) boundaries) ≡ Some boundary
    → key_lt boundary until ≡ true
last_below boundaries until boundary is = first_passes (λ e. key_lt e until) (reverse boundaries) boundary (from_end boundaries until boundary is)

pub fewer_below : (boundaries : List (List ℕ)) (until boundary : List ℕ) → last (filter (λ e. key_lt e until) boundaries) ≡ Some boundary
    → length (filter (λ e. key_lt e boundary) boundaries) < length (filter (λ e. key_lt e until) boundaries)
fewer_below boundaries until boundary is =
    fewer (λ e. key_lt e until) (λ e. key_lt e boundary) stricter boundaries boundary
    (has_reversed boundary boundaries (has_first (λ e. key_lt e until) (reverse boundaries) boundary (from_end boundaries until boundary is))) below (irreflexive boundary)
  where
    below : key_lt boundary until ≡ true
    below = last_below boundaries until boundary is

    stricter : (k : List ℕ) → key_lt k until ≡ false → key_lt k boundary ≡ false
    stricter k high = above_not_below boundary k (lt_le boundary until k below high)
