-- A walk over the keys of a range, from boundary to boundary.
use Rattle.std.proofs.Common.{◌≡◌, ℕ, Bool, true, false, not, List, refl, sym, ap, subst, ◌∙◌, true≢false}
use Rattle.key_bytes.specs.declared.range.KeyRange.{KeyRange}
use Rattle.key_bytes.specs.Keys.{key_lt, key_le}
use Rattle.key_bytes.specs.Ranges.{has}
use Rattle.key_bytes.proofs.Orders.{irreflexive, above_not_below}
use Rattle.range_map.specs.Boundaries.{Boundaries, held}
use Rattle.conflict_ranges.specs.Ends.{IsNextAt}
use Rattle.conflict_ranges.proofs.Between.{from_within, is_within, le_le}

pub begin_within : (range : KeyRange) → key_lt range.begin range.end ≡ true → has range range.begin ≡ true
begin_within range some = is_within range.begin range.end range.begin (irreflexive range.begin) some

module _ {X : Type 0} (P : X → Type 0) (range : KeyRange) (boundaries : Boundaries X) where
  -- a walk came to a key of the range, and P holds of what those before it have
  pub record HasPassed (from : List ℕ) : Type 0 where
    pub inside : has range from ≡ true
    pub below : (key : List ℕ) → has range key ≡ true → key_lt key from ≡ true → P (held boundaries key)

  pub passed_none : key_lt range.begin range.end ≡ true → HasPassed range.begin
  passed_none some = record {
    inside = begin_within range some;
    below = λ key is_in low. absurd (true≢false (sym low ∙ (from_within range.begin range.end key is_in).0));
  }

  module _ (from : List ℕ) (passed : HasPassed from) (here : P (held boundaries from)) where
    -- P holds of what keys have that have what the walk's key has
    alike_too : (key : List ℕ) → (key_le from key ≡ true → held boundaries key ≡ held boundaries from) → has range key ≡ true → P (held boundaries key)
    alike_too key alike is_in = by_side (key_lt key from) refl
      where
        by_side : (t : Bool) → key_lt key from ≡ t → P (held boundaries key)
        by_side true low = passed.below key is_in low
        by_side false over = subst P (sym (alike (ap not over))) here

    pub passed_next : (boundary : List ℕ) → IsNextAt from range.end boundaries boundary → HasPassed boundary
    passed_next boundary next = record {
      inside =
          is_within range.begin range.end boundary
          (le_le range.begin from boundary (from_within range.begin range.end from passed.inside).0 (above_not_below from boundary next.above))
          next.below;
      below = λ key is_in low. alike_too key (λ over. next.alike key over low) is_in;
    }

-- a key of the range has this
abbrev pub IsReached : KeyRange → Boundaries ℕ → ℕ → Type 0
IsReached range boundaries number = (key : List ℕ) × (has range key ≡ true) × (held boundaries key ≡ number)
