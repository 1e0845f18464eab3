-- The next boundary above a key, and what the keys up to it have.
use Rattle.std.proofs.Common.{◌≡◌, ℕ, true, false, List, Some, None, sym, subst}
use Rattle.std.specs.List.{filter}
use Rattle.key_bytes.specs.Keys.{key_lt, key_le}
use Rattle.key_bytes.proofs.Orders.{lt_le}
use Rattle.key_map.specs.Ends.{first}
use Rattle.range_map.specs.Boundaries.{Boundaries, held, boundaries_of, IsBelowBoundary}
use Rattle.range_map.proofs.Neighbours.{held-up_to}
use Rattle.conflict_ranges.specs.Ends.{IsNextAt}
use Rattle.conflict_ranges.proofs.Segments.{first_above}

module _ {X : Type 0} (boundaries : Boundaries X) (from end : List ℕ) where
  pub next_at : (boundary : List ℕ) → first (filter (key_lt from) (boundaries_of boundaries)) ≡ Some boundary → key_lt boundary end ≡ true
      → IsNextAt from end boundaries boundary
  next_at boundary is below = record {
    next = is;
    above = first_above from boundary (boundaries_of boundaries) is;
    below = below;
    alike = λ key over under. held-up_to boundaries from key over (subst (IsBelowBoundary key) (sym is) under);
  }

  pub none_within : (boundary : List ℕ) → first (filter (key_lt from) (boundaries_of boundaries)) ≡ Some boundary → key_lt boundary end ≡ false
      → (key : List ℕ) → key_le from key ≡ true → key_lt key end ≡ true → held boundaries key ≡ held boundaries from
  none_within boundary is past key over under =
      held-up_to boundaries from key over (subst (IsBelowBoundary key) (sym is) (lt_le key end boundary under past))

  pub none_above : first (filter (key_lt from) (boundaries_of boundaries)) ≡ None
      → (key : List ℕ) → key_le from key ≡ true → key_lt key end ≡ true → held boundaries key ≡ held boundaries from
  none_above none key over under = held-up_to boundaries from key over (subst (IsBelowBoundary key) (sym none) tt)
