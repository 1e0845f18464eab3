-- What is left of boundaries, wherever they lie.
use Rattle.std.specs.Prelude.{ℕ, List}
use Rattle.std.specs.Slice.Iter.{iter_rest}
use Rattle.range_map.specs.declared.boundaries_left.Rest.{Rest}
use Rattle.range_map.specs.declared.boundaries_left.Rest.TheVariants.{Row, Tree}

abbrev pub left_of : {X : Type 0} → Rest X → List (List ℕ × X)
left_of (Row boundaries) = iter_rest boundaries
left_of (Tree boundaries) = boundaries
