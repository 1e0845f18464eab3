use Rattle.std.proofs.Common.{length, ◌≡◌, ◌≤◌, drop}
use Rattle.range_map.specs.Halves.{placed}
use Rattle.range_map.proofs.tree.places_of.Given as goal

-- the boundaries from the place on have their places
abbrev pub invariant-loop-at : goal.invariant-loop-at
invariant-loop-at g l = record {
  inside : l.at ≤ length l.boundaries;
  entries : l.places.entries ≡ placed l.at (drop l.at l.boundaries);
}

abbrev pub decreases-loop-at : goal.decreases-loop-at
decreases-loop-at g l = l.at
