use Rattle.std.proofs.Common.{length, ◌-◌, ◌≡◌, ◌++◌, take, drop}
use Rattle.key_bytes.specs.Keys.{key_lt, within}
use Rattle.range_map.specs.Boundaries.{changed_entries}
use Rattle.range_map.proofs.Held.{IsRising}
use Rattle.range_map.proofs.row.change_boundaries.Given as goal

-- changing those of the boundaries from the place on that are less than the end gives what changing all of the range gives at first
abbrev pub invariant-loop-at : goal.invariant-loop-at
invariant-loop-at g l = record {
  rising : IsRising l.boundaries.items;
  changed : take l.at l.boundaries.items ++ changed_entries (λ boundary. key_lt boundary l.end) (g.C.Change.changed l.change) (drop l.at l.boundaries.items)
      ≡ changed_entries (within l.begin l.end) (g.C.Change.changed l.change) l.fn.boundaries.items;
}

abbrev pub decreases-loop-at : goal.decreases-loop-at
decreases-loop-at g l = length l.boundaries.items - l.at
