use Rattle.std.proofs.Common.{length, ◌+◌, ◌≡◌, ◌≤◌, ◌++◌}
use Rattle.std.specs.Map.{values_of}
use Rattle.std.specs.Vec.{vec_capacity}
use Rattle.std.specs.Vec.Iter.{into_iter_items}
use Rattle.range_map.proofs.row.Row.move_levels.Given as goal

-- what the boundaries have that are left goes behind what has moved, and there is room for it
abbrev pub invariant-loop-level : goal.invariant-loop-level
invariant-loop-level g l = record {
  ready : (goal.iterator-loop-level g).can_next l.level-iterator;
  finite : (goal.iterator-loop-level g).is_finite l.level-iterator;
  moved : l.levels.items ++ values_of (into_iter_items l.level-iterator) ≡ l.fn.levels.items ++ values_of l.fn.self;
  room : length l.levels.items + length (into_iter_items l.level-iterator) ≤ vec_capacity l.levels;
}
