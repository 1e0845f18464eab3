use Rattle.std.proofs.Common.{◌≡◌, length}
use Rattle.std.specs.List.{filter}
use Rattle.key_bytes.specs.Keys.{within}
use Rattle.range_map.specs.Places.{AreInside}
use Rattle.range_map.proofs.Held.{IsRising}
use Rattle.range_map.proofs.Placed.{set_all}
use Rattle.range_map.proofs.Spans.{before}
use Rattle.range_map.proofs.levels.change_between.Given as goal

-- the places that are left rise within the list, and changing what lies at those before the end gives what changing all of the range
-- gives at first
abbrev pub invariant-loop-boundary : goal.invariant-loop-boundary
invariant-loop-boundary g l = record {
  rising : IsRising l.boundary-iterator;
  inside : AreInside (length l.levels.items) l.boundary-iterator;
  same_length : length l.levels.items ≡ length l.fn.levels.items;
  changed : (base : g.row.T.Denot) → set_all base (g.C.Change.changed l.change) (before l.end l.boundary-iterator) l.levels.items
      ≡ set_all base (g.C.Change.changed l.change) (filter (λ e. within l.begin l.end e.0) l.places.entries) l.fn.levels.items;
}
