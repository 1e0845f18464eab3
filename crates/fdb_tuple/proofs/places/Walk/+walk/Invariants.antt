use Rattle.std.proofs.Common.{◌≡◌, ◌+◌, ◌*◌, ◌++◌, length, drop}
use Rattle.std.specs.Option.{option_to_list}
use Rattle.fdb_tuple.specs.Tuples.{Empty, weight}
use Rattle.fdb_tuple.specs.Listed.{before, tuple_of}
use Rattle.fdb_tuple.specs.Spelling.{spelled_in}
use Rattle.fdb_tuple.specs.Stamps.{stamp_places}
use Rattle.fdb_tuple.proofs.places.Walk.+walk.Given as goal

-- what was walked over and what is left make the whole
abbrev pub invariant-over_tuple-loop-element : goal.invariant-over_tuple-loop-element
invariant-over_tuple-loop-element l = record {
  at : l.self.at + length (spelled_in l.nested (tuple_of (drop l.element-index l.element-items))) ≡ l.initial.self.at + length (spelled_in l.nested l.tuple);
  found : option_to_list l.self.found ++ stamp_places l.nested l.self.at (tuple_of (drop l.element-index l.element-items)) ≡ option_to_list l.initial.self.found ++ stamp_places l.nested l.initial.self.at l.tuple;
}

abbrev pub decreases-over_nested : goal.decreases-over_nested
decreases-over_nested l = 3 * weight l.tuple.now + 2

abbrev pub decreases-over_tuple : goal.decreases-over_tuple
decreases-over_tuple l = 3 * weight l.tuple.now + 1

abbrev pub decreases-over_element : goal.decreases-over_element
decreases-over_element l = 3 * weight (before l.element.now Empty)
