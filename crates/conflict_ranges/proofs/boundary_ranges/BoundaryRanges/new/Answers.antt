use Rattle.std.proofs.Common.{length, refl, ap, arith}
use Rattle.conflict_ranges.proofs.Changed.{sound_new}
use Rattle.conflict_ranges.proofs.boundary_ranges.BoundaryRanges.new.Goals as goal

pub invariant_of-result : goal.invariant_of-result
invariant_of-result c = record {
  is_lowest = c.new.ensures;
  few = let is = ap (λ members. length members.entries) c.new-2.ensures in omega (arith, is);
  sound = sound_new _ c.new-2.result refl c.new-2.ensures;
}
