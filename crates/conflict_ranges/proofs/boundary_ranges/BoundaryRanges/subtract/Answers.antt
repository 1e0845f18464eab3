use Rattle.std.proofs.Common.{◌≡◌, ◌&&◌, not, refl, subst}
use Rattle.key_bytes.specs.Ranges.{has}
use Rattle.model_database.specs.States.{covers}
use Rattle.conflict_ranges.specs.Segments.{ranges_of}
use Rattle.conflict_ranges.proofs.Changed.{on_ok_both, covers_fewer}
use Rattle.conflict_ranges.proofs.boundary_ranges.BoundaryRanges.subtract.Goals as goal

pub returns-clause-ok : goal.returns-clause-ok
returns-clause-ok c =
    let old = c.self.inside.members in let new = c.put.new.members in
    on_ok_both c.put.result
    (λ put sound key. subst (λ ranges. covers (ranges_of new) key ≡ (covers ranges key && not (has c.args.range.now key))) c.self.view_is
    (covers_fewer old new _ c.self.invariant.sound (sound c.self.invariant.sound) key (has c.args.range.now key) (put key) refl))
    c.put.ensures.ok c.put.ensures.sound
