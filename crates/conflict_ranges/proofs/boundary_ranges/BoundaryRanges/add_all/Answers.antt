use Rattle.std.proofs.Common.{◌≡◌, ◌||◌, cond, refl, sym, ap, subst, ◌∙◌}
use Rattle.model_database.specs.States.{covers}
use Rattle.conflict_ranges.specs.Segments.{ranges_of}
use Rattle.conflict_ranges.proofs.Changed.{covers_held, covers_more, on_err_always}
use Rattle.conflict_ranges.proofs.Segments.{covers-ranges_of}
use Rattle.conflict_ranges.proofs.boundary_ranges.BoundaryRanges.add_all.Goals as goal

pub returns-in_err-split_all-clause-err : goal.returns-in_err-split_all-clause-err
returns-in_err-split_all-clause-err c =
    let old = c.self.inside.members in let new = c.split_all.new.members in let sound = c.self.invariant.sound in
    on_err_always c.from_residual-in_err-split_all.result
    (λ key.
    covers-ranges_of new (c.split_all.ensures.sound sound) key
    ∙ ap (λ membership. membership.0) (c.split_all.ensures.same key)
    ∙ sym (covers_held old c.args.self.now c.self.view_is sound key))

pub returns-clause-ok : goal.returns-clause-ok
returns-clause-ok c key =
    let old = c.self.inside.members in let new = c.put_all.new.members in let ranges = c.args.ranges.now in
    let sound = c.self.invariant.sound in
    subst (λ own. covers (ranges_of new) key ≡ (covers own key || covers ranges key)) c.self.view_is
    (covers_more old new _ sound (c.put_all.ensures.sound (c.split_all.ensures.sound sound)) key (covers ranges key)
    (c.put_all.ensures.put key ∙ ap (cond (covers ranges key) _) (c.split_all.ensures.same key)) refl)
