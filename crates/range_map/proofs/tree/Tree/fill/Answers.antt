use Rattle.std.proofs.Common.{◌++◌, length, sym, ap, subst, ◌∙◌}
use Rattle.std.specs.Map.{values_of}
use Rattle.range_map.specs.Halves.{placed}
use Rattle.range_map.specs.Places.{laid_out, HasPlaces}
use Rattle.range_map.proofs.Filled.{has_placed, laid_out-placed}
use Rattle.range_map.proofs.tree.Tree.fill.Goals as goal

pub invariant_of-self : goal.invariant_of-self
invariant_of-self g c =
    let row = c.args.row.now in let same = c.as_slice-boundaries.ensures.value in
    let named = (c.in_ok-self-inside.ensures {u = tt}) ∙ ap (placed 0) same in
    let moved = c.move_levels.ensures.levels ∙ ap (λ levels. levels ++ values_of row) (c.in_ok-levels.ensures {u = tt}).items in
    subst (HasPlaces (length c.move_levels.new.levels.items)) (sym named)
    (subst (λ levels. HasPlaces (length levels) (placed 0 row)) (sym moved) (has_placed row c.as_slice-boundaries.ensures.rising))

pub returns-clause-ok : goal.returns-clause-ok
returns-clause-ok g c =
    let row = c.args.row.now in let same = c.as_slice-boundaries.ensures.value in let base = c.self.inside.base in
    let named = (c.in_ok-self-inside.ensures {u = tt}) ∙ ap (placed 0) same in
    let moved = c.move_levels.ensures.levels ∙ ap (λ levels. levels ++ values_of row) (c.in_ok-levels.ensures {u = tt}).items in
    let filled = (λ i. laid_out base (moved i) (named i)) ∙ laid_out-placed base row in
    λ i. record { base = (c.self.view_is i).base; entries = filled i }
