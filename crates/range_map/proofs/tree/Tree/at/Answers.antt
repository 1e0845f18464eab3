use Rattle.std.proofs.Common.{◌∙◌, ap, sym, length, List, ℕ, arith}
use Rattle.std.proofs.lemmas.List.{get_or_default}
use Rattle.range_map.specs.Boundaries.{held}
use Rattle.range_map.proofs.Spans.{held-found, held-not_found, found_inside}
use Rattle.range_map.proofs.tree.Tree.at.Goals as goal

pub index-requires : goal.index-requires
index-requires g c =
    let ok = c.self.inside.levels.ok in
    let inside = found_inside _ (length c.self.inside.levels.items) c.self.inside.places.entries c.range.result c.next_back.new.self
    (c.in-Some.field-0-0.now, c.in-Some.place.now) (c.range.ensures.between tt) (c.in-Some.ensures {u = tt}).steps
    c.self.invariant.inside in
    omega (arith, ok, inside)

pub returns-in-Some : goal.returns-in-Some
returns-in-Some g c =
    let entry : List ℕ × ℕ = (c.in-Some.field-0-0.now, c.in-Some.place.now) in
    c.index.ensures
    ∙ get_or_default c.self.inside.levels.items c.in-Some.place.now c.index.result.now c.self.inside.base
    (found_inside _ (length c.self.inside.levels.items) c.self.inside.places.entries c.range.result c.next_back.new.self
    entry (c.range.ensures.between tt) (c.in-Some.ensures {u = tt}).steps c.self.invariant.inside)
    ∙ sym (held-found c.self.inside.base c.self.inside.levels.items c.self.inside.places.entries c.self.invariant.rising c.args.key.now
    c.range.result (c.range.ensures.between tt) c.self.inside.base c.next_back.new.self entry (c.in-Some.ensures {u = tt}).steps)
    ∙ ap (λ boundaries. held boundaries c.args.key.now) c.self.view_is

pub returns-in-None : goal.returns-in-None
returns-in-None g c =
    sym (held-not_found c.self.inside.base c.self.inside.levels.items c.self.inside.places.entries c.self.invariant.rising c.args.key.now
    c.range.result (c.range.ensures.between tt) c.self.inside.base (c.in-None.ensures {u = tt}).steps.0)
    ∙ ap (λ boundaries. held boundaries c.args.key.now) c.self.view_is
