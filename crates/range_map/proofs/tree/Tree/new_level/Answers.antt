use Rattle.std.proofs.Common.{List, ℕ, length, ap, sym, ◌∙◌, arith}
use Rattle.std.proofs.lemmas.List.{get_or_default}
use Rattle.range_map.specs.Boundaries.{held, is_boundary}
use Rattle.range_map.proofs.Spans.{held-found, held-not_found, is_among-found, is_among-not_found, found_inside}
use Rattle.range_map.proofs.Searched.{same_text}
use Rattle.range_map.proofs.tree.Tree.new_level.Goals as goal

pub index-requires : goal.index-requires
index-requires g c =
    let ok = c.self.inside.levels.ok in
    let inside = found_inside _ (length c.self.inside.levels.items) c.self.inside.places.entries c.range.result c.next_back.new.self
    (c.in-Some.boundary.now, c.in-Some.field-0-1.now) (c.range.ensures.between tt) (c.in-Some.ensures {u = tt}).steps c.self.invariant.inside in
    omega (arith, ok, inside)

pub returns-in-Some : goal.returns-in-Some
returns-in-Some g c =
    let inside = c.self.inside in let key = c.args.key.now in
    sym (ap (is_boundary key) c.self.view_is)
    ∙ is_among-found inside.base inside.levels.items inside.places.entries c.self.invariant.rising key c.range.result
    (c.range.ensures.between tt) c.next_back.new.self (c.in-Some.boundary.now, c.in-Some.field-0-1.now) (c.in-Some.ensures {u = tt}).steps
    ∙ same_text key c.in-Some.boundary.now
    ∙ sym (c.if-eq.ensures {u = tt})

pub returns-in-Some-2 : goal.returns-in-Some-2
returns-in-Some-2 g c =
    let inside = c.self.inside in let key = c.args.key.now in
    let entry : List ℕ × ℕ = (c.in-Some.boundary.now, c.in-Some.field-0-1.now) in
    let steps = (c.in-Some.ensures {u = tt}).steps in (
      sym (ap (is_boundary key) c.self.view_is)
          ∙ is_among-found inside.base inside.levels.items inside.places.entries c.self.invariant.rising key c.range.result
          (c.range.ensures.between tt) c.next_back.new.self entry steps
          ∙ same_text key c.in-Some.boundary.now
          ∙ sym (c.if-eq.ensures {u = tt}),
      c.spread.ensures
          ∙ ap g.T.Spread.spread
          (c.index.ensures
          ∙ get_or_default inside.levels.items c.in-Some.field-0-1.now c.index.result.now inside.base
          (found_inside _ (length inside.levels.items) inside.places.entries c.range.result c.next_back.new.self
          entry (c.range.ensures.between tt) steps c.self.invariant.inside)
          ∙ sym (held-found inside.base inside.levels.items inside.places.entries c.self.invariant.rising key
          c.range.result (c.range.ensures.between tt) inside.base c.next_back.new.self entry steps)
          ∙ ap (λ boundaries. held boundaries key) c.self.view_is),
    )

pub returns-in-None : goal.returns-in-None
returns-in-None g c =
    let inside = c.self.inside in let key = c.args.key.now in
    let none = (c.in-None.ensures {u = tt}).steps.0 in (
      sym (ap (is_boundary key) c.self.view_is)
          ∙ is_among-not_found inside.base inside.levels.items inside.places.entries c.self.invariant.rising key c.range.result
          (c.range.ensures.between tt) none,
      c.spread-in-None.ensures
          ∙ ap g.T.Spread.spread
          (sym (held-not_found inside.base inside.levels.items inside.places.entries c.self.invariant.rising key
          c.range.result (c.range.ensures.between tt) inside.base none)
          ∙ ap (λ boundaries. held boundaries key) c.self.view_is),
    )
