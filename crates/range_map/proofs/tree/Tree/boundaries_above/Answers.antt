use Rattle.std.proofs.Common.{◌≡◌, length, sym, ap, subst, ◌∙◌}
use Rattle.std.proofs.Math.Bool.{and-true}
use Rattle.std.specs.List.{filter}
use Rattle.key_bytes.specs.Keys.{key_lt}
use Rattle.range_map.specs.Places.{laid_out, AreInside}
use Rattle.range_map.proofs.Spans.{inside_filter, laid_out-filter}
use Rattle.range_map.proofs.tree.Tree.boundaries_above.Goals as goal

pub new-requires : goal.new-requires
new-requires g c =
    let places = c.self.inside.places.entries in let len = length c.self.inside.levels.items in let is_above = key_lt c.args.key.now in
    let span : c.range.result ≡ filter (λ e. is_above e.0) places =
    c.range.ensures.between tt ∙ (λ i. filter (λ e. and-true (is_above e.0) i) places) in
    subst (AreInside len) (sym span) (inside_filter (λ e. is_above e.0) len places c.self.invariant.inside)

pub returns : goal.returns
returns g c =
    let inside = c.self.inside in let is_above = key_lt c.args.key.now in
    c.new.ensures
    ∙ ap (laid_out inside.base inside.levels.items)
    (c.range.ensures.between tt ∙ (λ i. filter (λ e. and-true (is_above e.0) i) inside.places.entries))
    ∙ laid_out-filter inside.base inside.levels.items is_above inside.places.entries
    ∙ ap (λ boundaries. filter (λ e. is_above e.0) boundaries.entries) c.self.view_is
