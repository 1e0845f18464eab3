use Rattle.std.proofs.Common.{◌≡◌, length, sym, ap, subst, ◌∙◌}
use Rattle.std.specs.List.{filter}
use Rattle.key_bytes.specs.Keys.{within}
use Rattle.key_map.proofs.Spans.{range_contains-within}
use Rattle.range_map.specs.Places.{laid_out, AreInside}
use Rattle.range_map.proofs.Spans.{inside_filter, laid_out-filter}
use Rattle.range_map.proofs.tree.Tree.boundaries_between.Goals as goal

pub new-requires : goal.new-requires
new-requires g c =
    let begin = c.args.begin.now in let end = c.args.end.now in
    let places = c.self.inside.places.entries in let len = length c.self.inside.levels.items in
    let span : c.range.result ≡ filter (λ e. within begin end e.0) places =
    c.range.ensures.between tt ∙ (λ i. filter (λ e. range_contains-within begin end e.0 i) places) in
    subst (AreInside len) (sym span) (inside_filter (λ e. within begin end e.0) len places c.self.invariant.inside)

pub returns : goal.returns
returns g c =
    let begin = c.args.begin.now in let end = c.args.end.now in let inside = c.self.inside in
    c.new.ensures
    ∙ ap (laid_out inside.base inside.levels.items)
    (c.range.ensures.between tt ∙ (λ i. filter (λ e. range_contains-within begin end e.0 i) inside.places.entries))
    ∙ laid_out-filter inside.base inside.levels.items (within begin end) inside.places.entries
    ∙ ap (λ boundaries. filter (λ e. within begin end e.0) boundaries.entries) c.self.view_is
