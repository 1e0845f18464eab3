use Rattle.std.proofs.Common.{ap, sym, ◌∙◌}
use Rattle.std.specs.List.{filter}
use Rattle.std.specs.Option.{option_map}
use Rattle.key_bytes.specs.Keys.{key_lt}
use Rattle.key_map.specs.Ends.{first}
use Rattle.range_map.specs.Boundaries.{boundaries_of}
use Rattle.range_map.proofs.Spans.{first-above}
use Rattle.range_map.proofs.tree.Tree.next.Goals as goal

pub returns-in-Some : goal.returns-in-Some
returns-in-Some g c =
    sym (ap (λ es. option_map (λ e. e.0) (first es)) (c.in-Some.ensures {u = tt}).steps)
    ∙ first-above c.self.inside.base c.self.inside.levels.items c.self.inside.places.entries c.args.key.now c.range.result
    (c.range.ensures.between tt)
    ∙ ap (λ boundaries. first (filter (key_lt c.args.key.now) (boundaries_of boundaries))) c.self.view_is

pub returns-in-None : goal.returns-in-None
returns-in-None g c =
    sym (ap (λ es. option_map (λ e. e.0) (first es)) (c.in-None.ensures {u = tt}).steps.0)
    ∙ first-above c.self.inside.base c.self.inside.levels.items c.self.inside.places.entries c.args.key.now c.range.result
    (c.range.ensures.between tt)
    ∙ ap (λ boundaries. first (filter (key_lt c.args.key.now) (boundaries_of boundaries))) c.self.view_is
