use Rattle.std.proofs.Common.{sym, ap, subst, ◌∙◌}
use Rattle.std.specs.List.{filter}
use Rattle.key_bytes.specs.Keys.{key_le}
use Rattle.range_map.proofs.Held.{IsRising}
use Rattle.range_map.proofs.Searched.{part_from}
use Rattle.range_map.proofs.row.Row.from.Goals as goal

pub returns-clause-value : goal.returns-clause-value
returns-clause-value g c =
    let key = c.args.key.now in let same = c.as_slice-boundaries.ensures.value in
    part_from key c.as_slice-boundaries.result.now (subst IsRising (sym same) c.self.invariant) c.below.result c.below.ensures.count
    ∙ ap (filter (λ e. key_le key e.0)) (same ∙ c.self.view_is)
