use Rattle.std.proofs.Common.{sym, ap, subst, ◌∙◌}
use Rattle.std.specs.List.{filter}
use Rattle.key_bytes.specs.Keys.{key_le, key_lt}
use Rattle.range_map.proofs.Held.{IsRising}
use Rattle.range_map.proofs.Searched.{part_below}
use Rattle.range_map.proofs.Spans.{filter_both, rising_filter}
use Rattle.range_map.proofs.row.Row.between.Goals as goal

pub returns : goal.returns
returns g c =
    let begin = c.args.begin.now in let end = c.args.end.now in let all = c.args.self.now in let from = c.from-boundaries in
    let rising = subst IsRising (sym from.ensures.value) (rising_filter (key_le begin) all from.ensures.rising) in
    part_below end from.result.now rising c.below.result c.below.ensures.count
    ∙ ap (filter (λ e. key_lt e.0 end)) from.ensures.value
    ∙ filter_both (λ e. key_lt e.0 end) (λ e. key_le begin e.0) all
