use Rattle.std.proofs.Common.{sym, ap, ◌∙◌}
use Rattle.std.specs.List.{list_any}
use Rattle.key_bytes.specs.Ranges.{meets}
use Rattle.conflict_ranges.proofs.Meeting.{common-found}
use Rattle.conflict_ranges.proofs.Only.{is_only, or_none}
use Rattle.conflict_ranges.proofs.range_set.RangeSet.meets.Goals as goal

pub returns-in-Some-clause-common : goal.returns-in-Some-clause-common
returns-in-Some-clause-common c =
    let only = c.in-Some.only in let own = c.args.self.now in let range = c.args.range.now in
    common-found own range c.meets.result
    (c.meets.ensures.value
    ∙ sym (or_none (meets only range))
    ∙ ap (list_any (λ own. meets own range)) (sym (is_only c.self.inside.only c.self.inside.laid own only c.self.view_is c.in-Some.is)))
