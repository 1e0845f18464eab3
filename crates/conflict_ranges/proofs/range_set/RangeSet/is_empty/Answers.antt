use Rattle.std.proofs.Common.{sym, subst, ◌∙◌, true≢false}
use Rattle.std.proofs.lemmas.Bool.{false≢true}
use Rattle.conflict_ranges.specs.Only.{IsFilled}
use Rattle.conflict_ranges.proofs.Only.{is_only, covers_only}
use Rattle.conflict_ranges.proofs.Walks.{begin_within}
use Rattle.conflict_ranges.proofs.range_set.RangeSet.is_empty.Goals as goal

pub returns-in-Some-clause-none : goal.returns-in-Some-clause-none
returns-in-Some-clause-none c =
    let range = c.in-Some.field-0 in let own = c.args.self.now in
    let is = is_only c.self.inside.only c.self.inside.laid own range c.self.view_is c.in-Some.is in (
      λ none. absurd (false≢true none),
      λ none. absurd (true≢false (sym (covers_only own range is range.begin ∙ begin_within range (subst IsFilled c.in-Some.is c.self.invariant))
          ∙ none range.begin)),
    )
