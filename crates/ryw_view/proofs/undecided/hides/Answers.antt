use Rattle.std.proofs.Common.{sym, ap, subst, MatchOption, ◌∙◌}
use Rattle.std.proofs.lemmas.Bool.{not-false, not-true}
use Rattle.std.specs.List.{list_any}
use Rattle.key_bytes.specs.Keys.{key_lt}
use Rattle.key_bytes.specs.Ranges.{meets}
use Rattle.model_database.specs.States.{unreadable}
use Rattle.range_read.proofs.Rising.{first_passes}
use Rattle.write_map.proofs.Filled.{plain_readable}
use Rattle.ryw_view.specs.Segments.{AreAlikeUpTo, IsBoundaryBelow}
use Rattle.ryw_view.proofs.Decided.{hidden_is, at_begin, walked_on, last_met, one_met}
use Rattle.ryw_view.proofs.Meetings.{empty_meets_none}
use Rattle.ryw_view.proofs.Passed.{fewer_above}
use Rattle.ryw_view.proofs.undecided.hides.Goals as goal
use Rattle.ryw_view.proofs.undecided.hides.Goals.{then-not-has_stamps-via-then-not-has_stamps, then-not-has_stamps-via-else-not-has_stamps+then-is_empty}

pub returns-then-not-has_stamps : goal.returns-then-not-has_stamps
returns-then-not-has_stamps c =
    let mutations = c.args.edits.now.mutations in let range = c.args.range.now in
    elim c.then-not-has_stamps.branch [
      | then-not-has_stamps-via-then-not-has_stamps w ↦
          ap (list_any (meets range)) (sym (plain_readable mutations (sym (w.if-not-has_stamps.ensures {u = tt}))))
      | then-not-has_stamps-via-else-not-has_stamps+then-is_empty w ↦
          sym (empty_meets_none range (unreadable mutations)
          (not-true (key_lt range.begin range.end) (sym w.is_empty.ensures ∙ w.if-is_empty.true)))
    ]

pub loop-boundary-init : goal.loop-boundary-init
loop-boundary-init c =
    let range = c.args.range.now in
    at_begin c.args.edits.now.mutations range
    (not-false (key_lt range.begin range.end) (sym c.is_empty.ensures ∙ c.if-is_empty.false))

pub returns-then-is_hidden : goal.returns-then-is_hidden
returns-then-is_hidden c =
    let mutations = c.args.edits.now.mutations in let from = c.loop-boundary.from.now in
    sym (one_met mutations c.args.range.now from c.loop-boundary.invariant
    (sym (hidden_is mutations from c.around_below.result.0 c.around_below.ensures.state) ∙ sym c.is_hidden.ensures ∙ c.if-is_hidden.true))

pub loop-boundary-smaller : goal.loop-boundary-smaller
loop-boundary-smaller c =
    let pending = c.args.edits.now in let from = c.loop-boundary.from.now in
    let next = subst (λ boundary. MatchOption boundary (AreAlikeUpTo pending.mutations from c.args.range.now.end)
    (λ boundary. IsBoundaryBelow pending from c.args.range.now.end boundary.now)) c.in-Some.is c.around_below.ensures.boundary in
    fewer_above pending.boundaries from c.in-Some.boundary.now next.is

pub loop-boundary-preserved : goal.loop-boundary-preserved
loop-boundary-preserved c =
    let pending = c.args.edits.now in let from = c.loop-boundary.from.now in let boundary = c.in-Some.boundary.now in
    let next = subst (λ boundary. MatchOption boundary (AreAlikeUpTo pending.mutations from c.args.range.now.end)
    (λ boundary. IsBoundaryBelow pending from c.args.range.now.end boundary.now)) c.in-Some.is c.around_below.ensures.boundary in
    walked_on pending.mutations c.args.range.now from boundary c.loop-boundary.invariant
    (first_passes (key_lt from) pending.boundaries boundary next.is) next.alike
    (sym (hidden_is pending.mutations from c.around_below.result.0 c.around_below.ensures.state)
    ∙ sym c.is_hidden.ensures ∙ c.if-is_hidden.false) next.below

pub returns-in_default : goal.returns-in_default
returns-in_default c =
    let pending = c.args.edits.now in let from = c.loop-boundary.from.now in
    let last = subst (λ boundary. MatchOption boundary (AreAlikeUpTo pending.mutations from c.args.range.now.end)
    (λ boundary. IsBoundaryBelow pending from c.args.range.now.end boundary.now)) c.in_default.is c.around_below.ensures.boundary in
    sym c.if-is_hidden.false ∙ c.is_hidden.ensures
    ∙ hidden_is pending.mutations from c.around_below.result.0 c.around_below.ensures.state
    ∙ last_met pending.mutations c.args.range.now from c.loop-boundary.invariant last
