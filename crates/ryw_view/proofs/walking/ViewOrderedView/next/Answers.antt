use Rattle.std.proofs.Common.{false, None, Some, option_copied, sym, ap, subst, ◌∙◌}
use Rattle.key_bytes.specs.Entries.{entry_of}
use Rattle.key_bytes.specs.Keys.{key_lt}
use Rattle.range_read.proofs.Rising.{first_passes}
use Rattle.ryw_view.specs.Views.{seen_of}
use Rattle.ryw_view.specs.Walks.{IsFirstMet}
use Rattle.ryw_view.proofs.Firsts.{met_first}
use Rattle.ryw_view.proofs.Passed.{passed_segment, met_behind, met_to_the_end, fewer_above}
use Rattle.ryw_view.proofs.Segments.{segment_up}
use Rattle.ryw_view.proofs.walking.ViewOrderedView.next.Goals as goal

pub first_in-requires-clause-segment : goal.first_in-requires-clause-segment
first_in-requires-clause-segment c =
    let edits = c.args.self.now.edits.now in let next = c.around.ensures in
    segment_up edits.mutations edits.boundaries c.loop-pair.from.now (option_copied c.around.result.1) next.boundary next.alike next.single

pub returns-in-Some : goal.returns-in-Some
returns-in-Some c =
    let view = seen_of c.args.self.now in let key = c.args.key.now in let pair = entry_of c.in-Some.pair in
    met_first view key false (Some pair)
    (met_behind view key c.loop-pair.from.now false c.loop-pair.invariant (option_copied c.around.result.1) pair
    (rw c.in-Some.is at (c.in_ok-pair.ensures {u = tt})))

pub loop-pair-smaller : goal.loop-pair-smaller
loop-pair-smaller c =
    fewer_above c.args.self.now.edits.now.boundaries c.loop-pair.from.now c.in-Some-boundary.boundary.now
    (sym c.around.ensures.boundary ∙ ap option_copied c.in-Some-boundary.is)

pub loop-pair-preserved : goal.loop-pair-preserved
loop-pair-preserved c =
    let view = seen_of c.args.self.now in let from = c.loop-pair.from.now in let boundary = c.in-Some-boundary.boundary.now in
    passed_segment view c.args.key.now from false c.loop-pair.invariant boundary
    (first_passes (key_lt from) c.args.self.now.edits.now.boundaries boundary (sym c.around.ensures.boundary ∙ ap option_copied c.in-Some-boundary.is))
    (subst (λ boundary. IsFirstMet view from false (option_copied boundary) None) c.in-Some-boundary.is
    (rw c.in_default.is at (c.in_ok-pair.ensures {u = tt})))

pub returns-in_default-boundary : goal.returns-in_default-boundary
returns-in_default-boundary c =
    let view = seen_of c.args.self.now in let key = c.args.key.now in let from = c.loop-pair.from.now in
    met_first view key false None
    (met_to_the_end view key from false c.loop-pair.invariant None
    (subst (λ boundary. IsFirstMet view from false (option_copied boundary) None) c.in_default-boundary.is
    (rw c.in_default.is at (c.in_ok-pair.ensures {u = tt}))))
