use Rattle.std.proofs.Common.{sym, ap, subst, ◌∙◌, option_copied}
use Rattle.ryw_view.specs.Views.{stored_of}
use Rattle.ryw_view.proofs.Passed.{fewer_above}
use Rattle.ryw_view.proofs.Segments.{segment_up}
use Rattle.txn_parts.specs.Changing.{LeadUpTo}
use Rattle.txn_parts.proofs.Changes.{led_first, led_all}
use Rattle.txn_parts.proofs.changing.changes_from.Goals as goal

pub loop-changes-init : goal.loop-changes-init
loop-changes-init c =
    rw c.requires.least (rw c.new-changes.ensures (led_first c.args.view.now.edits.now.mutations (stored_of c.args.view.now)))

pub add_segment-requires-clause-segment : goal.add_segment-requires-clause-segment
add_segment-requires-clause-segment c =
    let edits = c.args.view.now.edits.now in let next = c.around.ensures in
    segment_up edits.mutations edits.boundaries c.loop-changes.from.now (option_copied c.around.result.1) next.boundary next.alike next.single

pub loop-changes-smaller : goal.loop-changes-smaller
loop-changes-smaller c =
    fewer_above c.args.view.now.edits.now.boundaries c.loop-changes.from.now c.in-Some.boundary.now
    (sym c.around.ensures.boundary ∙ ap option_copied c.in-Some.is)

pub loop-changes-preserved : goal.loop-changes-preserved
loop-changes-preserved c =
    let view = c.args.view.now in
    subst (λ boundary. LeadUpTo view.edits.now.mutations (stored_of view) (option_copied boundary) c.add_segment.new.changes) c.in-Some.is
    (c.in_ok-add_segment.ensures {u = tt})

pub returns-in_default-clause-leads : goal.returns-in_default-clause-leads
returns-in_default-clause-leads c =
    let view = c.args.view.now in
    led_all view.edits.now.mutations (stored_of view) c.add_segment.new.changes
    (subst (λ boundary. LeadUpTo view.edits.now.mutations (stored_of view) (option_copied boundary) c.add_segment.new.changes) c.in_default.is
    (c.in_ok-add_segment.ensures {u = tt}))
