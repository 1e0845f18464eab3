use Rattle.std.proofs.Common.{option_copied, ◌∙◌}
use Rattle.ryw_view.specs.Views.{stored_of}
use Rattle.txn_parts.proofs.Changes.{before_first, before_above, before_rest, before_none}
use Rattle.txn_parts.proofs.changing.clear_stored.Goals as goal

pub loop-key-init : goal.loop-key-init
loop-key-init c =
    let view = c.args.view.now in let begin = c.args.begin.now in let boundary = option_copied c.args.boundary in
    before_first view.edits.now.mutations (stored_of view) begin boundary c.requires.segment c.requires.cleared c.args.changes.now
    c.requires.before _ (c.into_iter-key-iterator.ensures.into_iter_gives ∙ c.stored_from-key-items.ensures)

pub push-requires : goal.push-requires
push-requires c =
    let view = c.args.view.now in let begin = c.args.begin.now in let boundary = option_copied c.args.boundary in
    before_above view.edits.now.mutations (stored_of view) begin boundary c.requires.segment c.requires.cleared c.loop-key.changes
    c.loop-key.key-iterator c.loop-key.invariant (c.in-Some.key.now, c.in-Some.field-0-1.now) c.next.new.self
    (c.in-Some.ensures {u = tt}).steps

pub loop-key-preserved : goal.loop-key-preserved
loop-key-preserved c =
    let view = c.args.view.now in let begin = c.args.begin.now in let boundary = option_copied c.args.boundary in
    rw (c.in_ok-push.ensures {u = tt})
    (before_rest view.edits.now.mutations (stored_of view) begin boundary c.requires.segment c.requires.cleared c.loop-key.changes
    c.loop-key.key-iterator c.loop-key.invariant (c.in-Some.key.now, c.in-Some.field-0-1.now) c.next.new.self
    (c.in-Some.ensures {u = tt}).steps)

pub returns : goal.returns
returns c =
    let view = c.args.view.now in let begin = c.args.begin.now in let boundary = option_copied c.args.boundary in
    before_none view.edits.now.mutations (stored_of view) begin boundary c.requires.segment c.requires.cleared c.loop-key.changes
    c.loop-key.key-iterator c.loop-key.invariant (c.in-None.ensures {u = tt}).steps.0
