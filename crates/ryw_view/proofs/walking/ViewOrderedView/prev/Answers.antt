use Rattle.std.proofs.Common.{true, Some, None, refl, sym, ◌∙◌}
use Rattle.std.proofs.lemmas.Result.{IfOk-weaker}
use Rattle.std.specs.Map.Iter.{deref_pair}
use Rattle.std.specs.Option.{option_map}
use Rattle.key_bytes.specs.Entries.{entry_of}
use Rattle.ryw_view.specs.Views.{seen_of, stored_of}
use Rattle.ryw_view.proofs.Firsts.{met_last}
use Rattle.ryw_view.proofs.Passed.{passed_segment, met_behind, met_to_the_end, fewer_below, last_below}
use Rattle.ryw_view.proofs.Segments.{segment_backward, tells_bare, bare_met}
use Rattle.ryw_view.proofs.walking.ViewOrderedView.prev.Goals as goal

pub last_in-requires : goal.last_in-requires
last_in-requires c =
    let edits = c.args.self.now.edits.now in let boundary = c.in-Some.ensures {u = tt} in
    segment_backward edits.mutations edits.boundaries c.loop-boundary.until.now c.in-Some.boundary.now boundary.boundary boundary.alike boundary.single

pub returns-in-Some-2 : goal.returns-in-Some-2
returns-in-Some-2 c =
    let view = seen_of c.args.self.now in let key = c.args.key.now in let pair = entry_of c.in-Some-2.pair in
    met_last view key (Some pair)
    (met_behind view key c.loop-boundary.until.now true c.loop-boundary.invariant (Some c.in-Some.boundary.now) pair
    (rw c.in-Some-2.is at (c.in_ok-pair.ensures {u = tt})))

pub loop-boundary-smaller : goal.loop-boundary-smaller
loop-boundary-smaller c =
    fewer_below c.args.self.now.edits.now.boundaries c.loop-boundary.until.now c.in-Some.boundary.now (sym (c.in-Some.ensures {u = tt}).boundary)

pub loop-boundary-preserved : goal.loop-boundary-preserved
loop-boundary-preserved c =
    let view = seen_of c.args.self.now in let until = c.loop-boundary.until.now in let boundary = c.in-Some.boundary.now in
    passed_segment view c.args.key.now until true c.loop-boundary.invariant boundary
    (last_below c.args.self.now.edits.now.boundaries until boundary (sym (c.in-Some.ensures {u = tt}).boundary))
    (rw c.in_default-2.is at (c.in_ok-pair.ensures {u = tt}))

pub returns : goal.returns
returns c =
    let self = c.args.self.now in let view = seen_of self in let key = c.args.key.now in let until = c.loop-boundary.until.now in
    let pair = option_map deref_pair c.last_stored.result in
    IfOk-weaker c.copied.result _ _
    (λ copy same. same
    ∙ met_last view key pair
    (met_to_the_end view key until true c.loop-boundary.invariant pair
    (bare_met self.edits.now.mutations (stored_of self) until true None
    (λ q is_on inside. tells_bare self.edits.now.mutations q ((c.in_default.ensures {u = tt}).bare refl q is_on)) pair
    c.last_stored.ensures)))
    c.copied.ensures
