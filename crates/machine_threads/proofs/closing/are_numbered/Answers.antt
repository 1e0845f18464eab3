use Rattle.std.proofs.Common.{sym, ◌∙◌, arith}
use Rattle.std.proofs.lemmas.Option.{slice_get_within}
use Rattle.machine_threads.proofs.Settling.{numbered_more}
use Rattle.machine_threads.proofs.closing.are_numbered.Goals as goal

pub loop-place-preserved : goal.loop-place-preserved
loop-place-preserved c =
    numbered_more c.args.ended.now c.loop-place.place c.index-ended-place.result c.index-ended-place.is
    (sym c.number.ensures ∙ sym c.from.ensures ∙ c.if-from-place.false) c.loop-place.invariant

pub returns : goal.returns
returns c is_true number one at = c.loop-place.invariant number one
    (omega (arith, slice_get_within c.args.ended.now number one at, c.loop-place-test.false)) at
