use Rattle.std.proofs.Common.{◌<◌, sym, ap, ◌∙◌, arith}
use Rattle.std.specs.Option.{option_map}
use Rattle.key_bytes.specs.Entries.{entry_of}
use Rattle.range_read.proofs.Taking.{nth_step}
use Rattle.range_read.proofs.resolving.nth_key.Goals as goal

pub loop-from-preserved : goal.loop-from-preserved
loop-from-preserved g c =
    let some : 0 < c.loop-from.left = omega arith in
    nth_step (g.V.OrderedView.map c.args.view.now) c.loop-from.from c.args.reverse (entry_of c.in-Some.pair) c.in_ok-from-2.from
    c.loop-from.left
    (ap (option_map entry_of) (sym c.in-Some.is) ∙ (c.in_ok-pair.ensures {u = tt})) (c.in_ok-from-2.ensures {u = tt}) some
    ∙ c.loop-from.invariant
