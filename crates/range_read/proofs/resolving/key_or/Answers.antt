use Rattle.std.proofs.Common.{sym, ap, ◌∙◌}
use Rattle.std.proofs.lemmas.Option.{unwrap_or-slice_get}
use Rattle.std.proofs.lemmas.Result.{IfOk-weaker}
use Rattle.std.specs.Map.{keys_of}
use Rattle.std.specs.Option.{unwrap_or}
use Rattle.range_read.specs.Walks.{onward}
use Rattle.range_read.proofs.resolving.key_or.Goals as goal

pub returns-in-None : goal.returns-in-None
returns-in-None g c =
    let keys = keys_of (onward (g.V.OrderedView.map c.args.view.now) c.args.start.now c.args.reverse) in
    let d = c.args.otherwise.now in
    let fewer = ap (λ o. unwrap_or o d) (sym c.in-None.is ∙ (c.in_ok-key.ensures {u = tt})) ∙ unwrap_or-slice_get keys c.args.place d in
    IfOk-weaker c.from_slice.result _ _ (λ _ is. is ∙ fewer) c.from_slice.ensures
