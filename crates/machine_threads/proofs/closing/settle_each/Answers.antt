use Rattle.std.proofs.Common.{◌≡◌, ◌++◌, ◌∷◌, [], length, map, refl, sym, ap, ◌∙◌, subst}
use Rattle.std.specs.List.{All, zip}
use Rattle.std.specs.Global.{Vec}
use Rattle.std.proofs.lemmas.List.{map-append, map-id}
use Rattle.std.proofs.lemmas.List.Elements.{All-push}
use Rattle.std.proofs.lemmas.Option.{slice_get_read}
use Rattle.std.proofs.lemmas.Iterator.{YieldsList-from_zip}
use Rattle.std.proofs.lemmas.Iterator.Adapters.{YieldsList-from_vec}
use Rattle.std.proofs.lemmas.Iterator.Consumers.{YieldsList-at, YieldsList-end, YieldsList-turn}
use Rattle.fdb_calls.specs.declared.Reply.{Reply}
use Rattle.future_cell.specs.declared.setter.Receipt.{Receipt}
use Rattle.future_cell.specs.declared.wake.Wake.{Wake}
use Rattle.machine_threads.specs.declared.closing.Unsettled.{Unsettled}
use Rattle.machine_threads.proofs.Settling.{map-zip, zip-at, zip-parts, All-at, IsSettledBy}
use Rattle.machine_threads.proofs.closing.settle_each.Goals as goal

pub settle_all-requires : goal.settle_all-requires
settle_all-requires c =
    let unsettled = c.args.unsettled in
    let receipts = c.args.receipts in
    let road = YieldsList-at c.into_iter-one-iterator.ensures.into_iter_gives (YieldsList-from_zip
    (YieldsList-at c.zip-one-items.ensures.first (YieldsList-from_vec unsettled.items c.into_iter.ensures.rest (c.into_iter.ensures.len ∙ unsettled.ok.0)))
    (YieldsList-from_vec receipts.items c.zip-one-items.ensures.second.0 (c.zip-one-items.ensures.second.1 ∙ receipts.ok.0))) in
    let turn = YieldsList-turn road c.loop-one.yielded c.loop-one.one-iterator c.loop-one.yielded_by c.next.result c.next.new.self
    (c.in-Some.one, c.in-Some.own) c.in-Some.is c.next.ensures.steps in
    let place = length c.loop-one.yielded in
    let both = zip-parts unsettled.items receipts.items place (c.in-Some.one, c.in-Some.own)
    (slice_get_read (zip unsettled.items receipts.items) _ place (c.in-Some.one, c.in-Some.own) refl turn.0 turn.1) in
    c.requires.cells place c.in-Some.one c.in-Some.own both.0 both.1

pub loop-one-preserved : goal.loop-one-preserved
loop-one-preserved c = record {
  suspended_machines = c.in_ok-push.ensures.items ∙ ap (λ suspended_machines. suspended_machines ++ c.in-Some.one.suspended ∷ []) c.loop-one.invariant.suspended_machines
      ∙ sym (map-append (λ (both : Unsettled × Vec (Receipt Reply Wake)). both.0.suspended) c.loop-one.yielded ((c.in-Some.one, c.in-Some.own) ∷ []));
  settled = All-push IsSettledBy c.loop-one.yielded (c.in-Some.one, c.in-Some.own) c.loop-one.invariant.settled c.settle_all.ensures;
}

pub returns : goal.returns
returns c =
    let unsettled = c.args.unsettled in
    let receipts = c.args.receipts in
    let road = YieldsList-at c.into_iter-one-iterator.ensures.into_iter_gives (YieldsList-from_zip
    (YieldsList-at c.zip-one-items.ensures.first (YieldsList-from_vec unsettled.items c.into_iter.ensures.rest (c.into_iter.ensures.len ∙ unsettled.ok.0)))
    (YieldsList-from_vec receipts.items c.zip-one-items.ensures.second.0 (c.zip-one-items.ensures.second.1 ∙ receipts.ok.0))) in
    let end = YieldsList-end road c.loop-one.yielded c.loop-one.one-iterator c.loop-one.yielded_by c.next.result c.next.new.self
    c.in-None.is c.next.ensures.steps in
    let all : c.loop-one.yielded ≡ zip unsettled.items receipts.items = sym (map-id c.loop-one.yielded) ∙ end.0 in
    record {
      suspended_machines = c.loop-one.invariant.suspended_machines ∙ ap (map (λ (both : Unsettled × Vec (Receipt Reply Wake)). both.0.suspended)) all
          ∙ map-zip (λ (one : Unsettled). one.suspended) unsettled.items receipts.items c.requires.as_many;
      settled = λ number one own at own_at. All-at IsSettledBy (zip unsettled.items receipts.items) number (one, own)
          (subst (All IsSettledBy) all c.loop-one.invariant.settled) (zip-at unsettled.items receipts.items number one own at own_at);
    }
