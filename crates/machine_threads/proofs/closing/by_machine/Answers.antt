use Rattle.std.proofs.Common.{◌≡◌, [], refl, ap, ◌∙◌}
use Rattle.std.proofs.lemmas.List.{length-set}
use Rattle.std.proofs.lemmas.Iterator.{YieldsList-from_slice, YieldsList-from_zip}
use Rattle.std.proofs.lemmas.Iterator.Adapters.{YieldsList-from_vec}
use Rattle.std.proofs.lemmas.Iterator.Consumers.{YieldsList-at, YieldsList-end}
use Rattle.std.proofs.lemmas.Option.{slice_get_read}
use Rattle.std.specs.Global.{Vec}
use Rattle.fdb_calls.specs.declared.Reply.{Reply}
use Rattle.future_cell.specs.declared.setter.Receipt.{Receipt}
use Rattle.future_cell.specs.declared.wake.Wake.{Wake}
use Rattle.request_line.specs.Taking.{items_of}
use Rattle.machine_threads.proofs.Settling.{sorted_more, All-at}
use Rattle.machine_threads.proofs.closing.by_machine.Goals as goal

pub loop-machine-init : goal.loop-machine-init
loop-machine-init c = record {
  as_many = c.in_ok-sorted.ensures.as_many;
  sorted = λ number own at. All-at (λ (it : Vec (Receipt Reply Wake)). it.items ≡ []) c.in_ok-sorted.sorted.items number own
      c.in_ok-sorted.ensures.none at;
}

pub loop-machine-preserved : goal.loop-machine-preserved
loop-machine-preserved c = record {
  as_many = length-set c.loop-machine.sorted.items c.from.result c.push.new.self ∙ c.loop-machine.invariant.as_many;
  sorted = sorted_more c.loop-machine.yielded c.in-Some.machine c.in-Some.receipt c.loop-machine.sorted.items c.from.result
      c.in-Some-get_mut.own.now c.push.new.self c.from.ensures
      (slice_get_read c.loop-machine.sorted.items _ c.from.result c.in-Some-get_mut.own.now refl c.in-Some-get_mut.ensures.item.3.0
      c.in-Some-get_mut.ensures.value)
      c.in_ok-push-in-Some-get_mut.ensures.items c.loop-machine.invariant.sorted;
}

pub returns : goal.returns
returns c =
    let road = YieldsList-at c.into_iter-machine-iterator.ensures.into_iter_gives (YieldsList-from_zip
    (YieldsList-at c.zip-machine-items.ensures.first (YieldsList-from_slice c.args.order.now (c.iter.ensures.rest ∙ c.as_slice.ensures)))
    (YieldsList-from_vec c.args.receipts c.zip-machine-items.ensures.second.0 c.zip-machine-items.ensures.second.1)) in
    let end = YieldsList-end road c.loop-machine.yielded c.loop-machine.machine-iterator c.loop-machine.yielded_by c.next.result c.next.new.self
    c.in-None.is c.next.ensures.steps in
    record {
      as_many = c.loop-machine.invariant.as_many;
      sorted = λ number own at. c.loop-machine.invariant.sorted number own at ∙ ap (items_of number) end.0;
    }
