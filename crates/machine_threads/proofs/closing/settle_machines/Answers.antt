use Rattle.std.proofs.Common.{◌≡◌, ◌<◌, ℕ, List, length, map, sym, ap, ◌∙◌, subst}
use Rattle.std.specs.List.{All}
use Rattle.std.proofs.lemmas.List.{length-map}
use Rattle.std.proofs.lemmas.List.Sorted.{All-permutation}
use Rattle.request_line.specs.Line.{receiver_line, taken}
use Rattle.network.specs.Clients.{client_line}
use Rattle.network.specs.Posts.{posts_of}
use Rattle.machine_threads.specs.declared.closing.Unsettled.{Unsettled}
use Rattle.threaded_machine.specs.declared.threaded.ThreadedMachine.{ThreadedMachine}
use Rattle.threaded_machine.specs.Threaded.{HasEnded}
use Rattle.machine_threads.specs.Closing.{AreNumbered}
use Rattle.machine_threads.proofs.Settling.{asking_within, all_pair_up, all_settled, as_many_receipts, of_these_when_closed, taken_when_closed}
use Rattle.machine_threads.proofs.closing.settle_machines.Goals as goal

pub close_all-requires : goal.close_all-requires
close_all-requires c = record {
  one_line = All-permutation (λ (one : ThreadedMachine). client_line one.client ≡ receiver_line c.args.receiver) c.args.ended.items
      c.sort_by_key.new.self.items c.sort_by_key.ensures.permutation c.requires.one_line;
}

-- lists of which one value is made have one length
same_length : {A B C : Type 0} (f : A → C) (g : B → C) (xs : List A) (ys : List B) → map f xs ≡ map g ys → length xs ≡ length ys
same_length f g xs ys same = sym (length-map xs f) ∙ ap length same ∙ length-map ys g

pub by_machine-requires : goal.by_machine-requires
by_machine-requires c =
    let closing = c.sort_by_key.new.self.items in
    let moved = c.sort_by_key.ensures.permutation in
    let numbered = subst AreNumbered c.deref.ensures.value (c.are_numbered.ensures c.if-not-are_numbered.false) in
    let left = c.in_ok-unsettled.ensures in
    let as_many : c.len.result ≡ length closing =
    c.len.ensures ∙ c.in_ok-unsettled.unsettled.ok.0 ∙ same_length (λ (one : Unsettled). one.suspended) (λ (one : ThreadedMachine). one.suspended) _ closing left.suspended_machines in
    record {
      each = as_many_receipts (posts_of (taken c.args.receiver)) c.args.order.now c.args.receipts c.requires.order c.requires.cells;
      named = subst (λ (w : ℕ × List ℕ). All (λ machine. machine < w.0) w.1) (λ i. (sym as_many i, sym c.requires.order i))
          (asking_within closing (taken c.args.receiver) numbered
          (taken_when_closed c.args.ended.items closing c.args.receiver c.close_all.new.receiver moved numbered c.requires.have_ended
          c.requires.cover c.requires.none_closed left.closed left.taken left.agrees c.requires.overs)
          (of_these_when_closed c.args.ended.items closing c.args.receiver c.close_all.new.receiver moved c.requires.cover
          c.requires.none_closed left.closed left.taken left.agrees));
    }

pub settle_each-requires : goal.settle_each-requires
settle_each-requires c =
    let closing = c.sort_by_key.new.self.items in
    let moved = c.sort_by_key.ensures.permutation in
    let numbered = subst AreNumbered c.deref.ensures.value (c.are_numbered.ensures c.if-not-are_numbered.false) in
    let left = c.in_ok-unsettled.ensures in
    record {
      as_many = c.in_ok-receipts.ensures.as_many ∙ c.len.ensures ∙ c.in_ok-unsettled.unsettled.ok.0;
      cells = all_pair_up closing (taken c.args.receiver) c.args.order.now c.args.receipts c.in_ok-unsettled.unsettled.items
          c.in_ok-receipts.receipts.items numbered (All-permutation HasEnded c.args.ended.items closing moved c.requires.have_ended)
          left.waiters c.in_ok-receipts.ensures.sorted
          (taken_when_closed c.args.ended.items closing c.args.receiver c.close_all.new.receiver moved numbered c.requires.have_ended
          c.requires.cover c.requires.none_closed left.closed left.taken left.agrees c.requires.overs)
          c.requires.order c.requires.cells;
    }

pub returns : goal.returns
returns c =
    let closing = c.sort_by_key.new.self.items in
    let moved = c.sort_by_key.ensures.permutation in
    let numbered = subst AreNumbered c.deref.ensures.value (c.are_numbered.ensures c.if-not-are_numbered.false) in
    let left = c.in_ok-unsettled.ensures in
    record {
      numbered = closing;
      all_of_them = moved;
      by_number = numbered;
      suspended_machines_are = sym left.suspended_machines ∙ sym c.in_ok-settle_each.ensures.suspended_machines;
      of_these = of_these_when_closed c.args.ended.items closing c.args.receiver c.close_all.new.receiver moved c.requires.cover
          c.requires.none_closed left.closed left.taken left.agrees;
      are_taken = taken_when_closed c.args.ended.items closing c.args.receiver c.close_all.new.receiver moved numbered
          c.requires.have_ended c.requires.cover c.requires.none_closed left.closed left.taken left.agrees c.requires.overs;
      are_settled = all_settled closing (taken c.args.receiver) c.args.order.now c.args.receipts c.in_ok-unsettled.unsettled.items
          c.in_ok-receipts.receipts.items numbered (All-permutation HasEnded c.args.ended.items closing moved c.requires.have_ended)
          left.waiters c.in_ok-receipts.ensures.sorted
          (c.in_ok-receipts.ensures.as_many ∙ c.len.ensures ∙ c.in_ok-unsettled.unsettled.ok.0) c.in_ok-settle_each.ensures.settled;
    }
