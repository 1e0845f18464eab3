use Rattle.std.proofs.Common.{◌≡◌, [], ◌∷◌, ◌++◌, length, map, sym, ap, ◌∙◌, subst, append_assoc, arith}
use Rattle.std.proofs.lemmas.List.{map-append, map-id}
use Rattle.std.proofs.lemmas.Iterator.Adapters.{YieldsList-from_vec}
use Rattle.std.proofs.lemmas.Iterator.Consumers.{YieldsList-end, YieldsList-turn}
use Rattle.request_line.specs.Line.{receiver_line, closed}
use Rattle.network.specs.Clients.{client_line}
use Rattle.machine_threads.specs.declared.closing.Unsettled.{Unsettled}
use Rattle.threaded_machine.specs.declared.threaded.ThreadedMachine.{ThreadedMachine}
use Rattle.threaded_machine.specs.Threaded.{history_of}
use Rattle.machine_threads.proofs.closing.close_all.Goals as goal

pub close_with-requires : goal.close_with-requires
close_with-requires c =
    let ended = c.args.ended in
    let gives = c.into_iter-one-iterator.ensures.into_iter_gives in
    let place = length c.loop-one.yielded in
    let turn = YieldsList-turn (YieldsList-from_vec ended.items gives.0 (gives.1 ∙ ended.ok.0)) c.loop-one.yielded c.loop-one.one-iterator
    c.loop-one.yielded_by c.next.result c.next.new.self c.in-Some.one c.in-Some.is c.next.ensures.steps in
    c.into_sender.ensures.line
    ∙ subst (λ (one : ThreadedMachine). client_line one.client ≡ receiver_line c.args.receiver.now) (sym turn.1)
    (c.requires.one_line place c.in-Some.one turn.0)
    ∙ sym c.loop-one.invariant.line_is

pub loop-one-preserved : goal.loop-one-preserved
loop-one-preserved c =
    let so_far = c.loop-one.invariant in
    let one = c.in-Some.one in
    let pushed = c.in_ok-push.ensures.items in
    record {
      line_is = c.close_with.ensures.line ∙ so_far.line_is;
      closed_are = c.close_with.ensures.closed ∙ (λ i. so_far.closed_are i ++ c.into_sender.ensures.history i ∷ [])
          ∙ append_assoc (closed c.args.receiver.now) (map history_of c.loop-one.yielded) (history_of one ∷ [])
          ∙ ap (λ l. closed c.args.receiver.now ++ l) (sym (map-append history_of c.loop-one.yielded (one ∷ [])));
      agree = λ _. record {
        in_order = c.close_with.ensures.in_order;
        all_where_as_many = c.close_with.ensures.all_where_as_many;
        after_split = c.close_with.ensures.after_split;
        of_these = c.close_with.ensures.of_these;
        apart = c.close_with.ensures.apart;
      };
      taken_are = c.close_with.ensures.taken ∙ so_far.taken_are;
      suspended_machines = ap (map (λ (it : Unsettled). it.suspended)) pushed
          ∙ map-append (λ (it : Unsettled). it.suspended) c.loop-one.unsettled.items _
          ∙ ap (λ l. l ++ one.suspended ∷ []) so_far.suspended_machines
          ∙ sym (map-append (λ (it : ThreadedMachine). it.suspended) c.loop-one.yielded (one ∷ []));
      waiters = ap (map (λ (it : Unsettled). it.waiters.items)) pushed
          ∙ map-append (λ (it : Unsettled). it.waiters.items) c.loop-one.unsettled.items _
          ∙ ap (λ l. l ++ one.waiters.items ∷ []) so_far.waiters
          ∙ sym (map-append (λ (it : ThreadedMachine). it.waiters.items) c.loop-one.yielded (one ∷ []));
    }

pub returns : goal.returns
returns c =
    let ended = c.args.ended in
    let gives = c.into_iter-one-iterator.ensures.into_iter_gives in
    let end = YieldsList-end (YieldsList-from_vec ended.items gives.0 (gives.1 ∙ ended.ok.0)) c.loop-one.yielded c.loop-one.one-iterator
    c.loop-one.yielded_by c.next.result c.next.new.self c.in-None.is c.next.ensures.steps in
    let all : c.loop-one.yielded ≡ ended.items = sym (map-id c.loop-one.yielded) ∙ end.0 in
    let so_far = c.loop-one.invariant in
    record {
      closed = so_far.closed_are ∙ ap (λ l. closed c.args.receiver.now ++ map history_of l) all;
      agrees = λ some. so_far.agree (omega (arith, some, ap length all));
      taken = so_far.taken_are;
      suspended_machines = so_far.suspended_machines ∙ ap (map (λ (it : ThreadedMachine). it.suspended)) all;
      waiters = so_far.waiters ∙ ap (map (λ (it : ThreadedMachine). it.waiters.items)) all;
    }
