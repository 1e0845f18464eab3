use Rattle.std.proofs.Common.{◌+◌, ◌∷◌, [], ◌++◌, List, ℕ, drop, suc, sym, ap, ◌∙◌}
use Rattle.std.proofs.Math.Seq.{split_at}
use Rattle.std.proofs.lemmas.List.{take_more}
use Rattle.std.specs.Prelude.{slice_index_or}
use Rattle.suspended_machine.specs.declared.suspended.SuspendedMachine.{SuspendedMachine}
use Rattle.machine_runs.specs.Driving.{asks_at}
use Rattle.machine_runs.proofs.SuspendedMachines.{asks_within}
use Rattle.machine_runs.proofs.replaying.follow.Goals as goal

pub returns-then-not-asks-clause-followed : goal.returns-then-not-asks-clause-followed
returns-then-not-asks-clause-followed g c =
    let given = c.args.given.now in
    let place = c.loop-machine.machine-index in
    record {
      rest = drop (suc place) given;
      given_is = split_at given place 0 c.loop-machine-test.true
          ∙ ap (λ (front : List ℕ). front ++ slice_index_or given place 0 ∷ drop (suc place) given) (sym c.loop-machine.invariant.followed);
      place_is = ap (λ n. n + 1) c.len.ensures;
      none = sym (c.if-not-asks.ensures ∙ (λ i. asks_at (c.deref.ensures.value i) (c.from-number.ensures i)));
    }

pub take-requires-clause-within : goal.take-requires-clause-within
take-requires-clause-within g c =
    asks_within c.loop-machine.suspended_machines.items c.from-number.result
    (sym (c.if-not-asks.ensures ∙ ap (λ (suspended_machines : List SuspendedMachine). asks_at suspended_machines c.from-number.result) c.deref.ensures.value))

pub loop-machine-preserved : goal.loop-machine-preserved
loop-machine-preserved g c = record {
  goes_on = λ pairs arguments leads.
      c.in_ok-take.ensures.goes_on pairs arguments (c.loop-machine.invariant.goes_on pairs arguments leads);
  going = c.in_ok-take.ensures.going;
  followed = c.in_ok-take.ensures.order
      ∙ (λ i. c.loop-machine.invariant.followed i ++ c.from-number.ensures i ∷ [])
      ∙ sym (take_more c.args.given.now c.loop-machine.machine-index 0 c.loop-machine-test.true);
}
