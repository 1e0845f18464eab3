use Rattle.std.proofs.Common.{◌≡◌, None, Some, ℕ, Option, refl, sym, ap, subst, ◌∙◌}
use Rattle.std.specs.Prelude.{IfSome, map, option_to_list, slice_get, slice_set}
use Rattle.std.proofs.lemmas.List.{append-nil}
use Rattle.std.proofs.lemmas.Option.{same_Some}
use Rattle.model_machine.specs.declared.MachineOptions.{MachineOptions}
use Rattle.model_machine.specs.Runs.{started_by}
use Rattle.suspended_machine.specs.declared.suspended.SuspendedMachine.{SuspendedMachine}
use Rattle.suspended_machine.specs.SuspendedMachines.{progress_of, IsSuspended}
use Rattle.machine_runs.proofs.SuspendedMachines.{asks_there, get_within}
use Rattle.machine_runs.proofs.driving.use_and_suspended.Goals as goal

-- a suspended machine of the same place has the same options
options_are : (found : Option SuspendedMachine) (first asked : SuspendedMachine) (options : MachineOptions) → found ≡ Some first → found ≡ Some asked
    → options ≡ first.machine.machine.options → options ≡ asked.machine.machine.options
options_are found first asked options one other is =
    is ∙ ap (λ (suspended : SuspendedMachine). suspended.machine.machine.options) (same_Some first asked (sym one ∙ other))

pub use_given-requires-clause-is_suspended : goal.use_given-requires-clause-is_suspended
use_given-requires-clause-is_suspended c =
    c.requires.is_suspended c.args.number c.index_mut.result.now
    (get_within c.args.suspended_machines.now.items c.args.number c.index_mut.result.now c.requires.within ∙ ap Some (sym c.index_mut.ensures.value))

pub use_given-requires-clause-asks : goal.use_given-requires-clause-asks
use_given-requires-clause-asks c =
    asks_there c.args.suspended_machines.now.items c.args.number c.index_mut.result.now
    (get_within c.args.suspended_machines.now.items c.args.number c.index_mut.result.now c.requires.within ∙ ap Some (sym c.index_mut.ensures.value))
    c.requires.asks

pub returns-in-None : goal.returns-in-None
returns-in-None c =
    let suspended_machines = c.args.suspended_machines.now.items in let asked = c.index_mut.result.now in
    let here : slice_get suspended_machines c.args.number ≡ Some asked =
    get_within suspended_machines c.args.number asked c.requires.within ∙ ap Some (sym c.index_mut.ensures.value) in
    record {
      asked = asked;
      here = here;
      memory = c.in_ok-asks_on.ensures.memory;
      used = c.use_given.new.suspended;
      rests = c.in_ok-asks_on.ensures.rests;
      is_suspended = c.in_ok-asks_on.ensures.is_suspended;
      asks_on = c.in_ok-asks_on.asks_on;
      nearer = c.in_ok-asks_on.ensures.nearer;
      more = None;
      started = ap (λ (suspended : Option SuspendedMachine). map progress_of (option_to_list suspended)) (sym c.in-None.is) ∙ c.in_ok-suspended_started.ensures.started
          ∙ ap (λ options. started_by (Some c.args.prefix) options c.args.reply) (options_are (slice_get suspended_machines c.args.number) c.index.result.now asked
          c.options-options.result (get_within suspended_machines c.args.number c.index.result.now c.requires.within ∙ ap Some (sym c.index.ensures)) here
          c.options-options.ensures);
      more_is_suspended = tt;
      suspended_machines = sym (append-nil (slice_set suspended_machines c.args.number c.use_given.new.suspended));
      came_is = c.moved_by.ensures;
    }

pub returns-in_ok-push-in-Some : goal.returns-in_ok-push-in-Some
returns-in_ok-push-in-Some c =
    let suspended_machines = c.args.suspended_machines.now.items in let asked = c.index_mut.result.now in
    let here : slice_get suspended_machines c.args.number ≡ Some asked =
    get_within suspended_machines c.args.number asked c.requires.within ∙ ap Some (sym c.index_mut.ensures.value) in
    record {
      asked = asked;
      here = here;
      memory = c.in_ok-asks_on.ensures.memory;
      used = c.use_given.new.suspended;
      rests = c.in_ok-asks_on.ensures.rests;
      is_suspended = c.in_ok-asks_on.ensures.is_suspended;
      asks_on = c.in_ok-asks_on.asks_on;
      nearer = c.in_ok-asks_on.ensures.nearer;
      more = Some c.in-Some.suspended;
      started = ap (λ (suspended : Option SuspendedMachine). map progress_of (option_to_list suspended)) (sym c.in-Some.is) ∙ c.in_ok-suspended_started.ensures.started
          ∙ ap (λ options. started_by (Some c.args.prefix) options c.args.reply) (options_are (slice_get suspended_machines c.args.number) c.index.result.now asked
          c.options-options.result (get_within suspended_machines c.args.number c.index.result.now c.requires.within ∙ ap Some (sym c.index.ensures)) here
          c.options-options.ensures);
      more_is_suspended = subst (λ (suspended : Option SuspendedMachine). IfSome suspended IsSuspended) c.in-Some.is c.in_ok-suspended_started.ensures.is_suspended;
      suspended_machines = c.in_ok-push-in-Some.ensures.items;
      came_is = refl;
    }
