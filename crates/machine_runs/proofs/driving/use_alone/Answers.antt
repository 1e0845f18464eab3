use Rattle.std.proofs.Common.{None, Some, refl, sym, ap, ◌∙◌}
use Rattle.std.specs.Prelude.{slice_set}
use Rattle.std.proofs.lemmas.List.{append-nil}
use Rattle.machine_runs.proofs.SuspendedMachines.{asks_there, get_within}
use Rattle.machine_runs.proofs.driving.use_alone.Goals as goal

pub use_given-used-requires-clause-is_suspended : goal.use_given-used-requires-clause-is_suspended
use_given-used-requires-clause-is_suspended c =
    c.requires.is_suspended c.args.number c.index_mut.result.now
    (get_within c.args.suspended_machines.now.items c.args.number c.index_mut.result.now c.requires.within ∙ ap Some (sym c.index_mut.ensures.value))

pub use_given-used-requires-clause-asks : goal.use_given-used-requires-clause-asks
use_given-used-requires-clause-asks c =
    asks_there c.args.suspended_machines.now.items c.args.number c.index_mut.result.now
    (get_within c.args.suspended_machines.now.items c.args.number c.index_mut.result.now c.requires.within ∙ ap Some (sym c.index_mut.ensures.value))
    c.requires.asks

pub returns : goal.returns
returns c = record {
  asked = c.index_mut.result.now;
  here = get_within c.args.suspended_machines.now.items c.args.number c.index_mut.result.now c.requires.within ∙ ap Some (sym c.index_mut.ensures.value);
  memory = c.in_ok-used.ensures.memory;
  used = c.use_given-used.new.suspended;
  rests = c.in_ok-used.ensures.rests;
  is_suspended = c.in_ok-used.ensures.is_suspended;
  asks_on = c.in_ok-used.field-0;
  nearer = c.in_ok-used.ensures.nearer;
  more = None;
  started = refl;
  more_is_suspended = tt;
  suspended_machines = sym (append-nil (slice_set c.args.suspended_machines.now.items c.args.number c.use_given-used.new.suspended));
  came_is = c.moved_by.ensures;
}
