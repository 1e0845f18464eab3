use Rattle.std.proofs.Common.{ℕ, List, ap, ◌∙◌}
use Rattle.std.specs.Map.{values_of}
use Rattle.model_machine.specs.declared.MachineOptions.{MachineOptions}
use Rattle.model_machine.specs.Machines.{silent}
use Rattle.model_machine.specs.Runs.{at_rest, machine_options, started}
use Rattle.model_machine.specs.Worlds.{instruction_pairs}
use Rattle.machine_runs.proofs.Finished.{is_first, kept_map}
use Rattle.machine_runs.proofs.running.first_suspended.Goals as goal

pub returns-clause-started : goal.returns-clause-started
returns-clause-started c =
    let arguments = c.args.arguments.now in
    let core = c.args.core.now in
    let pairs = instruction_pairs arguments.prefix (kept_map core) in
    let instructions = c.in_ok-instructions.ensures ∙ ap (λ (p : List ℕ). values_of (instruction_pairs p (kept_map core))) c.as_slice.ensures in
    c.in_ok-suspended.ensures.started pairs instructions
    ∙ ap (λ (options : MachineOptions). at_rest (silent (started 0 c.in_ok-prefix.prefix options pairs))) c.machine_options.ensures
    ∙ ap (λ (p : List ℕ). at_rest (silent (started 0 p (machine_options arguments) pairs))) c.in_ok-prefix.ensures

pub returns-clause-first : goal.returns-clause-first
returns-clause-first c = is_first c.in_ok-suspended.suspended c.args.arguments.now c.args.core.now (returns-clause-started c)
