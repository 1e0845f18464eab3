use Rattle.std.proofs.Common.{◌-◌, ◌*◌, ◌+◌}
use Rattle.model_machine.specs.declared.TheConstants.{MACHINES}
use Rattle.machine_threads.proofs.team.+machines.Given as goal

-- by how many machines there is room for above the newest
abbrev pub decreases-run_machine : goal.decreases-run_machine
decreases-run_machine g l = 3 * (MACHINES - l.newest) + 1

abbrev pub decreases-run_beside : goal.decreases-run_beside
decreases-run_beside g l = 3 * (MACHINES - l.newest)

abbrev pub decreases-run_beside-join+arg2 : goal.decreases-run_beside-join+arg2
decreases-run_beside-join+arg2 g l = 3 * (MACHINES - l.number) + 2

abbrev pub decreases-run_beside-join+arg3 : goal.decreases-run_beside-join+arg3
decreases-run_beside-join+arg3 g l = 3 * (MACHINES - l.number) + 2
