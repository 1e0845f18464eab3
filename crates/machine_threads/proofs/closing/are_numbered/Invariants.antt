use Rattle.std.proofs.Common.{◌≡◌, ℕ, ◌<◌, Some}
use Rattle.std.specs.Prelude.{slice_get}
use Rattle.threaded_machine.specs.declared.threaded.ThreadedMachine.{ThreadedMachine}
use Rattle.threaded_machine.specs.Threaded.{machine_in}
use Rattle.machine_threads.proofs.closing.are_numbered.Given as goal

-- the machines so far stand at the places of their numbers
abbrev pub invariant-loop-place : goal.invariant-loop-place
invariant-loop-place l =
    (k : ℕ) (one : ThreadedMachine) → k < l.place → slice_get l.ended k ≡ Some one → (machine_in one).number ≡ k
