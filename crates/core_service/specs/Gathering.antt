-- What the thread of a core and the threads of machines came back with, and that it is a run.
use Rattle.std.specs.Prelude.{◌≡◌, ◌+◌, ℕ, false, List, [], ◌∷◌, length, map, is_some, option_and_then, Some, slice_get}
use Rattle.outside.specs.Seeds.{words_from}
use Rattle.future_cell.specs.declared.setter.Receipt.{Receipt}
use Rattle.future_cell.specs.declared.wake.Wake.{Wake}
use Rattle.fdb_calls.specs.declared.Reply.{Reply}
use Rattle.network.specs.declared.post.Post.{Post}
use Rattle.network.specs.Posts.{posts_of}
use Rattle.network.specs.Serving.{Serves, replies_of, started_by}
use Rattle.model_commands.specs.declared.args.RunArgs.{RunArgs}
use Rattle.model_machine.specs.Worlds.{World, HasWords, begun}
use Rattle.model_machine.specs.Runs.{RunsTo, start}
use Rattle.client_core.specs.Stands.{StandsFor}
use Rattle.suspended_machine.specs.declared.suspended.SuspendedMachine.{SuspendedMachine}
use Rattle.suspended_machine.specs.SuspendedMachines.{progress_of, IsSuspended}
use Rattle.threaded_machine.specs.declared.threaded.ThreadedMachine.{ThreadedMachine}
use Rattle.machine_threads.specs.Teams.{IsTeamOf}
use Rattle.machine_threads.specs.Closing.{AreSettled}
use Rattle.core_service.specs.declared.service.CoreService.{CoreService}
use Rattle.core_service.specs.Serving.{CoreAnswers}

-- A core that stood for the beginning served all that was taken. Machine 0, as a run starts it, ran in its thread, and each
-- machine that was started in its own: these have ended, as many as replies say were started. They were closed over what was
-- taken, and settled against the receipts; these are their seats, by their numbers.
pub record AreGathered (pairs : List (List ℕ × List ℕ)) (arguments : RunArgs) (before after : CoreService) (taken : List (ℕ × Post))
    (order : List ℕ) (receipts : List (Receipt Reply Wake)) (first : ThreadedMachine) (ended : List ThreadedMachine) (suspended_machines : List SuspendedMachine)
    : Type 0 where
  pub stands : StandsFor before.core (begun pairs arguments)
  pub has_words : HasWords (begun pairs arguments) (words_from before.words)
  pub starts : (start pairs arguments).machines ≡ progress_of first.suspended ∷ []
  pub served : Serves CoreAnswers before after (posts_of taken) order receipts
  pub as_many : length ended ≡ 1 + started_by (replies_of receipts)
  pub team : IsTeamOf first ended
  pub settled : AreSettled ended taken order receipts suspended_machines

-- The order leads to a complete run. The core stands for its world, the random words still to come are that world's, and its
-- machines are at these seats, of which none asks.
pub record HasRun (pairs : List (List ℕ × List ℕ)) (arguments : RunArgs) (core : CoreService) (order : List ℕ) (suspended_machines : List SuspendedMachine)
    : Type 0 where
  pub world : World
  pub stands : StandsFor core.core world
  pub has_words : HasWords world (words_from core.words)
  pub runs : RunsTo pairs arguments order (record { world = world; machines = map progress_of suspended_machines })
  pub is_suspended : (number : ℕ) (suspended : SuspendedMachine) → slice_get suspended_machines number ≡ Some suspended → IsSuspended suspended
  pub none_asks : (number : ℕ) → is_some (option_and_then (λ suspended. suspended.asks) (slice_get suspended_machines number)) ≡ false

-- what they came back with is the run of the order in which the core answered
abbrev pub GatherToARun : Type 0
GatherToARun = (pairs : List (List ℕ × List ℕ)) (arguments : RunArgs) (before after : CoreService) (taken : List (ℕ × Post))
    (order : List ℕ) (receipts : List (Receipt Reply Wake)) (first : ThreadedMachine) (ended : List ThreadedMachine) (suspended_machines : List SuspendedMachine)
    → AreGathered pairs arguments before after taken order receipts first ended suspended_machines → HasRun pairs arguments after order suspended_machines
