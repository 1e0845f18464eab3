-- A machine in its thread: what it asked and was answered, and what it has come to.
use Rattle.std.specs.Prelude.{◌≡◌, ℕ, List, [], ◌∷◌, ◌++◌, length, map, option_to_list, Option, Some, None, Result, Ok, Err}
use Rattle.std.specs.List.{All}
use mathlib.Core.List.{IsPrefix}
use Rattle.fdb_calls.specs.declared.Request.{Request}
use Rattle.fdb_calls.specs.declared.Reply.{Reply}
use Rattle.future_cell.specs.declared.waiter.Waiter.{Waiter}
use Rattle.future_cell.specs.declared.wake.Wake.{Wake}
use Rattle.future_cell.specs.Cells.{waiter_cell, shown}
use Rattle.request_line.specs.declared.history.History.{History}
use Rattle.network.specs.declared.post.Post.{Post}
use Rattle.network.specs.declared.post.Post.TheVariants.{Over}
use Rattle.network.specs.Posts.{asked_in, cells_in, overs_in}
use Rattle.network.specs.Pairing.{AsksFor}
use Rattle.network.specs.Serving.{started_by as starts_in}
use Rattle.network.specs.Clients.{client_machine, client_line, client_history}
use Rattle.model_machine.specs.declared.MachineOptions.{MachineOptions}
use Rattle.model_machine.specs.Machines.{Machine, Progress}
use Rattle.model_machine.specs.Runs.{start_prefix, started_by}
use Rattle.laws_threads.specs.Alone.{IsAlone, anew, begun_as}
use Rattle.suspended_machine.specs.declared.suspended.SuspendedMachine.{SuspendedMachine}
use Rattle.suspended_machine.specs.SuspendedMachines.{progress_of, IsSuspended}
use Rattle.threaded_machine.specs.declared.threaded.ThreadedMachine.{ThreadedMachine}
use Rattle.threaded_machine.specs.declared.refusal.Refused.{Refused}

-- what posts ask, in order
abbrev pub requests_in : List Post → List Request
requests_in posts = map (λ (asked : ℕ × Request). asked.1) (asked_in posts)

-- the replies that waiters have shown
abbrev pub shown_by : List (Waiter Reply Wake) → List (Option Reply)
shown_by waiters = map shown waiters

-- ---- a machine in its thread

abbrev pub machine_in : ThreadedMachine → Machine
machine_in threaded = threaded.suspended.machine.machine

abbrev pub history_of : ThreadedMachine → History Post
history_of threaded = client_history threaded.client

abbrev pub replies_to : ThreadedMachine → List (Option Reply)
replies_to threaded = shown_by threaded.waiters.items

-- These posts are Asks of the machine at this suspended machine. The k-th waiter is of the cell of the k-th Ask, and has shown the
-- reply to it. What the machine asks and comes to by itself over these replies is what they ask, and what it has come to.
pub record HasAsked (suspended : SuspendedMachine) (waiters : List (Waiter Reply Wake)) (asks : List Post) : Type 0 where
  pub for_itself : All (AsksFor suspended.machine.machine.number) asks
  pub no_over : overs_in asks ≡ 0
  pub own_cells : cells_in asks ≡ map waiter_cell waiters
  pub replies : List Reply
  pub replies_are : shown_by waiters ≡ map Some replies
  pub alone : IsAlone (begun_as suspended.machine.machine) (requests_in asks) replies (progress_of suspended)
  pub is_suspended : IsSuspended suspended

-- it has posted nothing else so far
pub record IsRunning (threaded : ThreadedMachine) : Type 0 where
  pub machine : client_machine threaded.client ≡ (machine_in threaded).number
  pub asked : HasAsked threaded.suspended threaded.waiters.items (history_of threaded).posted

-- or, at last, its one Over: it asks nothing any more
pub record HasEnded (threaded : ThreadedMachine) : Type 0 where
  pub asks : List Post
  pub posted : (history_of threaded).posted ≡ asks ++ Over (machine_in threaded).number ∷ []
  pub asked : HasAsked threaded.suspended threaded.waiters.items asks
  pub asks_none : threaded.suspended.asks ≡ None

-- the same machine later: it has posted and been answered what it had, and perhaps more
pub record IsLater (before after : ThreadedMachine) : Type 0 where
  pub begun : anew (machine_in after) ≡ anew (machine_in before)
  pub number : (history_of after).number ≡ (history_of before).number
  pub maker : (history_of after).maker ≡ (history_of before).maker
  pub posted_before : (history_of after).posted_before ≡ (history_of before).posted_before
  pub posted : IsPrefix (history_of before).posted (history_of after).posted
  pub replies : IsPrefix (replies_to before) (replies_to after)
  pub line : client_line after.client ≡ client_line before.client

-- ---- which Overs are owed

-- how many Overs it has posted
abbrev pub overs_of : ThreadedMachine → ℕ
overs_of threaded = overs_in (history_of threaded).posted

-- how many machines its replies say were started
abbrev pub starts_to : ThreadedMachine → ℕ
starts_to threaded = starts_in (replies_to threaded)

-- one Over, where a machine was started that can't run
abbrev pub owed_of : Refused → ℕ
owed_of refused = length (option_to_list refused.owed)

-- one Over, where a machine was started, whether it came back at its suspended machine or not
abbrev pub owed_by : Result (Option SuspendedMachine) Refused → ℕ
owed_by (Ok started) = length (option_to_list started)
owed_by (Err refused) = owed_of refused

-- ---- machines that start one another

-- A machine that began so was started by the last request of these posts, by the reply that stands at its place among these.
pub record IsStartedBy (posts : List Post) (replies : List (Option Reply)) (options : MachineOptions) (begun : Progress) : Type 0 where
  pub earlier : List Request
  pub request : Request
  pub requests_are : requests_in posts ≡ earlier ++ request ∷ []
  pub earlier_replies : List Reply
  pub reply : Reply
  pub as_many : length earlier_replies ≡ length earlier
  pub replies_are : IsPrefix (map Some (earlier_replies ++ reply ∷ [])) replies
  pub is : begun ∷ [] ≡ started_by (start_prefix request) options reply

-- one machine started another: it had posted the request before its sender was split
pub record HasStarted (starter other : ThreadedMachine) : Type 0 where
  pub maker : (history_of other).maker ≡ (history_of starter).number
  pub posted : IsPrefix (history_of other).posted_before (history_of starter).posted
  pub by_it : IsStartedBy (history_of other).posted_before (replies_to starter) (machine_in starter).options (begun_as (machine_in other))
