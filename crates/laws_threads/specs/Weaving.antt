-- Machines that each run by themselves, and whose requests were answered one after the other, are the machines of one run.
use Rattle.std.specs.Prelude.{◌≡◌, ◌==◌, ℕ, ◌<◌, List, [], ◌∷◌, ◌++◌, length, map, flat_map, filter, Some, None, slice_get}
use Rattle.std.specs.List.{All}
use Rattle.fdb_calls.specs.declared.Request.{Request}
use Rattle.fdb_calls.specs.declared.Reply.{Reply}
use Rattle.model_commands.specs.declared.args.RunArgs.{RunArgs}
use Rattle.model_machine.specs.declared.MachineOptions.{MachineOptions}
use Rattle.model_machine.specs.Worlds.{World, begun, step}
use Rattle.model_machine.specs.Machines.{Progress}
use Rattle.model_machine.specs.Runs.{RunsTo, machine_options, run_from, start, start_prefix, started_by}
use Rattle.laws_threads.specs.Alone.{IsAlone}

-- a place of an order: the machine whose request was taken there, the request, and its reply
pub record Place : Type 0 where
  pub machine : ℕ
  pub request : Request
  pub reply : Reply

-- the places at which these requests of machines were answered so
abbrev pub places_over : List (ℕ × Request) → List Reply → List Place
places_over [] replies = []
places_over (asked ∷ others) [] = []
places_over (asked ∷ others) (reply ∷ replies) =
    record { machine = asked.0; request = asked.1; reply = reply } ∷ places_over others replies

-- the order of these places
abbrev pub order_of : List Place → List ℕ
order_of places = map (λ (place : Place). place.machine) places

-- the places of one machine
abbrev pub places_of : (number : ℕ) → List Place → List Place
places_of number places = filter (λ (place : Place). place.machine == number) places

abbrev pub requests_at : List Place → List Request
requests_at places = map (λ (place : Place). place.request) places

abbrev pub replies_at : List Place → List Reply
replies_at places = map (λ (place : Place). place.reply) places

-- the replies are those of steps of the world, one after the other, from one world to another
abbrev pub AreSteps : World → List Place → World → Type 0
AreSteps world [] last = world ≡ last
AreSteps world (place ∷ places) last =
    ((step world place.request).reply ≡ place.reply) × AreSteps (step world place.request).world places last

-- the machine that was started at a place, if one was, with these options, at its first request or its end
abbrev pub started_at : MachineOptions → Place → List Progress
started_at options place = started_by (start_prefix place.request) options place.reply

-- all machines by their numbers, each at its first request or its end: machine 0, and those that were started at these places
abbrev pub all_begun : List (List ℕ × List ℕ) → RunArgs → List Place → List Progress
all_begun pairs arguments places = (start pairs arguments).machines ++ flat_map (started_at (machine_options arguments)) places

-- each place is of a machine that had been started before it
abbrev pub AreInTime : List (List ℕ × List ℕ) → RunArgs → List Place → Type 0
AreInTime pairs arguments places =
    (front rest : List Place) (place : Place) → places ≡ front ++ place ∷ rest → place.machine < length (all_begun pairs arguments front)

-- what the machine of a number asked and got at these places is what a machine that began so asks and gets by itself
abbrev pub IsAloneAt : (number : ℕ) → List Place → (begun now : Progress) → Type 0
IsAloneAt number places begun now = IsAlone begun (requests_at (places_of number places)) (replies_at (places_of number places)) now

-- Requests of machines were answered one after the other by the steps of the world, each after its machine was started. What each
-- machine asked and got is what it asks and gets by itself, and these are the machines after all their replies.
pub record AreWoven (pairs : List (List ℕ × List ℕ)) (arguments : RunArgs) (places : List Place) (world : World)
    (machines : List Progress) : Type 0 where
  pub steps : AreSteps (begun pairs arguments) places world
  pub in_time : AreInTime pairs arguments places
  pub as_many : length machines ≡ length (all_begun pairs arguments places)
  pub alone : (number : ℕ) (first now : Progress) → slice_get (all_begun pairs arguments places) number ≡ Some first
      → slice_get machines number ≡ Some now → IsAloneAt number places first now

-- so they are the machines of the run of that order
abbrev pub WeaveToARun : Type 0
WeaveToARun = (pairs : List (List ℕ × List ℕ)) (arguments : RunArgs) (places : List Place) (world : World) (machines : List Progress)
    → AreWoven pairs arguments places world machines
    → run_from (order_of places) (start pairs arguments) ≡ Some (record { world = world; machines = machines })

-- which is complete where none of them asks
abbrev pub WeaveToAWholeRun : Type 0
WeaveToAWholeRun = (pairs : List (List ℕ × List ℕ)) (arguments : RunArgs) (places : List Place) (world : World) (machines : List Progress)
    → AreWoven pairs arguments places world machines → All (λ (progress : Progress). progress.asks ≡ None) machines
    → RunsTo pairs arguments (order_of places) (record { world = world; machines = machines })
