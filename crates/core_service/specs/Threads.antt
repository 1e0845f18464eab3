-- Machines that ran in threads of their own, by the places at which their requests were answered.
use Rattle.std.specs.Prelude.{◌≡◌, ℕ, ◌<◌, ◌≤◌, ◌⊎◌, List, [], ◌∷◌, ◌++◌, length, Some, slice_get}
use Rattle.model_commands.specs.declared.args.RunArgs.{RunArgs}
use Rattle.model_machine.specs.Worlds.{World, begun}
use Rattle.model_machine.specs.Machines.{Progress}
use Rattle.model_machine.specs.Runs.{machine_options, start}
use Rattle.laws_threads.specs.Alone.{begun_as}
use Rattle.laws_threads.specs.Weaving.{Place, AreSteps, IsAloneAt, all_begun, places_of, started_at}

-- A machine of this number that began so was started at one of the places, and has none of its own there or before.
pub record IsStartedIn (arguments : RunArgs) (places : List Place) (number : ℕ) (begun : Progress) : Type 0 where
  pub front : List Place
  pub place : Place
  pub rest : List Place
  pub is : places ≡ front ++ place ∷ rest
  pub starts : begun ∷ [] ≡ started_at (machine_options arguments) place
  pub none_yet : places_of number (front ++ place ∷ []) ≡ []

-- A machine of this number that began so is machine 0, as a run starts it.
pub record IsFirst (pairs : List (List ℕ × List ℕ)) (arguments : RunArgs) (number : ℕ) (begun : Progress) : Type 0 where
  pub number_is : number ≡ 0
  pub starts : (start pairs arguments).machines ≡ begun ∷ []

abbrev pub IsBegunIn : List (List ℕ × List ℕ) → RunArgs → List Place → (number : ℕ) → Progress → Type 0
IsBegunIn pairs arguments places number begun = IsFirst pairs arguments number begun ⊎ IsStartedIn arguments places number begun

-- These machines, by their numbers, asked and were answered at these places, each by itself: machine 0, as a run starts it, and
-- those that were started there.
pub record AreThreaded (pairs : List (List ℕ × List ℕ)) (arguments : RunArgs) (places : List Place) (world : World)
    (machines : List Progress) : Type 0 where
  pub steps : AreSteps (begun pairs arguments) places world
  pub numbered : (number : ℕ) (now : Progress) → slice_get machines number ≡ Some now → now.machine.number ≡ number
  pub alone : (number : ℕ) (now : Progress) → slice_get machines number ≡ Some now
      → IsAloneAt number places (begun_as now.machine) now
  pub begins : (number : ℕ) (now : Progress) → slice_get machines number ≡ Some now
      → IsBegunIn pairs arguments places number (begun_as now.machine)
  pub within : (front rest : List Place) (place : Place) → places ≡ front ++ place ∷ rest → place.machine < length machines
  pub as_many : length (all_begun pairs arguments places) ≤ length machines
