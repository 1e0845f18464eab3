-- One legal history, from step to step: what holds of a world that is reached holds after each request.
use Rattle.std.specs.Prelude.{◌≡◌, ℕ, ◌+◌, ◌<◌, ◌^◌, true, List}
use Rattle.std.specs.List.{AllByRecursion}
use Rattle.key_bytes.specs.Keys.{key_lt, top}
use Rattle.model_database.specs.Histories.{last}
use Rattle.fdb_calls.specs.declared.Request.{Request}
use Rattle.model_commands.specs.declared.args.RunArgs.{RunArgs}
use Rattle.model_machine.specs.Worlds.{World, begun, step}
use Rattle.laws_history.specs.Held.{IsReached}
use Rattle.laws_history.specs.Whole.{IsOneLegalHistory}

-- a world that begins with pairs whose keys are less than FF is reached
abbrev pub AreBegunReached : Type 0
AreBegunReached = (pairs : List (List ℕ × List ℕ)) (arguments : RunArgs)
    → AllByRecursion (λ pair. key_lt pair.0 top ≡ true) pairs → IsReached (begun pairs arguments)

-- after each request a world that was reached is reached, while versions are left
abbrev pub AreStepsReached : Type 0
AreStepsReached = (world : World) (given : Request) → IsReached world → last world.setting.history + 2 < 2 ^ 63
    → IsReached (step world given).world

-- a world that is reached has one legal history
abbrev pub AreReachedLegal : Type 0
AreReachedLegal = (world : World) → IsReached world → IsOneLegalHistory world.setting.history
