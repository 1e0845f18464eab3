-- What becomes of a life, by what the code keeps.
use Rattle.std.specs.Prelude.{ℕ, ◌==◌, if◌then◌else◌, List, Option, Some, option_map, unwrap_or}
use Rattle.std.specs.FinMap as finite
use Rattle.model_database.specs.declared.Phase.{Phase}
use Rattle.model_database.specs.declared.TheConstants.{TRANSACTION_CANCELLED}
use Rattle.fdb_calls.specs.Calling.{code_of}
use Rattle.fdb_calls.specs.declared.Outcome.{Outcome}
use Rattle.fdb_calls.specs.declared.Outcome.TheVariants as outcome
use Rattle.fdb_calls.specs.Outcomes.{outcome_of}
use Rattle.model_machine.specs.Worlds.{World, with_lives}
use Rattle.client_core.specs.Stands.{KeptTransactions}

-- by the number and the phase of the life that stands in its place
abbrev pub outcome_by : (life after : ℕ) → Phase → Option Outcome
outcome_by life after phase = if life == after then outcome_of phase else Some (outcome.Lacks (code_of TRANSACTION_CANCELLED))

-- the life of the transaction of a name; this one where it has none
abbrev pub life_of : KeptTransactions → (name : List ℕ) → (next : ℕ) → ℕ
life_of transactions name next = unwrap_or (option_map (λ kept. kept.life) (finite.get transactions name)) next

-- one life more was drawn
abbrev pub drawn_in : World → World
drawn_in world = record world { lives = with_lives world.lives 1 }
