-- Worlds in which requests are taken, one after the other.
use Rattle.std.specs.Prelude.{ℕ, List, [], ◌∷◌}
use Rattle.model_commands.specs.declared.args.RunArgs.{RunArgs}
use Rattle.fdb_calls.specs.declared.Request.{Request}
use Rattle.model_machine.specs.Worlds.{World, begun, step}

abbrev pub all_taken : World → List Request → World
all_taken world [] = world
all_taken world (request ∷ requests) = all_taken (step world request).world requests

-- the world after requests, over these pairs, where these are the random words
abbrev pub world_after : List (List ℕ × List ℕ) → RunArgs → (words : ℕ → ℕ) → List Request → World
world_after pairs arguments words requests = all_taken (record (begun pairs arguments) { words = words }) requests
