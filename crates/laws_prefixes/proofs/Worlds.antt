-- The numbers that an allocator granted in transactions that committed are apart, in each world that requests reach.
use Rattle.std.proofs.Common.{ℕ, List, [], ◌∷◌, refl}
use Rattle.model_commands.specs.declared.args.RunArgs.{RunArgs}
use Rattle.model_database.specs.Histories.{loaded}
use Rattle.fdb_calls.specs.declared.Request.{Request}
use Rattle.model_machine.specs.Worlds.{World, begun, step}
use Rattle.model_machine.specs.Runs.{start}
use Rattle.model_machine.specs.Held.{HoldsIn}
use Rattle.model_machine.proofs.Requests.{begun_holds, request_keeps}
use Rattle.model_machine.proofs.Runs.{run_keeps}
use Rattle.laws_prefixes.specs.Worlds.{all_taken, world_after}
use Rattle.laws_prefixes.specs.Prefixes.{ArePrefixesApart, RunsArePrefixesApart}
use Rattle.laws_prefixes.specs.Held.{IsGrown, IsHeld}
use Rattle.laws_prefixes.proofs.Fitting.{grown_apart}
use Rattle.laws_prefixes.proofs.Kept.{law_kept}

-- the world at the beginning, whatever the random words are
begun_held : (pairs : List (List ℕ × List ℕ)) (arguments : RunArgs) (words : ℕ → ℕ)
    → HoldsIn IsGrown IsHeld (record (begun pairs arguments) { words = words })
begun_held pairs arguments words =
    begun_holds IsGrown IsHeld pairs arguments words (record { first = loaded pairs; later = []; is = refl; sound = tt })

-- the world after requests one after the other
all_taken_held : (world : World) (requests : List Request) → HoldsIn IsGrown IsHeld world → HoldsIn IsGrown IsHeld (all_taken world requests)
all_taken_held world [] there = there
all_taken_held world (given ∷ requests) there =
    all_taken_held (step world given).world requests (request_keeps IsGrown IsHeld law_kept world given there).there

-- after any requests they are apart
pub prefixes_apart : ArePrefixesApart
prefixes_apart pairs arguments words requests space =
    let world = world_after pairs arguments words requests in
    let after = all_taken_held (record (begun pairs arguments) { words = words }) requests (begun_held pairs arguments words) in
    grown_apart world.setting.history after.grown space

-- and so in each run of machines
pub runs_apart : RunsArePrefixesApart
runs_apart pairs arguments order run is space =
    let after = run_keeps IsGrown IsHeld law_kept order (start pairs arguments) run (begun_held pairs arguments (begun pairs arguments).words) is in
    grown_apart run.world.setting.history after.there.grown space
