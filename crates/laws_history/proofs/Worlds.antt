-- Each world that a run reaches holds a grown history, and each of its transactions is held.
use Rattle.std.proofs.Common.{◌≡◌, ℕ, ◌+◌, ◌^◌, ◌<◌, ◌≤◌, true, List, [], ◌∷◌, length, Some, refl, sym, subst, arith}
use Rattle.std.specs.Prelude.{map}
use Rattle.std.specs.List.{AllByRecursion}
use Rattle.std.proofs.lemmas.Bool.{and_from}
use Rattle.key_bytes.specs.Keys.{key_lt, top}
use Rattle.model_commands.specs.declared.args.RunArgs.{RunArgs}
use Rattle.model_database.specs.Histories.{last, loaded, set_of}
use Rattle.fdb_calls.specs.declared.Request.{Request}
use Rattle.model_machine.specs.Worlds.{World, begun, step}
use Rattle.model_machine.specs.Runs.{Run, run_from, start}
use Rattle.model_machine.specs.Held.{HoldsIn}
use Rattle.model_machine.proofs.Requests.{begun_holds, request_keeps}
use Rattle.model_machine.proofs.Runs.{run_keeps}
use Rattle.laws_history.specs.Small.{are_small}
use Rattle.laws_history.specs.Held.{IsGrown, IsHeld, IsReached}
use Rattle.laws_history.proofs.Kept.{IsGrownInRange, law_kept}

-- a world that is reached is so whether versions are left or not
reached_in_range : (world : World) → IsReached world → HoldsIn IsGrownInRange IsHeld world
reached_in_range world reached = record {
  grown = record {
    some = subst (λ history. 1 ≤ last history) (sym reached.grown.is) (omega arith);
    grown = λ short. reached.grown;
  };
  held = reached.held;
}

-- after a request it is reached, while versions are left
pub step_reached : (world : World) (given : Request) → IsReached world → last world.setting.history + 2 < 2 ^ 63
    → IsReached (step world given).world
step_reached world given reached spare =
    let after = request_keeps IsGrownInRange IsHeld law_kept world given (reached_in_range world reached) in
    record { grown = after.there.grown.grown (omega (arith, after.few, spare)); held = after.there.held }

-- pairs whose keys are less than FF are loaded under such keys
pairs_small : (pairs : List (List ℕ × List ℕ)) → AllByRecursion (λ pair. key_lt pair.0 top ≡ true) pairs
    → are_small (map set_of pairs) ≡ true
pairs_small [] below = refl
pairs_small (pair ∷ pairs) below =
    and_from (key_lt pair.0 top) (are_small (map set_of pairs)) below.0 (pairs_small pairs below.1)

-- the world at the beginning is reached
pub begun_reached : (pairs : List (List ℕ × List ℕ)) (arguments : RunArgs) → AllByRecursion (λ pair. key_lt pair.0 top ≡ true) pairs
    → IsReached (begun pairs arguments)
begun_reached pairs arguments below =
    begun_holds IsGrown IsHeld pairs arguments (begun pairs arguments).words
    (record { first = loaded pairs; later = []; is = refl; bare = refl; sound = tt; small = pairs_small pairs below })

-- the world after each order of requests is reached
pub runs_reached : (order : List ℕ) (pairs : List (List ℕ × List ℕ)) (arguments : RunArgs) (run : Run)
    → AllByRecursion (λ pair. key_lt pair.0 top ≡ true) pairs → length order < 2 ^ 62
    → run_from order (start pairs arguments) ≡ Some run → IsReached run.world
runs_reached order pairs arguments run below few is =
    let after = run_keeps IsGrownInRange IsHeld law_kept order (start pairs arguments) run
    (reached_in_range (begun pairs arguments) (begun_reached pairs arguments below)) is in
    record { grown = after.there.grown.grown (omega (arith, after.few, few)); held = after.there.held }
