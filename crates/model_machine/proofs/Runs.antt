-- What a law holds of the world at the beginning of a run, it holds of the world after each order of requests.
use Rattle.std.proofs.Common.{◌≡◌, ℕ, ◌*◌, List, [], ◌∷◌, length, Option, Some, None, subst, arith}
use Rattle.std.specs.Prelude.{option_map, slice_get}
use Rattle.std.proofs.lemmas.Option.{none-some, option_and_then_some, same_Some}
use Rattle.model_database.specs.Histories.{History}
use Rattle.model_database.specs.Transactions.{Transaction}
use Rattle.fdb_calls.specs.declared.Request.{Request}
use Rattle.model_machine.specs.Machines.{Progress}
use Rattle.model_machine.specs.Runs.{Run, replied, run_from, take_place, taken}
use Rattle.model_machine.specs.Worlds.{step}
use Rattle.model_machine.specs.Held.{HoldsIn}
use Rattle.model_machine.proofs.Keeping.{IsKept}
use Rattle.model_machine.proofs.Requests.{HoldsAfter, request_keeps}

module _ (IsGrown : History → Type 0) (IsHeld : History → Transaction → Type 0) (kept : IsKept IsGrown IsHeld) where
  -- the request of a machine
  place_keeps : (machine_number : ℕ) (run after : Run) → HoldsIn IsGrown IsHeld run.world → take_place machine_number run ≡ Some after
      → HoldsAfter IsGrown IsHeld run.world 2 after.world
  unfolding take_place
  place_keeps machine_number run after there is =
      option_and_then_some (λ progress. taken run machine_number progress) (slice_get run.machines machine_number) after is
      (λ progress found asked. by progress progress.asks asked)
    where
      by : (progress : Progress) (asks : Option Request)
          → option_map (λ given. replied run machine_number progress.machine given (step run.world given)) asks ≡ Some after
          → HoldsAfter IsGrown IsHeld run.world 2 after.world
      by progress None asked = absurd (none-some after asked)
      by progress (Some given) asked =
          subst (λ (left : Run). HoldsAfter IsGrown IsHeld run.world 2 left.world)
          (same_Some (replied run machine_number progress.machine given (step run.world given)) after asked)
          (request_keeps IsGrown IsHeld kept run.world given there)

  -- the requests of an order, each of which makes two commits at most
  pub run_keeps : (order : List ℕ) (run after : Run) → HoldsIn IsGrown IsHeld run.world → run_from order run ≡ Some after
      → HoldsAfter IsGrown IsHeld run.world (2 * length order) after.world
  unfolding run_from
  run_keeps [] run after there is =
      subst (λ (left : Run). HoldsAfter IsGrown IsHeld run.world 0 left.world) (same_Some run after is) (record { there = there; few = omega arith })
  run_keeps (machine_number ∷ order) run after there is =
      option_and_then_some (λ next. run_from order next) (take_place machine_number run) after is
      (λ next found goes_on.
      let first = place_keeps machine_number run next there found in
      let others = run_keeps order next after first.there goes_on in
      record { there = others.there; few = omega (arith, first.few, others.few) })
