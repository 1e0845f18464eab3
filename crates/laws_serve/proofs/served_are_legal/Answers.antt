use Rattle.std.proofs.Common.{◌≡◌, ℕ, ◌+◌, ◌*◌, ◌^◌, ◌<◌, ◌≤◌, List, [], ◌∷◌, length, refl, sym, subst, arith}
use Rattle.model_database.specs.Histories.{last}
use Rattle.fdb_calls.specs.declared.Request.{Request}
use Rattle.model_machine.specs.Worlds.{World, step}
use Rattle.model_machine.specs.Held.{HoldsIn}
use Rattle.model_machine.proofs.Requests.{HoldsAfter, request_keeps}
use Rattle.laws_history.specs.Held.{IsGrown, IsHeld, IsReached}
use Rattle.laws_history.proofs.Kept.{IsGrownInRange, law_kept}
use Rattle.laws_history.proofs.Legal.{reached_legal}
use Rattle.laws_history.proofs.Worlds.{begun_reached}
use Rattle.fdb_serve.specs.Serving.{serve_arguments, first_world, world_after}
use Rattle.laws_serve.proofs.served_are_legal.Goals as goal

-- requests, each of which makes two commits at most
keeps : (requests : List Request) (world : World) → HoldsIn IsGrownInRange IsHeld world
    → HoldsAfter IsGrownInRange IsHeld world (2 * length requests) (world_after world requests)
unfolding world_after
keeps [] world there = record { there = there; few = omega arith }
keeps (request ∷ requests) world there =
    let first = request_keeps IsGrownInRange IsHeld law_kept world request there in
    let others = keeps requests (step world request).world first.there in
    record { there = others.there; few = omega (arith, first.few, others.few) }

in_range : (world : World) → IsReached world → HoldsIn IsGrownInRange IsHeld world
in_range world reached = record {
  grown = record {
    some = subst (λ history. 1 ≤ last history) (sym reached.grown.is) (omega arith);
    grown = λ short. reached.grown;
  };
  held = reached.held;
}

pub returns : goal.returns
returns c = λ api window requests few.
    let begins = first_world api window in
    let after = keeps requests begins (in_range begins (begun_reached [] (serve_arguments api window) tt)) in
    let one : last begins.setting.history ≡ 1 = refl in
    reached_legal (world_after begins requests)
    (record { grown = after.there.grown.grown (omega (arith, after.few, few)); held = after.there.held })
