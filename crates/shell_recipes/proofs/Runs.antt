-- Each call of a layer on a core is the one of the shell's definition.
use Rattle.std.proofs.Common.{◌≡◌, ℕ, Bool, false, List, ◌∙◌, subst}
use Rattle.model_machine.specs.Worlds.{World}
use Rattle.client_core.specs.Stands.{CoreModel, StandsFor}
use Rattle.core_tr.specs.Standing.{Stands, KeepsRest}
use Rattle.model_recipes.specs.Queues.{push_call, pop_call}
use Rattle.model_recipes.specs.Multimaps.{add_call, subtract_call, values_call}
use Rattle.model_recipes.specs.Blobs.{size_call, read_call, write_call}
use Rattle.model_shell.specs.Requests.{name}
use Rattle.model_shell.specs.declared.recipe.Recipe.{Recipe}
use Rattle.model_shell.specs.declared.recipe.Recipe.TheVariants as recipe
use Rattle.model_shell.specs.Recipes.{queue_space, multi_space, blob_space, nothing_said, item_said, counts_said, bytes_said, size_said, recipe_done}
use Rattle.shell_recipes.specs.declared.calls.End.{End}
use Rattle.shell_recipes.specs.Running.{Makes, HasRun}
use Rattle.shell_recipes.proofs.Plain.{push_plain, pop_plain, add_plain, subtract_plain, values_plain, write_plain, read_plain, size_plain}
use Rattle.shell_recipes.proofs.Assembling.{settling, its_own, has_run}

module _ (world : World) (end : End) (core settled_core : CoreModel) (before after : List ℕ) (stands : StandsFor settled_core (settling world).world)
    (was_spent : Bool) (rest : KeepsRest was_spent false settled_core core name name) where
  pub runs : (its : Recipe)
      → Makes its end (settling world).world.setting (Stands false core name (settling world).world.setting) (its_own world) before after
      → HasRun end core before after world (recipe_done its world)
  unfolding recipe_done
  runs (recipe.Push queue value) made =
      has_run nothing_said (push_call (queue_space queue) value) world end core settled_core before after was_spent
      (push_plain (queue_space queue) value _) stands rest made
  runs (recipe.Pop queue) made =
      has_run item_said (pop_call (queue_space queue)) world end core settled_core before after was_spent (pop_plain (queue_space queue) _) stands rest made
  runs (recipe.Add multi key value) made =
      has_run nothing_said (add_call (multi_space multi) key value) world end core settled_core before after was_spent
      (add_plain (multi_space multi) key value _) stands rest made
  runs (recipe.Subtract multi key value) made =
      has_run nothing_said (subtract_call (multi_space multi) key value) world end core settled_core before after was_spent
      (subtract_plain (multi_space multi) key value _) stands rest made
  runs (recipe.Values multi key) made =
      has_run counts_said (values_call (multi_space multi) key) world end core settled_core before after was_spent
      (values_plain (multi_space multi) key _) stands rest made
  runs (recipe.Write blob at piece) made =
      has_run nothing_said (write_call (blob_space blob) at piece) world end core settled_core before after was_spent
      (write_plain (blob_space blob) at piece _) stands rest made
  runs (recipe.Read blob from most) made =
      has_run bytes_said (read_call (blob_space blob) from most) world end core settled_core before after was_spent
      (read_plain (blob_space blob) from most _) stands rest made
  runs (recipe.Size blob) made =
      has_run size_said (size_call (blob_space blob)) world end core settled_core before after was_spent (size_plain (blob_space blob) _) stands rest made

-- by what the trait says of a transaction with the shell's name
pub runs_on : (world : World) (end : End) (core settled_core : CoreModel) (before after : List ℕ) (was_spent is_spent : Bool)
    (name_one name_two : List ℕ) → StandsFor settled_core (settling world).world → name_one ≡ name → is_spent ≡ false
    → KeepsRest was_spent is_spent settled_core core name_one name_two → (its : Recipe)
    → Makes its end (settling world).world.setting (Stands is_spent core name_two (settling world).world.setting) (its_own world) before after
    → HasRun end core before after world (recipe_done its world)
runs_on world end core settled_core before after was_spent is_spent name_one name_two stands one goes rest its made =
    let two : name_two ≡ name = rest.same_name ∙ one in
    runs world end core settled_core before after stands was_spent
    (subst (λ (k : Bool × List ℕ × List ℕ). KeepsRest was_spent k.0 settled_core core k.1 k.2) (λ i. (goes i, one i, two i)) rest) its
    (subst (λ (k : Bool × List ℕ).
    Makes its end (settling world).world.setting (Stands k.0 core k.1 (settling world).world.setting) (its_own world) before after)
    (λ i. (goes i, two i)) made)
