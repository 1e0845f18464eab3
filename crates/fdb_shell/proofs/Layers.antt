-- A call of a layer left what its row of the table says.
use Rattle.std.proofs.Common.{◌≡◌, ℕ, Bool, true, false, List, Result, refl, sym, ap, subst, ◌∙◌}
use Rattle.model_machine.specs.Worlds.{World}
use Rattle.client_core.specs.Stands.{CoreModel}
use Rattle.model_shell.specs.declared.command.Command.TheVariants as command
use Rattle.model_shell.specs.declared.recipe.Recipe.{Recipe}
use Rattle.model_shell.specs.Requests.{Did, read_by, written_by}
use Rattle.model_shell.specs.Recipes.{is_writing, recipe_done}
use Rattle.model_shell.specs.Sessions as shell
use Rattle.model_shell.specs.Sessions.{layer_by, done}
use Rattle.shell_recipes.specs.declared.calls.End.{End}
use Rattle.shell_recipes.specs.Running.{is_refused, HasRun}
use Rattle.fdb_shell.specs.declared.session.Session.{Session}
use Rattle.fdb_shell.specs.declared.session.Stop.{Stop}
use Rattle.fdb_shell.specs.Doing.{Stands, IsSession, HasDone, Does, Leaves}
use Rattle.fdb_shell.proofs.Commands.{leaves_read, leaves_written}

pub layer_done : (its_end : End) (before : Session) (core : CoreModel) (text : List ℕ) (world : World) (did : Did) → Stands before world
    → HasRun its_end core before.text text world did → HasDone (is_refused its_end) before (record before { core = core; text = text }) did
layer_done its_end before core text world did stands h = record {
  refused = h.refused;
  stands = record { core = h.stands; words = λ place. stands.words place ∙ sym (ap (λ (words : ℕ → ℕ). words place) h.words) };
  is_open = refl;
  text = h.text;
}

pub leaves_writing : (result : Result (Unit {0}) Stop) (before after : Session) (state : shell.Session) (its : Recipe) → is_writing its ≡ true
    → IsSession before state → Does result before after (written_by before.is_open (recipe_done its) state.world)
    → Leaves result before after (done state (command.Recipe its))
unfolding done
leaves_writing result before after state its writes is h =
    subst (λ (b : Bool). Leaves result before after (layer_by b state (recipe_done its))) (sym writes)
    (leaves_written result before after state (recipe_done its) is h)

pub leaves_reading : (result : Result (Unit {0}) Stop) (before after : Session) (state : shell.Session) (its : Recipe) → is_writing its ≡ false
    → IsSession before state → Does result before after (read_by before.is_open (recipe_done its) state.world)
    → Leaves result before after (done state (command.Recipe its))
unfolding done
leaves_reading result before after state its reads is h =
    subst (λ (b : Bool). Leaves result before after (layer_by b state (recipe_done its))) (sym reads)
    (leaves_read result before after state (recipe_done its) is h)
