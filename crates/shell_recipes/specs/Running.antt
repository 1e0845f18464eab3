-- How a call of a layer ended, and what was printed of it.
use Rattle.std.specs.Prelude.{◌≡◌, ℕ, Bool, true, false, List, ◌++◌, Option, Some, None, Result, Ok, Err, decimal}
use Rattle.model_database.specs.declared.Code.{Code}
use Rattle.model_database.specs.Histories.{Setting}
use Rattle.model_database.specs.Transactions.{Transaction, view}
use Rattle.model_allocator.specs.Acts.{all_acted}
use Rattle.model_machine.specs.Worlds.{World}
use Rattle.client_core.specs.Stands.{CoreModel, StandsFor}
use Rattle.model_recipes.specs.declared.fault.RecipeFault.{RecipeFault}
use Rattle.model_recipes.specs.declared.fault.RecipeFault.TheVariants as fault
use Rattle.model_recipes.specs.Turns.{Turn, Call, acts}
use Rattle.model_recipes.specs.Queues.{push_call, pop_call}
use Rattle.model_recipes.specs.Multimaps.{add_call, subtract_call, values_call}
use Rattle.model_recipes.specs.Blobs.{size_call, read_call, write_call}
use Rattle.model_shell.specs.Requests.{Did, error_line}
use Rattle.model_shell.specs.declared.recipe.Recipe.{Recipe}
use Rattle.model_shell.specs.declared.recipe.Recipe.TheVariants as recipe
use Rattle.model_shell.specs.Recipes.{queue_space, multi_space, blob_space, nothing_said, item_said, counts_said, bytes_said, size_said, fault_text}
use Rattle.shell_recipes.specs.declared.calls.End.{End}
use Rattle.shell_recipes.specs.declared.calls.End.TheVariants as end

abbrev pub is_refused : End → Bool
is_refused end.Done = false
is_refused end.Refused = true

-- ---- by what a layer answers

-- a fault was printed; where memory ran out, nothing is said
abbrev pub Refuses : RecipeFault → End → (before after : List ℕ) → Type 0
Refuses fault.NoMemory end before after = ⊥
Refuses fault end before after = (is_refused end ≡ true) × (after ≡ before ++ error_line (fault_text fault))

-- what is said of a reply was printed, or a fault
abbrev pub Finishes : {X : Type 0} → (said : X → List ℕ) → Result X RecipeFault → End → (before after : List ℕ) → Type 0
Finishes said (Ok reply) end before after = (is_refused end ≡ false) × (after ≡ before ++ said reply)
Finishes said (Err fault) end before after = Refuses fault end before after

-- ---- by what a call is

-- what is printed of a call, by the code of the read or write that was refused, if one was, and by its turn
abbrev pub text_of : {X : Type 0} → (said : X → List ℕ) → Option Code → Result (Turn X) RecipeFault → List ℕ
text_of said (Some code) turn = error_line (decimal code.0)
text_of said None (Ok turn) = said turn.reply
text_of said None (Err fault) = error_line (fault_text fault)

abbrev pub is_stopped : {X : Type 0} → Option Code → Result (Turn X) RecipeFault → Bool
is_stopped (Some code) turn = true
is_stopped None (Ok turn) = false
is_stopped None (Err fault) = true

-- a call ended so on a transaction: it was printed, and it stands for what the call's reads and writes leave
pub record Ends {X : Type 0} (end : End) (said : X → List ℕ) (setting : Setting) (stands : Transaction → Type 0) (layer_call : Call X)
    (t : Transaction) (before after : List ℕ) : Type 0 where
  pub is : is_refused end ≡ is_stopped (all_acted setting (acts layer_call) t).refused layer_call.turn
  pub text : after ≡ before ++ text_of said (all_acted setting (acts layer_call) t).refused layer_call.turn
  pub left : stands (all_acted setting (acts layer_call) t).transaction

-- the call that a line is ended so
abbrev pub Makes : Recipe → End → Setting → (stands : Transaction → Type 0) → Transaction → (before after : List ℕ) → Type 0
Makes (recipe.Push queue value) end setting stands t before after =
    Ends end nothing_said setting stands (push_call (queue_space queue) value (view setting t)) t before after
Makes (recipe.Pop queue) end setting stands t before after =
    Ends end item_said setting stands (pop_call (queue_space queue) (view setting t)) t before after
Makes (recipe.Add multi key value) end setting stands t before after =
    Ends end nothing_said setting stands (add_call (multi_space multi) key value (view setting t)) t before after
Makes (recipe.Subtract multi key value) end setting stands t before after =
    Ends end nothing_said setting stands (subtract_call (multi_space multi) key value (view setting t)) t before after
Makes (recipe.Values multi key) end setting stands t before after =
    Ends end counts_said setting stands (values_call (multi_space multi) key (view setting t)) t before after
Makes (recipe.Write blob at piece) end setting stands t before after =
    Ends end nothing_said setting stands (write_call (blob_space blob) at piece (view setting t)) t before after
Makes (recipe.Read blob from most) end setting stands t before after =
    Ends end bytes_said setting stands (read_call (blob_space blob) from most (view setting t)) t before after
Makes (recipe.Size blob) end setting stands t before after =
    Ends end size_said setting stands (size_call (blob_space blob) (view setting t)) t before after

-- ---- on a core

-- what is to be done was done and printed, and no random word was drawn
pub record HasRun (end : End) (core : CoreModel) (before after : List ℕ) (world : World) (did : Did) : Type 0 where
  pub refused : did.is_refused ≡ is_refused end
  pub stands : StandsFor core did.world
  pub words : did.world.words ≡ world.words
  pub text : after ≡ before ++ did.text
