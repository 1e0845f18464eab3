-- Sets of chunks, up to the last that was made.
use Rattle.std.proofs.Common.{◌≡◌, ℕ, ◌+◌, ◌-◌, ◌<◌, ◌≤◌, List, [], ◌∷◌, Result, Ok, sym, subst, arith}
use Rattle.model_database.specs.Databases.{Mutation, Set}
use Rattle.model_database.specs.Histories.{Setting}
use Rattle.model_database.specs.Transactions.{Transaction}
use Rattle.model_recipes.specs.declared.fault.RecipeFault.{RecipeFault}
use Rattle.model_recipes.specs.Queues.{index_key}
use Rattle.model_recipes.specs.Blobs.{chunk, sets_chunks}
use Rattle.recipe_layers.specs.Steps.{IsWritten}
use Rattle.recipe_layers.proofs.Answering.{none_written, written_more}
use Rattle.recipe_layers.proofs.Chunks.{sets_at}

-- none was made yet
pub sets_none : (setting : Setting) (stands : Transaction → Type 0) (space bytes : List ℕ) (from : ℕ) (t : Transaction) → stands t
    → IsWritten (Ok tt) setting stands (sets_chunks space bytes from (from - from)) t
sets_none setting stands space bytes from t is =
    let none : 0 ≡ from - from = omega arith in
    subst (λ (count : ℕ). IsWritten (Ok tt) setting stands (sets_chunks space bytes from count) t) none (none_written setting stands t is)

-- what the set of a place and those behind it did, all did
pub sets_stopped : (result : Result (Unit {0}) RecipeFault) (setting : Setting) (first stands : Transaction → Type 0) (space bytes : List ℕ)
    (from place end : ℕ) (t : Transaction) → from ≤ place → place < end
    → IsWritten (Ok tt) setting first (sets_chunks space bytes from (place - from)) t
    → ((u : Transaction) → first u → IsWritten result setting stands
    (Set (index_key space place) (chunk bytes place) ∷ sets_chunks space bytes (place + 1) (end - (place + 1))) u)
    → IsWritten result setting stands (sets_chunks space bytes from (end - from)) t
sets_stopped result setting first stands space bytes from place end t low high done others =
    subst (λ (mutations : List Mutation). IsWritten result setting stands mutations t) (sym (sets_at space bytes from place end low high))
    (written_more result setting first stands (sets_chunks space bytes from (place - from))
    (Set (index_key space place) (chunk bytes place) ∷ sets_chunks space bytes (place + 1) (end - (place + 1))) t done others)

-- from one place to another
pub sets_total : (result : Result (Unit {0}) RecipeFault) (setting : Setting) (stands : Transaction → Type 0) (space bytes : List ℕ)
    (from end first last : ℕ) (t : Transaction) → from ≡ first → end ≡ last
    → IsWritten result setting stands (sets_chunks space bytes from (end - from)) t
    → IsWritten result setting stands (sets_chunks space bytes first (last - first)) t
sets_total result setting stands space bytes from end first last t from_is end_is done =
    subst (λ (first : ℕ). IsWritten result setting stands (sets_chunks space bytes first (last - first)) t) from_is
    (subst (λ (last : ℕ). IsWritten result setting stands (sets_chunks space bytes from (last - from)) t) end_is done)
