-- A path that stays in one layer does so in another database with the same nodes, and above its last name.
use Rattle.std.proofs.Common.{◌≡◌, ℕ, List, [], ◌∷◌, Option, Some, None, refl, sym, ap, subst, ◌∙◌}
use Rattle.std.specs.Prelude.{unwrap_or}
use Rattle.std.specs.FinMap as finite
use Rattle.model_database.specs.Databases.{Database}
use Rattle.directory_types.specs.declared.Layer.{Layer}
use Rattle.model_directory.specs.declared.Directory.{Directory}
use Rattle.model_directory.specs.Nodes.{node_of, entry_of, layer_key}
use Rattle.model_directory.specs.Steps.{directory, front}
use Rattle.laws_directory.specs.Found.{directory_in, child_in, StaysFrom}
use Rattle.laws_directory.proofs.Keys.{IsOfNode, entry_of_node, layer_of_node}

-- where the keys of nodes are seen as before
pub stays_kept : (layer : Layer) (one other : Database)
    → ((key : List ℕ) → IsOfNode layer key → finite.get other key ≡ finite.get one key) → (found : Option Directory) (names : List (List ℕ))
    → StaysFrom one layer found names → StaysFrom other layer found names
stays_kept layer one other same found [] stays = tt
stays_kept layer one other same None (name ∷ names) stays = tt
stays_kept layer one other same (Some found) (name ∷ names) stays = (
  stays.0,
  stays_kept layer one other same (child_in other layer (Some found) name) names
      (subst (λ child. StaysFrom one layer child names) (sym child_same) stays.1),
)
  where
    directory_same : (entry : Option (List ℕ)) → directory_in other layer entry ≡ directory_in one layer entry
    directory_same None = refl
    directory_same (Some prefix) =
        ap (λ value. Some (directory prefix (unwrap_or value []))) (same (layer_key (node_of layer prefix)) (layer_of_node layer prefix))

    child_same : child_in other layer (Some found) name ≡ child_in one layer (Some found) name
    child_same =
        ap (directory_in other layer) (same (entry_of (node_of layer found.prefix) name) (entry_of_node layer found.prefix name))
        ∙ directory_same (finite.get one (entry_of (node_of layer found.prefix) name))

-- above its last name too
pub stays_above : (database : Database) (layer : Layer) (found : Option Directory) (names : List (List ℕ)) → StaysFrom database layer found names
    → StaysFrom database layer found (front names)
stays_above database layer found [] stays = tt
stays_above database layer found (name ∷ []) stays = tt
stays_above database layer None (name ∷ next ∷ names) stays = tt
stays_above database layer (Some found) (name ∷ next ∷ names) stays =
    (stays.0, stays_above database layer (child_in database layer (Some found) name) (next ∷ names) stays.1)
