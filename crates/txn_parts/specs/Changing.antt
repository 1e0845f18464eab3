-- How far the changes of a commit have come.
use Rattle.std.specs.Prelude.{◌≡◌, ℕ, true, false, if◌then◌else◌, List, Option}
use Rattle.std.specs.FinMap as finite
use Rattle.std.specs.List.{All}
use Rattle.model_database.specs.Databases.{Database, Mutation, do_all}
use Rattle.model_database.specs.KeyByKey.{is_modified_by}
use Rattle.version_store.specs.Changed.{changed, is_above}
use Rattle.ryw_view.specs.Walks.{is_inside}

-- Below a boundary, or everywhere where there is none, the changes lead a database to what mutations make of it, and from the
-- boundary on they leave it as it is. Each is of a key whose state the mutations change, and a key from the boundary on may come
-- next.
pub record LeadUpTo (mutations : List Mutation) (database : Database) (boundary : Option (List ℕ))
    (changes : List (List ℕ × Option (List ℕ))) : Type 0 where
  pub only : All (λ change. is_modified_by mutations change.0 ≡ true) changes
  pub leads : (key : List ℕ) → finite.get (changed changes database) key
      ≡ (if is_inside boundary false key then finite.get (do_all mutations database) key else finite.get database key)
  pub above : (key : List ℕ) → is_inside boundary false key ≡ false → is_above changes key ≡ true
