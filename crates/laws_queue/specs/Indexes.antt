-- Which key is that of an index, by a relation that names no reader.
use Rattle.std.specs.Prelude.{◌≡◌, ◌≤◌, ℕ, List, Some}
use Rattle.model_recipes.specs.declared.TheConstants.{GREATEST_INDEX}
use Rattle.model_recipes.specs.Queues.{index_key, index_in}

-- the key is the packed tuple of an index behind the subspace's prefix, and the index isn't above the greatest
pub record IsKeyOf (space key : List ℕ) (index : ℕ) : Type 0 where
  pub is : key ≡ index_key space index
  pub small : index ≤ GREATEST_INDEX

-- a key is read as that of an index exactly where it is so
abbrev pub AreIndexesTold : Type 0
AreIndexesTold = (space key : List ℕ) (index : ℕ) → (index_in space key ≡ Some index → IsKeyOf space key index)
    × (IsKeyOf space key index → index_in space key ≡ Some index)
