-- What stands after a part of a text was added.
use Rattle.std.specs.Prelude.{◌≡◌, ℕ, List, take, length}

-- what was held stands in front of what is held now
pub record Grew (old new : List ℕ) : Type 0 where
  pub front : take (length old) new ≡ old
