-- When a watch fires. A history is the database at each version.
use Rattle.std.specs.Prelude.{◌≡◌, ◌≢◌, ℕ, ◌<◌, ◌≤◌, List}
use Rattle.std.specs.FinMap as finite
use Rattle.model_database.specs.Databases.{Database}

-- w is the least version above v at which the value of the key, absence included, differs from that at v
pub record FiresAt (history : ℕ → Database) (key : List ℕ) (v w : ℕ) : Type 0 where
  pub later : v < w
  pub differs : finite.get (history w) key ≢ finite.get (history v) key
  pub least : (u : ℕ) → v < u → u < w → finite.get (history u) key ≡ finite.get (history v) key

-- at each version above v, up to `seen`, the key has the value that it has at v
abbrev pub StaysTo : (ℕ → Database) → List ℕ → ℕ → ℕ → Type 0
StaysTo history key v seen = (u : ℕ) → v < u → u ≤ seen → finite.get (history u) key ≡ finite.get (history v) key
