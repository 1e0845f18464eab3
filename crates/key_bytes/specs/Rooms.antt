-- A room of 22 bytes of which the first so many are used.
use Rattle.std.specs.Prelude.{◌≡◌, ℕ, ◌≤◌, List, slice_index}

-- what is used lies within it, and the rest is zero
pub record IsPadded (len : ℕ) (room : List ℕ) : Type 0 where
  pub within : len ≤ 22
  pub zeros : (k : ℕ) → len ≤ k → slice_index room k ≡ 0
