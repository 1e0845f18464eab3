-- The last write version of each key, above those that are forgotten.
use Rattle.std.specs.Prelude.{◌≤◌, ◌<◌, ℕ, max, List, nat_lt, if◌then◌else◌}
use Rattle.key_bytes.specs.declared.range.KeyRange.{KeyRange}
use Rattle.conflict_ranges.specs.Generations as generations
use Rattle.conflict_ranges.specs.Generations.{LastWrites, version_at}

-- What was installed up to some version and isn't forgotten as a whole, what was installed since, a version that none of these is
-- above, and the greatest version that was forgotten. Contracts cite the words below, `newest` and `forgotten`.
pub record Index : Type 0 where
  pub older : LastWrites
  pub younger : LastWrites
  pub newest : ℕ
  pub forgotten : ℕ

-- a version where it is above another, and else 0
abbrev pub above : ℕ → ℕ → ℕ
above low version = if nat_lt low version then version else 0

-- the newest version of a key, or 0 where it is forgotten
abbrev pub newest_at : Index → List ℕ → ℕ
newest_at index key = above index.forgotten (max (version_at index.older key) (version_at index.younger key))

-- no generation has a version above the newest
abbrev pub IsBounded : Index → Type 0
IsBounded index = (index.older.newest ≤ index.newest) × (index.younger.newest ≤ index.newest)

-- giving these ranges this version takes no memory; the older generation takes part only where it has a greater version
abbrev pub IsReadyFor : Index → ℕ → List KeyRange → Type 0
IsReadyFor index version ranges =
    generations.IsReadyFor index.younger version ranges
    × (version < index.older.newest → generations.IsReadyFor index.older version ranges)
