-- The newest commit with a key among its write conflict ranges, by which conflicts are found without going through the commits
-- again.
use Rattle.std.specs.Prelude.{◌≡◌, ℕ, ◌+◌, ◌≤◌, ◌⊎◌, IsTrue, if◌then◌else◌, List, [], ◌∷◌}
use Rattle.key_bytes.specs.declared.range.KeyRange.{KeyRange}
use Rattle.key_bytes.specs.Ranges.{has}
use Rattle.model_database.specs.States.{covers}
use Rattle.model_database.specs.Histories.{Commit, History}

-- the number of the last of these commits with a key among its write conflict ranges, or what was the newest before them; the first
-- of them has this number
abbrev pub newest_from : (number newest : ℕ) → List Commit → List ℕ → ℕ
newest_from number newest [] key = newest
newest_from number newest (commit ∷ commits) key =
    newest_from (number + 1) (if covers commit.write_conflicts key then number else newest) commits key

-- the number, counted from 1, of the last commit with a key among its write conflict ranges; 0 where there is none
abbrev pub newest_of : History → List ℕ → ℕ
newest_of history key = newest_from 1 0 history key

-- a number is the greatest that is the newest of a key of a range: 0 where the range has no key
pub record IsNewestIn (history : History) (range : KeyRange) (number : ℕ) : Type 0 where
  pub above : (key : List ℕ) → IsTrue (has range key) → newest_of history key ≤ number
  pub reached : (number ≡ 0) ⊎ ((key : List ℕ) × IsTrue (has range key) × (newest_of history key ≡ number))
