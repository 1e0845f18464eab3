-- Ranges of keys as sets of keys.
use Rattle.std.specs.Prelude.{ℕ, Bool, List, IsTrue}
use Rattle.key_bytes.specs.declared.range.KeyRange.{KeyRange}
use Rattle.key_bytes.specs.Keys.{IsByteString, key_lt, within, lesser, greater}

abbrev pub has : KeyRange → List ℕ → Bool
has range key = within range.begin range.end key

-- the greater begin is less than the lesser end
abbrev pub meets : KeyRange → KeyRange → Bool
meets a b = key_lt (greater a.begin b.begin) (lesser a.end b.end)

-- a key is in both ranges
pub record IsInBoth (a b : KeyRange) (key : List ℕ) : Type 0 where
  pub bytes : IsByteString key
  pub in_first : IsTrue (has a key)
  pub in_second : IsTrue (has b key)
