-- How far the source was read.
use Rattle.std.specs.Prelude.{◌≡◌, ◌≤◌, ◌⊎◌, ℕ, List, length, Option}
use Rattle.std.specs.Io.KnownBytes.{IsAtEnd, Consumes}

-- the most bytes that are read: one more than an input may have
abbrev pub read_limit : ℕ
read_limit = 67108865

-- what was taken off the bytes that the source had is no more than the limit
abbrev pub ReadsWithin : Option (List ℕ) → Option (List ℕ) → Type 0
ReadsWithin left after = (bytes : List ℕ) × (length bytes ≤ read_limit) × Consumes left after bytes

-- the source is at its end, or just as many bytes as the limit says were taken off what it had
abbrev pub IsReadOut : Option (List ℕ) → Option (List ℕ) → Type 0
IsReadOut left after = IsAtEnd after ⊎ ((bytes : List ℕ) × (length bytes ≡ read_limit) × Consumes left after bytes)
