-- Counts of faults: 64-bit numbers that only rise, and stand still at their last value.
use Rattle.std.specs.Prelude.{◌≡◌, ℕ, ◌+◌, ◌-◌, ◌^◌, ◌<◌, ◌≤◌, min, ◌⊎◌}
use Rattle.std.proofs.Common.{arith}

-- the last value of a count
abbrev pub last_count : ℕ
last_count = 2 ^ 64 - 1

-- a count after one more
abbrev pub risen : ℕ → ℕ
risen count = min (count + 1) last_count

-- a count rose in a call: it is greater after than before, or stands at its last value
abbrev pub Rose : ℕ → ℕ → Type 0
Rose before after = (before < after) ⊎ (after ≡ last_count)

-- a count that rose in a part rose in the whole
pub Rose-later : (before mid after : ℕ) → before ≤ mid → Rose mid after → Rose before after
Rose-later before mid after falls rose = grind arith

pub Rose-sooner : (before mid after : ℕ) → before ≤ mid → mid ≤ after → Rose before mid → Rose before after
Rose-sooner before mid after falls stays rose = grind arith
