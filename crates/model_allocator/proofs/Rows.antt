-- The definitions computed: forty calls in one transaction over an empty database, all words 0, grant 0 to 30 and then 64 to 72, and
-- draw 1,218 words; a full window; keys of counters.
use Rattle.std.proofs.Common.{◌≡◌, ℕ, Bool, true, false, [], ◌∷◌, Some, refl}
use Rattle.std.specs.Prelude.{nat_lt, ◌&&◌, nat_le}
use Rattle.key_bytes.specs.Numbers.{number_low}
use Rattle.model_database.specs.Atomics.{little_bytes}
use Rattle.model_allocator.specs.Counters.{window, counts_half}
use Rattle.model_allocator.specs.Granting.{candidates, first_absent}

abbrev zeros : ℕ → ℕ
zeros place = 0

-- the numbers below one are present
abbrev below : ℕ → ℕ → Bool
below end number = nat_lt number end

-- those of a window from its start up to one
abbrev between : ℕ → ℕ → ℕ → Bool
between start end number = nat_le start number && nat_lt number end

windows : (window 0 ∷ window 254 ∷ window 255 ∷ window 65534 ∷ window 65535 ∷ []) ≡ (64 ∷ 64 ∷ 1024 ∷ 1024 ∷ 8192 ∷ [])
windows = refl

-- the first and the last number of the first window, and the first and the last of the second
granted : (first_absent (below 0) (candidates 0 zeros) ∷ first_absent (below 30) (candidates 0 zeros)
    ∷ first_absent (between 64 64) (candidates 64 zeros) ∷ first_absent (between 64 72) (candidates 64 zeros) ∷ [])
    ≡ (Some 0 ∷ Some 30 ∷ Some 64 ∷ Some 72 ∷ [])
granted = refl

-- the 31st call counts 31, and the 32nd half of 64
halves : (counts_half 0 (little_bytes 8 31) ∷ counts_half 0 (little_bytes 8 32) ∷ counts_half 64 (little_bytes 8 9) ∷ []) ≡ (false ∷ true ∷ false ∷ [])
unfolding little_bytes number_low
halves = refl
