-- The keys of an allocator, which stand in a subspace of their own, and what they say (directory layer's documentation,
-- "High-contention allocator"). Under s[0] stand the counters: the key s[0][start] counts the calls on the window that begins at
-- start. Under s[1] stand the numbers that were tried: s[1][number].
use Rattle.std.specs.Prelude.{ℕ, pos, ◌+◌, ◌*◌, ◌^◌, Bool, true, ◌&&◌, if◌then◌else◌, List, [], ◌∷◌, ◌++◌, length, drop, reverse, nat_lt, nat_le, Option, Some, None, is_some, bytes_eq}
use Rattle.std.specs.FinMap as finite
use Rattle.key_bytes.specs.Numbers.{number_low}
use Rattle.fdb_tuple.specs.Tuples.{Int, Empty, Single}
use Rattle.fdb_tuple.specs.Spelling.{spelling}
use Rattle.model_database.specs.declared.AtomicOp.TheVariants as atomic
use Rattle.model_database.specs.Atomics.{atom, little_bytes}
use Rattle.model_database.specs.Databases.{Database}
use Rattle.model_database.specs.Slices.{Entries, slice}
use Rattle.model_allocator.specs.declared.TheConstants.{GREATEST_COUNTER}

-- ---- keys, where this is the prefix of the subspace

-- the packed tuple of one number
abbrev pub packed : ℕ → List ℕ
packed number = spelling (Single (Int (pos number)) Empty)

-- s[0], and s[0][start]
abbrev pub counters_prefix : (space : List ℕ) → List ℕ
counters_prefix space = space ++ packed 0

abbrev pub counter_key : (space : List ℕ) → (start : ℕ) → List ℕ
counter_key space start = space ++ spelling (Single (Int (pos 0)) (Single (Int (pos start)) Empty))

-- s[1], and s[1][number]
abbrev pub recent_prefix : (space : List ℕ) → List ℕ
recent_prefix space = space ++ packed 1

abbrev pub recent_key : (space : List ℕ) → (number : ℕ) → List ℕ
recent_key space number = space ++ spelling (Single (Int (pos 1)) (Single (Int (pos number)) Empty))

-- the range of the tuples that begin with 0 and have more elements
abbrev pub counters_begin : (space : List ℕ) → List ℕ
counters_begin space = counters_prefix space ++ 0 ∷ []

abbrev pub counters_end : (space : List ℕ) → List ℕ
counters_end space = counters_prefix space ++ 255 ∷ []

-- ---- windows

-- how many numbers the window has that begins at a number
abbrev pub window : (start : ℕ) → ℕ
window start = if nat_lt start 255 then 64 else if nat_lt start 65535 then 1024 else 8192

-- ---- counters

-- the number at which the counter of a key stands, where the key is that of one integer from 0 to the greatest
unfoldable pub counter_in : (space key : List ℕ) → Option ℕ
counter_in space key =
    let number = number_low (reverse (drop (length (counters_prefix space) + 1) key)) in
    if bytes_eq key (counter_key space number) && nat_le number GREATEST_COUNTER then Some number else None

-- the greatest key of the counters, with its value, where there is one
abbrev pub greatest_counter : (space : List ℕ) → Database → Entries
greatest_counter space database = slice database (counters_begin space) (counters_end space) 1 true

-- 1 as 8 bytes, the lowest first, and what a counter is when 1 was added to it
abbrev pub one_more : List ℕ
one_more = little_bytes 8 1

abbrev pub counted : (space : List ℕ) → Database → (start : ℕ) → Option (List ℕ)
counted space database start = atom atomic.Add (finite.get database (counter_key space start)) one_more

-- 8 bytes, as a signed number the lowest byte first, count half of a window or more
abbrev pub counts_half : (start : ℕ) → (count : List ℕ) → Bool
counts_half start count = nat_lt (number_low count) (2 ^ 63) && nat_le (window start) (2 * number_low count)

-- ---- numbers that were tried

abbrev pub is_recent : (space : List ℕ) → Database → (number : ℕ) → Bool
is_recent space database number = is_some (finite.get database (recent_key space number))
