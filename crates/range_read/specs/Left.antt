-- What is left of a slice behind its first pairs.
use Rattle.std.specs.Prelude.{ℕ, Bool, true, false, List, []}
use Rattle.std.specs.Option.{option_map_or}
use Rattle.key_bytes.specs.Keys.{after}
use Rattle.key_map.specs.Ends.{last}
use Rattle.model_database.specs.Databases.{Database}
use Rattle.model_database.specs.Slices.{Entries, slice}

-- what is left of a slice behind pairs of which this is the last key: in order from the key after it on, else up to it
abbrev pub slice_behind : Database → (begin end : List ℕ) → (limit : ℕ) → (backward : Bool) → List ℕ → Entries
slice_behind database begin end limit true key = slice database begin key limit true
slice_behind database begin end limit false key = slice database (after key) end limit false

-- the key of the last pair
abbrev pub last_key : Entries → List ℕ
last_key pairs = option_map_or (λ e. e.0) (last pairs) []
