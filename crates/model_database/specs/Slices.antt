-- Slices of a range (API reference, "fdb_transaction_get_range").
use Rattle.std.specs.Prelude.{ℕ, zero, suc, Bool, true, false, List, take, reverse}
use Rattle.std.specs.FinMap as finite
use Rattle.std.specs.List.{filter}
use Rattle.key_bytes.specs.Keys.{within}
use Rattle.model_database.specs.Databases.{Database}

-- keys with their values
abbrev pub Entries : Type 0
Entries = List (List ℕ × List ℕ)

-- a list, or the same list from its end on
abbrev pub turned : {X : Type 0} → Bool → List X → List X
turned true xs = reverse xs
turned false xs = xs

-- the first so many of a list; 0 is no limit
abbrev pub cut : {X : Type 0} → ℕ → List X → List X
cut zero xs = xs
cut (suc n) xs = take (suc n) xs

-- the pairs of a range in the order of their keys, or in the other order
abbrev pub span : Database → (begin end : List ℕ) → (backward : Bool) → Entries
span database begin end backward = turned backward (filter (λ e. within begin end e.0) (finite.entries database))

-- the first so many pairs of a range, in the order of their keys, or in the other order
abbrev pub slice : Database → (begin end : List ℕ) → (limit : ℕ) → (backward : Bool) → Entries
slice database begin end limit backward = cut limit (span database begin end backward)
