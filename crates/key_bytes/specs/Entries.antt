-- A list of pairs of a key and a value, as contracts see it.
use Rattle.std.specs.Prelude.{ℕ, List, map}
use Rattle.key_bytes.specs.declared.pairs.Pair.{Pair}

abbrev pub entry_of : Pair → List ℕ × List ℕ
entry_of pair = (pair.key, pair.value)

abbrev pub entries_of : List Pair → List (List ℕ × List ℕ)
entries_of pairs = map entry_of pairs
