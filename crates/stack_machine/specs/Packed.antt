-- Pairs packed as one tuple of their keys and values in turn.
use Rattle.std.specs.Prelude.{ℕ, List, [], ◌∷◌}
use Rattle.std.specs.List.{flat_map}
use Rattle.model_database.specs.Slices.{Entries}
use Rattle.fdb_tuple.specs.declared.tuple.Elem.TheVariants as elem
use Rattle.fdb_tuple.specs.Listed.{tuple_of}
use Rattle.fdb_tuple.specs.Spelling.{spelling}
use Rattle.model_machine.specs.Machines.{pairs_within}

-- the bytes of the pairs with keys that begin with a prefix
abbrev pub spelled_within : List ℕ → Entries → List ℕ
spelled_within prefix pairs =
    spelling (tuple_of (flat_map (λ e. elem.Bytes e.0 ∷ elem.Bytes e.1 ∷ []) (pairs_within prefix pairs)))
