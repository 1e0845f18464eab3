-- Names packed as one tuple.
use Rattle.std.specs.Prelude.{ℕ, List, map}
use Rattle.fdb_tuple.specs.declared.tuple.Elem.TheVariants as elem
use Rattle.fdb_tuple.specs.Listed.{tuple_of}
use Rattle.fdb_tuple.specs.Spelling.{spelling}

-- the bytes of these names as Unicode strings
abbrev pub spelled_names : List (List ℕ) → List ℕ
spelled_names names = spelling (tuple_of (map elem.Text names))
