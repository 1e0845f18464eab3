-- The elements that requests and replies are spelled by.
use Rattle.std.specs.Prelude.{ℕ, List, [], ◌∷◌, map, ℤ, pos, negsuc, Option, Some, None}
use Rattle.key_bytes.specs.declared.range.KeyRange.{KeyRange}
use Rattle.model_database.specs.declared.selector.Selector.{Selector}
use Rattle.model_database.specs.declared.options.RangeOptions.{RangeOptions}
use Rattle.model_database.specs.declared.mode.Mode.{Mode}
use Rattle.model_database.specs.declared.mode.Mode.TheVariants as mode
use Rattle.fdb_tuple.specs.declared.tuple.Elem.{Elem}
use Rattle.fdb_tuple.specs.declared.tuple.Elem.TheVariants as elem
use Rattle.fdb_tuple.specs.Listed.{tuple_of}
use Rattle.fdb_tuple.specs.Spelling.{spelling}

-- elements, packed as one tuple
unfoldable pub packed : List Elem → List ℕ
packed elements = spelling (tuple_of elements)

-- a number from 0 upward
abbrev pub count : ℕ → Elem
count number = elem.Int (pos number)

-- bytes that may be missing
abbrev pub optional : Option (List ℕ) → Elem
optional None = elem.Null
optional (Some bytes) = elem.Bytes bytes

abbrev pub range_elements : KeyRange → List Elem
range_elements range = elem.Bytes range.begin ∷ elem.Bytes range.end ∷ []

abbrev pub selector_elements : Selector → List Elem
selector_elements selector = elem.Bytes selector.key ∷ elem.Bool selector.or_equal ∷ elem.Int selector.offset ∷ []

-- a streaming mode by its number (API reference, "FDBStreamingMode")
abbrev pub mode_number : Mode → ℤ
mode_number mode.WantAll = negsuc 1
mode_number mode.Iterator = negsuc 0
mode_number mode.Exact = pos 0
mode_number mode.Small = pos 1
mode_number mode.Medium = pos 2
mode_number mode.Large = pos 3
mode_number mode.Serial = pos 4

abbrev pub options_elements : RangeOptions → List Elem
options_elements options = count options.limit ∷ elem.Bool options.reverse ∷ elem.Int (mode_number options.mode) ∷ []

-- keys and values in turn
abbrev pub pair_elements : List (List ℕ × List ℕ) → List Elem
pair_elements [] = []
pair_elements (pair ∷ pairs) = elem.Bytes pair.0 ∷ elem.Bytes pair.1 ∷ pair_elements pairs

-- the names of a path
abbrev pub path_elements : List (List ℕ) → List Elem
path_elements names = map elem.Text names
