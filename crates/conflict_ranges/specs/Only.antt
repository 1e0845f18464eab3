-- A set of one range, which needs no boundary.
use Rattle.std.specs.Prelude.{◌≡◌, true, List, [], ◌∷◌, Option, Some, None}
use Rattle.key_bytes.specs.declared.range.KeyRange.{KeyRange}
use Rattle.key_bytes.specs.Keys.{key_lt}

-- the only range, where there is one, and else these ranges
abbrev pub only_or : Option KeyRange → List KeyRange → List KeyRange
only_or None ranges = ranges
only_or (Some range) ranges = range ∷ []

-- the only range, where there is one, and then these ranges
abbrev pub only_and : Option KeyRange → List KeyRange → List KeyRange
only_and None ranges = ranges
only_and (Some range) ranges = range ∷ ranges

-- the only range is not empty
abbrev pub IsFilled : Option KeyRange → Type 0
IsFilled None = Unit {0}
IsFilled (Some range) = key_lt range.begin range.end ≡ true
