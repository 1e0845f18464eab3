-- The ranges of a read that its transaction rests on.
use Rattle.std.specs.Prelude.{Bool, true, false, List, []}
use Rattle.key_bytes.specs.declared.range.KeyRange.{KeyRange}

-- the ranges of a read, of which one by snapshot has none
abbrev pub ranges_of : (snapshot : Bool) → List KeyRange → List KeyRange
ranges_of true interval = []
ranges_of false interval = interval
