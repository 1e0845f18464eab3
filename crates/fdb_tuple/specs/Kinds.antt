-- The codes of elements, by the table of the tuple layer (tuple.md).
use Rattle.std.specs.Prelude.{ℕ, ◌-◌, ◌==◌, nat_lt, true, false, Option, Some, None, if◌then◌else◌}
use Rattle.fdb_tuple.specs.declared.code.Kind.{Kind}
use Rattle.fdb_tuple.specs.declared.code.Kind.TheVariants as kind

-- what begins with a code; nothing where the byte is no code
unfoldable pub kind_of : ℕ → Option Kind
kind_of code =
    if code == 0x00 then Some kind.Null
    else if code == 0x01 then Some kind.Bytes
    else if code == 0x02 then Some kind.Text
    else if code == 0x05 then Some kind.Nested
    else if nat_lt code 0x0B then None
    else if code == 0x0B then Some (kind.LongInt true)
    else if nat_lt code 0x14 then Some (kind.ShortInt true (0x14 - code))
    else if nat_lt code 0x1D then Some (kind.ShortInt false (code - 0x14))
    else if code == 0x1D then Some (kind.LongInt false)
    else if code == 0x26 then Some (kind.Bool false)
    else if code == 0x27 then Some (kind.Bool true)
    else if code == 0x30 then Some kind.Uuid
    else if code == 0x33 then Some kind.Stamp
    else None
