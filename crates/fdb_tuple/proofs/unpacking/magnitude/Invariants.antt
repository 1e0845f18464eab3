use Rattle.std.proofs.Common.{◌≡◌, take}
use Rattle.fdb_tuple.specs.Spelling.{with_sign}
use Rattle.fdb_tuple.specs.Reading.{number_high}
use Rattle.fdb_tuple.proofs.unpacking.magnitude.Given as goal

-- the number of the digits so far
abbrev pub invariant-loop-digit : goal.invariant-loop-digit
invariant-loop-digit l = l.number ≡ number_high (with_sign l.negative (take l.digit-index l.digits))
