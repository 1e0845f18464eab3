use Rattle.std.proofs.Common.{sym}
use Rattle.fdb_tuple.proofs.Codes.{short_size}
use Rattle.fdb_tuple.proofs.unpacking.coded.Goals as goal

pub short_int_of-requires : goal.short_int_of-requires
short_int_of-requires c = short_size c.args.code c.in-Some-ShortInt.size c.in-Some-ShortInt.negative (sym (rw c.in-Some-ShortInt.field-0-is at c.in-Some-ShortInt.ensures))
