use Rattle.fdb_tuple.proofs.Magnitudes.{too_many_digits}
use Rattle.fdb_tuple.proofs.unpacking.bounded_magnitude.Goals as goal

pub returns-then-digits-gt16 : goal.returns-then-digits-gt16
returns-then-digits-gt16 c = too_many_digits c.args.negative c.args.digits.now c.requires c.if-digits-gt16.true
