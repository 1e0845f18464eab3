use Rattle.std.proofs.Common.{arith}
use Rattle.fdb_tuple.proofs.ByteLists.{AreBytes-by_place}
use Rattle.fdb_tuple.proofs.Magnitudes.{few_digits}
use Rattle.fdb_tuple.proofs.unpacking.short_int_of.Goals as goal

pub signed-number-requires : goal.signed-number-requires
signed-number-requires c =
    rw (c.magnitude.ensures, c.split_at.ensures.front, c.from-size.ensures)
    (few_digits c.args.negative c.args.size c.args.rest.now c.requires (AreBytes-by_place c.args.rest.now (λ i. omega (arith, c.type_inv.rest i))))
