use Rattle.std.proofs.Common.{false, ap, sym, ◌∙◌, arith}
use Rattle.std.specs.Option.{option_to_list}
use Rattle.fdb_tuple.proofs.StampPlaces.{stamp_place_below}
use Rattle.fdb_tuple.proofs.places.stamp_place.Goals as goal

pub overflow_cast-result : goal.overflow_cast-result
overflow_cast-result c =
    let one = sym c.in_ok-over_tuple.ensures.found ∙ ap option_to_list c.in-Some.is in
    omega (arith, stamp_place_below false c.args.start c.args.tuple.now c.in-Some.place one)
