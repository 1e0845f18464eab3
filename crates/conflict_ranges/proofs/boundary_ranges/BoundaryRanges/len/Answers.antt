use Rattle.std.proofs.Common.{inl, length, ap, arith}
use Rattle.std.proofs.lemmas.Iterator.Consumers.{YieldsList-from_rest, count_from_yields_List}
use Rattle.conflict_ranges.proofs.boundary_ranges.BoundaryRanges.len.Goals as goal

pub count-requires-clause-fits : goal.count-requires-clause-fits
count-requires-clause-fits c =
    let all = ap length c.ranges-2.ensures in let few = c.shows_few.ensures in inl (omega (arith, all, few))

pub returns : goal.returns
returns c =
    count_from_yields_List c.ranges-2.result c.count.result c.count.ensures.ran (YieldsList-from_rest c.args.self.now c.ranges-2.ensures)
