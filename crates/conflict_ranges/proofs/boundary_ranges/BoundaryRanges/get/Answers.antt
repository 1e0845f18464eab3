use Rattle.std.proofs.Common.{◌≡◌, drop, ap, subst, ◌∙◌, arith}
use Rattle.std.specs.Map.Iter.{TakesFirst}
use Rattle.conflict_ranges.specs.Segments.{range_between}
use Rattle.conflict_ranges.proofs.Taken.{passed_one, taken_some, taken_at}
use Rattle.conflict_ranges.proofs.boundary_ranges.BoundaryRanges.get.Goals as goal

pub loop-preserved : goal.loop-preserved
loop-preserved c =
    passed_one c.args.self.now c.loop.counter c.loop.left c.next-passed.new.self c.next-passed.result c.loop.invariant
    c.next-passed.ensures.steps

pub unwrap-requires : goal.unwrap-requires
unwrap-requires c =
    let same : c.loop.counter ≡ c.args.index = omega arith in
    taken_some c.args.self.now c.args.index c.loop.left c.next.new.self c.requires
    (c.loop.invariant ∙ ap (λ i. drop i c.args.self.now) same) c.next.result c.next.ensures.steps

pub returns : goal.returns
returns c =
    let same : c.loop.counter ≡ c.args.index = omega arith in
    taken_at c.args.self.now c.args.index c.loop.left c.next.new.self c.requires
    (c.loop.invariant ∙ ap (λ i. drop i c.args.self.now) same) c.unwrap.result
    (subst (λ taken. TakesFirst range_between c.loop.left taken c.next.new.self) c.unwrap.ensures c.next.ensures.steps)
