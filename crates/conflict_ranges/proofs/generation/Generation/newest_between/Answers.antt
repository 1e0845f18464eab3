use Rattle.std.proofs.Common.{is_lt, true≢false, sym, ap, subst, ◌∙◌}
use Rattle.range_map.proofs.Bounded.{within_backward}
use Rattle.conflict_ranges.specs.Generations.{LastWrites}
use Rattle.conflict_ranges.proofs.Versions.{above_one, reached_one, above_both, reached_both, IsAboveAll, IsReached}
use Rattle.conflict_ranges.proofs.generation.Generation.newest_between.Goals as goal

pub returns-then-not-is_lt-clause-above : goal.returns-then-not-is_lt-clause-above
returns-then-not-is_lt-clause-above c key is_in =
    absurd (true≢false (sym is_in
    ∙ within_backward c.args.begin.now c.args.end.now key
    (sym (ap is_lt c.cmp.ensures) ∙ sym c.is_lt.ensures ∙ c.if-not-is_lt.true)))

pub returns-then-is_after-clause-above : goal.returns-then-is_after-clause-above
returns-then-is_after-clause-above c =
    above_one c.args.begin.now c.args.end.now c.args.self.now c.newest_of.result (c.if-is_after.ensures {u = tt}) c.newest_of.ensures

pub returns-then-is_after-clause-reached : goal.returns-then-is_after-clause-reached
returns-then-is_after-clause-reached c =
    reached_one c.args.begin.now c.args.end.now c.args.self.now c.newest_of.result (c.if-is_after.ensures {u = tt}) c.newest_of.ensures

pub returns-clause-above : goal.returns-clause-above
returns-clause-above c =
    subst (λ (generation : LastWrites). IsAboveAll c.args.begin.now c.args.end.now generation c.max.result) c.self.view_is
    (above_both c.args.begin.now c.args.end.now (record { keys = c.self.inside.keys; ranges = c.self.inside.ranges; newest = c.self.inside.newest })
    c.max.result c.newest_of_ranges.result c.newest_of_keys.result c.max.ensures
    c.newest_of_ranges.ensures.above c.newest_of_keys.ensures.above)

pub returns-clause-reached : goal.returns-clause-reached
returns-clause-reached c =
    subst (λ (generation : LastWrites). IsReached c.args.begin.now c.args.end.now generation c.max.result) c.self.view_is
    (reached_both c.args.begin.now c.args.end.now (record { keys = c.self.inside.keys; ranges = c.self.inside.ranges; newest = c.self.inside.newest })
    c.max.result c.newest_of_ranges.result c.newest_of_keys.result c.max.ensures
    c.newest_of_ranges.ensures.above c.newest_of_keys.ensures.above c.newest_of_ranges.ensures.reached c.newest_of_keys.ensures.reached)
