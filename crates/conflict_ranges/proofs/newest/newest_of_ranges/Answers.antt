use Rattle.std.proofs.Common.{◌≡◌, ◌≤◌, sym, ap, subst, ◌∙◌}
use Rattle.std.specs.List.{filter}
use Rattle.key_bytes.specs.Keys.{within}
use Rattle.model_database.specs.States.{range_from}
use Rattle.range_map.specs.Boundaries.{held}
use Rattle.conflict_ranges.proofs.Greatest.{greatest, newest_above, newest_reached}
use Rattle.conflict_ranges.proofs.Walks.{IsReached}
use Rattle.conflict_ranges.proofs.newest.newest_of_ranges.Goals as goal
use Rattle.conflict_ranges.proofs.newest.newest_of_ranges.Goals.{In-None}

-- once no boundary is left, the newest version is the greatest
newest_is : (c : In-None) → c.loop-version.newest
    ≡ greatest (held c.args.ranges.now c.args.begin.now) (filter (λ e. within c.args.begin.now c.args.end.now e.0) c.args.ranges.now.entries)
newest_is c = sym (ap (greatest c.loop-version.newest) (c.in-None.ensures {u = tt}).steps.0) ∙ c.loop-version.invariant

pub returns-clause-above : goal.returns-clause-above
returns-clause-above c key is_in =
    subst (λ newest. held c.args.ranges.now key ≤ newest) (sym (newest_is c))
    (newest_above c.args.begin.now c.args.end.now c.args.ranges.now c.shows_rising.ensures key is_in)

pub returns-clause-reached : goal.returns-clause-reached
returns-clause-reached c =
    subst (IsReached (range_from c.args.begin.now c.args.end.now) c.args.ranges.now) (sym (newest_is c))
    (newest_reached c.args.begin.now c.args.end.now c.args.ranges.now c.shows_rising.ensures c.requires)
