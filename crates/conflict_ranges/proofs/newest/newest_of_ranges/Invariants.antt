use Rattle.std.proofs.Common.{◌≡◌}
use Rattle.std.specs.List.{filter}
use Rattle.key_bytes.specs.Keys.{within}
use Rattle.range_map.specs.Boundaries.{held}
use Rattle.conflict_ranges.proofs.Greatest.{greatest}
use Rattle.conflict_ranges.proofs.newest.newest_of_ranges.Given as goal

-- what the boundaries that are left have, with the newest version so far, is what the begin and all boundaries have
abbrev pub invariant-loop-version : goal.invariant-loop-version
invariant-loop-version l =
    greatest l.newest l.version-iterator
    ≡ greatest (held l.ranges l.begin) (filter (λ e. within l.begin l.end e.0) l.ranges.entries)
