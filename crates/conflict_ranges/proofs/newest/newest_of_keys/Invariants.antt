use Rattle.std.proofs.Common.{◌≡◌}
use Rattle.std.specs.FinMap.{entries}
use Rattle.std.specs.List.{filter}
use Rattle.key_bytes.specs.Keys.{within}
use Rattle.conflict_ranges.proofs.Greatest.{greatest}
use Rattle.conflict_ranges.proofs.newest.newest_of_keys.Given as goal

-- what the keys that are left have, with the newest version so far, is what all keys have
abbrev pub invariant-loop-version : goal.invariant-loop-version
invariant-loop-version l =
    greatest l.newest l.version-iterator ≡ greatest 0 (filter (λ e. within l.begin l.end e.0) (entries l.keys))
