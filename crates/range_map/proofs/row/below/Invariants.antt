use Rattle.std.proofs.Common.{length, ◌-◌, ◌≡◌, ◌≤◌, ◌+◌, drop}
use Rattle.key_bytes.specs.Keys.{key_lt}
use Rattle.range_map.specs.Halves.{count_while}
use Rattle.range_map.proofs.row.below.Given as goal

-- the boundaries before the place are below the key
abbrev pub invariant-loop-at : goal.invariant-loop-at
invariant-loop-at g l = record {
  inside : l.at ≤ length l.boundaries;
  counted : l.at + count_while (λ boundary. key_lt boundary l.key) (drop l.at l.boundaries) ≡ count_while (λ boundary. key_lt boundary l.key) l.boundaries;
}

abbrev pub decreases-loop-at : goal.decreases-loop-at
decreases-loop-at g l = length l.boundaries - l.at
