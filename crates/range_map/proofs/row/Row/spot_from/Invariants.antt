use Rattle.std.proofs.Common.{length, ◌-◌, ◌≡◌, ◌≤◌, ◌+◌, drop}
use Rattle.key_bytes.specs.Keys.{key_le}
use Rattle.range_map.specs.Halves.{count_while}
use Rattle.range_map.proofs.Held.{IsRising, is_among}
use Rattle.range_map.proofs.row.Row.spot_from.Given as goal

-- the boundaries before the place are below the key
abbrev pub invariant-loop-at : goal.invariant-loop-at
invariant-loop-at g l = record {
  inside : l.at ≤ length l.self;
  counted : l.at + count_while (λ boundary. key_le boundary l.key) (drop l.at l.self) ≡ count_while (λ boundary. key_le boundary l.key) l.self;
  among : is_among l.key (drop l.at l.self) ≡ is_among l.key l.self;
  rising : IsRising (drop l.at l.self);
}

abbrev pub decreases-loop-at : goal.decreases-loop-at
decreases-loop-at g l = length l.self - l.at
