use Rattle.std.proofs.Common.{◌≡◌, take}
use Rattle.key_bytes.specs.Entries.{entries_of}
use Rattle.key_bytes.proofs.pairs.Pairs.copy.Given as goal

-- the pairs so far are copied
abbrev pub invariant-loop-pair : goal.invariant-loop-pair
invariant-loop-pair l = l.copy ≡ entries_of (take l.pair-index l.pair-items)
