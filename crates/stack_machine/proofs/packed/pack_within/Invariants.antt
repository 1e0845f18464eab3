use Rattle.std.proofs.Common.{◌≡◌, ◌++◌, drop}
use Rattle.key_bytes.specs.Entries.{entries_of}
use Rattle.stack_machine.specs.Packed.{spelled_within}
use Rattle.stack_machine.proofs.packed.pack_within.Given as goal

-- what was packed, and the bytes of the pairs that are left, are all
abbrev pub invariant-loop-pair : goal.invariant-loop-pair
invariant-loop-pair l =
    l.packed.items ++ spelled_within l.prefix (entries_of (drop l.pair-index l.pairs)) ≡ spelled_within l.prefix (entries_of l.pairs)
