use Rattle.std.proofs.Common.{◌≡◌, ◌++◌}
use Rattle.write_map.specs.Mutations.{mutations_of}
use Rattle.txn_parts.specs.WriteConflicts.{write_conflicts_among}
use Rattle.txn_parts.proofs.write_conflicts.push_written.Given as goal

-- with those that are left they are those of all
abbrev pub invariant-loop-mutation : goal.invariant-loop-mutation
invariant-loop-mutation l =
    l.ranges.items ++ write_conflicts_among (mutations_of l.mutation-iterator.a.rest.now) l.mutation-iterator.b.rest.now
    ≡ l.fn.ranges.items ++ write_conflicts_among (mutations_of l.fn.mutations) l.fn.adds_conflict
