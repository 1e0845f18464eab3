use Rattle.std.proofs.Common.{◌≡◌, ◌++◌}
use Rattle.version_store.proofs.pairs_left.copied.Given as goal

-- the pairs so far and those that are left are all
abbrev pub invariant-loop-key : goal.invariant-loop-key
invariant-loop-key l = l.pairs ++ l.key-iterator ≡ l.fn.left
