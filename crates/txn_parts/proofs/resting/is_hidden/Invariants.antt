use Rattle.std.proofs.Common.{◌≡◌, drop}
use Rattle.model_database.specs.States.{unreadable}
use Rattle.model_database.specs.Intervals.{any_meet}
use Rattle.txn_parts.proofs.resting.is_hidden.Given as goal

-- the ranges that are left have an unreadable key where all have one
abbrev pub invariant-loop-range : goal.invariant-loop-range
invariant-loop-range l = any_meet l.interval (unreadable l.edits.mutations) ≡ any_meet (drop l.range-index l.interval) (unreadable l.edits.mutations)
