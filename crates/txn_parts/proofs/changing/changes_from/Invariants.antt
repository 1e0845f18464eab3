use Rattle.std.proofs.Common.{length, Some}
use Rattle.std.specs.List.{filter}
use Rattle.key_bytes.specs.Keys.{key_lt}
use Rattle.ryw_view.specs.Views.{stored_of}
use Rattle.txn_parts.specs.Changing.{LeadUpTo}
use Rattle.txn_parts.proofs.changing.changes_from.Given as goal

abbrev pub invariant-loop-changes : goal.invariant-loop-changes
invariant-loop-changes l = LeadUpTo l.view.edits.now.mutations (stored_of l.view) (Some l.from) l.changes

-- the boundaries above
abbrev pub decreases-loop-changes : goal.decreases-loop-changes
decreases-loop-changes l = length (filter (key_lt l.from) l.view.edits.now.boundaries)
