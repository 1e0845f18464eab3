use Rattle.std.proofs.Common.{option_copied}
use Rattle.ryw_view.specs.Views.{stored_of}
use Rattle.txn_parts.proofs.Changes.{IsClearedBefore}
use Rattle.txn_parts.proofs.changing.clear_stored.Given as goal

abbrev pub invariant-loop-key : goal.invariant-loop-key
invariant-loop-key l =
    IsClearedBefore l.view.edits.now.mutations (stored_of l.view) l.begin (option_copied l.boundary) l.key-iterator l.changes
