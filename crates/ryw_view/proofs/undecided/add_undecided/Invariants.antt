use Rattle.std.proofs.Common.{◌≡◌, ℕ, not, ◌&&◌, ◌||◌, List, length}
use Rattle.std.specs.List.{filter}
use Rattle.key_bytes.specs.Keys.{key_lt, within}
use Rattle.model_database.specs.Intervals.{decided}
use Rattle.model_database.specs.States.{covers}
use Rattle.ryw_view.proofs.Decided.{HasWalked}
use Rattle.ryw_view.proofs.undecided.add_undecided.Given as goal

-- the pieces have the undecided keys before the one that the walk came to
abbrev pub invariant-loop-boundary : goal.invariant-loop-boundary
invariant-loop-boundary l = record {
  walked : HasWalked l.edits.mutations l.range l.from;
  added : (key : List ℕ) → covers l.pieces.items key
      ≡ (covers l.initial.pieces.items key || (within l.range.begin l.from key && not (covers (decided l.edits.mutations) key)));
}

-- the boundaries above
abbrev pub decreases-loop-boundary : goal.decreases-loop-boundary
decreases-loop-boundary l = length (filter (key_lt l.from) l.edits.boundaries)
