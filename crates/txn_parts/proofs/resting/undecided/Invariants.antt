use Rattle.std.proofs.Common.{◌≡◌, ℕ, not, ◌&&◌, ◌||◌, List, drop}
use Rattle.model_database.specs.States.{covers, unreadable}
use Rattle.model_database.specs.Intervals.{any_meet, decided}
use Rattle.txn_parts.proofs.resting.undecided.Given as goal

-- the ranges that are left have an unreadable key where all have one, and with their undecided keys the pieces have those of all
abbrev pub invariant-loop-range : goal.invariant-loop-range
invariant-loop-range l = record {
  readable : any_meet l.interval (unreadable l.edits.mutations) ≡ any_meet (drop l.range-index l.interval) (unreadable l.edits.mutations);
  found : (key : List ℕ)
      → (covers l.pieces.items key || (covers (drop l.range-index l.interval) key && not (covers (decided l.edits.mutations) key)))
      ≡ (covers l.interval key && not (covers (decided l.edits.mutations) key));
}
