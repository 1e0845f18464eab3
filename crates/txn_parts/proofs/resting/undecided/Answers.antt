use Rattle.std.proofs.Common.{◌≡◌, not, ◌&&◌, ◌||◌, [], drop, sym, ap, ◌∙◌, arith}
use Rattle.std.proofs.lemmas.List.{drop_all}
use Rattle.model_database.specs.States.{covers, unreadable}
use Rattle.model_database.specs.Intervals.{any_meet, decided}
use Rattle.model_database.proofs.Ranges.{covers_without}
use Rattle.txn_parts.proofs.Units.{or_false}
use Rattle.txn_parts.proofs.resting.undecided.Goals as goal

pub returns : goal.returns
returns c =
    let mutations = c.args.edits.now.mutations in let interval = c.args.interval.now in
    let left : drop c.loop-range.range-index interval ≡ [] = drop_all c.loop-range.range-index interval (omega arith) in (
      c.loop-range.invariant.readable ∙ ap (λ ranges. any_meet ranges (unreadable mutations)) left,
      λ key.
          sym (or_false (covers c.loop-range.pieces.items key))
          ∙ ap (λ ranges. covers c.loop-range.pieces.items key || (covers ranges key && not (covers (decided mutations) key))) (sym left)
          ∙ c.loop-range.invariant.found key ∙ sym (covers_without (decided mutations) interval key),
    )
