use Rattle.std.proofs.Common.{[], ◌||◌, sym, ap, ◌∙◌}
use Rattle.model_database.specs.States.{covers}
use Rattle.model_database.specs.Intervals.{decided, without}
use Rattle.model_database.proofs.Ranges.{covers_without}
use Rattle.txn_parts.specs.ReadRanges.{ranges_of}
use Rattle.txn_parts.proofs.Units.{or_false}
use Rattle.txn_parts.proofs.resting.add_unless.Goals as goal

pub returns-then-snapshot-clause-added : goal.returns-then-snapshot-clause-added
returns-then-snapshot-clause-added c _ key =
    let taken = decided c.args.edits.now.mutations in let old = covers c.args.ranges.now key in
    sym (or_false old)
    ∙ ap (λ b. old || b) (sym (covers_without taken [] key))
    ∙ ap (λ snapshot. old || covers (without taken (ranges_of snapshot c.args.interval.now)) key) (sym c.if-snapshot.true)
