use Rattle.std.proofs.lemmas.Result.{on_ok_weaker}
use Rattle.conflict_ranges.proofs.Splits.{split_same}
use Rattle.conflict_ranges.proofs.members.split.Goals as goal

pub returns-clause-ok : goal.returns-clause-ok
returns-clause-ok c =
    on_ok_weaker c.split_both.result (split_same c.args.range.now.begin c.args.range.now.end c.args.members.now c.split_both.new.self)
    c.split_both.ensures.ok
