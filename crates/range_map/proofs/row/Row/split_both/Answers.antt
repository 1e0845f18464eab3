use Rattle.std.proofs.Common.{ap, ◌∙◌}
use Rattle.range_map.specs.Boundaries.{split_at}
use Rattle.range_map.proofs.Walked.{counted_split, row_joined, row_split}
use Rattle.range_map.proofs.row.Row.split_both.Goals as goal

pub returns-in-Ok-clause-ok : goal.returns-in-Ok-clause-ok
returns-in-Ok-clause-ok g c =
    let spread = g.T.Spread.spread in let base = c.args.base.now in let begin = c.args.begin.now in let end = c.args.end.now in
    row_split spread base end c.split_from.new.self c.split_from-2.new.self (c.in-Ok.ensures {u = tt}).ok
    ∙ ap (split_at spread end) (row_split spread base begin c.args.self.now c.split_from.new.self c.in_ok-up_to.ensures.ok)

pub returns-in-Ok-clause-count : goal.returns-in-Ok-clause-count
returns-in-Ok-clause-count g c lower =
    c.in_ok-up_to.ensures.count
    ∙ counted_split c.args.begin.now c.args.end.now lower _ c.split_from.new.self c.split_from-2.new.self (c.in-Ok.ensures {u = tt}).ok

pub returns-in-Err-clause-err : goal.returns-in-Err-clause-err
returns-in-Err-clause-err g c =
    row_joined g.T.Spread.spread c.args.base.now c.args.begin.now c.args.self.now c.split_from-2.new.self c.join.new.self _
    c.in_ok-up_to.ensures.new ((c.in-Err.ensures {u = tt}).err ∙ c.in_ok-up_to.ensures.ok) c.join.ensures
