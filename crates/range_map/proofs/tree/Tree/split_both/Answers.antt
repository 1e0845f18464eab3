use Rattle.std.proofs.Common.{sym, ◌∙◌}
use Rattle.range_map.proofs.Bounded.{joined, split_both-there}
use Rattle.range_map.proofs.FirstTwo.{both_boundaries}
use Rattle.range_map.proofs.tree.Tree.split_both.Goals as goal

pub returns-then-has_neighbours-clause-ok : goal.returns-then-has_neighbours-clause-ok
returns-then-has_neighbours-clause-ok g c =
    let begin = c.args.begin.now in let end = c.args.end.now in let boundaries = c.args.self.now in
    let both = both_boundaries begin end boundaries (sym c.has_neighbours.ensures ∙ c.if-has_neighbours.true) in
    split_both-there g.T.Spread.spread begin end boundaries both.0 both.1

pub returns-in-Err-clause-err : goal.returns-in-Err-clause-err
returns-in-Err-clause-err g c =
    joined g.T.Spread.spread c.args.begin.now c.args.self.now c.split-2.new.self c.join.new.self c.in_ok-is_new.is_new
    c.in_ok-is_new.ensures.new ((c.in-Err.ensures {u = tt}).err ∙ c.in_ok-is_new.ensures.ok) c.join.ensures
