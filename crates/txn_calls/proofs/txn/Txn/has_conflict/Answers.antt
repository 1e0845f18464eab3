use Rattle.std.proofs.Common.{rules, ◌≡◌, ◌||◌, ◌≤◌, true, false, nat_lt, sym, ap, ◌∙◌}
use Rattle.model_database.specs.Histories.{conflicts}
use Rattle.model_database.proofs.Conflicts.{conflicts_none}
use Rattle.txn_calls.proofs.Judging.{newer_same, none_newer, judged_first}
use Rattle.txn_calls.proofs.txn.Txn.has_conflict.Goals as goal

pub returns-then-newest-version : goal.returns-then-newest-version
returns-then-newest-version c store setting keeps from =
    let old : c.newest.result ≤ c.args.version = search rules in
    sym (none_newer c.args.index.now setting.history c.args.version c.newest.result c.args.self.now.read_ranges (newer_same store c.args.index.now setting c.args.version keeps from)
    c.newest.ensures.above old)

pub returns-then-version-newest_between : goal.returns-then-version-newest_between
returns-then-version-newest_between c store setting keeps from =
    let history = setting.history in let version = c.args.version in let begin = c.in-Some.begin.now in let end = c.in-Some.end.now in
    let newest = c.newest_between.result in let left = c.next.new.self in
    let later : nat_lt version newest ≡ true = search rules in
    sym (sym (c.loop-begin.invariant store setting keeps from)
    ∙ ap (conflicts history version) (c.in-Some.ensures {u = tt}).steps
    ∙ judged_first c.args.index.now history version begin end left newest (newer_same store c.args.index.now setting version keeps from)
    c.newest_between.ensures.above c.newest_between.ensures.reached
    ∙ ap (λ b. b || conflicts history version left) later)

pub loop-begin-preserved : goal.loop-begin-preserved
loop-begin-preserved c store setting keeps from =
    let history = setting.history in let version = c.args.version in let begin = c.in-Some.begin.now in let end = c.in-Some.end.now in
    let newest = c.newest_between.result in let left = c.next.new.self in
    let not_later : nat_lt version newest ≡ false = search rules in
    sym (ap (conflicts history version) (c.in-Some.ensures {u = tt}).steps
    ∙ judged_first c.args.index.now history version begin end left newest (newer_same store c.args.index.now setting version keeps from)
    c.newest_between.ensures.above c.newest_between.ensures.reached
    ∙ ap (λ b. b || conflicts history version left) not_later)
    ∙ c.loop-begin.invariant store setting keeps from

pub returns : goal.returns
returns c store setting keeps from =
    sym (conflicts_none setting.history c.args.version)
    ∙ ap (conflicts setting.history c.args.version) (sym (c.in-None.ensures {u = tt}).steps.0)
    ∙ c.loop-begin.invariant store setting keeps from
