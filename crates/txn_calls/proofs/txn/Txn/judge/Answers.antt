use Rattle.std.proofs.Common.{rules, ap, ◌∙◌}
use Rattle.txn_calls.specs.Stands.{Kept, is_bare}
use Rattle.txn_calls.proofs.Judging.{active_of}
use Rattle.txn_calls.proofs.txn.Txn.judge.Goals as goal

pub returns-then-is_read_only-clause-active : goal.returns-then-is_read_only-clause-active
returns-then-is_read_only-clause-active c =
    active_of c.args.self.now.phase (is_bare c.args.self.now) c.args.self.now.size (search rules)

pub returns-clause-active : goal.returns-clause-active
returns-clause-active c =
    ap (λ (kept : Kept). kept.phase) c.self.view_is
    ∙ active_of c.args.self.now.phase (is_bare c.args.self.now) c.args.self.now.size (search rules)
