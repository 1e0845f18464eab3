use Rattle.std.proofs.Common.{sym, subst, ◌∙◌}
use Rattle.model_machine.specs.Worlds.{commit_made}
use Rattle.client_core.specs.Contents.{model_of}
use Rattle.client_core.specs.Sound.{Took}
use Rattle.client_core.proofs.Databases.{refused_took, committed_took}
use Rattle.client_core.proofs.contents.Contents.commit_apart.Goals as goal

pub returns-then-is_fault-clause-step : goal.returns-then-is_fault-clause-step
returns-then-is_fault-clause-step c = λ world made same left stands.
    refused_took (model_of c.args.self.now) world made c.args.reply same stands (sym c.is_fault.ensures ∙ c.if-is_fault.true)

pub returns-clause-step : goal.returns-clause-step
returns-clause-step c = λ world made same left stands.
    subst (λ r. Took r (model_of c.call_apart.new.self) (commit_made world made)) (sym c.fault_or.ensures)
    (committed_took (model_of c.call_apart.new.self) world made c.call_apart.new.transaction c.args.reply c.in_ok-committed.committed same
    (sym c.is_fault.ensures ∙ c.if-is_fault.false) (c.in_ok-committed.ensures.step made.transaction world left stands))
