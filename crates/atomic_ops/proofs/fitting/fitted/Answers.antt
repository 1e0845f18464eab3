use Rattle.std.proofs.Common.{◌≡◌, ◌∙◌, rules}
use Rattle.model_database.specs.Atomics.{fitted}
use Rattle.atomic_ops.proofs.Fitted.{cut_filled}
use Rattle.atomic_ops.proofs.fitting.fitted.Goals as goal

pub returns : goal.returns
returns c =
    let kept : c.resize.new.self.items ≡ fitted c.args.old.now c.args.operand.now = c.in_ok-resize.ensures.items ∙ search (rules, cut_filled) in
    rw (← kept) c.from_vec.ensures
