use Rattle.std.proofs.Common.{rules, refl}
use Rattle.txn_calls.proofs.Named.{refused_by_phase, refused_unknown, known_writes}
use Rattle.txn_calls.proofs.txn.Txn.named_atomic.Goals as goal

pub returns-in-Some : goal.returns-in-Some
returns-in-Some c =
    refused_by_phase (Unit {0}) c.args.api c.args.self.now.phase c.args.name.now c.args.key.now c.args.operand.now c.args.self.now _ c.in-Some.code (search rules) (search rules)

pub returns-in-Some-from_name : goal.returns-in-Some-from_name
returns-in-Some-from_name c =
    known_writes c.atomic.result c.args.api c.args.self.now.phase c.in-Some-from_name.op c.args.name.now c.args.key.now c.args.operand.now c.args.self.now c.atomic.new.self
    (search rules) (search rules)

pub returns-in-None : goal.returns-in-None
returns-in-None c =
    refused_unknown (Unit {0}) c.args.api c.args.self.now.phase c.args.name.now c.args.key.now c.args.operand.now c.args.self.now _ _ (search rules) (search rules) refl (search rules)
