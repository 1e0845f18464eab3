use Rattle.std.proofs.Common.{rules}
use Rattle.txn_calls.proofs.Named.{has_room_of}
use Rattle.txn_calls.proofs.txn.Txn.atomic.Goals as goal

pub add_atomic-requires : goal.add_atomic-requires
add_atomic-requires c = has_room_of c.self.inside.phase c.args.op c.args.key.now c.args.operand.now (search rules)
