use Rattle.fdb_wire.proofs.Packed.{behind}
use Rattle.fdb_wire.proofs.replies.add_counted.Goals as goal

pub returns : goal.returns
returns c = behind c.add_count.result _ _ _ _ _ c.in_ok-add_slice.ensures c.add_count.ensures
