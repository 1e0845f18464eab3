use Rattle.fdb_wire.proofs.Packed.{added, behind}
use Rattle.fdb_wire.proofs.replies.add_started.Goals as goal

pub returns : goal.returns
returns c = behind c.add_pairs.result _ _ _ _ _ (added _ _ _ _ _ c.in_ok-add_slice.ensures c.in_ok-add_u16.ensures) c.add_pairs.ensures
