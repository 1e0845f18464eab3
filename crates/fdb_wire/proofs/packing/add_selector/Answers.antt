use Rattle.fdb_wire.proofs.Packed.{added, behind}
use Rattle.fdb_wire.proofs.packing.add_selector.Goals as goal

pub returns : goal.returns
returns c = behind c.add_i32.result _ _ _ _ _ (added _ _ _ _ _ c.in_ok-add_bytes.ensures c.in_ok-add_flag.ensures) c.add_i32.ensures
