use Rattle.fdb_wire.proofs.Packed.{behind}
use Rattle.fdb_wire.proofs.packing.add_range.Goals as goal

pub returns : goal.returns
returns c = behind c.add_bytes-2.result _ _ _ _ _ c.in_ok-add_bytes.ensures c.add_bytes-2.ensures
