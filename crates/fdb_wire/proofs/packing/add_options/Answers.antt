use Rattle.fdb_wire.proofs.Packed.{added, behind}
use Rattle.fdb_wire.proofs.packing.add_options.Goals as goal

pub returns : goal.returns
returns c = behind c.add_mode.result _ _ _ _ _ (added _ _ _ _ _ c.in_ok-add_u32.ensures c.in_ok-add_flag.ensures) c.add_mode.ensures
