use Rattle.instr_text.proofs.Packs.{read_name_has_no_zero}
use Rattle.instr_text.proofs.line.instruction_line.Goals as goal

pub packed_line-requires-clause-name : goal.packed_line-requires-clause-name
packed_line-requires-clause-name c = read_name_has_no_zero c.args.line.now.bytes.now _ _ c.in-Ok.ensures
