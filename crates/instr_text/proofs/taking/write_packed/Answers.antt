use Rattle.std.proofs.Common.{◌≡◌, sym, ap, ◌∙◌}
use Rattle.fdb_tuple.specs.Reading.{read_tuple}
use Rattle.instr_grammar.specs.Taking.{instruction_in, in_tuple}
use Rattle.instr_text.specs.Taken.{instruction_of}
use Rattle.instr_text.proofs.Listed.{instruction_found}
use Rattle.instr_text.proofs.taking.write_packed.Goals as goal

pub returns-in-Some : goal.returns-in-Some
returns-in-Some c =
    let found : instruction_of c.as_slice.result.now ≡ in_tuple instruction_in (read_tuple c.args.value.now) =
    ap instruction_of c.as_slice.ensures.elements
    ∙ instruction_found (read_tuple c.args.value.now) c.in-Some.tuple (sym c.in-Some.is ∙ c.in_ok-tuple.ensures) in
    rw found at c.write_instruction.ensures
