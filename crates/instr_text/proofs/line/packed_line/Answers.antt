use Rattle.std.proofs.Common.{◌≡◌, true, refl}
use Rattle.dump_reading.specs.Seen.{line_is}
use Rattle.instr_grammar.specs.Seen.{instruction_is}
use Rattle.instr_grammar.specs.Lines.{Does}
use Rattle.instr_text.proofs.Packs.{instruction_said}
use Rattle.instr_text.proofs.line.packed_line.Goals as goal

pub returns : goal.returns
returns c =
    let one = instruction_is c.args.name.now c.args.element in
    let value = c.in_ok-value.ensures in
    let whole : c.args.line.now.is_whole ≡ true = c.if-not-line.false in
    let small = rw c.len.ensures at c.if-len-gt-VALUE_LIMIT.false in
    (Does one, (instruction_said (line_is c.args.line.now) c.args.line.now.number one c.in_ok-value.value value whole small, (one, (refl, value))))
