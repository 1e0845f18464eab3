use Rattle.std.proofs.lemmas.Str.{is_utf8-from_IsUtf8}
use Rattle.fdb_tuple.proofs.Texts.{not_utf8}
use Rattle.instr_grammar.proofs.scalar.text_from.Goals as goal

pub returns-in-Ok : goal.returns-in-Ok
returns-in-Ok c =
    let read = c.in-Ok.ensures.cases.0 in
    let bytes = c.as_slice.ensures in
    let copied = c.in_ok-from_str-in-Ok.ensures in
    (cc, is_utf8-from_IsUtf8 c.args.string (rw c.as_slice.ensures at c.in-Ok.ensures.cases.1))

pub returns : goal.returns
returns c = not_utf8 c.args.string (rw c.as_slice.ensures at c.in-Err.ensures.cases.0)
