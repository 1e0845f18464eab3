use Rattle.std.proofs.Common.{refl}
use Rattle.std.proofs.lemmas.Str.{is_utf8-from_IsUtf8}
use Rattle.fdb_tuple.proofs.Texts.{not_utf8}
use Rattle.fdb_tuple.proofs.text.Text.from_utf8.Goals as goal

pub returns-in-Ok : goal.returns-in-Ok
returns-in-Ok c = (refl, is_utf8-from_IsUtf8 c.args.content (rw c.as_slice.ensures at c.in-Ok.ensures.cases.1))

pub returns-in-Err : goal.returns-in-Err
returns-in-Err c = not_utf8 c.args.content (rw c.as_slice.ensures at c.in-Err.ensures.cases.0)
