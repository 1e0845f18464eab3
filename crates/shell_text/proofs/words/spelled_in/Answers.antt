use Rattle.std.proofs.Common.{length, sym, subst}
use Rattle.model_shell.specs.Tokens.{spelled_up_to}
use Rattle.shell_text.specs.declared.words.Unread.{Unread}
use Rattle.shell_text.specs.Reading.{Fails}
use Rattle.shell_text.proofs.Tokens.{whole_read, whole_unread}
use Rattle.shell_text.proofs.words.spelled_in.Goals as goal

pub returns-in-Ok : goal.returns-in-Ok
returns-in-Ok c = whole_read c.args.word.now c.in-Ok.bytes c.in-Ok.ensures.found

pub returns-in-Err : goal.returns-in-Err
returns-in-Err c =
    let word = c.args.word.now in
    subst (λ (fault : Unread). Fails fault (spelled_up_to (length word) word)) (sym c.unread_of.ensures)
    (whole_unread word c.in-Err.fault c.in-Err.ensures.exact)
