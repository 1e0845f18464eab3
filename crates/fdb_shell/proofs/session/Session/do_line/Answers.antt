use Rattle.std.proofs.Common.{◌≡◌, subst}
use Rattle.model_shell.specs.Commands.{command_of}
use Rattle.shell_text.specs.declared.words.Unread.{Unread}
use Rattle.shell_text.specs.declared.words.Unread.TheVariants as unread
use Rattle.shell_text.specs.Reading.{Fails}
use Rattle.fdb_shell.proofs.Commands.{leaves_answer, leaves_no_command}
use Rattle.fdb_shell.proofs.session.Session.do_line.Goals as goal

pub returns-in-Ok : goal.returns-in-Ok
returns-in-Ok c = λ state is.
    leaves_answer _ c.args.self.now c.run.new.self state c.args.line.now _ c.in-Ok.ensures (c.run.ensures state is)

pub returns-in-Err-Bad : goal.returns-in-Err-Bad
returns-in-Err-Bad c = λ state is.
    let bad : c.in-Err-Bad.field-0 ≡ unread.Bad = cc in
    leaves_no_command _ c.args.self.now c.say_error.new.self state c.args.line.now is
    (subst (λ (fault : Unread). Fails fault (command_of c.args.line.now)) bad c.in-Err-Bad.ensures) (c.say_error.ensures state.world is.stands)
