use Rattle.fdb_shell.proofs.Commands.{answered_by}
use Rattle.fdb_shell.proofs.Doing.{stands_printed}
use Rattle.fdb_shell.proofs.session.Session.answer.Goals as goal

pub returns-in-Ok : goal.returns-in-Ok
returns-in-Ok c = λ state is.
    answered_by c.do_line.result (record c.args.self.now { text = c.new.result }) c.do_line.new.self _ c.new.ensures (λ e. cc)
    (c.do_line.ensures state
    (record { stands = stands_printed c.args.self.now c.new.result state.world is.stands; is_open = is.is_open }))

pub returns-in-Ok-2 : goal.returns-in-Ok-2
returns-in-Ok-2 c = λ state is.
    answered_by c.do_line.result (record c.args.self.now { text = c.new.result }) c.do_line.new.self _ c.new.ensures (λ e. cc)
    (c.do_line.ensures state
    (record { stands = stands_printed c.args.self.now c.new.result state.world is.stands; is_open = is.is_open }))
