use Rattle.fdb_wire.specs.Replies.{reply_row}
use Rattle.fdb_wire.proofs.replies.write_reply.Goals as goal

pub returns-in-NoMachine : goal.returns-in-NoMachine
unfolding reply_row
returns-in-NoMachine c = rw c.in-NoMachine.is c.add_slice-in-NoMachine.ensures
