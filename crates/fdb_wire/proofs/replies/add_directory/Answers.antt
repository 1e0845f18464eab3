use Rattle.fdb_wire.specs.Replies.{directory_row}
use Rattle.fdb_wire.proofs.Packed.{added, behind}
use Rattle.fdb_wire.proofs.replies.add_directory.Goals as goal

pub returns-in_ok-add_bytes-in-Opened : goal.returns-in_ok-add_bytes-in-Opened
unfolding directory_row
returns-in_ok-add_bytes-in-Opened c =
    rw c.in-Opened.is (behind c.add_path.result _ _ _ _ _ (added _ _ _ _ _ c.in_ok-add_named-in-Opened.ensures c.in_ok-add_bytes-in-Opened.ensures) c.add_path.ensures)

pub returns-in_ok-add_slice-in-Names : goal.returns-in_ok-add_slice-in-Names
unfolding directory_row
returns-in_ok-add_slice-in-Names c =
    rw c.in-Names.is (behind c.add_path-in-Names.result _ _ _ _ _ c.in_ok-add_slice-in-Names.ensures c.add_path-in-Names.ensures)

pub returns-in_ok-add_slice-in-Is : goal.returns-in_ok-add_slice-in-Is
unfolding directory_row
returns-in_ok-add_slice-in-Is c = rw c.in-Is.is (behind c.add_flag.result _ _ _ _ _ c.in_ok-add_slice-in-Is.ensures c.add_flag.ensures)

pub returns-in-Done : goal.returns-in-Done
unfolding directory_row
returns-in-Done c = rw c.in-Done.is c.add_slice-in-Done.ensures
