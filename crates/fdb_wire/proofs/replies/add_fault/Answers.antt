use Rattle.fdb_wire.specs.Replies.{fault_row}
use Rattle.fdb_wire.proofs.replies.add_fault.Goals as goal

pub returns-in-EmptyPath : goal.returns-in-EmptyPath
unfolding fault_row
returns-in-EmptyPath c = rw c.in-EmptyPath.is c.add_slice.ensures

pub returns-in-ParentMissing : goal.returns-in-ParentMissing
unfolding fault_row
returns-in-ParentMissing c = rw c.in-ParentMissing.is c.add_slice-in-ParentMissing.ensures

pub returns-in-IntoItself : goal.returns-in-IntoItself
unfolding fault_row
returns-in-IntoItself c = rw c.in-IntoItself.is c.add_slice-in-IntoItself.ensures

pub returns-in-ManualNotAllowed : goal.returns-in-ManualNotAllowed
unfolding fault_row
returns-in-ManualNotAllowed c = rw c.in-ManualNotAllowed.is c.add_slice-in-ManualNotAllowed.ensures

pub returns-in-KeysAtPrefix : goal.returns-in-KeysAtPrefix
unfolding fault_row
returns-in-KeysAtPrefix c = rw c.in-KeysAtPrefix.is c.add_slice-in-KeysAtPrefix.ensures

pub returns-in-BadCounter : goal.returns-in-BadCounter
unfolding fault_row
returns-in-BadCounter c = rw c.in-BadCounter.is c.add_named-in-BadCounter.ensures

pub returns-in-WindowFull : goal.returns-in-WindowFull
unfolding fault_row
returns-in-WindowFull c = rw c.in-WindowFull.is c.add_counted.ensures
