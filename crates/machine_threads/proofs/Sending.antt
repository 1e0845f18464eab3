-- A machine in its thread may move to another thread.
use denote.Param.Send.{IsSend, sendable}
use Rattle.std.proofs.Crossing.{crosses}
use Rattle.key_bytes.proofs.bytes.Bytes.TheSendSync.{the_send as bytes_send, the_sync as bytes_sync}
use Rattle.fdb_calls.proofs.Reply.TheSendSync.{the_field_send as reply_send}
use Rattle.fdb_calls.proofs.shared_request.SharedRequest.TheSendSync.{the_send as request_send}
use Rattle.fdb_tuple.proofs.text.Text.TheSendSync.{the_send as text_send, the_sync as text_sync}
use Rattle.fdb_tuple.proofs.tuple.Versionstamp.TheSendSync.{the_field_send as stamp_send, the_field_sync as stamp_sync}
use Rattle.fdb_tuple.proofs.tuple.Tuple.TheLaws.TheKnot.{both_send-Elem, both_send-Tuple}
use Rattle.fdb_tuple.specs.contracts.tuple.Elem as elem
use Rattle.future_cell.proofs.waiter.Waiter.TheSendSync.{the_field_send as waiter_send}
use Rattle.future_cell.proofs.wake.Wake.TheSendSync.{the_field_send as wake_send}
use Rattle.lists.proofs.list.List.TheSendSync.{the_send as list_send}
use Rattle.model_machine.proofs.ErrorNote.TheSendSync.{the_field_send as error_send}
use Rattle.model_machine.proofs.State.TheSendSync.{the_field_send as state_send}
use Rattle.model_machine.specs.contracts.Item as item
use Rattle.model_machine.specs.contracts.ItemValue as item_value
use Rattle.network.proofs.client.Client.TheSendSync.{the_field_send as client_send}
use Rattle.stack_directories.proofs.directories.Directories.TheSendSync.{the_send as directories_send}
use Rattle.stack_items.specs.contracts.stack.Stack as stack
use Rattle.stack_machine.specs.contracts.machine.Machine as machine
use Rattle.machine_registers.specs.contracts.registers.Registers as registers
use Rattle.suspended_machine.specs.contracts.suspended.SuspendedMachine as suspended
use Rattle.machine_threads.proofs.crew.Crew.TheLaws.TheKnot.{send-Crew}
use Rattle.threaded_machine.specs.contracts.threaded.ThreadedMachine as threaded
use Rattle.machine_threads.specs.contracts.crew.Crew as crew
use Rattle.machine_threads.specs.contracts.team.Ran as ran

elem_send : IsSend (elem.the_field).row
elem_send = search (sendable, crosses, both_send-Elem, both_send-Tuple, bytes_send, bytes_sync, text_send, text_sync, stamp_send, stamp_sync) depth 20

item_value_send : IsSend (item_value.the_field).row
item_value_send = search (sendable, elem_send) depth 12

item_send : IsSend (item.the_field).row
item_send = search (sendable, item_value_send) depth 12

stack_send : IsSend (stack.the_field).row
stack_send = search (sendable, crosses, item_send) depth 12

registers_send : IsSend (registers.the_field).row
registers_send = search (sendable, crosses, bytes_send, stack_send, list_send, error_send, directories_send) depth 30

machine_send : IsSend (machine.the_field).row
machine_send = search (sendable, crosses, bytes_send, registers_send, state_send) depth 30

suspended_send : IsSend (suspended.the_field).row
suspended_send = search (sendable, crosses, machine_send, request_send) depth 12

pub threaded_send : IsSend (threaded.the_field).row
threaded_send = search (sendable, crosses, suspended_send, client_send, waiter_send, reply_send, wake_send) depth 12

crew_send : IsSend (crew.the_field).row
crew_send = search (sendable, crosses, send-Crew, threaded_send) depth 20

pub ran_send : IsSend (ran.the_field).row
ran_send = search (sendable, crosses, crew_send) depth 20
