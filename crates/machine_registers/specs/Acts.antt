-- What an instruction, or the reply that it awaited, comes to, beside the registers that it leaves.
use Rattle.std.specs.Prelude.{ℕ}
use Rattle.fdb_calls.specs.declared.Request.TheVariants as request
use Rattle.model_machine.specs.declared.Awaits.TheVariants as awaits
use Rattle.model_machine.specs.declared.End.TheVariants as end
use Rattle.model_machine.specs.Machines.{Registers, Act, Does, Stops, Asks, waits_for}
use Rattle.stack_items.specs.declared.fault.StackFault.{StackFault}
use Rattle.stack_items.specs.declared.fault.StackFault.TheVariants as fault
use Rattle.machine_registers.specs.declared.act.Act.{Act as Answer}
use Rattle.machine_registers.specs.declared.act.Act.TheVariants as answer

-- an act of the definitions: what was answered, with the registers as they stand then
abbrev pub act_with : Registers → Answer → Act
act_with registers answer.Does = Does registers
act_with registers (answer.Stops end) = Stops registers end
act_with registers (answer.Asks request awaits) = Asks registers request awaits

-- the first poll for a life
abbrev pub polls_for : ℕ → Answer
polls_for life = answer.Asks (request.PollStamp life) (awaits.Stamp (waits_for life))

-- what an operand that was refused makes of the instruction of this number
abbrev pub refusal_of : StackFault → ℕ → Answer
refusal_of fault.Underflow number = answer.Stops (end.Underflow number)
refusal_of fault.Operand number = answer.Stops (end.BadInstruction number)
refusal_of (fault.Waits life) number = polls_for life
refusal_of fault.NoMemory number = answer.Stops (end.BadInstruction number)
