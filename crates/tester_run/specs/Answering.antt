-- What is asked, what was read for it, what was rendered of that, and why there is nothing to write.
use Rattle.std.specs.Prelude.{◌≡◌, ◌≢◌, ◌≤◌, ◌⊎◌, ℕ, true, List, length, Option, IfSome, ⊤}
use Rattle.std.specs.Io.KnownBytes.{IsAtEnd, Consumes}
use Rattle.outside.specs.Counts.{Rose}
use Rattle.model_commands.specs.declared.args.Args.{Args}
use Rattle.model_commands.specs.declared.args.Args.TheVariants.{Run, Replay, Gen, Watch, Asm, Disasm}
use Rattle.dump_text.specs.declared.fault.LineFault.TheVariants as line
use Rattle.dump_text.specs.Reading.{Fails}
use Rattle.model_input.specs.declared.input.Form.{Form}
use Rattle.model_input.specs.Forms.{input_of}
use Rattle.machine_runs.specs.declared.running.Rendered.{Rendered}
use Rattle.tester_run.specs.Arguments.{reads_input}
use Rattle.tester_run.specs.Faults.{InputFault}
use Rattle.tester_run.specs.Inputs.{read_limit, IsReadOut}
use Rattle.tester_run.specs.Refusals.{IsFaultOf, line_in, order_in, pair_in}
use Rattle.tester_run.specs.Rendered.{Answers}
use Rattle.tester_run.specs.declared.fault.Refusal.{Refusal}
use Rattle.tester_run.specs.declared.fault.Refusal.TheVariants as refusal

-- it asks for no more workers than there may be
abbrev pub HasFewWorkers : Args → Type 0
HasFewWorkers (Run arguments) = ⊤
HasFewWorkers (Replay arguments) = ⊤
HasFewWorkers (Gen workers) = workers ≤ 30
HasFewWorkers Watch = ⊤
HasFewWorkers Asm = ⊤
HasFewWorkers Disasm = ⊤

-- these bytes were read: all that the source had, or the first of them, just as many as the limit says
pub record WereRead (left after : Option (List ℕ)) (bytes : List ℕ) : Type 0 where
  pub consumed : Consumes left after bytes
  pub within : length bytes ≤ read_limit
  pub out : IsAtEnd after ⊎ (length bytes ≡ read_limit)

-- nothing was read: the source failed, or memory ran out
abbrev pub IsUnread : Refusal → ℕ → ℕ → Type 0
IsUnread refusal.Source faults faults_after = Rose faults faults_after
IsUnread refusal.Memory faults faults_after = ⊤
IsUnread _ faults faults_after = ⊥

-- the source failed; or the bytes that it had have this as the first fault of their lines by a form; or memory ran out
abbrev pub IsUnfit : (its_form : Form) → Refusal → Option (List ℕ) → Option (List ℕ) → ℕ → ℕ → Type 0
IsUnfit its_form refusal.Source left after faults faults_after = Rose faults faults_after
IsUnfit its_form (refusal.Line fault) left after faults faults_after =
    (fault ≢ line.NoMemory) × IfSome left (λ bytes. Fails fault (input_of its_form bytes)) × IsReadOut left after
IsUnfit its_form refusal.Memory left after faults faults_after = ⊤
IsUnfit its_form _ left after faults faults_after = ⊥

-- this is the fault of the bytes that the source had, where they are told, and it was read to its end or its limit
pub record IsFaulty (asked : Args) (fault : Option InputFault) (left after : Option (List ℕ)) : Type 0 where
  pub fault_is : IfSome left (IsFaultOf asked fault)
  pub out : IsReadOut left after

-- the source failed; or this is the fault of the bytes that it had; or memory ran out
abbrev pub IsCause : (asked : Args) → Refusal → Option (List ℕ) → Option (List ℕ) → ℕ → ℕ → Type 0
IsCause asked refusal.Source left after faults faults_after = Rose faults faults_after
IsCause asked (refusal.Line fault) left after faults faults_after = IsFaulty asked (line_in fault) left after
IsCause asked (refusal.Order fault) left after faults faults_after = IsFaulty asked (order_in fault) left after
IsCause asked (refusal.Pair fault) left after faults faults_after = IsFaulty asked (pair_in fault) left after
IsCause asked refusal.Memory left after faults faults_after = ⊤

-- there is a cause, and but for want of memory only where an input was asked for
pub record IsRefusedBy (asked : Args) (given : Refusal) (left after : Option (List ℕ)) (faults faults_after : ℕ) : Type 0 where
  pub reads : given ≢ refusal.Memory → reads_input asked ≡ true
  pub cause : IsCause asked given left after faults faults_after

-- this was rendered of what was read, and the source was read to its end, where it was read
pub record IsMade (asked : Args) (left after : Option (List ℕ)) (rendered : Rendered) : Type 0 where
  pub answers : Answers left asked rendered.order rendered.output.items rendered.status
  pub end : reads_input asked ≡ true → IsAtEnd after
