-- Why a command has nothing to write, by what a step of it was refused for, and what is told of that.
use Rattle.std.specs.Prelude.{◌≡◌, ℕ, List, Option, Some, None, MatchOption, ◌⊎◌, codes}
use Rattle.model_commands.specs.declared.args.Args.{Args}
use Rattle.command_words.specs.declared.fault.ArgFault.{ArgFault}
use Rattle.command_words.specs.declared.fault.ArgFault.TheVariants as arg
use Rattle.model_lines.specs.Reading.{BadLine, TooLong, TooMany}
use Rattle.tester_run.specs.Faults.{InputFault, InLine, NoRequest, EndsEarly, NotInstruction, HasFault}
use Rattle.tester_run.specs.Statuses.{usage, bad_input, read_fault, out_of_memory}
use Rattle.tester_run.specs.Tellings.{told, fault_text, IsTold, IsWritten}
use Rattle.dump_text.specs.declared.fault.LineFault.{LineFault}
use Rattle.dump_text.specs.declared.fault.LineFault.TheVariants as line
use Rattle.instr_text.specs.declared.fault.DisFault.{DisFault}
use Rattle.instr_text.specs.declared.fault.DisFault.TheVariants as pair
use Rattle.text_commands.specs.declared.fault.TextFault.{TextFault}
use Rattle.text_commands.specs.declared.fault.TextFault.TheVariants as text
use Rattle.machine_runs.specs.declared.fault.OrderFault.{OrderFault}
use Rattle.machine_runs.specs.declared.fault.OrderFault.TheVariants as order
use Rattle.tester_run.specs.declared.fault.Refusal.{Refusal}
use Rattle.tester_run.specs.declared.fault.Refusal.TheVariants.{Line, Order, Pair, Memory}
use Rattle.tester_run.specs.declared.fault.Refusal.TheVariants as refusal

-- want of memory is one refusal, whichever step met it
abbrev pub line_refusal : LineFault → Refusal
line_refusal (line.BadLine number place) = Line (line.BadLine number place)
line_refusal (line.TooLong number) = Line (line.TooLong number)
line_refusal (line.TooMany number) = Line (line.TooMany number)
line_refusal line.NoMemory = Memory

abbrev pub order_refusal : OrderFault → Refusal
order_refusal (order.NoRequest place machine) = Order (order.NoRequest place machine)
order_refusal order.EndsEarly = Order order.EndsEarly
order_refusal order.NoMemory = Memory

abbrev pub pair_refusal : DisFault → Refusal
pair_refusal (pair.NotInstruction number) = Pair (pair.NotInstruction number)
pair_refusal pair.NoMemory = Memory

abbrev pub text_refusal : TextFault → Refusal
text_refusal (text.Line fault) = line_refusal fault
text_refusal (text.Pair fault) = pair_refusal fault

-- ---- the fault of the input

-- the fault of the code; want of memory is none
abbrev pub line_in : LineFault → Option InputFault
line_in (line.BadLine number place) = Some (InLine (BadLine number place))
line_in (line.TooLong number) = Some (InLine (TooLong number))
line_in (line.TooMany number) = Some (InLine (TooMany number))
line_in line.NoMemory = None

abbrev pub order_in : OrderFault → Option InputFault
order_in (order.NoRequest place machine) = Some (NoRequest place machine)
order_in order.EndsEarly = Some EndsEarly
order_in order.NoMemory = None

abbrev pub pair_in : DisFault → Option InputFault
pair_in (pair.NotInstruction number) = Some (NotInstruction number)
pair_in pair.NoMemory = None

-- it is the fault of these bytes
abbrev pub IsFaultOf : (asked : Args) → Option InputFault → (bytes : List ℕ) → Type 0
IsFaultOf asked fault bytes = MatchOption fault ⊥ (λ its. HasFault asked bytes its)

-- ---- what is told of it

-- bytes are the line of a fault
abbrev pub IsLineOf : Option InputFault → List ℕ → Type 0
IsLineOf fault bytes = MatchOption fault ⊥ (λ its. bytes ≡ told (fault_text its))

-- memory ran out
pub record IsShort (status : ℕ) (before after : Option (List ℕ)) (faults faults_after : ℕ) : Type 0 where
  pub is_status : status ≡ out_of_memory
  pub is_told : IsTold (codes "out of memory") before after faults faults_after

-- the words are no command, or memory ran out, and that was told
abbrev pub IsUnasked : ArgFault → ℕ → Option (List ℕ) → Option (List ℕ) → ℕ → ℕ → Type 0
IsUnasked arg.Usage status before after faults faults_after = (status ≡ usage) × IsTold (codes "usage") before after faults faults_after
IsUnasked arg.NoMemory status before after faults faults_after = IsShort status before after faults faults_after

-- the line of a fault was told, or memory ran out for it
abbrev pub IsFaultLine : Option InputFault → ℕ → Option (List ℕ) → Option (List ℕ) → ℕ → ℕ → Type 0
IsFaultLine fault status before after faults faults_after =
    ((status ≡ bad_input) × (bytes : List ℕ) × IsLineOf fault bytes × IsWritten bytes before after faults faults_after)
    ⊎ IsShort status before after faults faults_after

-- the status of a refusal, and what was told of it
abbrev pub Refuses : Refusal → ℕ → Option (List ℕ) → Option (List ℕ) → ℕ → ℕ → Type 0
Refuses refusal.Source status before after faults faults_after =
    (status ≡ read_fault) × IsTold (codes "read fault") before after faults faults_after
Refuses (refusal.Line fault) status before after faults faults_after = IsFaultLine (line_in fault) status before after faults faults_after
Refuses (refusal.Order fault) status before after faults faults_after = IsFaultLine (order_in fault) status before after faults faults_after
Refuses (refusal.Pair fault) status before after faults faults_after = IsFaultLine (pair_in fault) status before after faults faults_after
Refuses refusal.Memory status before after faults faults_after = IsShort status before after faults faults_after
