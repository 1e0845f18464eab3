-- Why an input has no answer.
use Rattle.std.specs.Prelude.{◌≡◌, ℕ, List, Ok, Err}
use Rattle.model_commands.specs.declared.args.RunArgs.{RunArgs}
use Rattle.model_commands.specs.declared.args.Args.{Args}
use Rattle.model_commands.specs.declared.args.Args.TheVariants as args
use Rattle.model_events.specs.Events.{events_of}
use Rattle.model_input.specs.declared.input.Form.TheVariants as form
use Rattle.model_input.specs.declared.input.Input.{Input}
use Rattle.model_input.specs.Forms.{input_of}
use Rattle.instr_grammar.specs.Lines.{assembled}
use Rattle.model_lines.specs.Reading.{Fault}
use Rattle.machine_runs.specs.Misfits.{LacksRequest, StopsShort}
use Rattle.text_commands.specs.Texts.{HasBadPair}

pub data InputFault : Type 0 where
  -- the first fault of its lines
  InLine : Fault → InputFault
  -- the machine that the order names at a place, counted from 1, has no request there
  NoRequest : (place machine : ℕ) → InputFault
  -- a machine has a request where the order ends
  EndsEarly : InputFault
  -- the pair of this line, counted from 1, is no instruction there
  NotInstruction : (number : ℕ) → InputFault

-- bytes have this as the first fault of their lines, by what is asked; `gen` has no input
abbrev pub HasLineFault : (asked : Args) → (bytes : List ℕ) → Fault → Type 0
HasLineFault (args.Run arguments) bytes fault = input_of form.Run bytes ≡ Err fault
HasLineFault (args.Replay arguments) bytes fault = input_of form.Replay bytes ≡ Err fault
HasLineFault (args.Gen workers) bytes fault = ⊥
HasLineFault args.Watch bytes fault = events_of bytes ≡ Err fault
HasLineFault args.Asm bytes fault = assembled bytes ≡ Err fault
HasLineFault args.Disasm bytes fault = input_of form.Run bytes ≡ Err fault

-- bytes are the input of a replay, of whose order this holds
abbrev pub HasOrderFault : (asked : Args) → (bytes : List ℕ) → (RunArgs → Input → Type 0) → Type 0
HasOrderFault (args.Replay arguments) bytes Fails = (input : Input) × (input_of form.Replay bytes ≡ Ok input) × Fails arguments input
HasOrderFault _ bytes Fails = ⊥

-- bytes are pairs that are to be taken apart, and the line of this number has the first that can't
abbrev pub HasPairFault : (asked : Args) → (bytes : List ℕ) → (number : ℕ) → Type 0
HasPairFault args.Disasm bytes number = HasBadPair bytes number
HasPairFault _ bytes number = ⊥

-- bytes have this fault as the input of what is asked
abbrev pub HasFault : (asked : Args) → (bytes : List ℕ) → InputFault → Type 0
HasFault asked bytes (InLine fault) = HasLineFault asked bytes fault
HasFault asked bytes (NoRequest place machine) =
    HasOrderFault asked bytes (λ arguments input. LacksRequest input.pairs arguments input.order place machine)
HasFault asked bytes EndsEarly = HasOrderFault asked bytes (λ arguments input. StopsShort input.pairs arguments input.order)
HasFault asked bytes (NotInstruction number) = HasPairFault asked bytes number
