-- What was read of the source, and what it was refused for.
use Rattle.std.proofs.Common.{◌≡◌, ◌≢◌, ℕ, ◌<◌, ◌≤◌, true, true≢false, List, [], ◌++◌, length, Option, Some, None, Result, Ok, Err, refl, sym, ap, subst, ◌∙◌, inl, inr, ◌⊎◌, arith}
use Rattle.std.specs.Prelude.{IfErr, IfOk, IfSome}
use Rattle.std.specs.Io.KnownBytes.{IsAtEnd, Consumes}
use Rattle.std.proofs.lemmas.List.{append-nil}
use Rattle.model_commands.specs.declared.args.Args.{Args}
use Rattle.model_commands.specs.declared.args.Args.TheVariants as args
use Rattle.model_commands.specs.declared.args.RunArgs.{RunArgs}
use Rattle.dump_text.specs.declared.fault.LineFault.{LineFault}
use Rattle.dump_text.specs.declared.fault.LineFault.TheVariants as line
use Rattle.dump_text.specs.Reading.{Fails}
use Rattle.model_input.specs.declared.input.Form.{Form}
use Rattle.model_input.specs.declared.input.Form.TheVariants as form
use Rattle.model_input.specs.declared.input.Input.{Input}
use Rattle.model_input.specs.Forms.{input_of}
use Rattle.instr_text.specs.declared.fault.DisFault.TheVariants as pair
use Rattle.model_lines.specs.Reading.{Entry, Fault, input_limit}
use Rattle.text_commands.specs.declared.fault.TextFault.{TextFault}
use Rattle.text_commands.specs.declared.fault.TextFault.TheVariants as text
use Rattle.text_commands.specs.Texts.{HasBadPair, IsDisasmFault}
use Rattle.machine_runs.specs.declared.fault.OrderFault.{OrderFault}
use Rattle.machine_runs.specs.declared.fault.OrderFault.TheVariants as order
use Rattle.generator.specs.Generated.{gen_pairs}
use Rattle.model_lines.specs.Inputs.{IsSmall}
use Rattle.model_machine.specs.Runs.{AreByTurns}
use Rattle.std.specs.List.{AllByRecursion}
use Rattle.machine_runs.specs.Arguments.{gen_arguments}
use Rattle.machine_runs.specs.Misfits.{IsMisfit}
use Rattle.machine_runs.specs.Outputs.{Renders, Summarizes}
use Rattle.tester_run.specs.Arguments.{reads_input}
use Rattle.tester_run.specs.Faults.{InputFault, HasLineFault}
use Rattle.tester_run.specs.Answering.{IsCause, IsFaulty, IsMade, IsRefusedBy, IsUnfit, IsUnread, WereRead}
use Rattle.tester_run.specs.Inputs.{IsReadOut, read_limit}
use Rattle.tester_run.specs.Refusals.{line_refusal, order_refusal, text_refusal, line_in, order_in, IsFaultOf}
use Rattle.tester_run.specs.Rendered.{Answers, IsOfGen, IsOfText, IsRead}
use Rattle.machine_runs.specs.declared.running.Rendered.{Rendered}
use Rattle.tester_run.specs.declared.fault.Refusal.{Refusal}
use Rattle.tester_run.specs.declared.fault.Refusal.TheVariants as refusal

-- bytes that an input may have, which were read, are all that the source had
pub all_read : (left after : Option (List ℕ)) (bytes : List ℕ) → WereRead left after bytes → length bytes ≤ input_limit
    → IfSome left (λ all. all ≡ bytes) × IsAtEnd after
all_read left after bytes read few = (by_left left after read.consumed (ended read.out), ended read.out)
  where
    ended : IsAtEnd after ⊎ (length bytes ≡ read_limit) → IsAtEnd after
    ended (inl end) = end
    ended (inr full) = absurd (omega (arith, full, few))

    by_left : (left after : Option (List ℕ)) → Consumes left after bytes → IsAtEnd after → IfSome left (λ all. all ≡ bytes)
    by_left None after consumed end = tt
    by_left (Some all) None consumed end = absurd consumed
    by_left (Some all) (Some rest) consumed end = consumed ∙ ap (λ (x : List ℕ). bytes ++ x) end ∙ append-nil bytes

-- what holds of bytes that were read, also with more behind them where they are too many for an input, holds of all that the source had
pub holds_of_all : (Holds : List ℕ → Type 0) (left after : Option (List ℕ)) (bytes : List ℕ) → WereRead left after bytes
    → Holds bytes → ((rest : List ℕ) → input_limit < length bytes → Holds (bytes ++ rest))
    → IfSome left Holds
holds_of_all Holds left after bytes read holds past = by left after read.consumed read.out
  where
    by : (left after : Option (List ℕ)) → Consumes left after bytes → IsAtEnd after ⊎ (length bytes ≡ read_limit) → IfSome left Holds
    by None after consumed out = tt
    by (Some all) None consumed out = absurd consumed
    by (Some all) (Some rest) consumed (inl end) =
        subst Holds (sym (consumed ∙ ap (λ (x : List ℕ). bytes ++ x) end ∙ append-nil bytes)) holds
    by (Some all) (Some rest) consumed (inr full) = subst Holds (sym consumed) (past rest (omega (arith, full)))

pub read_out : (left after : Option (List ℕ)) (bytes : List ℕ) → WereRead left after bytes → IsReadOut left after
read_out left after bytes read = by read.out
  where
    by : IsAtEnd after ⊎ (length bytes ≡ read_limit) → IsReadOut left after
    by (inl end) = inl end
    by (inr full) = inr (bytes, full, read.consumed)

-- nothing was read of an input that was asked for
pub unread_refused : (asked : Args) (given : Refusal) (left after : Option (List ℕ)) (faults faults_after : ℕ) → reads_input asked ≡ true
    → IsUnread given faults faults_after → IsRefusedBy asked given left after faults faults_after
unread_refused asked refusal.Source left after faults faults_after reads unread = record { reads = λ other. reads; cause = unread }
unread_refused asked refusal.Memory left after faults faults_after reads unread = record { reads = λ other. reads; cause = tt }
unread_refused asked (refusal.Line fault) left after faults faults_after reads unread = absurd unread
unread_refused asked (refusal.Order fault) left after faults faults_after reads unread = absurd unread
unread_refused asked (refusal.Pair fault) left after faults faults_after reads unread = absurd unread

-- a reading gives the fault of lines, by what is asked
abbrev pub Judges : {Y : Type 0} → Args → (List ℕ → Result Y Fault) → Type 0
Judges asked reading = (bytes : List ℕ) (fault : Fault) → reading bytes ≡ Err fault → HasLineFault asked bytes fault

fault_of : {Y : Type 0} (asked : Args) (reading : List ℕ → Result Y Fault) → Judges asked reading
    → (fault : LineFault) → fault ≢ line.NoMemory → (bytes : List ℕ) → Fails fault (reading bytes) → IsFaultOf asked (line_in fault) bytes
fault_of asked reading judges (line.BadLine number place) some bytes fails = judges bytes _ fails
fault_of asked reading judges (line.TooLong number) some bytes fails = judges bytes _ fails
fault_of asked reading judges (line.TooMany number) some bytes fails = judges bytes _ fails
fault_of asked reading judges line.NoMemory some bytes fails = absurd (some refl)

map_some : {P Q : List ℕ → Type 0} (left : Option (List ℕ)) → ((bytes : List ℕ) → P bytes → Q bytes) → IfSome left P → IfSome left Q
map_some None weaker h = tt
map_some (Some bytes) weaker h = weaker bytes h

-- a line of what was read has a fault
line_cause : {Y : Type 0} (asked : Args) (reading : List ℕ → Result Y Fault) → Judges asked reading
    → (fault : LineFault) → fault ≢ line.NoMemory → (left after : Option (List ℕ)) → IfSome left (λ bytes. Fails fault (reading bytes))
    → IsReadOut left after → IsFaulty asked (line_in fault) left after
line_cause asked reading judges fault some left after fails out =
    record { fault_is = map_some left (λ bytes. fault_of asked reading judges fault some bytes) fails; out = out }

pub line_refused : {Y : Type 0} (asked : Args) (reading : List ℕ → Result Y Fault) → Judges asked reading → (fault : LineFault)
    → (left after : Option (List ℕ)) (faults faults_after : ℕ) → reads_input asked ≡ true
    → IfSome left (λ bytes. Fails fault (reading bytes)) → IsReadOut left after
    → IsRefusedBy asked (line_refusal fault) left after faults faults_after
line_refused asked reading judges (line.BadLine number place) left after faults faults_after reads fails out =
    record { reads = λ other. reads; cause = line_cause asked reading judges (line.BadLine number place) (λ e. cc) left after fails out }
line_refused asked reading judges (line.TooLong number) left after faults faults_after reads fails out =
    record { reads = λ other. reads; cause = line_cause asked reading judges (line.TooLong number) (λ e. cc) left after fails out }
line_refused asked reading judges (line.TooMany number) left after faults faults_after reads fails out =
    record { reads = λ other. reads; cause = line_cause asked reading judges (line.TooMany number) (λ e. cc) left after fails out }
line_refused asked reading judges line.NoMemory left after faults faults_after reads fails out = record { reads = λ other. reads; cause = tt }

-- and so where a step is refused for it
pub read_refused : {Y : Type 0} (asked : Args) (reading : List ℕ → Result Y Fault) → Judges asked reading → (fault : LineFault)
    → (left after : Option (List ℕ)) (bytes : List ℕ) (faults faults_after : ℕ) → reads_input asked ≡ true → WereRead left after bytes
    → Fails fault (reading bytes) → ((rest : List ℕ) → input_limit < length bytes → Fails fault (reading (bytes ++ rest)))
    → IsRefusedBy asked (line_refusal fault) left after faults faults_after
read_refused asked reading judges fault left after bytes faults faults_after reads read fails past =
    line_refused asked reading judges fault left after faults faults_after reads
    (holds_of_all (λ (b : List ℕ). Fails fault (reading b)) left after bytes read fails past) (read_out left after bytes read)

-- an input that isn't of its form
pub unfit_refused : (asked : Args) (its_form : Form) → Judges asked (input_of its_form) → (given : Refusal)
    → (left after : Option (List ℕ)) (faults faults_after : ℕ) → reads_input asked ≡ true
    → IsUnfit its_form given left after faults faults_after → IsRefusedBy asked given left after faults faults_after
unfit_refused asked its_form judges refusal.Source left after faults faults_after reads unfit = record { reads = λ other. reads; cause = unfit }
unfit_refused asked its_form judges (refusal.Line fault) left after faults faults_after reads unfit =
    record { reads = λ other. reads; cause = line_cause asked (input_of its_form) judges fault unfit.0 left after unfit.1 unfit.2 }
unfit_refused asked its_form judges (refusal.Order fault) left after faults faults_after reads unfit = absurd unfit
unfit_refused asked its_form judges (refusal.Pair fault) left after faults faults_after reads unfit = absurd unfit
unfit_refused asked its_form judges refusal.Memory left after faults faults_after reads unfit = record { reads = λ other. reads; cause = tt }

-- what reading an input was refused for
pub unread_unfit : (its_form : Form) (given : Refusal) (left after : Option (List ℕ)) (faults faults_after : ℕ)
    → IsUnread given faults faults_after → IsUnfit its_form given left after faults faults_after
unread_unfit its_form refusal.Source left after faults faults_after unread = unread
unread_unfit its_form refusal.Memory left after faults faults_after unread = tt
unread_unfit its_form (refusal.Line fault) left after faults faults_after unread = absurd unread
unread_unfit its_form (refusal.Order fault) left after faults faults_after unread = absurd unread
unread_unfit its_form (refusal.Pair fault) left after faults faults_after unread = absurd unread

pub line_unfit : (its_form : Form) (fault : LineFault) (left after : Option (List ℕ)) (bytes : List ℕ) (faults faults_after : ℕ)
    → WereRead left after bytes → Fails fault (input_of its_form bytes)
    → ((rest : List ℕ) → input_limit < length bytes → Fails fault (input_of its_form (bytes ++ rest)))
    → IsUnfit its_form (line_refusal fault) left after faults faults_after
line_unfit its_form fault left after bytes faults faults_after read fails past =
    by fault (holds_of_all (λ (b : List ℕ). Fails fault (input_of its_form b)) left after bytes read fails past) (read_out left after bytes read)
  where
    by : (fault : LineFault) → IfSome left (λ bytes. Fails fault (input_of its_form bytes)) → IsReadOut left after
        → IsUnfit its_form (line_refusal fault) left after faults faults_after
    by (line.BadLine number place) fails out = (λ e. cc, fails, out)
    by (line.TooLong number) fails out = (λ e. cc, fails, out)
    by (line.TooMany number) fails out = (λ e. cc, fails, out)
    by line.NoMemory fails out = tt

-- an order that can't be followed is a fault of the input that it was read from
pub misfit_refused : (arguments : RunArgs) (fault : OrderFault) (input : Input) (left after : Option (List ℕ)) (faults faults_after : ℕ)
    → IsRead form.Replay left input → IsAtEnd after → IsMisfit fault input.pairs arguments input.order
    → IsRefusedBy (args.Replay arguments) (order_refusal fault) left after faults faults_after
misfit_refused arguments (order.NoRequest place machine) input left after faults faults_after read end misfit = record {
  reads = λ other. refl;
  cause = record { fault_is = map_some left (λ bytes is. (input, is, misfit)) read.is; out = inl end };
}
misfit_refused arguments order.EndsEarly input left after faults faults_after read end misfit = record {
  reads = λ other. refl;
  cause = record { fault_is = map_some left (λ bytes is. (input, is, misfit)) read.is; out = inl end };
}
misfit_refused arguments order.NoMemory input left after faults faults_after read end misfit = record { reads = λ other. refl; cause = tt }

-- ---- what `gen` makes

pub gen_made : (workers : ℕ) (left after : Option (List ℕ)) (result : Result Rendered Refusal)
    → IfOk result (λ rendered. IsOfGen workers rendered.order rendered.output.items rendered.status)
    → IfOk result (IsMade (args.Gen workers) left after)
gen_made workers left after (Ok rendered) made = record { answers = made; end = λ reads. absurd (true≢false (sym reads)) }
gen_made workers left after (Err refusal) made = tt

pub gen_refused : (asked : Args) (result : Result Rendered Refusal) (left after : Option (List ℕ)) (faults faults_after : ℕ)
    → IfErr result (λ given. given ≡ refusal.Memory)
    → IfErr result (λ given. IsRefusedBy asked given left after faults faults_after)
gen_refused asked (Ok rendered) left after faults faults_after short = tt
gen_refused asked (Err given) left after faults faults_after short =
    subst (λ (r : Refusal). IsRefusedBy asked r left after faults faults_after) (sym short) (record { reads = λ other. absurd (other refl); cause = tt })

-- ---- what a command on text makes

-- what comes of bytes that an input may have is the answer
pub text_made : (asked : Args) (Becomes : List ℕ → List ℕ → Type 0) (left after : Option (List ℕ)) (bytes output : List ℕ) (rendered : Rendered)
    → WereRead left after bytes → Becomes bytes output → length bytes ≤ input_limit
    → ((order text : List ℕ) (status : ℕ) → IsOfText left Becomes order text status → Answers left asked order text status)
    → rendered.output.items ≡ output → rendered.order ≡ [] → rendered.status ≡ 0
    → IsMade asked left after rendered
text_made asked Becomes left after bytes output rendered read becomes few answers output_is order_is status_is =
    let all = all_read left after bytes read few in
    record {
      answers =
          answers rendered.order rendered.output.items rendered.status
          (record { bytes = bytes; are_all = all.0; becomes = subst (Becomes bytes) (sym output_is) becomes; no_order = order_is; status_is = status_is });
      end = λ reads. all.1;
    }

-- why lines of pairs are not taken apart
pub disasm_refused : (fault : TextFault) (left after : Option (List ℕ)) (bytes : List ℕ) (faults faults_after : ℕ) → WereRead left after bytes
    → IsDisasmFault bytes fault → ((rest : List ℕ) → input_limit < length bytes → IsDisasmFault (bytes ++ rest) fault)
    → IsRefusedBy args.Disasm (text_refusal fault) left after faults faults_after
disasm_refused (text.Line fault) left after bytes faults faults_after read fails past =
    read_refused args.Disasm (input_of form.Run) (λ b f e. e) fault left after bytes faults faults_after refl read fails past
disasm_refused (text.Pair (pair.NotInstruction number)) left after bytes faults faults_after read bad past = record {
  reads = λ other. refl;
  cause = record {
    fault_is = holds_of_all (λ (b : List ℕ). HasBadPair b number) left after bytes read bad past;
    out = read_out left after bytes read;
  };
}
disasm_refused (text.Pair pair.NoMemory) left after bytes faults faults_after read free past = record { reads = λ other. refl; cause = tt }

-- ---- what a run and a replay make

pub memory_refused : (asked : Args) (left after : Option (List ℕ)) (faults faults_after : ℕ)
    → IsRefusedBy asked refusal.Memory left after faults faults_after
memory_refused asked left after faults faults_after = record { reads = λ other. absurd (other refl); cause = tt }

pub run_made : (arguments : RunArgs) (left after : Option (List ℕ)) (input : Input) (rendered : Rendered) → IsRead form.Run left input
    → IsAtEnd after → Renders input.pairs arguments rendered → IsMade (args.Run arguments) left after rendered
run_made arguments left after input rendered read end dumps =
    record { answers = record { input = input; read = read; dumps = dumps }; end = λ reads. end }

pub replay_made : (arguments : RunArgs) (left after : Option (List ℕ)) (input : Input) (rendered : Rendered) → IsRead form.Replay left input
    → IsAtEnd after → Renders input.pairs arguments rendered → rendered.order ≡ input.order
    → IsMade (args.Replay arguments) left after rendered
replay_made arguments left after input rendered read end dumps given =
    record { answers = record { input = input; read = read; dumps = dumps; given = given }; end = λ reads. end }

pub gen_of : (workers : ℕ) (pairs : List Entry) (rendered : Rendered) → pairs ≡ gen_pairs workers → AllByRecursion IsSmall pairs
    → Summarizes pairs gen_arguments rendered → AreByTurns pairs gen_arguments rendered.order
    → IsOfGen workers rendered.order rendered.output.items rendered.status
gen_of workers pairs rendered is small sums turns = record {
  small = subst (AllByRecursion IsSmall) is small;
  sums = subst (λ (p : List Entry). Summarizes p gen_arguments rendered) is sums;
  turns = subst (λ (p : List Entry). AreByTurns p gen_arguments rendered.order) is turns;
}
