-- What is told on err: one line for each status but 0 and 3.
use Rattle.std.specs.Prelude.{◌≡◌, ℕ, List, [], ◌∷◌, ◌++◌, Option, IfSome, ◌⊎◌, codes, decimal}
use Rattle.std.specs.Io.KnownBytes.{Appends}
use Rattle.outside.specs.Counts.{Rose}
use Rattle.outside.specs.Streams.{AppendsFront}
use Rattle.model_lines.specs.Printing.{line_feed}
use Rattle.model_lines.specs.Reading.{BadLine, TooLong, TooMany}
use Rattle.model_commands.specs.declared.args.Args.{Args}
use Rattle.tester_run.specs.Faults.{InputFault, InLine, NoRequest, EndsEarly, NotInstruction, HasFault}
use Rattle.tester_run.specs.Statuses.{usage, bad_input, read_fault, write_fault, out_of_memory}

-- the name of the program, a text and a line feed
abbrev pub told : List ℕ → List ℕ
told text = codes "fdbtester: " ++ text ++ line_feed ∷ []

-- the text of the fault of an input: lines and places of an order are counted from 1, and places in a line from 0
abbrev pub fault_text : InputFault → List ℕ
fault_text (InLine (BadLine line place)) = codes "line " ++ decimal line ++ codes ": bad at " ++ decimal place
fault_text (InLine (TooLong line)) = codes "line " ++ decimal line ++ codes ": too long"
fault_text (InLine (TooMany line)) = codes "line " ++ decimal line ++ codes ": too many"
fault_text (NoRequest place machine) =
    codes "order place " ++ decimal place ++ codes ": machine " ++ decimal machine ++ codes " has no request"
fault_text EndsEarly = codes "order ends early"
fault_text (NotInstruction line) = codes "line " ++ decimal line ++ codes ": not an instruction"

-- bytes stand behind those that were written before; or a front of them, where a write failed
abbrev pub IsWritten : List ℕ → Option (List ℕ) → Option (List ℕ) → ℕ → ℕ → Type 0
IsWritten bytes before after faults faults_after =
    Appends before after bytes ⊎ (AppendsFront before after bytes × Rose faults faults_after)

abbrev pub IsTold : List ℕ → Option (List ℕ) → Option (List ℕ) → ℕ → ℕ → Type 0
IsTold text before after faults faults_after = IsWritten (told text) before after faults faults_after

-- the fault of the bytes that the source had, where it tells them, was told
pub record IsFaultTold (asked : Args) (left before after : Option (List ℕ)) (faults faults_after : ℕ) : Type 0 where
  pub fault : InputFault
  pub fault_is : IfSome left (λ bytes. HasFault asked bytes fault)
  pub is_told : IsTold (fault_text fault) before after faults faults_after

-- what was told at each status
pub record Tells (asked : Option Args) (status : ℕ) (left before after : Option (List ℕ)) (faults faults_after : ℕ) : Type 0 where
  pub words : status ≡ usage → IsTold (codes "usage") before after faults faults_after
  pub input : status ≡ bad_input → IfSome asked (λ its. IsFaultTold its left before after faults faults_after)
  pub read : status ≡ read_fault → IsTold (codes "read fault") before after faults faults_after
  pub write : status ≡ write_fault → IsTold (codes "write fault") before after faults faults_after
  pub memory : status ≡ out_of_memory → IsTold (codes "out of memory") before after faults faults_after
