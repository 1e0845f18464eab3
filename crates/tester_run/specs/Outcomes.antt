-- What a call of `tester` promises: what each exit status says.
use Rattle.std.specs.Prelude.{◌≡◌, ◌≢◌, ◌≤◌, ℕ, true, false, List, [], Option, Some, None, IfSome, ◌⊎◌}
use Rattle.std.specs.Io.KnownBytes.{Appends, IsAtEnd}
use Rattle.outside.specs.Streams.{AppendsFront}
use Rattle.std.specs.List.{AllByRecursion}
use Rattle.laws_history.specs.Whole.{IsOneLegalHistory}
use Rattle.laws_prefixes.specs.Prefixes.{GrantsAreApart}
use Rattle.model_lines.specs.Inputs.{IsSmall}
use Rattle.outside.specs.Counts.{Rose}
use Rattle.model_commands.specs.declared.args.Args.{Args}
use Rattle.model_machine.specs.Runs.{Run, RunsTo}
use Rattle.tester_run.specs.Arguments.{arguments_of, reads_input}
use Rattle.tester_run.specs.Faults.{InputFault, HasFault}
use Rattle.tester_run.specs.Inputs.{IsReadOut, ReadsWithin}
use Rattle.tester_run.specs.Rendered.{Answers}
use Rattle.tester_run.specs.Statuses as exit
use Rattle.tester_run.specs.Statuses.{IsFinal, IsSilent, IsGenStatus}
use Rattle.tester_run.specs.Tellings.{Tells}

-- At a final status the command was answered with this status, and what it writes stands behind what out held.
pub record Finishes (left : Option (List ℕ)) (asked : Args) (order : List ℕ) (status : ℕ) (before after : Option (List ℕ)) : Type 0 where
  pub output : List ℕ
  pub answers : Answers left asked order output status
  pub written : Appends before after output

-- Where out failed, a front of that stands behind what it held.
pub record BreaksOff (left : Option (List ℕ)) (asked : Args) (order : List ℕ) (before after : Option (List ℕ)) : Type 0 where
  pub output : List ℕ
  pub status : ℕ
  pub answers : Answers left asked order output status
  pub written : AppendsFront before after output

-- In each complete run of the order, over pairs that an input may have, each transaction whose commit made a version would get the
-- same ordinary reads run whole at its commit, unless a write without a write conflict range fell between.
abbrev pub IsLegal : (asked : Args) → (order : List ℕ) → Type 0
IsLegal asked order = IfSome (arguments_of asked) (λ arguments. (pairs : List (List ℕ × List ℕ)) (run : Run)
    → AllByRecursion IsSmall pairs → RunsTo pairs arguments order run → IsOneLegalHistory run.world.setting.history)

-- In each complete run of the order, the numbers that the allocator of a subspace granted in transactions that committed are distinct,
-- and no packed one begins with another, where all that wrote there past the first commit were calls of it that granted one.
abbrev pub KeepsPrefixesApart : (asked : Args) → (order : List ℕ) → Type 0
KeepsPrefixesApart asked order = IfSome (arguments_of asked) (λ arguments. (pairs : List (List ℕ × List ℕ)) (run : Run)
    → RunsTo pairs arguments order run → GrantsAreApart run.world.setting.history)

-- An input is lawful, the order of a replay included, and the source counted no fault.
pub record IsFaultless (asked : Args) (left : Option (List ℕ)) (read_faults read_after : ℕ) : Type 0 where
  pub bytes : List ℕ
  pub told : left ≡ Some bytes
  pub faultless : (fault : InputFault) → HasFault asked bytes fault → ⊥
  pub read : Rose read_faults read_after → ⊥

-- The words are lawful, and the input, where there is one, and neither source nor out counted a fault.
pub record IsLawful (asked : Option Args) (left : Option (List ℕ)) (read_faults read_after write_faults write_after : ℕ) : Type 0 where
  pub its_args : Args
  pub words : asked ≡ Some its_args
  pub input : reads_input its_args ≡ true → IsFaultless its_args left read_faults read_after
  pub written : Rose write_faults write_after → ⊥

-- ---- a whole call

-- What a call promises of the status and of the order that it answers, of the source, of out and of err, by what its words ask for. Of each
-- stream it speaks by what the stream tells: the bytes that are left or were written, and how many faults were counted.
pub record IsOutcome {S K N : Type 0} (asked : Option Args) (status : ℕ) (order : List ℕ)
    (left : S → Option (List ℕ)) (read_faults : S → ℕ) (source source_after : S)
    (written : K → Option (List ℕ)) (write_faults : K → ℕ) (out out_after : K)
    (told_on : N → Option (List ℕ)) (tell_faults : N → ℕ) (err err_after : N) : Type 0 where
  -- 1: the words are no command. Nothing was read.
  pub usage : status ≡ exit.usage → asked ≡ None
  pub words : asked ≡ None → (status ≡ exit.usage) ⊎ (status ≡ exit.out_of_memory)
  pub unread : status ≡ exit.usage → source_after ≡ source
  -- 2: a line has a fault or passes a limit, the order can't be followed, or a pair is no instruction, where the source tells
  -- its bytes; it was read to its end or its limit.
  pub input : status ≡ exit.bad_input → IfSome asked (λ its. IfSome (left source) (λ bytes. (fault : InputFault) × HasFault its bytes fault))
  pub judged : status ≡ exit.bad_input → IsReadOut (left source) (left source_after)
  -- 0 and 3: what the command answers was written, and the status is the one that it answers: the dump of the complete run of
  -- the order, and the status of that run; of `gen` the summary, and of the commands on text the text, and 0.
  pub finished : IsFinal status → IfSome asked (λ its. Finishes (left source) its order status (written out) (written out_after))
  pub end : IsFinal status → IfSome asked (λ its. reads_input its ≡ true → IsAtEnd (left source_after))
  -- `gen` reads nothing, and has no other status than 0, 5 and 6.
  pub generated : IfSome asked (λ its. reads_input its ≡ false → (source_after ≡ source) × IsGenStatus status)
  -- In that run each transaction committed with a version would get the same ordinary reads run whole at its commit, unless
  -- a write with its conflict range switched off fell between.
  pub legal : IsFinal status → IfSome asked (λ its. IsLegal its order)
  -- In that run the prefixes that one allocator gave to directories, in transactions that committed, are apart, where it alone
  -- wrote in its subspace.
  pub apart : IsFinal status → IfSome asked (λ its. KeepsPrefixesApart its order)
  -- 4 and 5: the source, or out, has counted a fault in this call.
  pub read : status ≡ exit.read_fault → Rose (read_faults source) (read_faults source_after)
  pub write : status ≡ exit.write_fault → Rose (write_faults out) (write_faults out_after)
  pub front : status ≡ exit.write_fault → IfSome asked (λ its. BreaksOff (left source) its order (written out) (written out_after))
  -- 1, 2, 4 and 6: out is as it was, and there is no order. There is no other status.
  pub untouched : IsSilent status → out_after ≡ out
  pub no_order : IsSilent status → order ≡ []
  pub statuses : status ≤ exit.out_of_memory
  -- Where the words and the input are lawful and nothing fails, the command is done, unless memory ran out.
  pub complete : IsLawful asked (left source) (read_faults source) (read_faults source_after) (write_faults out) (write_faults out_after)
      → IsFinal status ⊎ (status ≡ exit.out_of_memory)
  -- At each status: no more was read than the limit.
  pub limit : status ≢ exit.usage → ReadsWithin (left source) (left source_after)
  -- 0 and 3: err is as it was. At each other status its line stands behind what err held, at 2 that of the fault; a front of
  -- the line where err has counted a fault in this call.
  pub quiet : IsFinal status → err_after ≡ err
  pub told : Tells asked status (left source) (told_on err) (told_on err_after) (tell_faults err) (tell_faults err_after)
