-- Where reading stands, and how it ends.
use Rattle.std.specs.Prelude.{◌≡◌, ◌≤◌, ℕ, ◌+◌, ◌==◌, false, List, [], ◌∷◌, ◌++◌, length, flat_map, Option, Some, None, Result, Ok, Err, ◌⊎◌, codes}
use Rattle.std.specs.List.{AllByRecursion}
use Rattle.std.specs.Io.KnownBytes.{Keeps, Appends, Consumes, IsAtEnd}
use Rattle.outside.specs.Counts.{Rose}
use Rattle.outside.specs.Streams.{AppendsFront}
use Rattle.model_lines.specs.Printing.{line_feed}
use Rattle.model_lines.specs.Reading.{TooLong, TooMany}
use Rattle.err_lines.specs.Told.{IsTold}
use Rattle.model_shell.specs.Sessions.{shell, first_session, printed_for, after_lines, answered}
use Rattle.model_shell.specs.Sessions as sessions
use Rattle.fdb_shell.specs.declared.position.Reading.{Reading}
use Rattle.fdb_shell.specs.declared.reading.Halt.{Halt}
use Rattle.fdb_shell.specs.declared.reading.Halt.TheVariants as halt
use Rattle.fdb_shell.specs.declared.session.Session.{Session}
use Rattle.fdb_shell.specs.Limits.{line_limit}
use Rattle.fdb_shell.specs.Doing.{IsSession}
use Rattle.fdb_shell.specs.Outcomes.{past_limit, read_fault, write_fault, out_of_memory, limit_text, lines_in, whole_lines_in, lines_before, IsWithin, Passes, AppendsSome, AnswersAll, StopsAtLimit, AnswersWhole, BreaksOff, RunsShort}

-- no byte is a line feed
abbrev pub HasNoFeed : List ℕ → Type 0
HasNoFeed bytes = AllByRecursion (λ b. (b == 10) ≡ false) bytes

-- lines, each with a line feed behind it
abbrev pub joined : (lines : List (List ℕ)) → List ℕ
joined lines = flat_map (λ (line : List ℕ). line ++ line_feed ∷ []) lines

-- Bytes were read: whole lines, which were answered, and behind them what the reading has of the next one. What was printed for
-- the lines stands behind what out held at the start.
pub record IsAt (start current : Option (List ℕ)) (reading : Reading) (bytes : List ℕ) : Type 0 where
  pub lines : List (List ℕ)
  pub parts : bytes ≡ joined lines ++ reading.line
  pub feedless : AllByRecursion HasNoFeed lines
  pub line_feedless : HasNoFeed reading.line
  pub short : AllByRecursion (λ (line : List ℕ). length line ≤ line_limit) lines
  pub count : reading.count ≡ length bytes
  pub number : reading.number ≡ length lines + 1
  pub session : IsSession reading.session (after_lines first_session lines)
  pub written : Appends start current (printed_for first_session lines)

-- how reading ended, where these bytes were read
abbrev pub Ends : Halt → (start written : Option (List ℕ)) → (bytes : List ℕ) → Type 0
Ends halt.Read start written bytes = ⊥
Ends halt.Write start written bytes = IsWithin bytes × AppendsFront start written (shell (lines_in bytes))
Ends (halt.TooLong line) start written bytes =
    Passes bytes (TooLong line) × Appends start written (shell (lines_before line bytes))
Ends (halt.TooMany line) start written bytes =
    Passes bytes (TooMany line) × Appends start written (shell (lines_before line bytes))
Ends halt.NoMemory start written bytes = AppendsSome start written (shell (whole_lines_in bytes))

-- reading goes on behind these bytes, or ended there
abbrev pub Goes : Result (Unit {0}) Halt → (start written : Option (List ℕ)) → Reading → (bytes : List ℕ) → Type 0
Goes (Ok done) start written reading bytes = IsAt start written reading bytes
Goes (Err halt) start written reading bytes = Ends halt start written bytes

-- all lines of these bytes were answered, or reading ended before
abbrev pub Closes : Result (Unit {0}) Halt → (start written : Option (List ℕ)) → (bytes : List ℕ) → Type 0
Closes (Ok done) start written bytes = IsWithin bytes × Appends start written (shell (lines_in bytes))
Closes (Err halt.NoMemory) start written bytes = AppendsSome start written (shell (lines_in bytes))
Closes (Err halt.Read) start written bytes = ⊥
Closes (Err halt.Write) start written bytes = Ends halt.Write start written bytes
Closes (Err (halt.TooLong line)) start written bytes = ⊥
Closes (Err (halt.TooMany line)) start written bytes = ⊥

-- a line was answered, and what is printed for it was written; or out failed; or memory ran out, and nothing was written
abbrev pub Answers : Result (Unit {0}) Halt → (before after : Option (List ℕ)) → Session → sessions.Answered → Type 0
Answers (Ok done) before after session answered = IsSession session answered.session × Appends before after answered.text
Answers (Err halt.Write) before after session answered = AppendsFront before after answered.text
Answers (Err halt.NoMemory) before after session answered = after ≡ before
Answers (Err halt.Read) before after session answered = ⊥
Answers (Err (halt.TooLong line)) before after session answered = ⊥
Answers (Err (halt.TooMany line)) before after session answered = ⊥

-- the next byte was read, or there is none, or the source failed
abbrev pub IsByteRead : Result (Option ℕ) Halt → (left left_after : Option (List ℕ)) → (faults faults_after : ℕ) → Type 0
IsByteRead (Ok (Some byte)) left left_after faults faults_after = Consumes left left_after (byte ∷ [])
IsByteRead (Ok None) left left_after faults faults_after = Keeps left left_after × IsAtEnd left_after
IsByteRead (Err why) left left_after faults faults_after = (why ≡ halt.Read) × Keeps left left_after × Rose faults faults_after

-- how the shell's reading of a source ended
abbrev pub Finishes : Result (Unit {0}) Halt → (left left_after before after : Option (List ℕ)) → Type 0
Finishes (Ok done) left left_after before after = AnswersAll left left_after before after
Finishes (Err halt.Read) left left_after before after = AnswersWhole left left_after before after
Finishes (Err halt.Write) left left_after before after = BreaksOff left left_after before after
Finishes (Err (halt.TooLong line)) left left_after before after = StopsAtLimit left left_after before after (TooLong line)
Finishes (Err (halt.TooMany line)) left left_after before after = StopsAtLimit left left_after before after (TooMany line)
Finishes (Err halt.NoMemory) left left_after before after = RunsShort left left_after before after

-- ---- what is told

-- memory ran out, and that was told
pub record IsShort (status : ℕ) (before after : Option (List ℕ)) (faults faults_after : ℕ) : Type 0 where
  pub is_status : status ≡ out_of_memory
  pub is_told : IsTold (codes "out of memory") before after faults faults_after

-- a text was told at its status; or memory ran out for it
abbrev pub IsToldAt : (its_status : ℕ) → (text : List ℕ) → (status : ℕ) → (before after : Option (List ℕ)) → (faults faults_after : ℕ) → Type 0
IsToldAt its_status text status before after faults faults_after =
    ((status ≡ its_status) × IsTold text before after faults faults_after) ⊎ IsShort status before after faults faults_after

-- why reading ended was told
abbrev pub IsRefused : Halt → (status : ℕ) → (before after : Option (List ℕ)) → (faults faults_after : ℕ) → Type 0
IsRefused halt.Read status before after faults faults_after =
    (status ≡ read_fault) × IsTold (codes "read fault") before after faults faults_after
IsRefused halt.Write status before after faults faults_after =
    (status ≡ write_fault) × IsTold (codes "write fault") before after faults faults_after
IsRefused (halt.TooLong line) status before after faults faults_after =
    IsToldAt past_limit (limit_text (TooLong line)) status before after faults faults_after
IsRefused (halt.TooMany line) status before after faults faults_after =
    IsToldAt past_limit (limit_text (TooMany line)) status before after faults faults_after
IsRefused halt.NoMemory status before after faults faults_after = IsShort status before after faults faults_after
