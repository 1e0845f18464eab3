-- What the statuses of the shell say.
use Rattle.std.specs.Prelude.{◌≡◌, ◌<◌, ◌≤◌, ◌⊎◌, ℕ, ◌-◌, List, [], ◌∷◌, ◌++◌, length, map, take, Option, Some, slice_get, codes, decimal}
use Rattle.std.specs.List.{AllByRecursion, filter}
use Rattle.std.specs.Io.KnownBytes.{Appends, Consumes, IsAtEnd}
use Rattle.outside.specs.Counts.{Rose}
use Rattle.outside.specs.Streams.{AppendsFront}
use Rattle.model_lines.specs.Reading.{Line, Fault, BadLine, TooLong, TooMany, lines_of}
use Rattle.err_lines.specs.Told.{IsTold}
use Rattle.model_shell.specs.Sessions.{shell}
use Rattle.fdb_shell.specs.Limits.{line_limit, input_limit}

-- the statuses by what they say
abbrev pub all_answered : ℕ
all_answered = 0

abbrev pub past_limit : ℕ
past_limit = 2

abbrev pub read_fault : ℕ
read_fault = 4

abbrev pub write_fault : ℕ
write_fault = 5

abbrev pub out_of_memory : ℕ
out_of_memory = 6

abbrev pub IsStatus : ℕ → Type 0
IsStatus status = (status ≡ all_answered) ⊎ (status ≡ past_limit) ⊎ (status ≡ read_fault) ⊎ (status ≡ write_fault) ⊎ (status ≡ out_of_memory)

-- ---- the lines of bytes

-- all of them, without their line feeds, which the last one may lack
abbrev pub lines_in : (bytes : List ℕ) → List (List ℕ)
lines_in bytes = map (λ (line : Line). line.bytes) (lines_of bytes)

-- those whose line feed is there
abbrev pub whole_lines_in : (bytes : List ℕ) → List (List ℕ)
whole_lines_in bytes = map (λ (line : Line). line.bytes) (filter (λ (line : Line). line.is_whole) (lines_of bytes))

-- those before the line of a number, counted from 1
abbrev pub lines_before : (number : ℕ) → (bytes : List ℕ) → List (List ℕ)
lines_before number bytes = take (number - 1) (lines_in bytes)

-- ---- limits

-- bytes are no more than an input may have, and each of their lines has no more than a line may have
pub record IsWithin (bytes : List ℕ) : Type 0 where
  pub few : length bytes ≤ input_limit
  pub short : AllByRecursion (λ (line : Line). length line.bytes ≤ line_limit) (lines_of bytes)

-- the last line of bytes, which has this number, is the one at which they pass a limit
abbrev pub IsPast : Fault → (bytes : List ℕ) → Type 0
IsPast (TooMany number) bytes = (number ≡ length (lines_of bytes)) × (input_limit < length bytes)
IsPast (TooLong number) bytes = (number ≡ length (lines_of bytes)) × (length bytes ≤ input_limit)
    × (line : Line) × (slice_get (lines_of bytes) (number - 1) ≡ Some line) × (line_limit < length line.bytes)
IsPast (BadLine number place) bytes = ⊥

-- the last of these bytes is the first one past a limit
pub record Passes (bytes : List ℕ) (fault : Fault) : Type 0 where
  pub front : List ℕ
  pub byte : ℕ
  pub bytes_are : bytes ≡ front ++ byte ∷ []
  pub within : IsWithin front
  pub past : IsPast fault bytes

abbrev pub number_in : Fault → ℕ
number_in (TooMany number) = number
number_in (TooLong number) = number
number_in (BadLine number place) = number

abbrev pub limit_text : Fault → List ℕ
limit_text (TooMany number) = codes "line " ++ decimal number ++ codes ": too many"
limit_text (TooLong number) = codes "line " ++ decimal number ++ codes ": too long"
limit_text (BadLine number place) = []

-- ---- statuses

-- 0: the source was read to its end, within the limits, and what is printed for its lines stands behind what out held
pub record AnswersAll (left left_after before after : Option (List ℕ)) : Type 0 where
  pub bytes : List ℕ
  pub consumed : Consumes left left_after bytes
  pub end : IsAtEnd left_after
  pub within : IsWithin bytes
  pub written : Appends before after (shell (lines_in bytes))

-- 2: the last byte that was read is the first one past a limit; out has what is printed for the lines before
pub record StopsAtLimit (left left_after before after : Option (List ℕ)) (fault : Fault) : Type 0 where
  pub bytes : List ℕ
  pub consumed : Consumes left left_after bytes
  pub passes : Passes bytes fault
  pub written : Appends before after (shell (lines_before (number_in fault) bytes))

-- 4: what was read is within the limits; out has what is printed for its whole lines
pub record AnswersWhole (left left_after before after : Option (List ℕ)) : Type 0 where
  pub bytes : List ℕ
  pub consumed : Consumes left left_after bytes
  pub within : IsWithin bytes
  pub written : Appends before after (shell (whole_lines_in bytes))

-- 5: out has a front of what is printed for the lines that were read, and not the whole
pub record BreaksOff (left left_after before after : Option (List ℕ)) : Type 0 where
  pub bytes : List ℕ
  pub consumed : Consumes left left_after bytes
  pub within : IsWithin bytes
  pub written : AppendsFront before after (shell (lines_in bytes))

-- a front of bytes, which may be the whole, stands behind what was written before
abbrev pub AppendsSome : Option (List ℕ) → Option (List ℕ) → List ℕ → Type 0
AppendsSome before after bytes = (n : ℕ) × (n ≤ length bytes) × Appends before after (take n bytes)

-- 6: out has a front of what is printed for the whole lines that were read, and for the last one too where the source was read to
-- its end
pub record RunsShort (left left_after before after : Option (List ℕ)) : Type 0 where
  pub bytes : List ℕ
  pub consumed : Consumes left left_after bytes
  pub written : AppendsSome before after (shell (whole_lines_in bytes))
      ⊎ (IsAtEnd left_after × AppendsSome before after (shell (lines_in bytes)))

-- what was told on err at the statuses but 0 and 2
pub record Tells (status : ℕ) (before after : Option (List ℕ)) (faults faults_after : ℕ) : Type 0 where
  pub read : status ≡ read_fault → IsTold (codes "read fault") before after faults faults_after
  pub write : status ≡ write_fault → IsTold (codes "write fault") before after faults faults_after
  pub memory : status ≡ out_of_memory → IsTold (codes "out of memory") before after faults faults_after

-- the source has bytes within the limits, and neither it nor out counted a fault
pub record IsFaultless (left : Option (List ℕ)) (read_faults read_after write_faults write_after : ℕ) : Type 0 where
  pub bytes : List ℕ
  pub told : left ≡ Some bytes
  pub within : IsWithin bytes
  pub read : Rose read_faults read_after → ⊥
  pub write : Rose write_faults write_after → ⊥
