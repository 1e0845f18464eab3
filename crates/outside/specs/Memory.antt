-- Sources and sinks in memory: their states, what a call answers in a state, and the state after it.
use Rattle.std.specs.Prelude.{ℕ, ◌-◌, ◌==◌, min, Bool, ◌||◌, if◌then◌else◌, List, [], ◌++◌, length, take, drop}
use Rattle.std.specs.List.{list_any}
use Rattle.outside.specs.Counts.{risen}
use Rattle.outside.specs.declared.source.Taken.{Taken}
use Rattle.outside.specs.declared.source.Taken.TheVariants as taken
use Rattle.outside.specs.declared.sink.Put.{Put}
use Rattle.outside.specs.declared.sink.Put.TheVariants as put

-- a source that fails at listed calls: the bytes that are left, the most bytes of a call, the calls that are to fail,
-- counted from 1, how many calls came so far, and how many of them failed
pub record SourceState : Type 0 where
  pub left : List ℕ
  pub piece : ℕ
  pub failing : List ℕ
  pub calls : ℕ
  pub faults : ℕ

abbrev pub source_of : List ℕ → ℕ → List ℕ → SourceState
source_of bytes piece failing = record { left = bytes; piece = piece; failing = failing; calls = 0; faults = 0 }

-- the call after `calls` calls is one of those that are to fail
abbrev pub fails_next : List ℕ → ℕ → Bool
fails_next failing calls = list_any (λ call. call == risen calls) failing

-- no byte is the end
abbrev pub given : ℕ → Taken
given n = if n == 0 then taken.End else taken.Got n

-- what a read into `room` places answers
abbrev pub read_answer : SourceState → ℕ → Taken
read_answer s room = if fails_next s.failing s.calls then taken.Failed else given (min (length s.left) (min s.piece room))

abbrev pub after_read : SourceState → Taken → SourceState
after_read s (taken.Got n) = record s { left = drop n s.left; calls = risen s.calls }
after_read s taken.End = record s { calls = risen s.calls }
after_read s taken.Failed = record s { calls = risen s.calls; faults = risen s.faults }

-- a source that never fails: the bytes that are left, and the most bytes of a call
pub record CleanState : Type 0 where
  pub left : List ℕ
  pub piece : ℕ

abbrev pub clean_of : List ℕ → ℕ → CleanState
clean_of bytes piece = record { left = bytes; piece = piece }

abbrev pub clean_answer : CleanState → ℕ → Taken
clean_answer s room = given (min (length s.left) (min s.piece room))

abbrev pub after_clean_read : CleanState → Taken → CleanState
after_clean_read s (taken.Got n) = record s { left = drop n s.left }
after_clean_read s taken.End = s
after_clean_read s taken.Failed = s

-- a sink that fails at listed calls, and where all its room is full: the bytes that were written, how many bytes it has
-- room for, the most bytes of a call, the calls that are to fail, counted from 1, how many calls came so far, and how
-- many of them failed
pub record SinkState : Type 0 where
  pub written : List ℕ
  pub room : ℕ
  pub piece : ℕ
  pub failing : List ℕ
  pub calls : ℕ
  pub faults : ℕ

abbrev pub sink_of : ℕ → ℕ → List ℕ → SinkState
sink_of room piece failing = record { written = []; room = room; piece = piece; failing = failing; calls = 0; faults = 0 }

-- what a write of `len` bytes answers
abbrev pub write_answer : SinkState → ℕ → Put
write_answer s len =
    if fails_next s.failing s.calls || (length s.written == s.room) then put.Failed else put.Took (min len (min s.piece (s.room - length s.written)))

abbrev pub after_write : SinkState → List ℕ → Put → SinkState
after_write s piece (put.Took n) = record s { written = s.written ++ take n piece; calls = risen s.calls }
after_write s piece put.Failed = record s { calls = risen s.calls; faults = risen s.faults }
