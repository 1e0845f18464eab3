-- What the statuses of serving say.
use Rattle.std.specs.Prelude.{◌≡◌, ◌≢◌, ◌<◌, ◌≤◌, ◌⊎◌, ℕ, ◌+◌, List, [], ◌∷◌, ◌++◌, length, Option, Some, codes, decimal}
use Rattle.std.specs.Int.{w32, to_be_bytes}
use Rattle.std.specs.List.{AllByRecursion}
use Rattle.std.specs.Io.KnownBytes.{Appends, Consumes, IsAtEnd}
use Rattle.outside.specs.Counts.{Rose}
use Rattle.outside.specs.Streams.{AppendsFront}
use Rattle.err_lines.specs.Told.{IsTold}
use Rattle.model_database.specs.declared.Api.{Api}
use Rattle.fdb_calls.specs.declared.Request.{Request}
use Rattle.fdb_wire.specs.Requests.{request_bytes, IsClientRequest}
use Rattle.fdb_serve.specs.declared.halt.Flaw.{Flaw}
use Rattle.fdb_serve.specs.declared.halt.Flaw.TheVariants as flaws
use Rattle.fdb_serve.specs.Serving.{framed, frames_of, served}

-- how many bytes a request may have
abbrev pub frame_limit : ℕ
frame_limit = 16777216

-- the statuses by what they say
abbrev pub all_answered : ℕ
all_answered = 0

abbrev pub bad_frame : ℕ
bad_frame = 2

abbrev pub read_fault : ℕ
read_fault = 4

abbrev pub write_fault : ℕ
write_fault = 5

abbrev pub out_of_memory : ℕ
out_of_memory = 6

abbrev pub IsStatus : ℕ → Type 0
IsStatus status = (status ≡ all_answered) ⊎ (status ≡ bad_frame) ⊎ (status ≡ read_fault) ⊎ (status ≡ write_fault) ⊎ (status ≡ out_of_memory)

-- requests of a client, each of no more bytes than a request may have
abbrev pub AreServed : List Request → Type 0
AreServed requests = AllByRecursion (λ request. IsClientRequest request × (length (request_bytes request) ≤ frame_limit)) requests

-- ---- frames that are no request

-- bytes that begin a frame, and aren't the whole: fewer than 4, or fewer behind their number than it says
abbrev pub IsPart : List ℕ → Type 0
IsPart bytes =
    (length bytes < 4)
    ⊎ ((number : ℕ) × (body : List ℕ) × (bytes ≡ to_be_bytes w32 number ++ body) × (length body < number) × (number ≤ frame_limit))

-- what is wrong with a frame, of which these bytes were read
abbrev pub IsBad : Flaw → List ℕ → Type 0
-- it has its bytes, and they spell no request
IsBad flaws.NoRequest bytes =
    (body : List ℕ) × (bytes ≡ framed body) × (length body ≤ frame_limit) × ((request : Request) → IsClientRequest request → body ≢ request_bytes request)
-- its number is greater than a request may have; what is behind it was not read
IsBad flaws.TooLong bytes = (number : ℕ) × (bytes ≡ to_be_bytes w32 number) × (frame_limit < number)
-- the source ends within it
IsBad flaws.CutShort bytes = IsPart bytes × (0 < length bytes)

abbrev pub flaw_text : Flaw → List ℕ
flaw_text flaws.NoRequest = codes ": no request"
flaw_text flaws.TooLong = codes ": too long"
flaw_text flaws.CutShort = codes ": cut short"

-- the line of a frame, counted from 1
abbrev pub frame_text : (number : ℕ) → Flaw → List ℕ
frame_text number flaw = codes "frame " ++ decimal number ++ flaw_text flaw

-- ---- statuses

-- 0: the source was read to its end. It held the frames of requests, and the frames of their answers stand behind what out held.
pub record AnswersAll (api : Api) (window : Option ℕ) (left left_after before after : Option (List ℕ)) : Type 0 where
  pub requests : List Request
  pub are_served : AreServed requests
  pub consumed : Consumes left left_after (frames_of requests)
  pub end : IsAtEnd left_after
  pub written : Appends before after (served api window requests)

-- 2: behind the frames of requests comes a bad one. Out has the frames of their answers.
pub record StopsAtFrame (api : Api) (window : Option ℕ) (left left_after before after : Option (List ℕ)) (number : ℕ) (flaw : Flaw) : Type 0 where
  pub requests : List Request
  pub are_served : AreServed requests
  pub is_number : number ≡ length requests + 1
  pub bytes : List ℕ
  pub is_bad : IsBad flaw bytes
  pub consumed : Consumes left left_after (frames_of requests ++ bytes)
  pub written : Appends before after (served api window requests)

-- 4: behind the frames of requests a part of one more was read. Out has the frames of their answers.
pub record AnswersWhole (api : Api) (window : Option ℕ) (left left_after before after : Option (List ℕ)) : Type 0 where
  pub requests : List Request
  pub are_served : AreServed requests
  pub part : List ℕ
  pub is_part : IsPart part
  pub consumed : Consumes left left_after (frames_of requests ++ part)
  pub written : Appends before after (served api window requests)

-- 5: the frames of requests were read. Out has a front of the frames of their answers, and not the whole.
pub record BreaksOff (api : Api) (window : Option ℕ) (left left_after before after : Option (List ℕ)) : Type 0 where
  pub requests : List Request
  pub are_served : AreServed requests
  pub consumed : Consumes left left_after (frames_of requests)
  pub written : AppendsFront before after (served api window requests)

-- 6: behind the frames of requests some bytes more were read. Out has the frames of their answers.
pub record RunsShort (api : Api) (window : Option ℕ) (left left_after before after : Option (List ℕ)) : Type 0 where
  pub requests : List Request
  pub are_served : AreServed requests
  pub bytes : List ℕ
  pub consumed : Consumes left left_after (frames_of requests ++ bytes)
  pub written : Appends before after (served api window requests)

-- what was told on err at the statuses but 0 and 2
pub record Tells (status : ℕ) (before after : Option (List ℕ)) (faults faults_after : ℕ) : Type 0 where
  pub read : status ≡ read_fault → IsTold (codes "read fault") before after faults faults_after
  pub write : status ≡ write_fault → IsTold (codes "write fault") before after faults faults_after
  pub memory : status ≡ out_of_memory → IsTold (codes "out of memory") before after faults faults_after
