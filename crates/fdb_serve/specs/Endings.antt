-- What each part of serving comes to.
use Rattle.std.specs.Prelude.{◌≡◌, ◌≢◌, ◌<◌, ◌≤◌, ◌⊎◌, ⊤, ℕ, ◌+◌, ◌^◌, List, [], ◌∷◌, ◌++◌, length, Option, Some, None, Result, Ok, Err, codes}
use Rattle.std.specs.Int.{w32, to_be_bytes}
use Rattle.std.specs.Io.KnownBytes.{Appends, Consumes, IsAtEnd}
use Rattle.outside.specs.Counts.{Rose}
use Rattle.outside.specs.Streams.{AppendsFront}
use Rattle.err_lines.specs.Told.{IsTold}
use Rattle.model_database.specs.declared.Api.{Api}
use Rattle.fdb_calls.specs.declared.Request.{Request}
use Rattle.fdb_wire.specs.Requests.{request_bytes, IsClientRequest}
use Rattle.fdb_serve.specs.declared.halt.Flaw.{Flaw}
use Rattle.fdb_serve.specs.declared.halt.Flaw.TheVariants as flaws
use Rattle.fdb_serve.specs.declared.halt.Halt.{Halt}
use Rattle.fdb_serve.specs.declared.halt.Halt.TheVariants as halt
use Rattle.fdb_serve.specs.declared.halt.Stopped.{Stopped}
use Rattle.fdb_serve.specs.declared.server.Server.{Server}
use Rattle.fdb_serve.specs.Serving.{framed, frames_of, served, first_world, world_after}
use Rattle.fdb_serve.specs.Standing.{Stands}
use Rattle.fdb_serve.specs.Outcomes.{bad_frame, read_fault, write_fault, out_of_memory, frame_limit, frame_text, AreServed, IsPart, IsBad, AnswersAll, AnswersWhole, BreaksOff, RunsShort, StopsAtFrame}

-- a request of a client, of no more bytes than one may have
abbrev pub IsServed : Request → Type 0
IsServed request = IsClientRequest request × (length (request_bytes request) ≤ frame_limit)

-- what the bytes of a frame were read as
abbrev pub IsBody : Result Request Halt → (bytes : List ℕ) → Type 0
IsBody (Ok request) bytes = IsClientRequest request × (bytes ≡ request_bytes request)
IsBody (Err halt.NoMemory) bytes = ⊤
IsBody (Err (halt.Bad flaw)) bytes = (flaw ≡ flaws.NoRequest) × ((request : Request) → IsClientRequest request → bytes ≢ request_bytes request)
IsBody (Err halt.Read) bytes = ⊥
IsBody (Err halt.Write) bytes = ⊥

-- the reading of a frame came to this end behind so many of its bytes
abbrev pub EndsIn : Halt → (bytes : List ℕ) → Type 0
EndsIn halt.Read bytes = IsPart bytes
EndsIn (halt.Bad flaw) bytes = IsBad flaw bytes
EndsIn halt.NoMemory bytes = ⊤
EndsIn halt.Write bytes = ⊥

-- the request of a frame, of which the number of bytes was read
abbrev pub IsRest : Result Request Halt → (number : ℕ) → (left left_after : Option (List ℕ)) → Type 0
IsRest (Ok request) number left left_after =
    IsServed request × (number ≡ length (request_bytes request)) × Consumes left left_after (request_bytes request)
IsRest (Err halt) number left left_after =
    (bytes : List ℕ) × Consumes left left_after bytes × EndsIn halt (to_be_bytes w32 number ++ bytes)

-- the source has ended behind these of the first 4 bytes of a frame
abbrev pub IsEnd : Result (Option Request) Halt → (bytes : List ℕ) → Type 0
IsEnd (Ok None) bytes = bytes ≡ []
IsEnd (Ok (Some request)) bytes = ⊥
IsEnd (Err (halt.Bad flaw)) bytes = (flaw ≡ flaws.CutShort) × (0 < length bytes)
IsEnd (Err halt.Read) bytes = ⊥
IsEnd (Err halt.Write) bytes = ⊥
IsEnd (Err halt.NoMemory) bytes = ⊥

-- the next request was read, or there is none, or serving ends
abbrev pub IsNext : Result (Option Request) Halt → (left left_after : Option (List ℕ)) → Type 0
IsNext (Ok None) left left_after = Consumes left left_after [] × IsAtEnd left_after
IsNext (Ok (Some request)) left left_after = IsServed request × Consumes left left_after (framed (request_bytes request))
IsNext (Err halt) left left_after = (bytes : List ℕ) × Consumes left left_after bytes × EndsIn halt bytes

-- a frame was written, or a front of it
abbrev pub IsSent : Result (Unit {0}) Halt → (frame : List ℕ) → (before after : Option (List ℕ)) → Type 0
IsSent (Ok done) frame before after = Appends before after frame
IsSent (Err halt.Write) frame before after = AppendsFront before after frame
IsSent (Err halt.Read) frame before after = ⊥
IsSent (Err (halt.Bad flaw)) frame before after = ⊥
IsSent (Err halt.NoMemory) frame before after = ⊥

-- requests were read and answered: the server stands for the world that they leave, and has counted them
pub record IsAt (api : Api) (window : Option ℕ) (server : Server) (left left_after before after : Option (List ℕ)) : Type 0 where
  pub requests : List Request
  pub are_served : AreServed requests
  pub consumed : Consumes left left_after (frames_of requests)
  pub written : Appends before after (served api window requests)
  pub stands : Stands server (world_after (first_world api window) requests)
  pub applied : server.core.applied ≡ length requests

-- how the reading of requests ended
abbrev pub Finishes : Result (Unit {0}) Halt → Api → (window : Option ℕ) → (number : ℕ) → (left left_after before after : Option (List ℕ)) → Type 0
Finishes (Ok done) api window number left left_after before after = AnswersAll api window left left_after before after
Finishes (Err halt.Read) api window number left left_after before after = AnswersWhole api window left left_after before after
Finishes (Err halt.Write) api window number left left_after before after = BreaksOff api window left left_after before after
Finishes (Err (halt.Bad flaw)) api window number left left_after before after =
    StopsAtFrame api window left left_after before after number flaw
Finishes (Err halt.NoMemory) api window number left left_after before after = RunsShort api window left left_after before after

-- the same, with the number of the next frame
abbrev pub FinishesAt : Result (Unit {0}) Stopped → Api → (window : Option ℕ) → (left left_after before after : Option (List ℕ)) → Type 0
FinishesAt (Ok done) api window left left_after before after = AnswersAll api window left left_after before after
FinishesAt (Err stopped) api window left left_after before after =
    Finishes (Err stopped.halt) api window stopped.number left left_after before after

-- ---- what is told

-- memory ran out, and that was told
pub record IsShort (status : ℕ) (before after : Option (List ℕ)) (faults faults_after : ℕ) : Type 0 where
  pub is_status : status ≡ out_of_memory
  pub is_told : IsTold (codes "out of memory") before after faults faults_after

-- a text was told at its status; or memory ran out for it
abbrev pub IsToldAt : (its_status : ℕ) → (text : List ℕ) → (status : ℕ) → (before after : Option (List ℕ)) → (faults faults_after : ℕ) → Type 0
IsToldAt its_status text status before after faults faults_after =
    ((status ≡ its_status) × IsTold text before after faults faults_after) ⊎ IsShort status before after faults faults_after

-- why serving ended at the frame of this number was told
abbrev pub IsRefused : Halt → (number : ℕ) → (status : ℕ) → (before after : Option (List ℕ)) → (faults faults_after : ℕ) → Type 0
IsRefused halt.Read number status before after faults faults_after =
    (status ≡ read_fault) × IsTold (codes "read fault") before after faults faults_after
IsRefused halt.Write number status before after faults faults_after =
    (status ≡ write_fault) × IsTold (codes "write fault") before after faults faults_after
IsRefused (halt.Bad flaw) number status before after faults faults_after =
    IsToldAt bad_frame (frame_text number flaw) status before after faults faults_after
IsRefused halt.NoMemory number status before after faults faults_after = IsShort status before after faults faults_after
