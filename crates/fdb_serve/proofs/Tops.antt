-- What the statuses of serving say, by how it ended.
use Rattle.std.proofs.Common.{◌≡◌, ℕ, inl, inr, List, Option, Err, refl, arith}
use Rattle.outside.specs.Counts.{Rose}
use Rattle.err_lines.specs.Told.{IsTold}
use Rattle.model_database.specs.declared.Api.{Api}
use Rattle.fdb_serve.specs.declared.halt.Flaw.{Flaw}
use Rattle.fdb_serve.specs.declared.halt.Halt.{Halt}
use Rattle.fdb_serve.specs.declared.halt.Halt.TheVariants as halt
use Rattle.fdb_serve.specs.Outcomes.{all_answered, bad_frame, read_fault, write_fault, out_of_memory, frame_text, IsStatus, AnswersAll, StopsAtFrame, AnswersWhole, BreaksOff, RunsShort, Tells}
use Rattle.fdb_serve.specs.Endings.{Finishes, IsRefused, IsShort, IsToldAt}

module _ (status : ℕ) (api : Api) (window : Option ℕ) (number : ℕ) (left left_after before after said said_after : Option (List ℕ)) (reads reads_after writes writes_after faults faults_after : ℕ) where
  -- all that is said of serving that did not answer its source to its end
  pub record Ended : Type 0 where
    pub all : status ≡ all_answered → AnswersAll api window left left_after before after
    pub bad : status ≡ bad_frame → (number : ℕ) × (flaw : Flaw) × StopsAtFrame api window left left_after before after number flaw
        × IsTold (frame_text number flaw) said said_after faults faults_after
    pub read : status ≡ read_fault → Rose reads reads_after
    pub whole : status ≡ read_fault → AnswersWhole api window left left_after before after
    pub write : status ≡ write_fault → Rose writes writes_after
    pub front : status ≡ write_fault → BreaksOff api window left left_after before after
    pub short : status ≡ out_of_memory → RunsShort api window left left_after before after
    pub statuses : IsStatus status
    pub not_all : status ≡ all_answered → ⊥
    pub told : Tells status said said_after faults faults_after

  ended_short : IsShort status said said_after faults faults_after → RunsShort api window left left_after before after → Ended
  ended_short told h =
      let is = told.is_status in
      record {
        all = λ e. absurd (omega arith);
        bad = λ e. absurd (omega arith);
        read = λ e. absurd (omega arith);
        whole = λ e. absurd (omega arith);
        write = λ e. absurd (omega arith);
        front = λ e. absurd (omega arith);
        short = λ e. h;
        statuses = inr (inr (inr (inr is)));
        not_all = λ e. omega arith;
        told = record { read = λ e. absurd (omega arith); write = λ e. absurd (omega arith); memory = λ e. told.is_told };
      }

  ended_bad : (flaw : Flaw) → StopsAtFrame api window left left_after before after number flaw
      → IsToldAt bad_frame (frame_text number flaw) status said said_after faults faults_after → Ended
  ended_bad flaw h (inl told) =
      let is = told.0 in
      record {
        all = λ e. absurd (omega arith);
        bad = λ e. (number, flaw, h, told.1);
        read = λ e. absurd (omega arith);
        whole = λ e. absurd (omega arith);
        write = λ e. absurd (omega arith);
        front = λ e. absurd (omega arith);
        short = λ e. absurd (omega arith);
        statuses = inr (inl is);
        not_all = λ e. omega arith;
        told = record { read = λ e. absurd (omega arith); write = λ e. absurd (omega arith); memory = λ e. absurd (omega arith) };
      }
  ended_bad flaw h (inr told) = ended_short told (record {
    requests = h.requests;
    are_served = h.are_served;
    bytes = h.bytes;
    consumed = h.consumed;
    written = h.written;
  })

  pub ended : (why : Halt) → Finishes (Err why) api window number left left_after before after → IsRefused why number status said said_after faults faults_after
      → (why ≡ halt.Read → Rose reads reads_after) → (why ≡ halt.Write → Rose writes writes_after) → Ended
  ended halt.Read h told read write =
      let is = told.0 in
      record {
        all = λ e. absurd (omega arith);
        bad = λ e. absurd (omega arith);
        read = λ e. read refl;
        whole = λ e. h;
        write = λ e. absurd (omega arith);
        front = λ e. absurd (omega arith);
        short = λ e. absurd (omega arith);
        statuses = inr (inr (inl is));
        not_all = λ e. omega arith;
        told = record { read = λ e. told.1; write = λ e. absurd (omega arith); memory = λ e. absurd (omega arith) };
      }
  ended halt.Write h told read write =
      let is = told.0 in
      record {
        all = λ e. absurd (omega arith);
        bad = λ e. absurd (omega arith);
        read = λ e. absurd (omega arith);
        whole = λ e. absurd (omega arith);
        write = λ e. write refl;
        front = λ e. h;
        short = λ e. absurd (omega arith);
        statuses = inr (inr (inr (inl is)));
        not_all = λ e. omega arith;
        told = record { read = λ e. absurd (omega arith); write = λ e. told.1; memory = λ e. absurd (omega arith) };
      }
  ended (halt.Bad flaw) h told read write = ended_bad flaw h told
  ended halt.NoMemory h told read write = ended_short told h
