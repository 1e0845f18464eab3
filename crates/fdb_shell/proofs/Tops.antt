-- What the shell's statuses say, by how its reading ended.
use Rattle.std.proofs.Common.{◌≡◌, ℕ, ◌⊎◌, inl, inr, List, Option, Some, None, Err, refl, sym, subst, arith}
use Rattle.std.specs.Io.KnownBytes.{Consumes}
use Rattle.outside.specs.Counts.{Rose}
use Rattle.model_lines.specs.Reading.{Fault, TooLong, TooMany}
use Rattle.err_lines.specs.Told.{IsTold}
use Rattle.model_shell.specs.Sessions.{shell, first_session}
use Rattle.fdb_shell.specs.declared.reading.Halt.{Halt}
use Rattle.fdb_shell.specs.declared.reading.Halt.TheVariants as halt
use Rattle.fdb_shell.specs.Outcomes.{all_answered, past_limit, read_fault, write_fault, out_of_memory, limit_text, number_in, lines_before, IsStatus, AnswersAll, StopsAtLimit, AnswersWhole, BreaksOff, RunsShort, AppendsSome, IsFaultless, Tells}
use Rattle.fdb_shell.specs.Endings.{Finishes, IsRefused, IsShort, IsToldAt}
use Rattle.fdb_shell.proofs.Lines.{whole_behind}
use Rattle.fdb_shell.proofs.Printed.{some_of_more}
use Rattle.fdb_shell.proofs.Within.{past_is_not_within}

module _ (status : ℕ) (left left_after before after said said_after : Option (List ℕ)) (reads reads_after writes writes_after faults faults_after : ℕ) where
  -- all that is said of a session that was not answered to its end
  pub record Ended : Type 0 where
    pub all : status ≡ all_answered → AnswersAll left left_after before after
    pub limit : status ≡ past_limit → (fault : Fault) × StopsAtLimit left left_after before after fault
        × IsTold (limit_text fault) said said_after faults faults_after
    pub read : status ≡ read_fault → Rose reads reads_after
    pub whole : status ≡ read_fault → AnswersWhole left left_after before after
    pub write : status ≡ write_fault → Rose writes writes_after
    pub front : status ≡ write_fault → BreaksOff left left_after before after
    pub short : status ≡ out_of_memory → RunsShort left left_after before after
    pub statuses : IsStatus status
    pub not_all : status ≡ all_answered → ⊥
    pub told : Tells status said said_after faults faults_after

  ended_short : IsShort status said said_after faults faults_after → RunsShort left left_after before after → Ended
  ended_short told h =
      let is = told.is_status in
      record {
        all = λ e. absurd (omega arith);
        limit = λ e. absurd (omega arith);
        read = λ e. absurd (omega arith);
        whole = λ e. absurd (omega arith);
        write = λ e. absurd (omega arith);
        front = λ e. absurd (omega arith);
        short = λ e. h;
        statuses = inr (inr (inr (inr is)));
        not_all = λ e. omega arith;
        told = record { read = λ e. absurd (omega arith); write = λ e. absurd (omega arith); memory = λ e. told.is_told };
      }

  -- what is printed for the lines before the one that passes a limit is a front of what is printed for the whole lines
  short_of : (fault : Fault) → StopsAtLimit left left_after before after fault → RunsShort left left_after before after
  short_of fault h =
      record {
        bytes = h.bytes;
        consumed = h.consumed;
        written =
            let more = whole_behind fault h.bytes h.passes.past in
            inl (subst (λ (x : List (List ℕ)). AppendsSome before after (shell x)) (sym more.1)
            (some_of_more before after first_session (lines_before (number_in fault) h.bytes) more.0 h.written));
      }

  ended_limit : (fault : Fault) → StopsAtLimit left left_after before after fault
      → IsToldAt past_limit (limit_text fault) status said said_after faults faults_after → Ended
  ended_limit fault h (inl told) =
      let is = told.0 in
      record {
        all = λ e. absurd (omega arith);
        limit = λ e. (fault, h, told.1);
        read = λ e. absurd (omega arith);
        whole = λ e. absurd (omega arith);
        write = λ e. absurd (omega arith);
        front = λ e. absurd (omega arith);
        short = λ e. absurd (omega arith);
        statuses = inr (inl is);
        not_all = λ e. omega arith;
        told = record { read = λ e. absurd (omega arith); write = λ e. absurd (omega arith); memory = λ e. absurd (omega arith) };
      }
  ended_limit fault h (inr told) = ended_short told (short_of fault h)

  pub ended : (why : Halt) → Finishes (Err why) left left_after before after → IsRefused why status said said_after faults faults_after
      → (why ≡ halt.Read → Rose reads reads_after) → (why ≡ halt.Write → Rose writes writes_after) → Ended
  ended halt.Read h told read write =
      let is = told.0 in
      record {
        all = λ e. absurd (omega arith);
        limit = λ e. absurd (omega arith);
        read = λ e. read refl;
        whole = λ e. h;
        write = λ e. absurd (omega arith);
        front = λ e. absurd (omega arith);
        short = λ e. absurd (omega arith);
        statuses = inr (inr (inl is));
        not_all = λ e. omega arith;
        told = record { read = λ e. told.1; write = λ e. absurd (omega arith); memory = λ e. absurd (omega arith) };
      }
  ended halt.Write h told read write =
      let is = told.0 in
      record {
        all = λ e. absurd (omega arith);
        limit = λ e. absurd (omega arith);
        read = λ e. absurd (omega arith);
        whole = λ e. absurd (omega arith);
        write = λ e. write refl;
        front = λ e. h;
        short = λ e. absurd (omega arith);
        statuses = inr (inr (inr (inl is)));
        not_all = λ e. omega arith;
        told = record { read = λ e. absurd (omega arith); write = λ e. told.1; memory = λ e. absurd (omega arith) };
      }
  ended (halt.TooLong line) h told read write = ended_limit (TooLong line) h told
  ended (halt.TooMany line) h told read write = ended_limit (TooMany line) h told
  ended halt.NoMemory h told read write = ended_short told h

  -- an input within its limits, and nothing that failed
  pub complete : Ended → IsFaultless left reads reads_after writes writes_after → (status ≡ all_answered) ⊎ (status ≡ out_of_memory)
  complete ended faultless = of_status ended.statuses
    where
      fits : (fault : Fault) → StopsAtLimit left left_after before after fault → ⊥
      fits fault h = by_left left_after (subst (λ (l : Option (List ℕ)). Consumes l left_after h.bytes) faultless.told h.consumed)
        where
          by_left : (rest : Option (List ℕ)) → Consumes (Some faultless.bytes) rest h.bytes → ⊥
          by_left None consumed = consumed
          by_left (Some rest) consumed = past_is_not_within fault h.bytes rest h.passes.past (rw (← consumed) faultless.within)

      of_status : IsStatus status → (status ≡ all_answered) ⊎ (status ≡ out_of_memory)
      of_status (inl is) = inl is
      of_status (inr (inl is)) = absurd (fits (ended.limit is).0 (ended.limit is).1)
      of_status (inr (inr (inl is))) = absurd (faultless.read (ended.read is))
      of_status (inr (inr (inr (inl is)))) = absurd (faultless.write (ended.write is))
      of_status (inr (inr (inr (inr is)))) = inr is
