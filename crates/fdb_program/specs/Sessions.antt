-- What the program promises where the one word is `shell`.
use Rattle.std.specs.Prelude.{◌≡◌, ℕ, List, [], Option, ◌⊎◌}
use Rattle.outside.specs.Counts.{Rose}
use Rattle.model_lines.specs.Reading.{Fault}
use Rattle.err_lines.specs.Told.{IsTold}
use Rattle.fdb_shell.specs.Outcomes as session

-- Each clause is that of the shell, of the status and of the order that the program answers, of the source, of out and of err. Of each
-- stream it speaks by what the stream tells: the bytes that are left or were written, and how many faults were counted.
pub record IsSession {S K N : Type 0} (status : ℕ) (order : List ℕ)
    (left : S → Option (List ℕ)) (read_faults : S → ℕ) (source source_after : S)
    (written : K → Option (List ℕ)) (write_faults : K → ℕ) (out out_after : K)
    (told_on : N → Option (List ℕ)) (tell_faults : N → ℕ) (err err_after : N) : Type 0 where
  -- 0: the source was read to its end, and what is printed for its lines was written.
  pub all : status ≡ session.all_answered → session.AnswersAll (left source) (left source_after) (written out) (written out_after)
  -- 2: a line or the input passes its limit. What is printed for the lines before was written, and err tells which line it is.
  pub limit : status ≡ session.past_limit → (fault : Fault)
      × session.StopsAtLimit (left source) (left source_after) (written out) (written out_after) fault
      × IsTold (session.limit_text fault) (told_on err) (told_on err_after) (tell_faults err) (tell_faults err_after)
  -- 4: the source has counted a fault in this call. What is printed for the whole lines that were read was written.
  pub read : status ≡ session.read_fault → Rose (read_faults source) (read_faults source_after)
  pub whole : status ≡ session.read_fault → session.AnswersWhole (left source) (left source_after) (written out) (written out_after)
  -- 5: out has counted a fault in this call. A front of what is printed for the lines that were read was written.
  pub write : status ≡ session.write_fault → Rose (write_faults out) (write_faults out_after)
  pub front : status ≡ session.write_fault → session.BreaksOff (left source) (left source_after) (written out) (written out_after)
  -- 6: memory ran out. A front of what is printed for the lines that were read was written.
  pub short : status ≡ session.out_of_memory → session.RunsShort (left source) (left source_after) (written out) (written out_after)
  -- There is no other status; where the input is within its limits and nothing fails, it is 0 or 6.
  pub statuses : session.IsStatus status
  pub complete : session.IsFaultless (left source) (read_faults source) (read_faults source_after) (write_faults out) (write_faults out_after)
      → (status ≡ session.all_answered) ⊎ (status ≡ session.out_of_memory)
  -- 0: err is as it was. At each other status its line stands behind what err held; a front of it where err has counted a
  -- fault in this call.
  pub quiet : status ≡ session.all_answered → err_after ≡ err
  pub told : session.Tells status (told_on err) (told_on err_after) (tell_faults err) (tell_faults err_after)
  -- The order is empty.
  pub no_order : order ≡ []
