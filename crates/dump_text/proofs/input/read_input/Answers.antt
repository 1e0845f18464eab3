use Rattle.std.proofs.lemmas.Result.{err_from_is_err_and}
use Rattle.model_input.specs.Forms.{input_of}
use Rattle.dump_text.proofs.Replays.{run_is, run_fails}
use Rattle.dump_text.proofs.input.read_input.Goals as goal

pub returns-in_err-pairs-in-Run : goal.returns-in_err-pairs-in-Run
returns-in_err-pairs-in-Run c =
    let p = err_from_is_err_and c.from_residual.result c.from_residual.ensures.1 in
    rw (p.1, p.2, c.in-Run.is) (run_fails c.in_err-pairs-in-Run.field-0.0 c.args.bytes.now c.in_err-pairs-in-Run.ensures)

pub returns-in_ok-pairs-in-Run : goal.returns-in_ok-pairs-in-Run
returns-in_ok-pairs-in-Run c =
    rw (c.in-Run.is, c.new.ensures) (run_is c.args.bytes.now c.in_ok-pairs-in-Run.pairs c.in_ok-pairs-in-Run.ensures)

pub returns-in-Replay : goal.returns-in-Replay
unfolding input_of
returns-in-Replay c = rw c.in-Replay.is c.read_replay.ensures
