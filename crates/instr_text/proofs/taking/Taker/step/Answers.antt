use Rattle.key_bytes.specs.Entries.{entry_of}
use Rattle.instr_text.specs.Taken.{place_is}
use Rattle.instr_text.proofs.Listed.{no_place, at_place}
use Rattle.instr_text.proofs.taking.Taker.step.Goals as goal

pub returns-in-None-clause-steps : goal.returns-in-None-clause-steps
returns-in-None-clause-steps c = λ taken h.
    let read = rw (c.in-None.is, c.as_slice.ensures) at c.in_ok-place_of.ensures in
    rw (no_place taken (entry_of c.args.pair.now) read) tt

pub returns-in-Some-clause-steps : goal.returns-in-Some-clause-steps
returns-in-Some-clause-steps c = λ taken h.
    let read = rw (c.in-Some.is, c.as_slice.ensures) at c.in_ok-place_of.ensures in
    let same = at_place taken (entry_of c.args.pair.now) (place_is c.in-Some.place) read in
    rw (c.as_slice-in-Some.ensures, same) at (c.step_at.ensures.steps taken h)
