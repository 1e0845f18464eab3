use Rattle.std.proofs.Common.{◌≡◌, true, false}
use Rattle.fdb_tuple.specs.Reading.{read_tuple}
use Rattle.instr_grammar.specs.Taking.{instruction_in, in_tuple, follows}
use Rattle.instr_text.specs.Taken.{place_is}
use Rattle.instr_text.proofs.Listed.{not_following, following, if_ok_map}
use Rattle.instr_text.proofs.taking.Taker.step_at.Goals as goal

pub returns-then-not-follows-clause-steps : goal.returns-then-not-follows-clause-steps
returns-then-not-follows-clause-steps c = λ taken h.
    let test = c.follows.ensures taken h in
    let branch = c.if-not-follows.true in
    let off : follows taken (place_is c.args.place) ≡ false = cc in
    rw (not_following taken (place_is c.args.place) (in_tuple instruction_in (read_tuple c.args.value.now)) off) tt

pub returns-clause-steps : goal.returns-clause-steps
returns-clause-steps c = λ taken h.
    let test = c.follows.ensures taken h in
    let branch = c.if-not-follows.false in
    let on : follows taken (place_is c.args.place) ≡ true = cc in
    if_ok_map c.write_packed.result c.write_packed.ensures
    (λ is writes. following _ taken (place_is c.args.place) (in_tuple instruction_in (read_tuple c.args.value.now)) is _ _ _ on (c.in_ok-put_head.ensures.taken taken h) writes)
