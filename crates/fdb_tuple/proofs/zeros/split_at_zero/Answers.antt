use Rattle.std.proofs.lemmas.List.{take_rest}
use Rattle.fdb_tuple.proofs.ZeroRuns.{no_zero_before, split_there}
use Rattle.fdb_tuple.proofs.zeros.split_at_zero.Goals as goal

pub returns : goal.returns
returns c =
    let bytes = c.args.bytes.now in
    let first = c.in_ok-at.ensures in
    rw (c.split_at.ensures.front, c.split_at.ensures.back, take_rest) (no_zero_before bytes c.in_ok-at.at first, split_there bytes c.in_ok-at.at first)
