use Rattle.std.proofs.Common.{◌≡◌, ◌+◌, arith}
use Rattle.dump_text.proofs.PairLines.{pair_parts}
use Rattle.dump_text.proofs.room.put_pair_line.Goals as goal

pub returns-clause-front : goal.returns-clause-front
returns-clause-front c =
    let middle = c.put_printable-middle.result in
    let next : middle + 2 ≡ middle + 1 + 1 = omega arith in
    let behind = rw next at c.put_printable-end.ensures.front in
    rw (
      c.put-5.ensures.front,
      behind,
      c.put-4.ensures.front,
      c.put-3.ensures.front,
      c.put_printable-middle.ensures.front,
      c.put-2.ensures.front,
      c.put.ensures.front,
    )
    (pair_parts c.args.key.now c.args.value.now)
