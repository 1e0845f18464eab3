use Rattle.std.proofs.Common.{arith}
use Rattle.dump_text.proofs.Rooms.{front_placed}
use Rattle.dump_text.proofs.Runs.{printable_front}
use Rattle.dump_text.proofs.Pieces.{text_front}
use Rattle.dump_text.proofs.room.put_plain.Goals as goal

pub returns-then-bytes-ge16-clause-front : goal.returns-then-bytes-ge16-clause-front
returns-then-bytes-ge16-clause-front c =
    front_placed c.args.at c.plain_in_16.result 16 c.args.room.now c.args.bytes.now c.requires c.plain_in_16.ensures.few (omega arith)

pub returns-then-bytes-ge16-clause-read : goal.returns-then-bytes-ge16-clause-read
returns-then-bytes-ge16-clause-read c = text_front c.plain_in_16.result c.args.bytes.now c.plain_in_16.ensures.plain

pub returns-then-bytes-ge16-clause-printed : goal.returns-then-bytes-ge16-clause-printed
returns-then-bytes-ge16-clause-printed c = printable_front c.plain_in_16.result c.args.bytes.now c.plain_in_16.ensures.plain

pub returns-then-bytes-ge8-clause-front : goal.returns-then-bytes-ge8-clause-front
returns-then-bytes-ge8-clause-front c =
    front_placed c.args.at c.plain_in_8.result 8 c.args.room.now c.args.bytes.now c.requires c.plain_in_8.ensures.few (omega arith)

pub returns-then-bytes-ge8-clause-read : goal.returns-then-bytes-ge8-clause-read
returns-then-bytes-ge8-clause-read c = text_front c.plain_in_8.result c.args.bytes.now c.plain_in_8.ensures.plain

pub returns-then-bytes-ge8-clause-printed : goal.returns-then-bytes-ge8-clause-printed
returns-then-bytes-ge8-clause-printed c = printable_front c.plain_in_8.result c.args.bytes.now c.plain_in_8.ensures.plain
