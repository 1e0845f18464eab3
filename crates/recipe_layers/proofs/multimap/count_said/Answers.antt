use Rattle.std.proofs.Common.{arith}
use Rattle.recipe_layers.proofs.Counts.{said_length, said_zero, said_some}
use Rattle.recipe_layers.proofs.multimap.count_said.Goals as goal

pub returns-then-bytes-ne8 : goal.returns-then-bytes-ne8
returns-then-bytes-ne8 c = said_length c.args.bytes.now c.if-bytes-ne8.true

pub returns-then-count-eq0 : goal.returns-then-count-eq0
returns-then-count-eq0 c =
    said_zero c.args.bytes.now c.from_le_bytes-count.result c.if-bytes-ne8.false c.from_le_bytes-count.ensures c.if-count-eq0.true

pub returns : goal.returns
returns c =
    said_some c.args.bytes.now c.from_le_bytes-count.result c.if-bytes-ne8.false c.from_le_bytes-count.ensures c.if-count-eq0.false
    (omega arith)
