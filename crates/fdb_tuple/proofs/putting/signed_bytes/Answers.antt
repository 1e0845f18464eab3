use Rattle.std.proofs.Common.{◌∙◌, arith, sym}
use Rattle.std.specs.Int.{w128, to_be_bytes}
use Rattle.fdb_tuple.proofs.Digits.{high_first_complement, with_sign-false}
use Rattle.fdb_tuple.proofs.putting.signed_bytes.Goals as goal

pub returns-then-negative : goal.returns-then-negative
returns-then-negative c = rw c.if-negative.true (c.to_be_bytes.ensures ∙ high_first_complement 16 c.args.magnitude (omega arith))

pub returns-else-negative : goal.returns-else-negative
returns-else-negative c = rw c.if-negative.false (c.to_be_bytes-else-negative.ensures ∙ sym (with_sign-false (to_be_bytes w128 c.args.magnitude)))
