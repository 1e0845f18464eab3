use Rattle.dump_text.proofs.Digits.{digit_by_table, digit_small}
use Rattle.dump_text.proofs.text.digit_of.Goals as goal

pub returns-clause-value : goal.returns-clause-value
returns-clause-value c = rw c.from.ensures (digit_by_table c.args.byte c.ranges.byte.fits)

pub returns-clause-small : goal.returns-clause-small
returns-clause-small c = rw c.from.ensures (digit_small c.args.byte c.ranges.byte.fits)
