-- No watch is made yet.
use Rattle.watch_core.specs.Watches.{numbers_in}
use Rattle.watch_core.proofs.Keeping.{listed_none}
use Rattle.watch_core.proofs.UnderKeys.{numbers_empty}
use Rattle.watch_core.proofs.watches.Watches.new.Goals as goal
use Rattle.std.proofs.Common.{length, ap, arith}

pub invariant_of-result : goal.invariant_of-result
invariant_of-result g c = record {
  are_listed = listed_none c.new.result.items c.new.ensures.items (numbers_in c.new-2.result) (numbers_empty c.new-2.result c.new-2.ensures);
  roomy = omega (arith, ap length c.new.ensures.items);
  none = c.new-3.ensures.items;
}
