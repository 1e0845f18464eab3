use Rattle.range_map.proofs.Lined.{rising_none}
use Rattle.range_map.proofs.row.Row.new.Goals as goal

pub invariant_of-result : goal.invariant_of-result
invariant_of-result g c = rising_none c.new.result.items c.new.ensures.items
