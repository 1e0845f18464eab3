use Rattle.range_map.proofs.Lined.{rising_none}
use Rattle.range_map.proofs.row.Row.clear.Goals as goal

pub invariant_of-self : goal.invariant_of-self
invariant_of-self g c = rising_none c.clear.new.self.items c.clear.ensures.items
