use Rattle.std.proofs.Common.{not}
use Rattle.key_bytes.specs.Keys.{within}
use Rattle.key_map.proofs.Finite.{map_of-retained}
use Rattle.key_map.proofs.map.KeyMap.clear_range.Goals as goal

pub returns : goal.returns
returns g c =
    map_of-retained c.self.inside.tree.entries _ _ c.self.view_is (λ k. not (within c.args.begin.now c.args.end.now k))
    c.keep_outside.ensures
