use Rattle.std.proofs.Common.{◌∙◌}
use Rattle.key_map.proofs.Finite.{lookup-map_of}
use Rattle.key_map.proofs.map.KeyMap.get.Goals as goal

pub returns : goal.returns
returns g c = c.get.ensures.value ∙ lookup-map_of c.self.inside.tree.entries _ c.self.view_is c.args.key.now
