use Rattle.std.proofs.Common.{◌∙◌}
use Rattle.key_map.proofs.Finite.{lookup-map_of, map_of-removed}
use Rattle.key_map.proofs.map.KeyMap.remove.Goals as goal

pub returns-clause-before : goal.returns-clause-before
returns-clause-before g c =
    c.remove.ensures.value ∙ lookup-map_of c.self.inside.tree.entries _ c.self.view_is c.args.key.now

pub returns-clause-removed : goal.returns-clause-removed
returns-clause-removed g c =
    map_of-removed c.self.inside.tree.entries c.remove.new.self.entries _ c.self.view_is c.args.key.now
    c.remove.ensures.updates.0
