use Rattle.std.proofs.Common.{sym, ◌∙◌}
use Rattle.std.proofs.lemmas.Result.{err_from_is_err_and}
use Rattle.key_map.proofs.Finite.{lookup-map_of, map_of-inserted}
use Rattle.key_map.proofs.map.KeyMap.insert.Goals as goal

pub returns-clause-before : goal.returns-clause-before
returns-clause-before g c =
    c.in_ok-insert.ensures.old ∙ lookup-map_of c.self.inside.tree.entries _ c.self.view_is c.args.key

pub returns-clause-ok : goal.returns-clause-ok
returns-clause-ok g c =
    map_of-inserted c.self.inside.tree.entries c.insert.new.self.entries _ c.self.view_is c.args.key c.args.value
    c.in_ok-insert.ensures.updates.0

pub returns-in_err-insert-clause-only_new : goal.returns-in_err-insert-clause-only_new
returns-in_err-insert-clause-only_new g c =
    let exit = err_from_is_err_and c.from_residual.result c.from_residual.ensures.1 in
    rw exit.1 (sym (lookup-map_of c.self.inside.tree.entries _ c.self.view_is c.args.key) ∙ c.in_err-insert.ensures.absent)
