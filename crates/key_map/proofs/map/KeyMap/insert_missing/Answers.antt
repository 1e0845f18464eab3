use Rattle.std.proofs.Common.{sym, Some, cond, ap, ◌∙◌}
use Rattle.std.proofs.lemmas.Result.{err_from_is_err_and}
use Rattle.std.specs.FinMap as finite
use Rattle.std.specs.Map.{lookup}
use Rattle.std.specs.Option.{unwrap_or}
use Rattle.key_map.proofs.Finite.{is_key, lookup-map_of, map_of-inserted}
use Rattle.key_map.proofs.map.KeyMap.insert_missing.Goals as goal

pub returns-clause-ok : goal.returns-clause-ok
returns-clause-ok g c =
    let old = c.self.inside.tree.entries in
    let key = c.args.key in
    map_of-inserted old c.add_missing.new.tree.entries _ c.self.view_is key (unwrap_or (finite.get c.args.self.now key) c.args.value)
    (λ q. c.in_ok-add_missing.ensures.ok.0 q
    ∙ ap (λ o. cond (is_key key q) (Some (unwrap_or o c.args.value)) (lookup (is_key q) old)) (lookup-map_of old _ c.self.view_is key))

pub returns-in_err-add_missing-clause-only_new : goal.returns-in_err-add_missing-clause-only_new
returns-in_err-add_missing-clause-only_new g c =
    let exit = err_from_is_err_and c.from_residual.result c.from_residual.ensures.1 in
    rw exit.1 (sym (lookup-map_of c.self.inside.tree.entries _ c.self.view_is c.args.key) ∙ c.in_err-add_missing.ensures.only_new)
