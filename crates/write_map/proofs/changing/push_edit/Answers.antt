use Rattle.std.proofs.Common.{ap, ◌∙◌}
use Rattle.std.proofs.lemmas.Result.{on_ok_weaker, on_err_weaker}
use Rattle.std.specs.BTreeMap.{is_at}
use Rattle.key_bytes.specs.Keys.{key_cmp}
use Rattle.range_map.specs.Boundaries.{is_boundary}
use Rattle.range_map.proofs.Bounded.{boundary_changed}
use Rattle.write_map.proofs.Edited.{edited, unedited}
use Rattle.write_map.proofs.changing.push_edit.Goals as goal

pub replace-bare-requires : goal.replace-bare-requires
replace-bare-requires c =
    let key = c.args.key.now in
    ap (is_boundary key) c.replace-level.ensures.after ∙ boundary_changed key (is_at (key_cmp key)) _ c.args.levels.now ∙ c.requires.boundary

pub returns-clause-ok : goal.returns-clause-ok
returns-clause-ok c =
    on_ok_weaker c.push-result.result
    (λ made. edited c.args.key.now c.args.levels.now c.replace-level.new.self c.replace-bare.new.self c.bare.result c.replace-level.result
    c.push-result.new.self c.replace-level.ensures.after c.replace-level.ensures.before c.replace-bare.ensures.after
    c.args.edit.op c.args.edit.operand made c.push-result.ensures.readable)
    c.push-result.ensures.ok

pub returns-clause-err : goal.returns-clause-err
returns-clause-err c =
    on_err_weaker c.push-result.result
    (λ same. unedited c.args.key.now c.args.levels.now c.replace-level.new.self c.replace-bare.new.self c.bare.result c.replace-level.result
    c.push-result.new.self c.replace-level.ensures.after c.replace-level.ensures.before c.replace-bare.ensures.after
    c.shows_rising.ensures c.requires.boundary same)
    c.push-result.ensures.err
