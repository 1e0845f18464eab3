use Rattle.std.proofs.Common.{refl, ap, ◌∙◌}
use Rattle.std.specs.BTreeMap.{is_at}
use Rattle.key_bytes.specs.Keys.{key_cmp}
use Rattle.range_map.specs.Boundaries.{is_boundary}
use Rattle.range_map.proofs.Bounded.{boundary_changed}
use Rattle.write_map.proofs.Edited.{hidden_back}
use Rattle.write_map.proofs.changing.hide_again.Goals as goal

pub replace-before-requires : goal.replace-before-requires
replace-before-requires c =
    let key = c.args.key.now in
    ap (is_boundary key) c.replace-taken.ensures.after ∙ boundary_changed key (is_at (key_cmp key)) _ c.args.levels.now ∙ c.requires

pub returns-clause-given : goal.returns-clause-given
returns-clause-given c =
    hidden_back c.args.key.now c.args.levels.now c.replace-taken.new.self c.replace-before.new.self _ c.replace-taken.result _
    c.replace-taken.ensures.after c.replace-taken.ensures.before c.replace-before.ensures.after refl
