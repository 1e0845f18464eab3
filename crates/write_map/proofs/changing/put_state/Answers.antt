use Rattle.std.proofs.Common.{refl, ap, ◌∙◌}
use Rattle.std.specs.BTreeMap.{is_at}
use Rattle.key_bytes.specs.Keys.{key_cmp}
use Rattle.range_map.specs.Boundaries.{is_boundary, split_both}
use Rattle.range_map.proofs.Bounded.{begin_made, boundary_changed}
use Rattle.write_map.specs.Levels.{spread}
use Rattle.write_map.proofs.Edited.{hidden_again}
use Rattle.write_map.proofs.changing.put_state.Goals as goal

pub hide_again-requires : goal.hide_again-requires
hide_again-requires c =
    let key = c.args.key.now in let split = split_both spread key c.args.next.now c.args.levels.now in
    ap (is_boundary key) c.in_ok-before.ensures.ok
    ∙ boundary_changed key (is_at (key_cmp key)) _ split
    ∙ begin_made spread key c.args.next.now c.args.levels.now

pub returns-then-before-clause-ok : goal.returns-then-before-clause-ok
returns-then-before-clause-ok c =
    let key = c.args.key.now in let next = c.args.next.now in let levels = c.args.levels.now in let put = c.in_ok-before.ensures in
    hidden_again key c.args.state (split_both spread key next levels) c.put.new.self c.hide_again.new.levels _ c.in_ok-before.before
    c.shows_rising.ensures (begin_made spread key next levels) refl put.ok put.before c.if-before.true c.hide_again.ensures.given
