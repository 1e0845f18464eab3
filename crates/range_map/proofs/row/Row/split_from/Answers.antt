use Rattle.std.proofs.Common.{◌+◌, if◌then◌else◌, sym, ap, subst, ◌∙◌}
use Rattle.std.specs.BTreeMap.{insert_entry}
use Rattle.key_bytes.specs.Keys.{key_cmp, key_le}
use Rattle.range_map.specs.Boundaries.{held_from}
use Rattle.range_map.specs.Halves.{count_while}
use Rattle.range_map.proofs.Held.{IsRising}
use Rattle.range_map.proofs.Lined.{came_in, rising_inserted}
use Rattle.range_map.proofs.Walked.{counted_itself}
use Rattle.range_map.proofs.row.Row.split_from.Goals as goal

pub invariant_of-self-2 : goal.invariant_of-self-2
invariant_of-self-2 g c =
    let es = c.args.self.now in let key = c.args.key.now in let spot = c.spot_from-up_to in
    let level = g.T.Spread.spread (held_from c.args.base.now es key) in
    let came = came_in c.insert.new.self.items c.self.inside.boundaries.items es spot.result.0 c.in_ok-copy.field-0 key c.spread-level.result level
    (c.in_ok-insert.ensures {u = tt}).items c.self.view_is spot.ensures.count (c.in_ok-copy.ensures {u = tt})
    (c.spread-level.ensures ∙ ap g.T.Spread.spread (c.last_of.ensures key spot.ensures.count))
    (sym spot.ensures.is_boundary ∙ c.if-is_boundary.false) in
    subst IsRising (sym came) (rising_inserted key level es spot.ensures.rising)

pub returns-clause-ok : goal.returns-clause-ok
returns-clause-ok g c =
    let es = c.args.self.now in let key = c.args.key.now in let spot = c.spot_from-up_to in
    let level = g.T.Spread.spread (held_from c.args.base.now es key) in
    let other = sym spot.ensures.is_boundary ∙ c.if-is_boundary.false in
    came_in c.insert.new.self.items c.self.inside.boundaries.items es spot.result.0 c.in_ok-copy.field-0 key c.spread-level.result level
    (c.in_ok-insert.ensures {u = tt}).items c.self.view_is spot.ensures.count (c.in_ok-copy.ensures {u = tt})
    (c.spread-level.ensures ∙ ap g.T.Spread.spread (c.last_of.ensures key spot.ensures.count)) other
    ∙ sym (ap (λ t. if t then es else insert_entry key_cmp es key level) other)

pub returns-clause-count : goal.returns-clause-count
returns-clause-count g c =
    let es = c.args.self.now in let key = c.args.key.now in let spot = c.spot_from-up_to in
    let level = g.T.Spread.spread (held_from c.args.base.now es key) in
    let came = came_in c.insert.new.self.items c.self.inside.boundaries.items es spot.result.0 c.in_ok-copy.field-0 key c.spread-level.result level
    (c.in_ok-insert.ensures {u = tt}).items c.self.view_is spot.ensures.count (c.in_ok-copy.ensures {u = tt})
    (c.spread-level.ensures ∙ ap g.T.Spread.spread (c.last_of.ensures key spot.ensures.count))
    (sym spot.ensures.is_boundary ∙ c.if-is_boundary.false) in
    ap (λ n. n + 1) spot.ensures.count
    ∙ sym (counted_itself key level es (sym spot.ensures.is_boundary ∙ c.if-is_boundary.false))
    ∙ ap (count_while (λ boundary. key_le boundary key)) (sym came)

pub returns-clause-rising : goal.returns-clause-rising
returns-clause-rising g c =
    let es = c.args.self.now in let key = c.args.key.now in let spot = c.spot_from-up_to in
    let level = g.T.Spread.spread (held_from c.args.base.now es key) in
    let came = came_in c.insert.new.self.items c.self.inside.boundaries.items es spot.result.0 c.in_ok-copy.field-0 key c.spread-level.result level
    (c.in_ok-insert.ensures {u = tt}).items c.self.view_is spot.ensures.count (c.in_ok-copy.ensures {u = tt})
    (c.spread-level.ensures ∙ ap g.T.Spread.spread (c.last_of.ensures key spot.ensures.count))
    (sym spot.ensures.is_boundary ∙ c.if-is_boundary.false) in
    subst IsRising (sym came) (rising_inserted key level es spot.ensures.rising)
