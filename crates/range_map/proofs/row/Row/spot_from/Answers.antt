use Rattle.std.proofs.Common.{◌+◌, ◌<◌, length, drop, is_gt, is_eq, refl, sym, ap, subst, ◌∙◌, arith}
use Rattle.key_bytes.specs.Keys.{key_cmp}
use Rattle.range_map.proofs.Held.{IsRising, rising_rest}
use Rattle.range_map.proofs.Lined.{rising_drop}
use Rattle.range_map.proofs.Searched.{left_from, spot_here, spot_past, spot_before}
use Rattle.range_map.proofs.Walked.{walk_on}
use Rattle.range_map.proofs.row.Row.spot_from.Goals as goal

pub loop-at-init : goal.loop-at-init
loop-at-init g c =
    let all = c.args.self.now in let from = c.args.from in
    let left = walk_on c.args.key.now all from c.requires in
    record { inside = left.0; counted = left.1; among = left.2; rising = rising_drop from all (subst IsRising c.self.view_is c.self.invariant) }

pub returns-then-is_eq-clause-count : goal.returns-then-is_eq-clause-count
returns-then-is_eq-clause-count g c =
    let at = c.loop-at in let key = c.args.key.now in let all = c.args.self.now in let e = c.index.result.now in
    let inside : at.at < length c.self.inside.boundaries.items = omega (arith, c.loop-at-test.true, c.len.ensures) in
    let begins = left_from c.self.inside.boundaries.items all at.at e c.self.view_is inside c.index.ensures in
    let found = spot_here key (drop at.at all) (drop (at.at + 1) all) e begins at.invariant.rising (key_cmp e.0 key) refl
    (sym (ap is_eq c.cmp-order.ensures) ∙ sym c.is_eq.ensures ∙ c.if-is_eq.true) in
    sym (ap (λ n. at.at + n) found.0) ∙ at.invariant.counted

pub returns-then-is_eq-clause-is_boundary : goal.returns-then-is_eq-clause-is_boundary
returns-then-is_eq-clause-is_boundary g c =
    let at = c.loop-at in let key = c.args.key.now in let all = c.args.self.now in let e = c.index.result.now in
    let inside : at.at < length c.self.inside.boundaries.items = omega (arith, c.loop-at-test.true, c.len.ensures) in
    let begins = left_from c.self.inside.boundaries.items all at.at e c.self.view_is inside c.index.ensures in
    let found = spot_here key (drop at.at all) (drop (at.at + 1) all) e begins at.invariant.rising (key_cmp e.0 key) refl
    (sym (ap is_eq c.cmp-order.ensures) ∙ sym c.is_eq.ensures ∙ c.if-is_eq.true) in
    sym found.1 ∙ at.invariant.among

pub returns-then-is_gt-clause-count : goal.returns-then-is_gt-clause-count
returns-then-is_gt-clause-count g c =
    let at = c.loop-at in let key = c.args.key.now in let all = c.args.self.now in let e = c.index.result.now in
    let inside : at.at < length c.self.inside.boundaries.items = omega (arith, c.loop-at-test.true, c.len.ensures) in
    let begins = left_from c.self.inside.boundaries.items all at.at e c.self.view_is inside c.index.ensures in
    let found = spot_past key (drop at.at all) (drop (at.at + 1) all) e begins at.invariant.rising (key_cmp e.0 key) refl
    (sym (ap is_gt c.cmp-order.ensures) ∙ sym c.is_gt.ensures ∙ c.if-is_gt.true) in
    (omega (arith, found.0, at.invariant.counted))

pub returns-then-is_gt-clause-is_boundary : goal.returns-then-is_gt-clause-is_boundary
returns-then-is_gt-clause-is_boundary g c =
    let at = c.loop-at in let key = c.args.key.now in let all = c.args.self.now in let e = c.index.result.now in
    let inside : at.at < length c.self.inside.boundaries.items = omega (arith, c.loop-at-test.true, c.len.ensures) in
    let begins = left_from c.self.inside.boundaries.items all at.at e c.self.view_is inside c.index.ensures in
    let found = spot_past key (drop at.at all) (drop (at.at + 1) all) e begins at.invariant.rising (key_cmp e.0 key) refl
    (sym (ap is_gt c.cmp-order.ensures) ∙ sym c.is_gt.ensures ∙ c.if-is_gt.true) in
    sym found.1 ∙ at.invariant.among

pub loop-at-preserved : goal.loop-at-preserved
loop-at-preserved g c =
    let at = c.loop-at in let key = c.args.key.now in let all = c.args.self.now in let e = c.index.result.now in
    let inside : at.at < length c.self.inside.boundaries.items = omega (arith, c.loop-at-test.true, c.len.ensures) in
    let begins = left_from c.self.inside.boundaries.items all at.at e c.self.view_is inside c.index.ensures in
    let found = spot_before key (drop at.at all) (drop (at.at + 1) all) e begins at.invariant.rising (key_cmp e.0 key) refl
    (sym (ap is_eq c.cmp-order.ensures) ∙ sym c.is_eq.ensures ∙ c.if-is_eq.false)
    (sym (ap is_gt c.cmp-order.ensures) ∙ sym c.is_gt.ensures ∙ c.if-is_gt.false) in
    record {
      inside = omega (arith, inside, ap length c.self.view_is);
      counted = omega (arith, found.0, at.invariant.counted);
      among = sym found.1 ∙ at.invariant.among;
      rising = rising_rest e.0 e.1 (drop (at.at + 1) all) (subst IsRising begins at.invariant.rising);
    }
