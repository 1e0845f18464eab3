use Rattle.std.proofs.Common.{◌≡◌, true, sym, ap, ◌∙◌, arith}
use Rattle.std.specs.BTreeMap.{is_at}
use Rattle.std.specs.Ordering.{is_lt}
use Rattle.key_bytes.specs.Keys.{key_cmp, key_le, key_lt}
use Rattle.range_map.specs.Boundaries.{changed, held, is_boundary, with_base}
use Rattle.range_map.proofs.Bounded.{begin_made}
use Rattle.range_map.proofs.Lined.{boundary_counted}
use Rattle.range_map.proofs.Searched.{count_inside}
use Rattle.range_map.proofs.row.Row.put.Goals as goal

pub replace_last_of-requires-clause-some : goal.replace_last_of-requires-clause-some
replace_last_of-requires-clause-some g c =
    let key = c.args.key.now in let split = c.in_ok-up_to.ensures in
    let lower : key_lt key c.args.next.now ≡ true = sym (ap is_lt c.cmp.ensures) ∙ sym c.is_lt.ensures ∙ c.if-is_lt.true in
    let among = ap (is_boundary key) split.ok ∙ begin_made g.T.Spread.spread key c.args.next.now (with_base c.args.base.now c.args.self.now) in
    boundary_counted key c.split_both.new.self c.in_ok-up_to.up_to split.rising among (split.count lower)

pub replace_last_of-requires-clause-inside : goal.replace_last_of-requires-clause-inside
replace_last_of-requires-clause-inside g c =
    let key = c.args.key.now in let es = c.split_both.new.self in
    let lower : key_lt key c.args.next.now ≡ true = sym (ap is_lt c.cmp.ensures) ∙ sym c.is_lt.ensures ∙ c.if-is_lt.true in
    let counted = c.in_ok-up_to.ensures.count lower in
    let inside = count_inside (λ boundary. key_le boundary key) es in
    omega (arith, counted, inside)

pub replace-requires : goal.replace-requires
replace-requires g c =
    let key = c.args.key.now in
    ap (is_boundary key) c.in_ok-up_to.ensures.ok
    ∙ begin_made g.T.Spread.spread key c.args.next.now (with_base c.args.base.now c.args.self.now)

pub returns-then-is_lt-clause-before : goal.returns-then-is_lt-clause-before
returns-then-is_lt-clause-before g c =
    let key = c.args.key.now in let split = c.in_ok-up_to.ensures in
    let lower : key_lt key c.args.next.now ≡ true = sym (ap is_lt c.cmp.ensures) ∙ sym c.is_lt.ensures ∙ c.if-is_lt.true in
    c.replace_last_of.ensures.before c.args.base.now key (split.count lower) ∙ ap (λ boundaries. held boundaries key) split.ok

pub returns-then-is_lt-clause-ok : goal.returns-then-is_lt-clause-ok
returns-then-is_lt-clause-ok g c =
    let key = c.args.key.now in let split = c.in_ok-up_to.ensures in
    let lower : key_lt key c.args.next.now ≡ true = sym (ap is_lt c.cmp.ensures) ∙ sym c.is_lt.ensures ∙ c.if-is_lt.true in
    let among = ap (is_boundary key) split.ok ∙ begin_made g.T.Spread.spread key c.args.next.now (with_base c.args.base.now c.args.self.now) in
    ap (with_base c.args.base.now) (c.replace_last_of.ensures.after key among (split.count lower))
    ∙ ap (changed (is_at (key_cmp key)) (λ _. c.args.level)) split.ok

pub returns-clause-before : goal.returns-clause-before
returns-clause-before g c =
    c.replace.ensures.before c.args.base.now ∙ ap (λ boundaries. held boundaries c.args.key.now) c.in_ok-up_to.ensures.ok

pub returns-clause-ok : goal.returns-clause-ok
returns-clause-ok g c =
    ap (with_base c.args.base.now) c.replace.ensures.after
    ∙ ap (changed (is_at (key_cmp c.args.key.now)) (λ _. c.args.level)) c.in_ok-up_to.ensures.ok
