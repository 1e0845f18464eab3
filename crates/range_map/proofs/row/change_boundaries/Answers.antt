use Rattle.std.proofs.Common.{◌≡◌, ◌+◌, ◌<◌, ◌++◌, List, ℕ, suc, true, false, length, get_or, take, drop, is_lt, sym, ap, subst, ◌∙◌, arith}
use Rattle.std.proofs.Math.ListN.{set}
use Rattle.std.proofs.lemmas.List.{get_or_default}
use Rattle.key_bytes.specs.Keys.{key_lt}
use Rattle.range_map.specs.Boundaries.{changed_entries}
use Rattle.range_map.specs.Halves.{count_while}
use Rattle.range_map.proofs.Lined.{changed_from, changed_next, changed_past, rising_set}
use Rattle.range_map.proofs.row.change_boundaries.Goals as goal

pub loop-at-init : goal.loop-at-init
loop-at-init g c =
    let begin = c.args.begin.now in
    record {
      rising = c.requires;
      changed = changed_from begin c.args.end.now (g.C.Change.changed c.args.change.now) c.args.boundaries.now.items c.below-at.result c.requires
          (c.below-at.ensures.count ∙ ap (count_while (λ boundary. key_lt boundary begin)) c.as_slice.ensures.value);
    }

pub returns-then-not-is_lt : goal.returns-then-not-is_lt
returns-then-not-is_lt g c =
    let end = c.args.end.now in let at = c.loop-at in let items = at.boundaries.items in let d = c.index.result.now in
    let inside : at.at < length items = omega (arith, c.loop-at-test.true, c.len.ensures) in
    let past : key_lt (get_or items at.at d).0 end ≡ false =
    sym (ap (λ e. key_lt e.0 end) c.index.ensures) ∙ sym (ap is_lt c.cmp.ensures) ∙ sym c.is_lt.ensures ∙ c.if-not-is_lt.true in
    changed_past c.args.begin.now end (g.C.Change.changed c.args.change.now) items at.at d inside at.invariant.rising past
    ∙ at.invariant.changed

pub loop-at-preserved : goal.loop-at-preserved
loop-at-preserved g c =
    let end = c.args.end.now in let f = g.C.Change.changed c.args.change.now in let at = c.loop-at in let items = at.boundaries.items in
    let d = c.index_mut.result.now in let y : List ℕ × g.row.T.Denot = (d.0, c.change.new.level) in
    let inside : at.at < length items = omega (arith, c.loop-at-test.true, c.len.ensures) in
    let below : key_lt (get_or items at.at d).0 end ≡ true =
    ap (λ e. key_lt e.0 end) (get_or_default items at.at d c.index.result.now inside)
    ∙ sym (ap (λ e. key_lt e.0 end) c.index.ensures) ∙ sym (ap is_lt c.cmp.ensures) ∙ sym c.is_lt.ensures ∙ c.if-not-is_lt.false in
    let was = c.index_mut.ensures.value in
    let given = c.change.ensures ∙ ap (λ e. f e.1) was in
    let on : suc at.at ≡ at.at + 1 = omega arith in
    record {
      rising = rising_set items at.at d y inside (ap (λ e. e.0) was) at.invariant.rising;
      changed = subst (λ m. take m (set items at.at y) ++ changed_entries (λ boundary. key_lt boundary end) f (drop m (set items at.at y))
          ≡ take at.at items ++ changed_entries (λ boundary. key_lt boundary end) f (drop at.at items)) on
          (changed_next c.args.begin.now end f items at.at d y inside below (λ i. ((was i).0, given i)))
          ∙ at.invariant.changed;
    }
