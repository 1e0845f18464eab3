use Rattle.std.proofs.Common.{◌≡◌, ℕ, List, [], ◌∷◌, is_lt, refl, sym, ap, subst, ◌∙◌, length}
use Rattle.std.proofs.lemmas.List.{length-set}
use Rattle.std.specs.List.{filter}
use Rattle.key_bytes.specs.Keys.{key_le, within}
use Rattle.key_map.proofs.Spans.{range_contains-from}
use Rattle.range_map.specs.Places.{laid_out, AreInside}
use Rattle.range_map.proofs.Held.{IsRising, rising_rest}
use Rattle.range_map.proofs.Placed.{laid_out-set_all, set_all}
use Rattle.range_map.proofs.Spans.{before, before_within, before_none, inside_filter, rising_filter, set_first}
use Rattle.range_map.proofs.levels.change_between.Goals as goal

pub loop-boundary-init : goal.loop-boundary-init
loop-boundary-init g c =
    let begin = c.args.begin.now in let end = c.args.end.now in let len = length c.args.levels.now.items in
    let places = c.args.places.now.entries in let from = filter (λ e. key_le begin e.0) places in
    let span : c.into_iter-boundary-iterator.result ≡ from =
    c.into_iter-boundary-iterator.ensures.into_iter_gives
    ∙ c.range-boundary-items.ensures.between tt
    ∙ (λ i. filter (λ e. range_contains-from begin e.0 i) places) in
    record {
      rising = subst IsRising (sym span) (rising_filter (key_le begin) places c.requires.rising);
      inside = subst (AreInside len) (sym span) (inside_filter (λ e. key_le begin e.0) len places c.requires.inside);
      same_length = refl;
      changed = λ base. ap (λ es. set_all base (g.C.Change.changed c.args.change.now) es c.args.levels.now.items)
          (ap (before end) span ∙ before_within begin end places);
    }

pub loop-boundary-preserved : goal.loop-boundary-preserved
loop-boundary-preserved g c =
    let changed = g.C.Change.changed c.args.change.now in let end = c.args.end.now in let at = c.loop-boundary in
    let levels = at.levels.items in let place = c.in-Some.place.now in let rest = c.next.new.self in
    let e : List ℕ × ℕ = (c.in-Some.boundary.now, place) in let steps = (c.in-Some.ensures {u = tt}).steps in
    let new = c.change.new.level in let same = length-set levels place new in
    let below = sym (ap is_lt c.cmp.ensures) ∙ sym c.is_lt.ensures ∙ c.if-not-is_lt.false in
    let inside : AreInside (length levels) (e ∷ rest) = subst (AreInside (length levels)) steps at.invariant.inside in
    record {
      rising = rising_rest e.0 e.1 rest (subst IsRising steps at.invariant.rising);
      inside = subst (λ n. AreInside n rest) (sym same) inside.1;
      same_length = same ∙ at.invariant.same_length;
      changed = λ base. set_first base end changed e rest at.boundary-iterator levels c.index_mut.result.now new steps below inside.0
          c.index_mut.ensures.value c.change.ensures ∙ at.invariant.changed base;
    }

pub returns-then-not-is_lt-clause-changed : goal.returns-then-not-is_lt-clause-changed
returns-then-not-is_lt-clause-changed g c base =
    let changed = g.C.Change.changed c.args.change.now in let end = c.args.end.now in let places = c.args.places.now.entries in
    let e : List ℕ × ℕ = (c.in-Some.boundary.now, c.in-Some.place.now) in let steps = (c.in-Some.ensures {u = tt}).steps in
    let past = sym (ap is_lt c.cmp.ensures) ∙ sym c.is_lt.ensures ∙ c.if-not-is_lt.true in
    let none : before end c.loop-boundary.boundary-iterator ≡ [] =
    ap (before end) steps ∙ before_none end e c.next.new.self (subst IsRising steps c.loop-boundary.invariant.rising) past in
    ap (λ items. laid_out base items places)
    (sym (ap (λ es. set_all base changed es c.loop-boundary.levels.items) none) ∙ c.loop-boundary.invariant.changed base)
    ∙ laid_out-set_all base (within c.args.begin.now end) changed places c.args.levels.now.items c.requires.apart c.requires.inside

pub returns-clause-changed : goal.returns-clause-changed
returns-clause-changed g c base =
    let changed = g.C.Change.changed c.args.change.now in let end = c.args.end.now in let places = c.args.places.now.entries in
    let none = ap (before end) (c.in-None.ensures {u = tt}).steps.0 in
    ap (λ items. laid_out base items places)
    (sym (ap (λ es. set_all base changed es c.loop-boundary.levels.items) none) ∙ c.loop-boundary.invariant.changed base)
    ∙ laid_out-set_all base (within c.args.begin.now end) changed places c.args.levels.now.items c.requires.apart c.requires.inside
