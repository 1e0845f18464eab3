use Rattle.std.proofs.Common.{◌≡◌, ℕ, List, Option, None, Some, length, sym, ap, ◌∙◌, arith}
use Rattle.std.proofs.lemmas.List.{get_or_default}
use Rattle.std.specs.BTreeMap.{is_at}
use Rattle.std.specs.List.{filter}
use Rattle.std.specs.Map.{keys_of}
use Rattle.std.specs.Map.Iter.{TakesFirst, deref_pair}
use Rattle.std.specs.Option.{option_map}
use denote.Bor.{Bor}
use Rattle.key_bytes.specs.Keys.{key_cmp, key_lt}
use Rattle.key_map.specs.Ends.{first}
use Rattle.range_map.specs.Boundaries.{boundaries_of, held}
use Rattle.range_map.proofs.Around.{above-there, above-other, above-none, same_text}
use Rattle.range_map.proofs.Held.{held-at}
use Rattle.range_map.proofs.Placed.{Places, inside_found, lookup-laid_out}
use Rattle.range_map.proofs.Spans.{rising-laid_out}
use Rattle.range_map.proofs.tree.Tree.around.Goals as goal

-- the boundary of the place that was taken is the first one
first_boundary : (es rest : Places) (taken : Option (Bor (List ℕ) × Bor ℕ)) → TakesFirst deref_pair es taken rest
    → option_map (λ pair. pair.0.now) taken ≡ first (keys_of es)
first_boundary es rest None step = ap (λ es. first (keys_of es)) (sym step.0)
first_boundary es rest (Some pair) step = ap (λ es. first (keys_of es)) (sym step)

pub index-requires : goal.index-requires
index-requires g c =
    let inside = c.self.inside in
    let key = c.args.key.now in
    let there = above-there key inside.places.entries c.range-span.result (c.range-span.ensures.between tt) inside.base inside.levels.items
    (c.in-Some.boundary.now, c.in-Some.place.now) c.next.new.self c.self.invariant.rising (c.in-Some.ensures {u = tt}).steps
    (same_text key c.in-Some.boundary.now ∙ sym (c.if-eq.ensures {u = tt})) in
    let ok = inside.levels.ok in
    let found = inside_found (is_at (key_cmp key)) (length inside.levels.items) c.in-Some.place.now inside.places.entries
    c.self.invariant.inside there.0 in
    omega (arith, ok, found)

pub returns-then-eq-clause-at : goal.returns-then-eq-clause-at
returns-then-eq-clause-at g c =
    let inside = c.self.inside in
    let key = c.args.key.now in
    let test = is_at (key_cmp key) in
    let there = above-there key inside.places.entries c.range-span.result (c.range-span.ensures.between tt) inside.base inside.levels.items
    (c.in-Some.boundary.now, c.in-Some.place.now) c.next.new.self c.self.invariant.rising (c.in-Some.ensures {u = tt}).steps
    (same_text key c.in-Some.boundary.now ∙ sym (c.if-eq.ensures {u = tt})) in
    c.index.ensures
    ∙ get_or_default inside.levels.items c.in-Some.place.now c.index.result.now inside.base
    (inside_found test (length inside.levels.items) c.in-Some.place.now inside.places.entries c.self.invariant.inside there.0)
    ∙ sym (held-at inside.base _ _ key
    (rising-laid_out inside.base inside.levels.items inside.places.entries c.self.invariant.rising)
    (lookup-laid_out inside.base test inside.levels.items inside.places.entries
    ∙ ap (option_map _) there.0))
    ∙ ap (λ boundaries. held boundaries key) c.self.view_is

pub returns-then-eq-clause-next : goal.returns-then-eq-clause-next
returns-then-eq-clause-next g c =
    let inside = c.self.inside in
    let key = c.args.key.now in
    let there = above-there key inside.places.entries c.range-span.result (c.range-span.ensures.between tt) inside.base inside.levels.items
    (c.in-Some.boundary.now, c.in-Some.place.now) c.next.new.self c.self.invariant.rising (c.in-Some.ensures {u = tt}).steps
    (same_text key c.in-Some.boundary.now ∙ sym (c.if-eq.ensures {u = tt})) in
    c.boundary_of.ensures
    ∙ first_boundary c.next.new.self c.next-then-eq.new.self c.next-then-eq.result c.next-then-eq.ensures.steps
    ∙ there.1
    ∙ ap (λ boundaries. first (filter (key_lt key) (boundaries_of boundaries))) c.self.view_is

pub returns-else-eq-clause-next : goal.returns-else-eq-clause-next
returns-else-eq-clause-next g c =
    let inside = c.self.inside in
    let key = c.args.key.now in
    above-other key inside.places.entries c.range-span.result (c.range-span.ensures.between tt) inside.base inside.levels.items
    (c.in-Some.boundary.now, c.in-Some.place.now) c.next.new.self (c.in-Some.ensures {u = tt}).steps
    (same_text key c.in-Some.boundary.now ∙ sym (c.if-eq.ensures {u = tt}))
    ∙ ap (λ boundaries. first (filter (key_lt key) (boundaries_of boundaries))) c.self.view_is

pub returns-in_default-clause-next : goal.returns-in_default-clause-next
returns-in_default-clause-next g c =
    let inside = c.self.inside in
    let key = c.args.key.now in
    above-none key inside.places.entries c.range-span.result (c.range-span.ensures.between tt) inside.base inside.levels.items
    (c.in_default.ensures {u = tt}).steps.0
    ∙ ap (λ boundaries. first (filter (key_lt key) (boundaries_of boundaries))) c.self.view_is
