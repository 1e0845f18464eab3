use Rattle.std.proofs.Common.{ℕ, List, ◌∷◌, [], ◌++◌, is_ok, if◌then◌else◌, ap, sym, ◌∙◌}
use Rattle.std.specs.BTreeMap.{insert_entry}
use Rattle.key_bytes.specs.Keys.{key_cmp}
use Rattle.range_map.specs.Boundaries.{Boundaries, with_boundary}
use Rattle.range_map.proofs.Bounded.{with_boundary-new}
use Rattle.range_map.proofs.Placed.{laid_out-added, places_added}
use Rattle.range_map.proofs.tree.Tree.split.Goals as goal

-- with an entry more
abbrev with_inserted : {X : Type 0} → Boundaries X → List ℕ → X → Boundaries X
with_inserted boundaries key level = record { base = boundaries.base; entries = insert_entry key_cmp boundaries.entries key level }

pub invariant_of-self-2 : goal.invariant_of-self-2
invariant_of-self-2 g c =
    let level = c.in-Some.level in
    places_added c.in_ok-copy.field-0 level c.self.inside.levels.items c.push.new.self.items c.self.inside.places.entries
    c.insert.new.self.entries c.len.result
    (c.push.ensures.items
    ∙ ap (λ r. if is_ok r then c.reserve.new.self.items ++ level ∷ [] else c.reserve.new.self.items) c.unwrap.ensures
    ∙ ap (λ items. items ++ level ∷ []) c.reserve.ensures.items)
    (c.len.ensures ∙ c.reserve.ensures.len ∙ c.self.inside.levels.ok.0)
    (c.in_ok-insert.ensures {u = tt}).entries c.self.invariant (c.in_ok-insert.ensures {u = tt}).ordered

pub returns-clause-ok : goal.returns-clause-ok
returns-clause-ok g c =
    let inside = c.self.inside in
    let level = c.in-Some.level in
    let key = c.args.key.now in
    let found = c.in-Some.ensures {u = tt} in
    ap (λ entries. record { base = inside.base; entries = entries })
    (laid_out-added c.in_ok-copy.field-0 level inside.levels.items c.push.new.self.items inside.places.entries
    c.insert.new.self.entries c.len.result
    (c.push.ensures.items
    ∙ ap (λ r. if is_ok r then c.reserve.new.self.items ++ level ∷ [] else c.reserve.new.self.items) c.unwrap.ensures
    ∙ ap (λ items. items ++ level ∷ []) c.reserve.ensures.items)
    (c.len.ensures ∙ c.reserve.ensures.len ∙ inside.levels.ok.0)
    (c.in_ok-insert.ensures {u = tt}).entries c.self.invariant inside.base)
    ∙ (λ i. with_inserted (c.self.view_is i) (c.in_ok-copy.ensures i) level)
    ∙ sym (with_boundary-new key level c.args.self.now found.0)
    ∙ ap (λ level. with_boundary key level c.args.self.now) found.1
