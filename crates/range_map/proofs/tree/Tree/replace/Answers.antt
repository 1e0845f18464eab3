use Rattle.std.proofs.Common.{◌≡◌, Option, Some, None, is_some, length, option_copied, refl, sym, ap, ◌∙◌, arith}
use Rattle.std.proofs.Math.ListN.{set}
use Rattle.std.proofs.lemmas.List.{get_or_default}
use Rattle.std.specs.BTreeMap.{is_at}
use Rattle.std.specs.Option.{option_map}
use denote.Bor.{Bor}
use Rattle.key_bytes.specs.Keys.{key_cmp}
use Rattle.range_map.specs.Boundaries.{held, is_boundary, changed}
use Rattle.range_map.specs.Places.{laid_out}
use Rattle.range_map.proofs.Held.{held-at}
use Rattle.range_map.proofs.Placed.{inside_found, laid_out-set, lookup-laid_out}
use Rattle.range_map.proofs.Spans.{is_among-laid_out, rising-laid_out}
use Rattle.range_map.proofs.tree.Tree.replace.Goals as goal

is_some-copied : {A : Type 0} (o : Option (Bor A)) → is_some (option_copied o) ≡ is_some o
is_some-copied None = refl
is_some-copied (Some x) = refl

pub unwrap-place-requires : goal.unwrap-place-requires
unwrap-place-requires g c =
    sym (is_some-copied c.get.result)
    ∙ ap is_some c.get.ensures.value
    ∙ sym (is_among-laid_out c.self.inside.base c.self.inside.levels.items c.args.key.now c.self.inside.places.entries)
    ∙ ap (is_boundary c.args.key.now) c.self.view_is
    ∙ c.requires

pub index_mut-requires : goal.index_mut-requires
index_mut-requires g c =
    let ok = c.self.inside.levels.ok in
    let inside = inside_found (is_at (key_cmp c.args.key.now)) (length c.self.inside.levels.items) c.unwrap-place.result.now
    c.self.inside.places.entries c.self.invariant.inside (sym c.get.ensures.value ∙ ap option_copied c.unwrap-place.ensures) in
    omega (arith, ok, inside)

pub returns-clause-before : goal.returns-clause-before
returns-clause-before g c =
    let found = sym c.get.ensures.value ∙ ap option_copied c.unwrap-place.ensures in
    let test = is_at (key_cmp c.args.key.now) in
    let inside = inside_found test (length c.self.inside.levels.items) c.unwrap-place.result.now
    c.self.inside.places.entries c.self.invariant.inside found in
    c.replace.ensures.value
    ∙ c.index_mut.ensures.value
    ∙ get_or_default c.self.inside.levels.items c.unwrap-place.result.now c.index_mut.result.now c.self.inside.base inside
    ∙ sym (held-at c.self.inside.base _ _ c.args.key.now
    (rising-laid_out c.self.inside.base c.self.inside.levels.items c.self.inside.places.entries c.self.invariant.rising)
    (lookup-laid_out c.self.inside.base test c.self.inside.levels.items c.self.inside.places.entries
    ∙ ap (option_map _) found))
    ∙ ap (λ boundaries. held boundaries c.args.key.now) c.self.view_is

pub returns-clause-after : goal.returns-clause-after
returns-clause-after g c =
    let inside = c.self.inside in
    let found = sym c.get.ensures.value ∙ ap option_copied c.unwrap-place.ensures in
    let test = is_at (key_cmp c.args.key.now) in
    ap (λ entries. record { base = inside.base; entries = entries })
    (ap (λ x. laid_out inside.base (set inside.levels.items c.unwrap-place.result.now x) inside.places.entries) c.replace.ensures.after
    ∙ laid_out-set inside.base c.args.key.now c.args.level inside.levels.items c.unwrap-place.result.now inside.places.entries
    c.self.invariant.rising c.self.invariant.apart
    (inside_found test (length inside.levels.items) c.unwrap-place.result.now inside.places.entries c.self.invariant.inside found) found)
    ∙ ap (changed test (λ _. c.args.level)) c.self.view_is
