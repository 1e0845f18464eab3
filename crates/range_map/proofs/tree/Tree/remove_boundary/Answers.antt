use Rattle.std.proofs.Common.{length, sym, ap, ◌∙◌}
use Rattle.std.specs.BTreeMap.{is_at}
use Rattle.key_bytes.specs.Keys.{key_cmp}
use Rattle.range_map.specs.Boundaries.{without_boundary}
use Rattle.range_map.specs.Places.{laid_out}
use Rattle.range_map.proofs.Placed.{inside_found, laid_out-left, laid_out-removed, places_left}
use Rattle.range_map.proofs.tree.Tree.remove_boundary.Goals as goal

pub pop_last-requires : goal.pop_last-requires
pop_last-requires g c =
    inside_found (is_at (key_cmp c.args.key.now)) (length c.self.inside.levels.items) c.in-Some.place c.self.inside.places.entries
    c.self.invariant.inside (sym (c.in-Some.ensures {u = tt}).value)

pub invariant_of-self : goal.invariant_of-self
invariant_of-self g c =
    places_left (is_at (key_cmp c.args.key.now)) c.self.inside.levels.items c.pop_last.new.levels.items c.self.inside.places.entries
    c.remove.new.self.entries c.in-Some.place c.pop_last.ensures
    (c.in-Some.ensures {u = tt}).entries (sym (c.in-Some.ensures {u = tt}).value) c.self.invariant (c.in-Some.ensures {u = tt}).ordered

pub returns-in-Some : goal.returns-in-Some
returns-in-Some g c =
    ap (λ entries. record { base = c.self.inside.base; entries = entries })
    (laid_out-left (is_at (key_cmp c.args.key.now)) c.self.inside.levels.items c.pop_last.new.levels.items c.self.inside.places.entries
    c.remove.new.self.entries c.in-Some.place c.pop_last.ensures
    (c.in-Some.ensures {u = tt}).entries (sym (c.in-Some.ensures {u = tt}).value) c.self.invariant c.self.inside.base)
    ∙ ap (without_boundary c.args.key.now) c.self.view_is

pub returns-in_default : goal.returns-in_default
returns-in_default g c =
    ap (λ entries. record { base = c.self.inside.base; entries = entries })
    (ap (laid_out c.self.inside.base c.self.inside.levels.items) (c.in_default.ensures {u = tt}).entries
    ∙ laid_out-removed (is_at (key_cmp c.args.key.now)) c.self.inside.base c.self.inside.levels.items c.self.inside.places.entries)
    ∙ ap (without_boundary c.args.key.now) c.self.view_is
