use Rattle.std.proofs.Common.{◌≡◌, ◌≢◌, ℕ, None, Some, slice_index_or, sym, subst, ◌∙◌}
use Rattle.version_store.specs.declared.values.Values.TheVariants.{Nothing}
use Rattle.version_store.proofs.Adds.{Adds-found, Adds-missing}
use Rattle.version_store.proofs.chains.add_key.Goals as goal

-- the key had no place
pub returns-then-place-vacant-clause-adds : goal.returns-then-place-vacant-clause-adds
returns-then-place-vacant-clause-adds c =
    let slots = c.args.nodes.now.slots in let slots' = c.insert_reserved.new.self.slots in
    let vacant = c.vacant_key-vacant in let added = c.in_ok-place.ensures {u = tt} in let put = c.insert_reserved.ensures in
    let same : c.insert_reserved.result ≡ vacant.result = put.key ∙ sym vacant.ensures.value in
    Adds-missing slots c.args.next c.args.tree.now.entries c.place_or_add.new.tree.entries
    c.in_ok-copy.field-0 vacant.result c.requires.sound vacant.ensures.vacant added.ok.0 added.rising slots' (sym added.place ∙ c.if-place-vacant.true)
    (subst (λ at. slice_index_or slots' at None ≡ Some Nothing) same put.updates.changed)
    (subst (λ place. (at : ℕ) → at ≢ place → slice_index_or slots' at None ≡ slice_index_or slots at None) same put.updates.others)

-- the key had a place
pub returns-else-place-vacant-clause-adds : goal.returns-else-place-vacant-clause-adds
returns-else-place-vacant-clause-adds c =
    let added = c.in_ok-place.ensures {u = tt} in
    Adds-found c.args.nodes.now.slots c.args.next c.args.tree.now.entries c.place_or_add.new.tree.entries
    c.in_ok-copy.field-0 c.vacant_key-vacant.result c.requires.sound c.vacant_key-vacant.ensures.vacant added.ok.0 added.rising
    (λ same. c.if-place-vacant.false (added.place ∙ same))
