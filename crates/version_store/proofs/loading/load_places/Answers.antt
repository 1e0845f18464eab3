use Rattle.std.proofs.Common.{◌≡◌, ◌++◌, arith, IfOk, length, take, drop, ap, subst, ◌∙◌}
use Rattle.std.proofs.lemmas.List.{take-append-le, take_all}
use Rattle.std.proofs.lemmas.Result.{IfOk-weaker}
use Rattle.std.specs.BTreeMap.{IsFromIterResult}
use Rattle.key_bytes.specs.Entries.{entries_of}
use Rattle.key_bytes.specs.Keys.{key_cmp}
use Rattle.version_store.specs.Chains.{chains_of}
use Rattle.version_store.specs.Loading.{first_chains, places_from}
use Rattle.version_store.proofs.Loads.{AreNoted-loaded, later-loaded, total-loaded, Sound-loaded, database_of-before_first, database_of-first}
use Rattle.version_store.proofs.loading.load_places.Goals as goal
use Rattle.version_store.proofs.loading.load_places.Goals.{After-sorted}

-- what was placed, over the pairs that came in
chains : (c : After-sorted) → chains_of c.place_all.new.nodes.slots (places_from 0 c.place_all.new.pairs) ≡ first_chains (entries_of c.args.pairs.items)
chains c =
    c.in_ok-place_all.ensures.chains
    ∙ ap (λ pairs. first_chains (entries_of pairs)) c.as_mut_slice.ensures.value

-- the vector has what was left in the slice
left : (c : After-sorted)
    → take c.args.pairs.len (c.place_all.new.pairs ++ drop (length c.place_all.new.pairs) c.args.pairs.items)
    ≡ c.place_all.new.pairs
left c =
    let pairs = c.place_all.new.pairs in let len = c.args.pairs.len in
    let same : length pairs ≡ len = c.in_ok-place_all.ensures.len ∙ c.as_mut_slice.ensures.len in
    take-append-le len pairs _ (omega (arith, same)) ∙ take_all len pairs (omega (arith, same))

-- the tree is that of the places
collected : (c : After-sorted) → IfOk c.sorted.result (IsFromIterResult key_cmp (places_from 0 c.place_all.new.pairs))
collected c = subst (λ pairs. IfOk c.sorted.result (IsFromIterResult key_cmp (places_from 0 pairs))) (left c) c.sorted.ensures

pub returns-clause-sound : goal.returns-clause-sound
returns-clause-sound c =
    let nodes = c.place_all.new.nodes in
    IfOk-weaker c.sorted.result _ _
    (λ tree made. Sound-loaded c.place_all.new.pairs tree made nodes.slots c.in_ok-place_all.ensures.alone)
    (collected c)

pub returns-clause-empty : goal.returns-clause-empty
returns-clause-empty c =
    IfOk-weaker c.sorted.result _ _
    (λ tree made. database_of-before_first c.place_all.new.nodes.slots (entries_of c.args.pairs.items) (places_from 0 c.place_all.new.pairs) tree made
    (chains c))
    (collected c)

pub returns-clause-first : goal.returns-clause-first
returns-clause-first c =
    IfOk-weaker c.sorted.result _ _
    (λ tree made. database_of-first c.place_all.new.nodes.slots (entries_of c.args.pairs.items) (places_from 0 c.place_all.new.pairs) tree made (chains c))
    (collected c)

pub returns-clause-noted : goal.returns-clause-noted
returns-clause-noted c =
    IfOk-weaker c.sorted.result _ _
    (λ tree made. AreNoted-loaded c.place_all.new.pairs tree made c.place_all.new.nodes.slots c.in_ok-place_all.ensures.alone)
    (collected c)

pub returns-clause-few : goal.returns-clause-few
returns-clause-few c =
    IfOk-weaker c.sorted.result _ _
    (λ tree made. total-loaded c.place_all.new.pairs tree made c.place_all.new.nodes.slots c.in_ok-place_all.ensures.alone)
    (collected c)

pub returns-clause-later : goal.returns-clause-later
returns-clause-later c =
    IfOk-weaker c.sorted.result _ _
    (λ tree made. later-loaded c.place_all.new.pairs tree made c.place_all.new.nodes.slots c.in_ok-place_all.ensures.alone)
    (collected c)
