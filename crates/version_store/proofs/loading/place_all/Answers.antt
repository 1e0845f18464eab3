use Rattle.std.proofs.Common.{◌+◌, ◌<◌, ◌≤◌, ◌++◌, take, drop, length, slice_set, sym, ap, subst, get_or, ◌∙◌, arith}
use Rattle.std.proofs.lemmas.List.{take_all, drop_all, append-nil}
use Rattle.key_bytes.specs.Entries.{entries_of}
use Rattle.version_store.specs.Chains.{chains_of}
use Rattle.version_store.specs.Loading.{first_chain, first_chains, places_from, AreAlone}
use Rattle.version_store.proofs.Loads.{chains_of-pushed, AreAlone-pushed, places_from-taken, entries_of-left}
use Rattle.version_store.proofs.loading.place_all.Goals as goal

pub loop-place-preserved : goal.loop-place-preserved
loop-place-preserved c =
    let before = c.loop-place.nodes in let now = c.place_at.new.nodes in
    let pairs = c.loop-place.pairs in let place = c.loop-place.place in
    let pair = get_or pairs place c.index-pairs-place.result in let taken = c.take_value-value.new.pair in
    let put = c.in_ok-place_at.ensures in let places = places_from 0 (take place pairs) in
    let inside = subst (λ len. place < len) (sym c.loop-place.auto.pairs) c.loop-place-test.true in
    let more = entries_of (drop (place + 1) (slice_set pairs place taken)) in
    let here = places_from-taken pairs place inside taken in (
      ap (λ places. chains_of now.slots places ++ first_chains more) here
          ∙ chains_of-pushed before.slots now.slots put.others places c.loop-place.invariant.1
          taken.key pair.value place (entries_of (drop place pairs)) more (entries_of c.args.pairs.now)
          (entries_of-left pairs place inside taken c.index-pairs-place.result c.take_value-value.ensures.key)
          (put.chain ∙ ap first_chain c.take_value-value.ensures.value) c.loop-place.invariant.0,
      subst (AreAlone now.slots) (sym here)
          (AreAlone-pushed before.slots now.slots put.others places c.loop-place.invariant.1
          taken.key pair.value place put.alone),
    )

pub returns-clause-chains : goal.returns-clause-chains
returns-clause-chains c =
    let pairs = c.loop-place.pairs in let place = c.loop-place.place in let slots = c.loop-place.nodes.slots in
    let ended : length pairs ≤ place = omega (arith, c.loop-place.auto.pairs) in
    ap (λ pairs. chains_of slots (places_from 0 pairs)) (sym (take_all place pairs ended))
    ∙ sym (append-nil (chains_of slots (places_from 0 (take place pairs))))
    ∙ ap (λ left. chains_of slots (places_from 0 (take place pairs)) ++ first_chains (entries_of left)) (sym (drop_all place pairs ended))
    ∙ c.loop-place.invariant.0

pub returns-clause-alone : goal.returns-clause-alone
returns-clause-alone c =
    let pairs = c.loop-place.pairs in let place = c.loop-place.place in
    let ended : length pairs ≤ place = omega (arith, c.loop-place.auto.pairs) in
    subst (λ pairs. AreAlone c.loop-place.nodes.slots (places_from 0 pairs)) (take_all place pairs ended)
    c.loop-place.invariant.1
