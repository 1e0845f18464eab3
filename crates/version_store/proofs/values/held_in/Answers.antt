use Rattle.std.proofs.Common.{◌<◌, ◌≤◌, length, sym, ap, ◌∙◌, arith, rules}
use Rattle.std.proofs.lemmas.List.{drop_all}
use Rattle.version_store.specs.Values.{givens}
use Rattle.version_store.specs.Versions.{holding}
use Rattle.version_store.proofs.Trims.{holding-here, holding-nil, holding-passed}
use Rattle.version_store.proofs.values.held_in.Goals as goal

pub returns-then-given-version : goal.returns-then-given-version
returns-then-given-version c =
    let items = c.args.queue.now.items in let i = c.loop-i.i in
    let inside : i < length items = search rules in
    c.as_ref.ensures.value
    ∙ sym (holding-here items i c.index-given.result.now c.args.version inside c.index-given.ensures c.if-given-version.true)
    ∙ c.loop-i.invariant

pub loop-i-preserved : goal.loop-i-preserved
loop-i-preserved c =
    let items = c.args.queue.now.items in let i = c.loop-i.i in
    let inside : i < length items = search rules in
    sym
    (holding-passed items i c.index-given.result.now c.args.version inside c.index-given.ensures
    (omega (arith, c.if-given-version.false)))
    ∙ c.loop-i.invariant

pub returns : goal.returns
returns c =
    let items = c.args.queue.now.items in let i = c.loop-i.i in
    let ended : length items ≤ i = search rules in
    sym (holding-nil c.args.version)
    ∙ ap (λ left. holding c.args.version (givens left)) (sym (drop_all i items ended))
    ∙ c.loop-i.invariant
