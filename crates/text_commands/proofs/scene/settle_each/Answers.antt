use Rattle.std.proofs.Common.{◌≡◌, ◌++◌, ◌∷◌, [], List, Option, length, map, sym, ap, ◌∙◌}
use Rattle.std.specs.List.{zip}
use Rattle.std.proofs.lemmas.List.{map-append, map-id}
use Rattle.std.proofs.lemmas.Iterator.{YieldsList-from_zip}
use Rattle.std.proofs.lemmas.Iterator.Adapters.{YieldsList-from_vec}
use Rattle.std.proofs.lemmas.Iterator.Consumers.{YieldsList-at, YieldsList-end, YieldsList-turn}
use Rattle.watch_core.specs.declared.ending.WatchEnd.{WatchEnd}
use Rattle.text_commands.proofs.Endings.{as_many, cells_at, ending_value, firsts_of, some_end, Both}
use Rattle.text_commands.proofs.scene.settle_each.Goals as goal

pub settle-requires : goal.settle-requires
settle-requires c =
    let endings = c.args.endings in
    let waiters = c.args.waiters in
    let road = YieldsList-at c.into_iter-ending-iterator.ensures.into_iter_gives (YieldsList-from_zip
    (YieldsList-at c.zip-ending-items.ensures.first (YieldsList-from_vec endings.items c.into_iter.ensures.rest (c.into_iter.ensures.len ∙ endings.ok.0)))
    (YieldsList-from_vec waiters.items c.zip-ending-items.ensures.second.0 (c.zip-ending-items.ensures.second.1 ∙ waiters.ok.0))) in
    let turn = YieldsList-turn road c.loop-ending.yielded c.loop-ending.ending-iterator c.loop-ending.yielded_by c.next.result c.next.new.self
    (c.in-Some.ending, c.in-Some.waiter) c.in-Some.is c.next.ensures.steps in
    cells_at endings.items waiters.items (length c.loop-ending.yielded) (c.in-Some.ending, c.in-Some.waiter) c.requires turn.0 turn.1

pub loop-ending-preserved : goal.loop-ending-preserved
loop-ending-preserved c =
    ap (map some_end) c.in_ok-push.ensures.items ∙ map-append some_end c.loop-ending.ends.items (c.into_value.result ∷ [])
    ∙ ap (λ (xs : List (Option WatchEnd)). xs ++ some_end c.into_value.result ∷ []) c.loop-ending.invariant
    ∙ ap (λ (x : Option WatchEnd). map (λ (both : Both). ending_value both.0) c.loop-ending.yielded ++ x ∷ [])
    (ap some_end c.into_value.ensures ∙ sym c.settle.ensures.value)
    ∙ sym (map-append (λ (both : Both). ending_value both.0) c.loop-ending.yielded ((c.in-Some.ending, c.in-Some.waiter) ∷ []))

pub returns : goal.returns
returns c =
    let endings = c.args.endings in
    let waiters = c.args.waiters in
    let road = YieldsList-at c.into_iter-ending-iterator.ensures.into_iter_gives (YieldsList-from_zip
    (YieldsList-at c.zip-ending-items.ensures.first (YieldsList-from_vec endings.items c.into_iter.ensures.rest (c.into_iter.ensures.len ∙ endings.ok.0)))
    (YieldsList-from_vec waiters.items c.zip-ending-items.ensures.second.0 (c.zip-ending-items.ensures.second.1 ∙ waiters.ok.0))) in
    let end = YieldsList-end road c.loop-ending.yielded c.loop-ending.ending-iterator c.loop-ending.yielded_by c.next.result c.next.new.self
    c.in-None.is c.next.ensures.steps in
    let all : c.loop-ending.yielded ≡ zip endings.items waiters.items = sym (map-id c.loop-ending.yielded) ∙ end.0 in
    c.loop-ending.invariant ∙ ap (map (λ (both : Both). ending_value both.0)) all
    ∙ firsts_of endings.items waiters.items (as_many endings.items waiters.items c.requires)
