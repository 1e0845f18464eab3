-- The watch that comes next is closed, and its ending is laid down behind the others.
use Rattle.std.proofs.Common.{◌++◌, ◌∷◌, [], map, vec_capacity, sym, subst, ◌∙◌}
use Rattle.std.proofs.lemmas.List.Elements.{All-head}
use Rattle.std.specs.List.{All}
use Rattle.std.specs.Vec.Iter.{into_iter_items}
use Rattle.watch_core.specs.declared.ending.Ending.{Ending}
use Rattle.watch_core.specs.declared.ending.WatchEnd.TheVariants.{Cancelled}
use Rattle.watch_core.specs.Watching.{ended_as}
use Rattle.watch_core.specs.Watches.{told_from, watched_of, IsWhole}
use Rattle.watch_core.proofs.Closing.{Closes, closes_next}
use Rattle.watch_core.proofs.watches.close_each.Goals as goal

pub close-receipt-requires : goal.close-receipt-requires
close-receipt-requires g c =
    All-head IsWhole c.in-Some.watch (into_iter_items c.next.new.self)
    (subst (All IsWhole) c.in-Some.ensures.cases.0 c.loop-watch.invariant.whole)

pub loop-watch-preserved : goal.loop-watch-preserved
loop-watch-preserved g c =
    let all = told_from 0 (map (ended_as Cancelled c.args.seen) (map watched_of c.args.watches.items)) in
    let left = into_iter_items c.next.new.self in
    let endings = c.loop-watch.endings in
    let ending : Ending g.row.C.Denot = record { number = c.len-number.result; receipt = c.close-receipt.result } in
    let closes : Closes all c.args.seen left (endings.items ++ ending ∷ []) (vec_capacity endings) =
    closes_next all c.args.seen c.in-Some.watch left endings.items (vec_capacity endings)
    (subst (λ l. Closes all c.args.seen l endings.items (vec_capacity endings)) c.in-Some.ensures.cases.0 c.loop-watch.invariant)
    ending (c.len-number.ensures ∙ endings.ok.0) c.close-receipt.ensures.cell c.close-receipt.ensures.end in
    subst (λ room. Closes all c.args.seen left c.push_reserved.new.self.items room) (sym c.push_reserved.ensures.capacity)
    (subst (λ es. Closes all c.args.seen left es (vec_capacity endings)) (sym c.push_reserved.ensures.items) closes)
