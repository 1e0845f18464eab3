use Rattle.std.proofs.Common.{map, vec_capacity}
use Rattle.std.specs.Vec.Iter.{into_iter_items, into_iter_len}
use Rattle.watch_core.specs.declared.ending.WatchEnd.TheVariants.{Cancelled}
use Rattle.watch_core.specs.Watching.{ended_as}
use Rattle.watch_core.specs.Watches.{told_from, watched_of}
use Rattle.watch_core.proofs.Closing.{Closes}
use Rattle.watch_core.proofs.watches.close_each.Given as goal

abbrev pub invariant-loop-watch : goal.invariant-loop-watch
invariant-loop-watch g l =
    Closes (told_from 0 (map (ended_as Cancelled l.fn.seen) (map watched_of l.fn.watches.items))) l.seen
    (into_iter_items l.left) l.endings.items (vec_capacity l.endings)

abbrev pub decreases-loop-watch : goal.decreases-loop-watch
decreases-loop-watch g l = into_iter_len l.left
