-- A number whose watch is pending moves to the front, and any other is passed over.
use Rattle.std.proofs.Common.{◌<◌, arith, length, get_or, sym, ◌∙◌}
use Rattle.std.proofs.lemmas.List.{get_or_default}
use Rattle.std.proofs.lemmas.List.Filters.{FiltersInPlace-more_set, FiltersInPlace-more_no}
use Rattle.watch_core.proofs.watches.pack_pending.Goals as goal
use Rattle.watch_core.proofs.watches.pack_pending.Goals.{then-is_pending_at, else-is_pending_at}

pub loop-i-preserved : goal.loop-i-preserved
loop-i-preserved g c =
    let numbers = c.loop-i.numbers in
    let i = c.loop-i.i in
    let within : i < length numbers = omega arith in
    let read = get_or_default numbers i 0 (get_or numbers i 0) within in
    elim c.if-is_pending_at.branch [
      | then-is_pending_at w ↦
          rw (w.numbers-is, w.kept-is)
          (FiltersInPlace-more_set c.loop-i.invariant within (sym c.is_pending_at.ensures ∙ w.if-is_pending_at.true) read)
      | else-is_pending_at w ↦
          rw (w.numbers-is, w.kept-is)
          (FiltersInPlace-more_no c.loop-i.invariant within (sym c.is_pending_at.ensures ∙ w.if-is_pending_at.false) read)
    ]
