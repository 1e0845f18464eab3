use Rattle.std.proofs.Common.{◌++◌, ◌∷◌, [], refl, sym, subst}
use Rattle.key_bytes.specs.Keys.{within}
use Rattle.model_database.specs.Databases.{ClearRange}
use Rattle.range_map.specs.Boundaries.{changed}
use Rattle.write_map.specs.Levels.{cleared, IsKept}
use Rattle.write_map.specs.Mutations.{mutations_of}
use Rattle.write_map.proofs.Kept.{kept_plain}
use Rattle.write_map.proofs.Logs.{log_added}
use Rattle.write_map.proofs.Splits.{is_split}
use Rattle.write_map.proofs.Steps.{step_range, follows_clear}
use Rattle.write_map.proofs.write_map.WriteMap.clear_range.Goals as goal

pub invariant_of-self-2 : goal.invariant_of-self-2
invariant_of-self-2 c =
    let begin = c.in_ok-begin.begin in
    let end = c.in_ok-end.end in
    let old = c.self.inside.levels in
    let split = c.split_both.new.self in
    let log = mutations_of c.self.inside.log.items in
    subst (λ mutations. IsKept mutations c.change.new.self c.self.inside.is_stamped)
    (sym (log_added c.self.inside.log.items c.reserve.new.self.items c.push.new.self.items _ c.push.result c.unwrap.result
    c.push.ensures.items c.unwrap.ensures c.reserve.ensures.items))
    (subst (λ levels. IsKept (log ++ ClearRange begin end ∷ []) levels c.self.inside.is_stamped) (sym c.change.ensures)
    (kept_plain log (ClearRange begin end) old (changed (within begin end) cleared split) c.self.inside.is_stamped c.self.invariant
    (step_range begin end (ClearRange begin end) cleared old split (follows_clear begin end) c.self.invariant.levels.single
    (is_split begin end old split c.self.invariant.levels.single c.in_ok-split_both.ensures.ok) c.in_ok-split_both.ensures.rising) refl))
