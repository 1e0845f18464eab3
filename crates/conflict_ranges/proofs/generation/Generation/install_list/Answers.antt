use Rattle.std.proofs.Common.{◌+◌, ◌<◌, arith, cond, length, drop, sym, ap, subst, ◌∙◌}
use Rattle.model_database.specs.States.{covers}
use Rattle.conflict_ranges.specs.Generations.{version_at, LastWrites, IsReadyFor}
use Rattle.conflict_ranges.proofs.Rooms.{given_first, ready_kept, ready_raised}
use Rattle.conflict_ranges.proofs.Splits.{next_left}
use Rattle.conflict_ranges.proofs.generation.Generation.install_list.Goals as goal

pub loop-range-init : goal.loop-range-init
loop-range-init c =
    let version = c.args.version in let ranges = c.args.ranges.now in let raised = c.raise_newest.ensures.newest in
    record {
      newest = ap (λ (made : LastWrites). made.newest) raised;
      ready = subst (λ (generation : LastWrites). IsReadyFor generation version ranges) (sym raised) (ready_raised version ranges c.args.self.now c.requires);
      given = λ key. ap (λ (generation : LastWrites). cond (covers ranges key) version (version_at generation key)) raised;
    }

pub loop-range-preserved : goal.loop-range-preserved
loop-range-preserved c =
    let ranges = c.args.ranges.now in let index = c.loop-range.range-index in let range = c.range-item.result in
    let left = drop (index + 1) ranges in let version = c.args.version in
    let now = c.loop-range.self in let new = c.give.new.self in
    let more : index < length ranges = omega arith in
    let first = next_left ranges index range more c.range-item.is in
    let ready = subst (IsReadyFor now version) first c.loop-range.invariant.ready in
    record {
      newest = c.give.ensures.newest ∙ c.loop-range.invariant.newest;
      ready = ready_kept version left now new c.give.ensures.kept ready.1;
      given = λ key.
          given_first range left version now new c.give.ensures.given key
          ∙ ap (λ left. cond (covers left key) version (version_at now key)) (sym first)
          ∙ c.loop-range.invariant.given key;
    }
