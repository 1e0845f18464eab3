use Rattle.std.proofs.Common.{◌+◌, ◌<◌, ◌≤◌, length, drop, arith, sym, subst, ◌∙◌}
use Rattle.std.proofs.lemmas.List.{drop_all}
use Rattle.conflict_ranges.specs.Generations.{IsReadyFor}
use Rattle.conflict_ranges.proofs.Rooms.{GivesRoom, gives_room}
use Rattle.conflict_ranges.proofs.Splits.{next_left}
use Rattle.conflict_ranges.proofs.generation.Generation.reserve_list.Goals as goal

pub loop-range-preserved : goal.loop-range-preserved
loop-range-preserved c =
    let ranges = c.args.ranges.now in let index = c.loop-range.range-index in let range = c.range-item.result in
    let now = c.loop-range.self in let version = c.args.version in
    let more : index < length ranges = omega arith in
    record {
      same = λ key. c.in_ok-make_room.ensures.same key ∙ c.loop-range.invariant.same key;
      newest = c.in_ok-make_room.ensures.newest ∙ c.loop-range.invariant.newest;
      room =
          gives_room version range (drop (index + 1) ranges) ranges now c.make_room.new.self c.in_ok-make_room.ensures.kept
          c.in_ok-make_room.ensures.room
          (subst (λ left. GivesRoom now version left ranges) (next_left ranges index range more c.range-item.is) c.loop-range.invariant.room);
    }

pub returns-clause-ready : goal.returns-clause-ready
returns-clause-ready c =
    let ranges = c.args.ranges.now in let index = c.loop-range.range-index in let now = c.loop-range.self in
    let ended : length ranges ≤ index = omega arith in
    c.loop-range.invariant.room now (λ range had. had) (subst (IsReadyFor now c.args.version) (sym (drop_all index ranges ended)) tt)
