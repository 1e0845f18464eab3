use Rattle.std.proofs.Common.{sym, subst, ◌∙◌}
use Rattle.conflict_ranges.specs.Segments.{range_between}
use Rattle.conflict_ranges.specs.Generations.{IsReadyFor}
use Rattle.conflict_ranges.proofs.Rooms.{GivesRoom, gives_room}
use Rattle.conflict_ranges.proofs.generation.Generation.reserve.Goals as goal

pub loop-begin-preserved : goal.loop-begin-preserved
loop-begin-preserved c =
    let range = range_between (c.in-Some.begin, c.in-Some.end) in let all = c.args.ranges.now in let version = c.args.version in
    let now = c.loop-begin.self in
    record {
      same = λ key. c.in_ok-make_room.ensures.same key ∙ c.loop-begin.invariant.same key;
      newest = c.in_ok-make_room.ensures.newest ∙ c.loop-begin.invariant.newest;
      room =
          gives_room version range c.next.new.self all now c.make_room.new.self c.in_ok-make_room.ensures.kept c.in_ok-make_room.ensures.room
          (subst (λ left. GivesRoom now version left all) (c.in-Some.ensures {u = tt}).steps c.loop-begin.invariant.room);
    }

pub returns-clause-ready : goal.returns-clause-ready
returns-clause-ready c =
    let now = c.loop-begin.self in
    c.loop-begin.invariant.room now (λ range had. had)
    (subst (IsReadyFor now c.args.version) (sym (c.in-None.ensures {u = tt}).steps.0) tt)
