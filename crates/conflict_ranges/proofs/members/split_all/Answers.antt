use Rattle.std.proofs.Common.{◌+◌, ◌<◌, ◌≤◌, length, drop, sym, subst, ◌∙◌, arith}
use Rattle.std.proofs.lemmas.List.{drop_all}
use Rattle.conflict_ranges.specs.Ends.{HasRoom}
use Rattle.conflict_ranges.proofs.Sound.{sound_split}
use Rattle.conflict_ranges.proofs.Splits.{GivesRoom, gives_room-split, next_left}
use Rattle.conflict_ranges.proofs.members.split_all.Goals as goal

pub loop-range-preserved : goal.loop-range-preserved
loop-range-preserved c =
    let ranges = c.args.ranges.now in let index = c.loop-range.range-index in let range = c.range-item.result in
    let now = c.loop-range.members in let new = c.split.new.members in
    let split = c.in_ok-split.ensures.ok in
    let more : index < length ranges = omega arith in
    record {
      same = λ key. split.same key ∙ c.loop-range.invariant.same key;
      sound = λ sound. sound_split range.begin range.end now new split c.in_ok-split.ensures.rising (c.loop-range.invariant.sound sound);
      few = let more = split.few in omega (arith, more, c.loop-range.invariant.few);
      room =
          gives_room-split range (drop (index + 1) ranges) ranges now new split
          (subst (λ left. GivesRoom now left ranges) (next_left ranges index range more c.range-item.is) c.loop-range.invariant.room);
    }

pub returns-clause-room : goal.returns-clause-room
returns-clause-room c =
    let ranges = c.args.ranges.now in let index = c.loop-range.range-index in let now = c.loop-range.members in
    let ended : length ranges ≤ index = omega arith in
    c.loop-range.invariant.room now (λ boundary there. there) (subst (HasRoom now) (sym (drop_all index ranges ended)) tt)
