use Rattle.std.proofs.Common.{◌+◌, ◌<◌, cond, length, drop, sym, ap, subst, ◌∙◌, arith}
use Rattle.model_database.specs.States.{covers}
use Rattle.range_map.specs.Boundaries.{held}
use Rattle.conflict_ranges.specs.Ends.{HasRoom}
use Rattle.conflict_ranges.proofs.Sound.{sound_given}
use Rattle.conflict_ranges.proofs.Splits.{put_first, length_given, room_given, next_left}
use Rattle.conflict_ranges.proofs.members.put_all.Goals as goal

pub loop-range-preserved : goal.loop-range-preserved
loop-range-preserved c =
    let ranges = c.args.ranges.now in let index = c.loop-range.range-index in let range = c.range-item.result in
    let now = c.loop-range.members in let new = c.give.new.members in let membership = c.args.membership in
    let more : index < length ranges = omega arith in
    let first = next_left ranges index range more c.range-item.is in
    let room = subst (HasRoom now) first c.loop-range.invariant.room in
    record {
      room = room_given _ membership now new (drop (index + 1) ranges) c.give.ensures.given room.2;
      put = λ key.
          put_first range (drop (index + 1) ranges) membership now new c.give.ensures.rising room c.give.ensures.given key
          ∙ ap (λ left. cond (covers left key) membership (held now key)) (sym first)
          ∙ c.loop-range.invariant.put key;
      few = length_given _ membership now new c.give.ensures.given ∙ c.loop-range.invariant.few;
      sound = λ sound. sound_given range membership now new room.0 room.1 c.give.ensures.given (c.loop-range.invariant.sound sound);
    }
