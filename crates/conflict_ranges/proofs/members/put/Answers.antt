use Rattle.std.proofs.Common.{cond, sym, ap, ◌∙◌, arith}
use Rattle.std.proofs.lemmas.Bool.{not-true}
use Rattle.key_bytes.specs.Keys.{key_lt}
use Rattle.range_map.specs.Boundaries.{held}
use Rattle.range_map.proofs.Bounded.{within_backward}
use Rattle.conflict_ranges.proofs.Sound.{sound_split, sound_given}
use Rattle.conflict_ranges.proofs.Splits.{length_given, put_at}
use Rattle.conflict_ranges.proofs.members.put.Goals as goal

pub returns-then-is_empty-clause-ok : goal.returns-then-is_empty-clause-ok
returns-then-is_empty-clause-ok c key =
    let range = c.args.range.now in
    sym (ap (λ t. cond t c.args.membership (held c.args.members.now key))
    (within_backward range.begin range.end key
    (not-true (key_lt range.begin range.end) (sym c.is_empty.ensures ∙ c.if-is_empty.true))))

pub returns-clause-ok : goal.returns-clause-ok
returns-clause-ok c =
    let range = c.args.range.now in
    put_at range.begin range.end c.args.membership c.args.members.now c.split.new.members c.give.new.members
    c.in_ok-split.ensures.ok c.in_ok-split.ensures.rising c.give.ensures.given

pub returns-clause-sound : goal.returns-clause-sound
returns-clause-sound c sound =
    let range = c.args.range.now in
    let split = c.in_ok-split.ensures.ok in
    sound_given range c.args.membership c.split.new.members c.give.new.members split.begins split.ends
    c.give.ensures.given
    (sound_split range.begin range.end c.args.members.now c.split.new.members split c.in_ok-split.ensures.rising sound)

pub returns-clause-few : goal.returns-clause-few
returns-clause-few c =
    let given = length_given _ c.args.membership c.split.new.members c.give.new.members c.give.ensures.given in
    let more = c.in_ok-split.ensures.ok.few in
    omega (arith, given, more)
