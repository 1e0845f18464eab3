use Rattle.std.proofs.Common.{◌+◌, length, sym, ap, subst, refl, ◌∙◌, arith, rules}
use Rattle.std.specs.Vec.Iter.{into_iter_items}
use Rattle.version_store.specs.Changed.{change_of, changes_of, changed, IsRising}
use Rattle.version_store.specs.Chains.{database_of}
use Rattle.version_store.specs.Dues.{HasRoomFor}
use Rattle.version_store.proofs.Noted.{some-AllZip, first-AllZip}
use Rattle.version_store.proofs.Notes.{IsComplete-put}
use Rattle.version_store.proofs.Puts.{AreOpen, AreOpen-put, AreOpen-ready, IsOpenAt, Sound-given, database_of-given, database_of-before_given, total-put_one}
use Rattle.version_store.proofs.Rising.{IsRising-first, IsRising-rest}
use Rattle.version_store.proofs.Slots.{Sound-later}
use Rattle.version_store.proofs.chains.put_changes.Goals as goal

pub loop-change-init : goal.loop-change-init
loop-change-init c =
    let slots = c.args.nodes.now.slots in let places = c.args._tree.now.entries in let version = c.args.version in
    let gives = c.into_iter-change-iterator.ensures.into_iter_gives in
    let left = c.args.changes.items in (
      Sound-later slots places version (version + 1) (omega arith) c.requires.sound,
      search rules,
      subst (λ items. HasRoomFor (length items) c.args.dues.now) (sym gives.0) c.requires.room,
      subst (λ items. AreOpen slots version places (changes_of items) c.args.places.now) (sym gives.0)
          (AreOpen-ready slots version places (changes_of left) c.args.places.now c.requires.sound c.requires.ready),
      subst (λ items. IsRising (changes_of items)) (sym gives.0) c.requires.rising,
      ap (λ items. changed (changes_of items) (database_of version slots places)) gives.0,
      λ v earlier. refl,
      λ weight counts. let same = ap length gives.0 in omega (arith, same),
      refl,
      λ low less complete. complete,
    )

pub unwrap-requires : goal.unwrap-requires
unwrap-requires c =
    c.split_first.ensures.variant.1
    (some-AllZip (IsOpenAt c.loop-change.nodes.slots c.args.version c.args._tree.now.entries) _ _ c.in-Some.change c.loop-change.places.now
    (c.in-Some.ensures {u = tt}).steps.0 c.loop-change.invariant.3)

pub put_change-requires-clause-room : goal.put_change-requires-clause-room
put_change-requires-clause-room c =
    (first-AllZip (IsOpenAt c.loop-change.nodes.slots c.args.version c.args._tree.now.entries) _ _ c.in-Some.change c.loop-change.places.now
    c.split_first.result c.unwrap.result (c.in-Some.ensures {u = tt}).steps.0 c.loop-change.invariant.3 c.split_first.ensures.cases
    c.unwrap.ensures).0.0.1

pub put_change-requires-clause-due : goal.put_change-requires-clause-due
put_change-requires-clause-due c noting =
    let shorter = ap length (c.in-Some.ensures {u = tt}).steps.0 in omega (arith, shorter, c.loop-change.invariant.2 noting)

pub loop-change-preserved : goal.loop-change-preserved
loop-change-preserved c =
    let places = c.args._tree.now.entries in let slots = c.loop-change.nodes.slots in let slots' = c.put_change.new.nodes.slots in
    let version = c.args.version in let change = c.in-Some.change in let place = c.unwrap.result.0.now in
    let more = into_iter_items c.next.new.self in let step = (c.in-Some.ensures {u = tt}).steps in
    let shorter = ap length step.0 in
    let here =
    first-AllZip (IsOpenAt slots version places) _ _ change c.loop-change.places.now c.split_first.result c.unwrap.result step.0
    c.loop-change.invariant.3 c.split_first.ensures.cases c.unwrap.ensures in
    let sound = c.loop-change.invariant.0 in let puts = c.put_change.ensures.puts in
    let changes_step = ap changes_of step.0 in (
      Sound-given places slots slots' version place change.key change.value sound here.0.0.0 here.0.1 puts,
      omega (arith, shorter, step.1, c.loop-change.invariant.1),
      c.put_change.ensures.due (length more) (λ noting. omega (arith, shorter, c.loop-change.invariant.2 noting)),
      AreOpen-put places slots slots' version place change.key change.value sound here.0.0.0 puts (changes_of more) c.unwrap.result.1.now
          (IsRising-first _ (changes_of more) (change_of change) changes_step c.loop-change.invariant.4) here.1,
      IsRising-rest _ (changes_of more) (change_of change) changes_step c.loop-change.invariant.4,
      ap (changed (changes_of more))
          (database_of-given places slots slots' version place change.key change.value sound here.0.0.0 here.0.1 puts)
          ∙ sym (ap (λ left. changed (changes_of left) (database_of version slots places)) step.0)
          ∙ c.loop-change.invariant.5,
      λ v earlier. database_of-before_given places slots slots' version place change.key change.value sound here.0.0.0 here.0.1 puts v earlier
          ∙ c.loop-change.invariant.6 v earlier,
      λ weight counts.
          let one = total-put_one places slots slots' version place change.key change.value sound here.0.0.0 here.0.1 puts weight counts in
          omega (arith, one, shorter, c.loop-change.invariant.7 weight counts),
      c.put_change.ensures.notes.noting ∙ c.loop-change.invariant.8,
      λ low less complete.
          IsComplete-put low version place (version, change.value) c.loop-change.dues c.put_change.new.dues slots slots' places less puts
          c.put_change.ensures.notes (c.loop-change.invariant.9 low less complete),
    )
