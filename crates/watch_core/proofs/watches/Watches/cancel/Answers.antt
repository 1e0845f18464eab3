-- The watch that lies at the number ended, and the others stay.
use Rattle.std.proofs.Common.{◌≡◌, ◌-◌, ◌<◌, ◌≤◌, arith, true, List, length, map, refl, sym, ap, subst, ◌∙◌}
use Rattle.std.proofs.lemmas.List.{length-set}
use Rattle.watch_core.specs.declared.ending.WatchEnd.TheVariants.{Cancelled}
use Rattle.watch_core.specs.Watching.{Watched, Watching, is_pending, is_pending_at, ended_at, AreCurrent, AreRight}
use Rattle.watch_core.specs.Watches.{numbers_in, watched_of}
use Rattle.watch_core.proofs.Numbers.{one_if, pending_at_some}
use Rattle.watch_core.proofs.Keeping.{current_ended, listed_ended, right_ended, seen_at, seen_ended, some_pending}
use Rattle.watch_core.proofs.watches.Watches.cancel.Goals as goal

pub overflow_sub-self : goal.overflow_sub-self
overflow_sub-self g c =
    let inside = c.self.inside in
    let within : c.args.number < length inside.watches.items = omega (arith, c.in-Some.ensures.variant.0 refl, inside.watches.ok.0) in
    some_pending inside.watches.items (numbers_in inside.index) inside.pending c.self.invariant.are_listed
    c.args.number c.in-Some.watch.now within c.in-Some.ensures.value (sym c.end-was_pending.ensures.pending ∙ c.if-was_pending.true)

pub invariant_of-self-then-was_pending : goal.invariant_of-self-then-was_pending
invariant_of-self-then-was_pending g c =
    let inside = c.self.inside in
    let within : c.args.number < length inside.watches.items = omega (arith, c.in-Some.ensures.variant.0 refl, inside.watches.ok.0) in
    let is_one : is_pending (watched_of c.in-Some.watch.now) ≡ true = sym c.end-was_pending.ensures.pending ∙ c.if-was_pending.true in
    let some : 1 ≤ inside.pending =
    some_pending inside.watches.items (numbers_in inside.index) inside.pending c.self.invariant.are_listed
    c.args.number c.in-Some.watch.now within c.in-Some.ensures.value is_one in
    let one : one_if (is_pending (watched_of c.in-Some.watch.now)) ≡ 1 = ap one_if is_one in
    record {
      are_listed =
          listed_ended inside.watches.items (numbers_in inside.index) inside.pending c.self.invariant.are_listed
          c.args.number c.in-Some.watch.now c.end-was_pending.new.self within c.in-Some.ensures.value c.end-was_pending.ensures.whole
          Cancelled inside.seen c.end-was_pending.ensures.after (inside.pending - 1) (omega (arith, one, some));
      roomy = omega (arith, length-set inside.watches.items c.args.number c.end-was_pending.new.self, c.self.invariant.roomy);
      none = c.self.invariant.none;
    }

pub invariant_of-self-else-was_pending : goal.invariant_of-self-else-was_pending
invariant_of-self-else-was_pending g c =
    let inside = c.self.inside in
    let within : c.args.number < length inside.watches.items = omega (arith, c.in-Some.ensures.variant.0 refl, inside.watches.ok.0) in
    let none : one_if (is_pending (watched_of c.in-Some.watch.now)) ≡ 0 =
    ap one_if (sym c.end-was_pending.ensures.pending ∙ c.if-was_pending.false) in
    record {
      are_listed =
          listed_ended inside.watches.items (numbers_in inside.index) inside.pending c.self.invariant.are_listed
          c.args.number c.in-Some.watch.now c.end-was_pending.new.self within c.in-Some.ensures.value c.end-was_pending.ensures.whole
          Cancelled inside.seen c.end-was_pending.ensures.after inside.pending (omega (arith, none));
      roomy = omega (arith, length-set inside.watches.items c.args.number c.end-was_pending.new.self, c.self.invariant.roomy);
      none = c.self.invariant.none;
    }

pub returns-then-was_pending-clause-pending : goal.returns-then-was_pending-clause-pending
returns-then-was_pending-clause-pending g c =
    let inside = c.self.inside in
    let within : c.args.number < length inside.watches.items = omega (arith, c.in-Some.ensures.variant.0 refl, inside.watches.ok.0) in
    c.end-was_pending.ensures.pending
    ∙ (sym (pending_at_some c.args.number (map watched_of inside.watches.items) (watched_of c.in-Some.watch.now)
    (seen_at inside.watches.items c.args.number c.in-Some.watch.now within c.in-Some.ensures.value))
    ∙ ap (λ (v : Watching). is_pending_at c.args.number v.watches) c.self.view_is)

pub returns-then-was_pending-clause-after : goal.returns-then-was_pending-clause-after
returns-then-was_pending-clause-after g c =
    let inside = c.self.inside in
    let within : c.args.number < length inside.watches.items = omega (arith, c.in-Some.ensures.variant.0 refl, inside.watches.ok.0) in
    let with_watches : List Watched → Watching = λ ws. record { seen = inside.seen; watches = ws } in
    let cancelled : Watching → Watching = λ v. record { seen = v.seen; watches = ended_at c.args.number Cancelled v.seen v.watches } in
    ap with_watches (seen_ended inside.watches.items c.args.number c.in-Some.watch.now c.end-was_pending.new.self within c.in-Some.ensures.value
    Cancelled inside.seen c.end-was_pending.ensures.after)
    ∙ ap cancelled c.self.view_is

pub returns-then-was_pending-clause-right : goal.returns-then-was_pending-clause-right
returns-then-was_pending-clause-right g c = λ history right.
    let inside = c.self.inside in
    let within : c.args.number < length inside.watches.items = omega (arith, c.in-Some.ensures.variant.0 refl, inside.watches.ok.0) in
    right_ended history inside.watches.items c.args.number c.in-Some.watch.now c.end-was_pending.new.self within c.in-Some.ensures.value
    inside.seen c.end-was_pending.ensures.after (subst (AreRight history) (sym c.self.view_is) right)

pub returns-else-was_pending-clause-pending : goal.returns-else-was_pending-clause-pending
returns-else-was_pending-clause-pending g c =
    let inside = c.self.inside in
    let within : c.args.number < length inside.watches.items = omega (arith, c.in-Some.ensures.variant.0 refl, inside.watches.ok.0) in
    c.end-was_pending.ensures.pending
    ∙ (sym (pending_at_some c.args.number (map watched_of inside.watches.items) (watched_of c.in-Some.watch.now)
    (seen_at inside.watches.items c.args.number c.in-Some.watch.now within c.in-Some.ensures.value))
    ∙ ap (λ (v : Watching). is_pending_at c.args.number v.watches) c.self.view_is)

pub returns-else-was_pending-clause-after : goal.returns-else-was_pending-clause-after
returns-else-was_pending-clause-after g c =
    let inside = c.self.inside in
    let within : c.args.number < length inside.watches.items = omega (arith, c.in-Some.ensures.variant.0 refl, inside.watches.ok.0) in
    let with_watches : List Watched → Watching = λ ws. record { seen = inside.seen; watches = ws } in
    let cancelled : Watching → Watching = λ v. record { seen = v.seen; watches = ended_at c.args.number Cancelled v.seen v.watches } in
    ap with_watches (seen_ended inside.watches.items c.args.number c.in-Some.watch.now c.end-was_pending.new.self within c.in-Some.ensures.value
    Cancelled inside.seen c.end-was_pending.ensures.after)
    ∙ ap cancelled c.self.view_is

pub returns-else-was_pending-clause-right : goal.returns-else-was_pending-clause-right
returns-else-was_pending-clause-right g c = λ history right.
    let inside = c.self.inside in
    let within : c.args.number < length inside.watches.items = omega (arith, c.in-Some.ensures.variant.0 refl, inside.watches.ok.0) in
    right_ended history inside.watches.items c.args.number c.in-Some.watch.now c.end-was_pending.new.self within c.in-Some.ensures.value
    inside.seen c.end-was_pending.ensures.after (subst (AreRight history) (sym c.self.view_is) right)

pub returns-then-was_pending-clause-current : goal.returns-then-was_pending-clause-current
returns-then-was_pending-clause-current g c = λ database current.
    let inside = c.self.inside in
    current_ended database inside.watches.items c.args.number c.in-Some.watch.now c.end-was_pending.new.self Cancelled inside.seen
    c.end-was_pending.ensures.after (subst (λ (v : Watching). AreCurrent database v.watches) (sym c.self.view_is) current)

pub returns-else-was_pending-clause-current : goal.returns-else-was_pending-clause-current
returns-else-was_pending-clause-current g c = λ database current.
    let inside = c.self.inside in
    current_ended database inside.watches.items c.args.number c.in-Some.watch.now c.end-was_pending.new.self Cancelled inside.seen
    c.end-was_pending.ensures.after (subst (λ (v : Watching). AreCurrent database v.watches) (sym c.self.view_is) current)
