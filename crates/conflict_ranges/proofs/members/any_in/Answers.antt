use Rattle.std.proofs.Common.{◌≡◌, false, sym, ap, subst, ◌∙◌, true≢false}
use Rattle.std.proofs.lemmas.Bool.{false≢true, not-true, not-false}
use Rattle.key_bytes.specs.Keys.{key_lt}
use Rattle.conflict_ranges.specs.declared.membership.Membership.{Membership}
use Rattle.conflict_ranges.specs.Ends.{IsNextWithin}
use Rattle.range_map.proofs.Bounded.{within_backward}
use Rattle.conflict_ranges.proofs.Segments.{fewer_boundaries}
use Rattle.conflict_ranges.proofs.Walks.{passed_none, passed_next}
use Rattle.conflict_ranges.proofs.members.any_in.Goals as goal

abbrev IsOut : Membership → Type 0
IsOut membership = membership.0 ≡ false

pub returns-then-is_empty : goal.returns-then-is_empty
returns-then-is_empty c =
    let range = c.args.range.now in (
      λ in_it. absurd (false≢true in_it),
      λ (key, is_in, _). absurd (true≢false (sym is_in
          ∙ within_backward range.begin range.end key
          (not-true (key_lt range.begin range.end) (sym c.is_empty.ensures ∙ c.if-is_empty.true)))),
    )

pub loop-next-init : goal.loop-next-init
loop-next-init c =
    let range = c.args.range.now in
    passed_none IsOut range c.args.members.now
    (not-false (key_lt range.begin range.end) (sym c.is_empty.ensures ∙ c.if-is_empty.false))

pub loop-next-smaller : goal.loop-next-smaller
loop-next-smaller c =
    let members = c.args.members.now in let from = c.loop-next.from.now in
    let next = subst (IsNextWithin from c.args.range.now.end members) c.in-Some.is c.around_within.ensures.next in
    fewer_boundaries members from c.in-Some.boundary.now c.shows_rising.ensures next.next

pub loop-next-preserved : goal.loop-next-preserved
loop-next-preserved c =
    let members = c.args.members.now in let from = c.loop-next.from.now in let range = c.args.range.now in
    passed_next IsOut range members from c.loop-next.invariant
    (sym (ap (λ membership. membership.0) c.around_within.ensures.at) ∙ c.if-membership.false)
    c.in-Some.boundary.now (subst (IsNextWithin from range.end members) c.in-Some.is c.around_within.ensures.next)
