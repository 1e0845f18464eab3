use Rattle.std.proofs.Common.{ℕ, List, Option, is_lt, sym, ap, ◌∙◌}
use Rattle.std.specs.Option.{option_map}
use denote.Bor.{Bor}
use Rattle.conflict_ranges.proofs.Nexts.{next_at, none_within, none_above}
use Rattle.conflict_ranges.proofs.walking.around_within.Goals as goal
use Rattle.conflict_ranges.proofs.walking.around_within.Goals.{in_default-via-in-Some+else-is_lt, in_default-via-in_default}

-- the key of a boundary
abbrev key_of : Option (Bor (List ℕ)) → Option (List ℕ)
key_of boundary = option_map (λ key. key.now) boundary

pub returns-in-Some-clause-next : goal.returns-in-Some-clause-next
returns-in-Some-clause-next g c =
    next_at c.args.boundaries.now c.args.from.now c.args.end.now c.in-Some.boundary.now (sym c.around.ensures.next ∙ ap key_of c.in-Some.is)
    (sym (ap is_lt c.cmp.ensures) ∙ sym c.is_lt.ensures ∙ c.if-is_lt.true)

pub returns-in_default-clause-next : goal.returns-in_default-clause-next
returns-in_default-clause-next g c =
    let boundaries = c.args.boundaries.now in let from = c.args.from.now in let end = c.args.end.now in
    elim c.in_default.branch [
      | in_default-via-in-Some+else-is_lt w ↦
          none_within boundaries from end w.in-Some.boundary.now (sym c.around.ensures.next ∙ ap key_of w.in-Some.is)
          (sym (ap is_lt w.cmp.ensures) ∙ sym w.is_lt.ensures ∙ w.if-is_lt.false)
      | in_default-via-in_default w ↦ none_above boundaries from end (sym c.around.ensures.next ∙ ap key_of w.in_default.is)
    ]
