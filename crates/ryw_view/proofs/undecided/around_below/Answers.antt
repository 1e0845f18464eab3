use Rattle.std.proofs.Common.{◌≡◌, false, sym, subst, rules}
use Rattle.std.specs.Option.{option_map}
use Rattle.key_bytes.specs.Keys.{key_lt}
use Rattle.key_bytes.proofs.Orders.{lt_le}
use Rattle.range_map.specs.Boundaries.{IsBelowBoundary}
use Rattle.ryw_view.proofs.undecided.around_below.Goals as goal
use Rattle.ryw_view.proofs.undecided.around_below.Goals.{in_default-via-in-Some+else-is_lt, in_default-via-in_default}

pub returns-in_default-clause-boundary : goal.returns-in_default-clause-boundary
returns-in_default-clause-boundary c q from below =
    c.around.ensures.alike q from
    (elim c.in_default.branch [
      | in_default-via-in-Some+else-is_lt w ↦
          let boundary = w.in-Some.boundary.now in
          let past : key_lt boundary c.args.end.now ≡ false = search rules in
          subst (λ boundary. IsBelowBoundary q (option_map (λ boundary. boundary.now) boundary)) (sym w.in-Some.is) (lt_le q c.args.end.now boundary below past)
      | in_default-via-in_default w ↦
          subst (λ boundary. IsBelowBoundary q (option_map (λ boundary. boundary.now) boundary)) (sym w.in_default.is) tt
    ])
