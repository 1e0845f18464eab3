use Rattle.std.proofs.Common.{◌≡◌, ℕ, true, List, Option, Some, None, sym, ap, subst, ◌∙◌}
use Rattle.std.specs.List.{filter}
use Rattle.std.specs.Option.{option_map, IfSome}
use denote.Bor.{Bor}
use Rattle.key_bytes.specs.Keys.{key_le, key_lt, after}
use Rattle.key_map.specs.Ends.{last}
use Rattle.model_database.specs.States.{state_under}
use Rattle.range_map.specs.Boundaries.{boundaries_of}
use Rattle.range_map.proofs.Neighbours.{held-down_to, held-bottom}
use Rattle.write_map.specs.Mutations.{mutations_of}
use Rattle.write_map.specs.Pending.{AreAlike, IsBare, is_single_state}
use Rattle.write_map.proofs.Alike.{alike_held, bare_held, prev_single}
use Rattle.write_map.proofs.write_map.WriteMap.prev_edge.Goals as goal

-- what holds of the boundary that was found holds of what is shown of it
if_found : (o : Option (Bor (List ℕ))) (found : Option (List ℕ)) (P : List ℕ → Type 0) → option_map (λ boundary. boundary.now) o ≡ found
    → ((boundary : List ℕ) → found ≡ Some boundary → P boundary) → IfSome o (λ boundary. P boundary.now)
if_found None found P is all = tt
if_found (Some boundary) found P is all = all boundary.now (sym is)

pub returns-clause-alike : goal.returns-clause-alike
returns-clause-alike c =
    let levels = c.self.inside.levels in let key = c.args.key.now in
    if_found c.prev.result (last (filter (λ boundary. key_lt boundary key) (boundaries_of levels)))
    (λ boundary. (asked : List ℕ) → key_le boundary asked ≡ true → key_lt asked key ≡ true → AreAlike c.args.self.now.mutations boundary asked)
    c.prev.ensures
    (λ boundary is asked from below. subst (λ pending. AreAlike pending.mutations boundary asked) c.self.view_is
    (alike_held (mutations_of c.self.inside.log.items) levels c.self.invariant.levels boundary asked
    (held-down_to levels key boundary asked c.shows_rising.ensures is from below)))

pub returns-clause-bare : goal.returns-clause-bare
returns-clause-bare c none asked below =
    let levels = c.self.inside.levels in
    subst (λ pending. IsBare pending.mutations asked) c.self.view_is
    (bare_held (mutations_of c.self.inside.log.items) levels c.self.invariant.levels asked
    (held-bottom levels c.args.key.now asked (sym c.prev.ensures ∙ ap (option_map (λ boundary. boundary.now)) none) below))

pub returns-clause-single : goal.returns-clause-single
returns-clause-single c =
    let levels = c.self.inside.levels in let key = c.args.key.now in
    if_found c.prev.result (last (filter (λ boundary. key_lt boundary key) (boundaries_of levels)))
    (λ boundary. is_single_state (state_under c.args.self.now.mutations boundary) ≡ true → key_le key (after boundary) ≡ true)
    c.prev.ensures
    (λ boundary is single. prev_single (mutations_of c.self.inside.log.items) levels c.self.invariant.levels key boundary c.shows_rising.ensures is
    (ap (λ pending. is_single_state (state_under pending.mutations boundary)) c.self.view_is ∙ single))
