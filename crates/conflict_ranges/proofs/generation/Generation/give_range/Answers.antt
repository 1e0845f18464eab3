use Rattle.std.proofs.Common.{◌≡◌, ◌≤◌, ℕ, true, cond, List, sym, ap, subst, ◌∙◌}
use Rattle.std.specs.FinMap.{FinMap}
use Rattle.key_bytes.specs.Keys.{key_cmp, within}
use Rattle.range_map.specs.Boundaries.{is_boundary}
use Rattle.conflict_ranges.specs.Generations.{version_at, LastWrites, IsBounded, KeepsRoom}
use Rattle.conflict_ranges.proofs.Versions.{range_bounded, range_given, range_keeps, instead_bounded, instead_given, instead_keeps}
use Rattle.conflict_ranges.proofs.generation.Generation.give_range.Goals as goal

-- what is asked of the generation before
abbrev IsAsked : (begin end : List ℕ) → ℕ → LastWrites → Type 0
IsAsked begin end version old = (version ≤ old.newest) × (is_boundary begin old.ranges ≡ true) × (is_boundary end old.ranges ≡ true)

pub invariant_of-self : goal.invariant_of-self
invariant_of-self c =
    let begin = c.args.begin.now in let end = c.args.end.now in let version = c.args.version in
    let asked = subst (IsAsked begin end version) (sym c.self.view_is) (c.requires.bounded, c.requires.boundaries.0, c.requires.boundaries.1) in
    subst (λ (keys : FinMap key_cmp ℕ). IsBounded (record { keys = keys; ranges = c.change.new.self; newest = c.self.inside.newest }))
    (sym c.clear_range.ensures)
    (instead_bounded begin end version _ c.change.new.self c.shows_rising.ensures asked.1 asked.2 c.change.ensures c.self.invariant asked.0)

pub invariant_of-self-else-version-self : goal.invariant_of-self-else-version-self
invariant_of-self-else-version-self c =
    let begin = c.args.begin.now in let end = c.args.end.now in let version = c.args.version in
    let asked = subst (IsAsked begin end version) (sym c.self.view_is) (c.requires.bounded, c.requires.boundaries.0, c.requires.boundaries.1) in
    range_bounded begin end version _ c.change.new.self c.shows_rising.ensures asked.1 asked.2 c.change.ensures c.self.invariant asked.0

pub returns-then-version-self-clause-given : goal.returns-then-version-self-clause-given
returns-then-version-self-clause-given c q =
    let begin = c.args.begin.now in let end = c.args.end.now in let version = c.args.version in
    let asked = subst (IsAsked begin end version) (sym c.self.view_is) (c.requires.bounded, c.requires.boundaries.0, c.requires.boundaries.1) in
    ap (λ (keys : FinMap key_cmp ℕ). version_at (record { keys = keys; ranges = c.change.new.self; newest = c.self.inside.newest }) q)
    c.clear_range.ensures
    ∙ instead_given begin end version _ c.change.new.self c.shows_rising.ensures asked.1 asked.2 c.change.ensures c.self.invariant asked.0 q
    ∙ ap (λ (old : LastWrites). cond (within begin end q) version (version_at old q)) c.self.view_is

pub returns-then-version-self-clause-kept : goal.returns-then-version-self-clause-kept
returns-then-version-self-clause-kept c =
    let begin = c.args.begin.now in let end = c.args.end.now in let version = c.args.version in
    let asked = subst (IsAsked begin end version) (sym c.self.view_is) (c.requires.bounded, c.requires.boundaries.0, c.requires.boundaries.1) in
    subst (λ (old : LastWrites). KeepsRoom version old (record { keys = c.clear_range.new.self; ranges = c.change.new.self; newest = c.self.inside.newest }))
    c.self.view_is
    (subst (λ (keys : FinMap key_cmp ℕ). KeepsRoom version
    (record { keys = c.self.inside.keys; ranges = c.self.inside.ranges; newest = c.self.inside.newest })
    (record { keys = keys; ranges = c.change.new.self; newest = c.self.inside.newest }))
    (sym c.clear_range.ensures)
    (instead_keeps begin end version _ c.change.new.self c.shows_rising.ensures asked.1 asked.2 c.change.ensures c.self.invariant asked.0
    c.if-version-self.true))

pub returns-else-version-self-clause-given : goal.returns-else-version-self-clause-given
returns-else-version-self-clause-given c q =
    let begin = c.args.begin.now in let end = c.args.end.now in let version = c.args.version in
    let asked = subst (IsAsked begin end version) (sym c.self.view_is) (c.requires.bounded, c.requires.boundaries.0, c.requires.boundaries.1) in
    range_given begin end version _ c.change.new.self c.shows_rising.ensures asked.1 asked.2 c.change.ensures c.self.invariant asked.0
    c.if-version-self.false q
    ∙ ap (λ (old : LastWrites). cond (within begin end q) version (version_at old q)) c.self.view_is

pub returns-else-version-self-clause-kept : goal.returns-else-version-self-clause-kept
returns-else-version-self-clause-kept c =
    let begin = c.args.begin.now in let end = c.args.end.now in let version = c.args.version in
    let asked = subst (IsAsked begin end version) (sym c.self.view_is) (c.requires.bounded, c.requires.boundaries.0, c.requires.boundaries.1) in
    subst (λ (old : LastWrites). KeepsRoom version old (record { keys = c.self.inside.keys; ranges = c.change.new.self; newest = c.self.inside.newest }))
    c.self.view_is
    (range_keeps begin end version _ c.change.new.self c.shows_rising.ensures asked.1 asked.2 c.change.ensures c.self.invariant asked.0)
