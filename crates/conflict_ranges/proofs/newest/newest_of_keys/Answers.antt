use Rattle.std.proofs.Common.{◌≡◌, ◌≤◌, ◌⊎◌, true, ℕ, List, sym, ap, subst, ◌∙◌}
use Rattle.std.specs.FinMap.{entries, get, get-entries}
use Rattle.std.specs.List.{filter}
use Rattle.key_bytes.specs.Keys.{within}
use Rattle.conflict_ranges.specs.Generations.{version_in}
use Rattle.conflict_ranges.proofs.Alone.{found_below, found_reached}
use Rattle.conflict_ranges.proofs.Greatest.{greatest}
use Rattle.conflict_ranges.proofs.newest.newest_of_keys.Goals as goal
use Rattle.conflict_ranges.proofs.newest.newest_of_keys.Goals.{In-None}

-- once no key is left, the newest version is the greatest
newest_is : (c : In-None) → c.loop-version.newest
    ≡ greatest 0 (filter (λ e. within c.args.begin.now c.args.end.now e.0) (entries c.args.keys.now))
newest_is c = sym (ap (greatest c.loop-version.newest) (c.in-None.ensures {u = tt}).steps.0) ∙ c.loop-version.invariant

pub returns-clause-above : goal.returns-clause-above
returns-clause-above c key is_in =
    subst (λ newest. version_in (get c.args.keys.now key) ≤ newest) (sym (newest_is c))
    (subst (λ found. version_in found ≤ greatest 0 (filter (λ e. within c.args.begin.now c.args.end.now e.0) (entries c.args.keys.now)))
    (sym (get-entries c.args.keys.now key))
    (found_below (within c.args.begin.now c.args.end.now) 0 (entries c.args.keys.now) key is_in))

-- the newest version is 0, or a key has it
abbrev IsReached : (begin end : List ℕ) → (List ℕ → ℕ) → ℕ → Type 0
IsReached begin end version newest = (newest ≡ 0) ⊎ ((key : List ℕ) × (within begin end key ≡ true) × (version key ≡ newest))

pub returns-clause-reached : goal.returns-clause-reached
returns-clause-reached c =
    let begin = c.args.begin.now in let end = c.args.end.now in let keys = c.args.keys.now in
    subst (IsReached begin end (λ key. version_in (get keys key))) (sym (newest_is c))
    (subst (λ version. IsReached begin end version (greatest 0 (filter (λ e. within begin end e.0) (entries keys))))
    (λ i key. version_in (sym (get-entries keys key) i))
    (found_reached (within begin end) (entries keys) c.between-version-items.ensures.rising))
