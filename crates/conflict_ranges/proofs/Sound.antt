-- Changes after which the boundaries of a set are still sound.
use Rattle.std.proofs.Common.{◌≡◌, ℕ, true, false, cond, List, ap, ◌∙◌}
use Rattle.std.proofs.lemmas.Bool.{and_right}
use Rattle.key_bytes.specs.declared.range.KeyRange.{KeyRange}
use Rattle.key_bytes.specs.Keys.{key_lt, key_le, within}
use Rattle.range_map.specs.Boundaries.{Boundaries, held, is_boundary, changed}
use Rattle.range_map.proofs.Held.{IsRising, held-changed}
use Rattle.conflict_ranges.specs.declared.membership.Membership.{Membership}
use Rattle.conflict_ranges.specs.Ends.{IsSplitAt}
use Rattle.conflict_ranges.specs.Segments.{IsSound}
use Rattle.conflict_ranges.proofs.Splits.{boundary_given, rising_given}

-- no boundary is above a key
abbrev IsTop : List ℕ → Boundaries Membership → Type 0
IsTop key members = (boundary : List ℕ) → is_boundary boundary members ≡ true → key_lt key boundary ≡ false

sound_after : (old new : Boundaries Membership) → IsSound old → IsRising new.entries
    → ((boundary : List ℕ) → is_boundary boundary old ≡ true → is_boundary boundary new ≡ true)
    → ((key : List ℕ) → IsTop key new → held new key ≡ held old key) → IsSound new
sound_after old new sound rising kept same = record {
  rising = rising;
  above = λ key top. ap (λ m. m.0) (same key top) ∙ sound.above key (λ boundary there. top boundary (kept boundary there));
}

pub sound_split : (begin end : List ℕ) (old new : Boundaries Membership) → IsSplitAt begin end old new → IsRising new.entries
    → IsSound old → IsSound new
sound_split begin end old new split rising sound = sound_after old new sound rising split.kept (λ key _. split.same key)

-- a range that is given a membership leaves what is not below its end
pub sound_given : (range : KeyRange) (membership : Membership) (old new : Boundaries Membership) → is_boundary range.begin old ≡ true
    → is_boundary range.end old ≡ true
    → new ≡ changed (within range.begin range.end) (λ _. membership) old → IsSound old → IsSound new
sound_given range membership old new begins ends is sound =
    sound_after old new sound (rising_given _ membership old new is sound.rising) (λ boundary there. boundary_given _ membership old new is boundary ∙ there) same
  where
    same : (key : List ℕ) → IsTop key new → held new key ≡ held old key
    same key top =
        ap (λ members. held members key) is
        ∙ held-changed range.begin range.end (λ _. membership) old key sound.rising begins ends
        ∙ ap (λ t. cond t membership (held old key))
        (and_right (key_le range.begin key) (key_lt key range.end)
        (top range.end (boundary_given _ membership old new is range.end ∙ ends)))
