-- The first line that passes a test, where the lines are read one after the other.
use Rattle.std.proofs.Common.{◌≡◌, ℕ, ◌+◌, ◌<◌, Bool, true, false, cond, List, length, drop, get_or, Some, None, sym, ap, ◌∙◌, arith}
use Rattle.std.specs.List.{find}
use Rattle.std.proofs.lemmas.List.{at_drop_more, at_drop_all}

module _ (test : List ℕ → Bool) (lines : List (List ℕ)) (k : ℕ) where
  -- the line at this place is the first of those left
  next : (line : List ℕ) → (k < length lines) × (line ≡ get_or lines k line) → find test (drop k lines) ≡ cond (test line) (Some line) (find test (drop (k + 1) lines))
  next line at = at_drop_more (find test) lines k line at.0 ∙ ap (λ (x : List ℕ). cond (test x) (Some x) (find test (drop (k + 1) lines))) (sym at.1)

  pub passed : (line : List ℕ) → (k < length lines) × (line ≡ get_or lines k line) → test line ≡ false → find test (drop k lines) ≡ find test lines
      → find test (drop (k + 1) lines) ≡ find test lines
  passed line at fails left = sym (next line at ∙ ap (λ b. cond b (Some line) (find test (drop (k + 1) lines))) fails) ∙ left

  pub found : (line : List ℕ) → (k < length lines) × (line ≡ get_or lines k line) → test line ≡ true → find test (drop k lines) ≡ find test lines
      → Some line ≡ find test lines
  found line at passes left = sym (next line at ∙ ap (λ b. cond b (Some line) (find test (drop (k + 1) lines))) passes) ∙ left

  pub ended : k ≡ length lines → find test (drop k lines) ≡ find test lines → None ≡ find test lines
  ended all left = sym (at_drop_all (find test) lines k (omega (arith, all))) ∙ left
