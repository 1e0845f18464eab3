-- Versions of which some are forgotten.
use Rattle.std.proofs.Common.{◌≡◌, ◌≤◌, ◌<◌, ◌⊎◌, inl, inr, ℕ, max, arith, cond, List, ap, ◌∙◌, lt-ltb}
use Rattle.std.proofs.lemmas.Bool.{cases_lt}
use Rattle.conflict_ranges.specs.Writes.{above}

pub above-high : (low version : ℕ) → low < version → above low version ≡ version
above-high low version great = ap (λ b. cond {A = ℕ} b version 0) (lt-ltb low version great)

-- the newest version of two generations, where it isn't forgotten, is that of a key
module _ (P : List ℕ → Type 0) (older younger : List ℕ → ℕ) (low of_older of_younger newest : ℕ) (is : newest ≡ max of_younger of_older)
    (older_above : (key : List ℕ) → P key → older key ≤ of_older) (younger_above : (key : List ℕ) → P key → younger key ≤ of_younger)
    (older_reached : (of_older ≡ 0) ⊎ ((key : List ℕ) × P key × (older key ≡ of_older)))
    (younger_reached : (of_younger ≡ 0) ⊎ ((key : List ℕ) × P key × (younger key ≡ of_younger))) where
  abbrev IsKept : Type 0
  IsKept = (newest ≤ low) ⊎ ((key : List ℕ) × P key × (above low (max (older key) (younger key)) ≡ newest))

  pub reached-both : IsKept
  reached-both = elim (cases_lt low newest) [
    | inl great ↦ elim (cases_lt of_younger of_older) [
      | inl less ↦ by_older great less older_reached
      | inr more ↦ by_younger great more younger_reached
    ]
    | inr small ↦ inl small
  ]
    where
      kept : low < newest → (key : List ℕ) → P key → max (older key) (younger key) ≡ newest → IsKept
      kept great key is_in same = inr (key, is_in, ap (above low) same ∙ above-high low newest great)

      by_older : low < newest → of_younger < of_older → ((of_older ≡ 0) ⊎ ((key : List ℕ) × P key × (older key ≡ of_older))) → IsKept
      by_older great less (inl none) = absurd (omega (arith, is, great, less, none))
      by_older great less (inr (key, is_in, has)) =
          let other = younger_above key is_in in kept great key is_in (omega (arith, is, less, has, other))

      by_younger : low < newest → of_older ≤ of_younger → ((of_younger ≡ 0) ⊎ ((key : List ℕ) × P key × (younger key ≡ of_younger))) → IsKept
      by_younger great more (inl none) = absurd (omega (arith, is, great, more, none))
      by_younger great more (inr (key, is_in, has)) =
          let other = older_above key is_in in kept great key is_in (omega (arith, is, more, has, other))
