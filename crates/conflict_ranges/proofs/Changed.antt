-- What is covered by the ranges of a set, after a change.
use Rattle.std.proofs.Common.{◌≡◌, ℕ, Bool, true, false, cond, not, ◌&&◌, ◌||◌, List, [], refl, sym, ap, ◌∙◌}
use Rattle.std.specs.List.Sorted.{IsStrictlySortedBy}
use Rattle.std.specs.Result.{OnOk, OnErr}
use Rattle.std.specs.declared.result.Result.{Result}
use Rattle.std.specs.declared.result.Result.TheVariants.{Ok, Err}
use Rattle.key_bytes.specs.declared.range.KeyRange.{KeyRange}
use Rattle.model_database.specs.States.{covers}
use Rattle.range_map.specs.Boundaries.{Boundaries, held}
use Rattle.conflict_ranges.specs.declared.membership.Membership.{Membership}
use Rattle.conflict_ranges.specs.Segments.{ranges_of, IsSound}
use Rattle.conflict_ranges.proofs.Segments.{covers-ranges_of}

pub on_ok_both : {T E P Q R : Type 0} (r : Result T E) → (P → Q → R) → OnOk r P → OnOk r Q → OnOk r R
on_ok_both (Ok x) f p q = f p q
on_ok_both (Err e) f p q = tt

pub on_err_always : {T E P : Type 0} (r : Result T E) → P → OnErr r P
on_err_always (Ok x) p = tt
on_err_always (Err e) p = p

-- what a set covers, by its boundaries
pub covers_held : (members : Boundaries Membership) (ranges : List KeyRange) → ranges_of members ≡ ranges → IsSound members
    → (key : List ℕ) → covers ranges key ≡ (held members key).0
covers_held members ranges is sound key = sym (ap (λ ranges. covers ranges key) is) ∙ covers-ranges_of members sound key

-- a set without a boundary
pub sound_new : (out : Membership) (members : Boundaries Membership) → out.0 ≡ false → members ≡ record { base = out; entries = [] } → IsSound members
unfolding IsStrictlySortedBy
sound_new out members is_out is = rw is (record { rising = tt; above = λ _ _. is_out })

module _ (old new : Boundaries Membership) (membership : Membership) (sound_old : IsSound old) (sound_new : IsSound new) (key : List ℕ) (t : Bool)
    (is : held new key ≡ cond t membership (held old key)) where
  -- keys that are given the membership of those in the set come in
  pub covers_more : membership.0 ≡ true → covers (ranges_of new) key ≡ (covers (ranges_of old) key || t)
  covers_more is_in =
      covers-ranges_of new sound_new key
      ∙ ap (λ m. m.0) is
      ∙ by_test t
      ∙ ap (λ s. s || t) (sym (covers-ranges_of old sound_old key))
    where
      by_test : (t : Bool) → (cond t membership (held old key)).0 ≡ ((held old key).0 || t)
      by_test true = is_in ∙ elim (held old key).0 as (λ s. true ≡ (s || true)) [ true ↦ refl | false ↦ refl ]
      by_test false = elim (held old key).0 as (λ s. s ≡ (s || false)) [ true ↦ refl | false ↦ refl ]

  -- keys that are given the membership of those that are not in the set leave it
  pub covers_fewer : membership.0 ≡ false → covers (ranges_of new) key ≡ (covers (ranges_of old) key && not t)
  covers_fewer is_out =
      covers-ranges_of new sound_new key
      ∙ ap (λ m. m.0) is
      ∙ by_test t
      ∙ ap (λ s. s && not t) (sym (covers-ranges_of old sound_old key))
    where
      by_test : (t : Bool) → (cond t membership (held old key)).0 ≡ ((held old key).0 && not t)
      by_test true = is_out ∙ elim (held old key).0 as (λ s. false ≡ (s && false)) [ true ↦ refl | false ↦ refl ]
      by_test false = elim (held old key).0 as (λ s. s ≡ (s && true)) [ true ↦ refl | false ↦ refl ]
