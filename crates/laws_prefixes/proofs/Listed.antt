-- Places of two lists, one after the other, and numbers that are distinct.
use Rattle.std.proofs.Common.{◌≡◌, ℕ, zero, suc, ◌+◌, ◌⊎◌, inl, inr, List, [], ◌∷◌, ◌++◌, length, Some, refl, sym, ap, ◌∙◌, arith}
use Rattle.std.specs.Prelude.{slice_get}
use Rattle.std.proofs.lemmas.Option.{none-some, same_Some, slice_get_within}
use Rattle.laws_prefixes.specs.Held.{AreDistinct}

-- a place of the first list
pub get_front : {X : Type 0} (first second : List X) (place : ℕ) (x : X) → slice_get first place ≡ Some x
    → slice_get (first ++ second) place ≡ Some x
get_front [] second place x found = absurd (none-some x found)
get_front (y ∷ first) second zero x found = found
get_front (y ∷ first) second (suc place) x found = get_front first second place x found

-- a place of the second one
pub get_behind : {X : Type 0} (first second : List X) (place : ℕ)
    → slice_get (first ++ second) (length first + place) ≡ slice_get second place
get_behind [] second place = let same : 0 + place ≡ place = omega arith in ap (slice_get second) same
get_behind (y ∷ first) second place =
    let next : suc (length first) + place ≡ suc (length first + place) = omega arith in
    ap (slice_get (y ∷ first ++ second)) next ∙ get_behind first second place

-- a place of the second list, where this is what stands there
pub record IsBehind {X : Type 0} (first second : List X) (place : ℕ) (x : X) : Type 0 where
  pub within : ℕ
  pub is : place ≡ length first + within
  pub found : slice_get second within ≡ Some x

-- a place of both is one of the first or one of the second
pub get_parts : {X : Type 0} (first second : List X) (place : ℕ) (x : X) → slice_get (first ++ second) place ≡ Some x
    → (slice_get first place ≡ Some x) ⊎ IsBehind first second place x
get_parts [] second place x found = inr (record { within = place; is = omega arith; found = found })
get_parts (y ∷ first) second zero x found = inl found
get_parts {X} (y ∷ first) second (suc place) x found = by (get_parts first second place x found)
  where
    by : (slice_get first place ≡ Some x) ⊎ IsBehind first second place x
        → (slice_get first place ≡ Some x) ⊎ IsBehind (y ∷ first) second (suc place) x
    by (inl front) = inl front
    by (inr behind) = inr (record { within = behind.within; is = omega (arith, behind.is); found = behind.found })

-- two lists that are empty together are each empty
pub none_of_both : {X : Type 0} (first second : List X) → first ++ second ≡ [] → (first ≡ []) × (second ≡ [])
none_of_both [] second none = (refl, none)
none_of_both (x ∷ first) second none = absurd cc

-- ---- numbers that are distinct

-- what stands at a place of one number is that number
pub get_alone : (number place x : ℕ) → slice_get (number ∷ []) place ≡ Some x → (place ≡ 0) × (number ≡ x)
get_alone number zero x is = (refl, same_Some number x is)
get_alone number (suc place) x is = absurd (none-some x is)

-- distinct numbers, and distinct ones behind them that none of them is
pub distinct_append : (first second : List ℕ) → AreDistinct first → AreDistinct second
    → ((place later number : ℕ) → slice_get first place ≡ Some number → slice_get second later ≡ Some number → ⊥)
    → AreDistinct (first ++ second)
distinct_append first second distinct distinct_too differ place later one other ahead found found_later same =
    by (get_parts first second place one found) (get_parts first second later other found_later)
  where
    by : (slice_get first place ≡ Some one) ⊎ IsBehind first second place one
        → (slice_get first later ≡ Some other) ⊎ IsBehind first second later other → ⊥
    by (inl early) (inl late) = distinct place later one other ahead early late same
    by (inl early) (inr late) = differ place late.within one early (late.found ∙ ap Some (sym same))
    by (inr early) (inl late) = absurd (omega (arith, ahead, early.is, slice_get_within first later other late))
    by (inr early) (inr late) =
        distinct_too early.within late.within one other (omega (arith, ahead, early.is, late.is)) early.found late.found same

-- distinct numbers, and one more that none of them is
pub distinct_more : (numbers : List ℕ) (number : ℕ) → AreDistinct numbers
    → ((place : ℕ) → slice_get numbers place ≡ Some number → ⊥) → AreDistinct (numbers ++ number ∷ [])
distinct_more numbers number distinct new =
    distinct_append numbers (number ∷ []) distinct
    (λ place later one other ahead found found_later same.
    absurd (omega (arith, ahead, (get_alone number place one found).0, (get_alone number later other found_later).0)))
    (λ place later one found again. new place (found ∙ ap Some (sym (get_alone number later one again).1)))
