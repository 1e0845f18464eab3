-- Ranges that are taken from the front of a list, one by one.
use Rattle.std.proofs.Common.{◌≡◌, ℕ, ◌+◌, ◌<◌, Bool, true, false, not, List, ◌∷◌, length, length-drop, drop, get_or, Option, Some, None, is_some, IsTrue, ◌↔◌, IsSome, slice_get, refl, sym, ap, subst, ◌∙◌, arith, true≢false}
use Rattle.std.proofs.lemmas.Bool.{false≢true, or_left}
use Rattle.std.proofs.lemmas.List.{at_drop_more, drop-drop}
use Rattle.std.proofs.lemmas.Option.{slice_get-get_or}
use Rattle.std.specs.Map.Iter.{TakesFirst}
use denote.Bor.{Bor}
use Rattle.key_bytes.specs.declared.range.KeyRange.{KeyRange}
use Rattle.key_bytes.specs.Ranges.{has}
use Rattle.model_database.specs.States.{covers}
use Rattle.conflict_ranges.specs.Segments.{range_between, AreApart}
use Rattle.conflict_ranges.proofs.Walks.{begin_within}

-- the two ends of a range that was taken, where there was one
abbrev Taken : Type 0
Taken = Option (Bor (List ℕ) × Bor (List ℕ))

-- there was none exactly where no key is covered
pub none-covers : (ranges left : List KeyRange) (taken : Taken) (none : Bool) → AreApart ranges → TakesFirst range_between ranges taken left
    → is_some taken ≡ not none → IsTrue none ↔ ((key : List ℕ) → covers ranges key ≡ false)
none-covers ranges left None false apart taken is = absurd (false≢true is)
none-covers ranges left None true apart (ended, _) is = (λ _ key. ap (λ ranges. covers ranges key) ended, λ _. refl)
none-covers ranges left (Some ends) true apart taken is = absurd (true≢false is)
none-covers ranges left (Some ends) false apart taken is =
    (λ none. absurd (false≢true none), λ none. absurd (true≢false (sym there ∙ none first.begin)))
  where
    first : KeyRange
    first = range_between ends

    there : covers ranges first.begin ≡ true
    there =
        ap (λ ranges. covers ranges first.begin) taken
        ∙ or_left (has first first.begin) (covers left first.begin) (begin_within first (subst AreApart taken apart).0)

module _ (all : List KeyRange) where
  drop-more : (i : ℕ) → drop (i + 1) all ≡ drop 1 (drop i all)
  drop-more i = sym (drop-drop 1 i all)

  pub passed_one : (i : ℕ) (now left : List KeyRange) (taken : Taken) → now ≡ drop i all → TakesFirst range_between now taken left
      → left ≡ drop (i + 1) all
  passed_one i now left None is (ended, none) = none ∙ sym (drop-more i ∙ ap (drop 1) (sym is ∙ ended))
  passed_one i now left (Some ends) is taken = sym (drop-more i ∙ ap (drop 1) (sym is ∙ taken))

  module _ (i : ℕ) (now left : List KeyRange) (more : i < length all) (is : now ≡ drop i all) where
    pub taken_some : (taken : Taken) → TakesFirst range_between now taken left → IsSome taken
    taken_some None (ended, _) = let none = ap length (sym is ∙ ended) in absurd (omega (arith, none, length-drop i all))
    taken_some (Some ends) taken = refl

    pub taken_at : (ends : Bor (List ℕ) × Bor (List ℕ)) → TakesFirst range_between now (Some ends) left
        → slice_get all i ≡ Some (range_between ends)
    taken_at ends taken =
        let range = range_between ends in
        slice_get-get_or all i range more
        ∙ ap Some (same_first (get_or all i range) range (drop (i + 1) all) left
        (sym (at_drop_more (λ ranges. ranges) all i range more) ∙ sym is ∙ taken))
      where
        same_first : (x y : KeyRange) (xs ys : List KeyRange) → x ∷ xs ≡ y ∷ ys → x ≡ y
        same_first x y xs ys h = cc
