-- Places that were noted for changes, in their order, with room at each.
use Rattle.std.proofs.Common.{◌≡◌, ℕ, ◌+◌, ◌<◌, List, [], ◌∷◌, ◌++◌, length, take, get_or, Option, Some, Bor, sym, ap, subst, ◌∙◌, arith}
use Rattle.std.proofs.lemmas.List.{map-append, take_more}
use Rattle.std.specs.declared.cmp.Ordering.TheVariants.{Less}
use Rattle.std.specs.List.{AllByRecursion, AllZip, IsFirstAndRest}
use Rattle.std.specs.Map.{keys_of}
use Rattle.std.specs.Option.{MatchOption}
use Rattle.key_bytes.specs.Keys.{key_cmp}
use Rattle.version_store.specs.declared.changes.Change.{Change}
use Rattle.version_store.specs.Changed.{change_of, changes_of}
use Rattle.version_store.specs.Chains.{Slots, Places, rooms_of, AreReady, KeepsChains, KeepsPlaces}
use Rattle.version_store.specs.Versions.{IsReadyAt}

-- a list of changes, and places that stand beside them
module _ (P : List ℕ × Option (List ℕ) → ℕ → Type 0) where
  -- one more
  AllZip-push : (changes : List (List ℕ × Option (List ℕ))) (noted : List ℕ) (change : List ℕ × Option (List ℕ)) (place : ℕ)
      → AllZip P changes noted → P change place → AllZip P (changes ++ change ∷ []) (noted ++ place ∷ [])
  AllZip-push [] [] change place all here = (here, all)
  AllZip-push [] (p ∷ ps) change place all here = absurd all
  AllZip-push (c ∷ cs) [] change place all here = absurd all
  AllZip-push (c ∷ cs) (p ∷ ps) change place all here = (all.0, AllZip-push cs ps change place all.1 here)

  -- what is so of each
  pub AllZip-weaker : (Q : List ℕ × Option (List ℕ) → ℕ → Type 0)
      → ((change : List ℕ × Option (List ℕ)) (place : ℕ) → P change place → Q change place)
      → (changes : List (List ℕ × Option (List ℕ))) (noted : List ℕ) → AllZip P changes noted → AllZip Q changes noted
  AllZip-weaker Q weaker [] [] all = all
  AllZip-weaker Q weaker [] (p ∷ ps) all = absurd all
  AllZip-weaker Q weaker (c ∷ cs) [] all = absurd all
  AllZip-weaker Q weaker (c ∷ cs) (p ∷ ps) all = (weaker c p all.0, AllZip-weaker Q weaker cs ps all.1)

  -- where a change is left, so is a place
  pub some-AllZip : (left more : List Change) (change : Change) (noted : List ℕ) → left ≡ change ∷ more
      → AllZip P (changes_of left) noted → 0 < length noted
  some-AllZip left more change noted step all = some_at noted (subst (λ left. AllZip P (changes_of left) noted) step all)
    where
      some_at : (noted : List ℕ) → AllZip P (changes_of (change ∷ more)) noted → 0 < length noted
      some_at [] all = absurd all
      some_at (p ∷ ps) all = omega arith

  -- the first place is that of the first change, and the others are those of the others
  pub first-AllZip : (left more : List Change) (change : Change) (noted : List ℕ)
      (o : Option (Bor ℕ × Bor (List ℕ))) (first : Bor ℕ × Bor (List ℕ)) → left ≡ change ∷ more → AllZip P (changes_of left) noted
      → MatchOption o (length noted ≡ 0) (λ p. IsFirstAndRest noted p.0.now p.1.now) → o ≡ Some first
      → P (change_of change) first.0.now × AllZip P (changes_of more) first.1.now
  first-AllZip left more change noted o first step all split is =
      subst (AllZip P (changes_of (change ∷ more)))
      (subst (λ o. MatchOption o (length noted ≡ 0) (λ p. IsFirstAndRest noted p.0.now p.1.now)) is split).0
      (subst (λ left. AllZip P (changes_of left) noted) step all)

  -- the next change's place was noted
  pub AllZip-more : (changes : List Change) (i : ℕ) (d : Change) (noted : List ℕ) (place : ℕ) → i < length changes
      → AllZip P (changes_of (take i changes)) noted → P (change_of (get_or changes i d)) place
      → AllZip P (changes_of (take (i + 1) changes)) (noted ++ place ∷ [])
  AllZip-more changes i d noted place inside all here =
      subst (λ cs. AllZip P cs (noted ++ place ∷ []))
      (sym (ap changes_of (take_more changes i d inside) ∙ map-append change_of (take i changes) (get_or changes i d ∷ [])))
      (AllZip-push (changes_of (take i changes)) noted (change_of (get_or changes i d)) place all here)

-- places that were noted are those of their keys still, with room
pub AreReady-kept : (slots slots' : Slots) (old new : Places) → KeepsPlaces old new → KeepsChains slots slots'
    → (changes : List (List ℕ × Option (List ℕ))) (noted : List ℕ) → AreReady slots old changes noted → AreReady slots' new changes noted
AreReady-kept slots slots' old new keeps chains changes noted =
    AllZip-weaker (IsReadyAt old (rooms_of slots)) (IsReadyAt new (rooms_of slots'))
    (λ change place ready. (keeps change.0 place ready.0, chains.rooms place ready.1)) changes noted

-- of changes whose keys rise, what is so at each key but the first is so of all the others
pub AllZip-others : (P Q : List ℕ × Option (List ℕ) → ℕ → Type 0) (first : List ℕ)
    → ((change : List ℕ × Option (List ℕ)) (place : ℕ) → key_cmp first change.0 ≡ Less → P change place → Q change place)
    → (changes : List (List ℕ × Option (List ℕ))) (noted : List ℕ) → AllByRecursion (λ y. key_cmp first y ≡ Less) (keys_of changes)
    → AllZip P changes noted → AllZip Q changes noted
AllZip-others P Q first weaker [] [] below all = all
AllZip-others P Q first weaker [] (p ∷ ps) below all = absurd all
AllZip-others P Q first weaker (c ∷ cs) [] below all = absurd all
AllZip-others P Q first weaker (c ∷ cs) (p ∷ ps) below all =
    (weaker c p below.0 all.0, AllZip-others P Q first weaker cs ps below.1 all.1)
