-- The versions of keys in a generation, by themselves and in ranges, before and after a change.
use Rattle.std.proofs.Common.{◌≡◌, ◌≤◌, ◌<◌, ◌⊎◌, inl, inr, ℕ, max, arith, Bool, true, false, cond, not, List, Option, None, Some, is_some, refl, sym, ap, subst, ◌∙◌}
use Rattle.std.proofs.lemmas.Bool.{cases_lt}
use Rattle.std.proofs.lemmas.Cmp.{tied_itself}
use Rattle.std.proofs.lemmas.Map.Lookups.{exact_bytes}
use Rattle.std.proofs.lemmas.Map.Views.{tells_apart}
use Rattle.std.specs.FinMap.{FinMap, contains_key, get, get-insert, get-retain_keys, insert, retain_keys}
use Rattle.std.specs.Cmp.Lexicographic.{nat_list_cmp_total, texts_ties}
use Rattle.std.specs.Option.{unwrap_or}
use Rattle.std.specs.Ordering.{eq_by_cmp, is_eq}
use Rattle.key_bytes.specs.Keys.{key_cmp, after, within}
use Rattle.model_database.proofs.Ranges.{has_one}
use Rattle.range_map.specs.Boundaries.{Boundaries, held, is_boundary, changed}
use Rattle.range_map.proofs.Held.{IsRising, held-changed}
use Rattle.conflict_ranges.specs.Generations.{version_in, version_at, LastWrites, IsBounded, GoesAlone, KeepsRoom}
use Rattle.conflict_ranges.proofs.Rooms.{room_kept}
use Rattle.conflict_ranges.proofs.Splits.{boundary_given}

abbrev Versions : Type 0
Versions = FinMap key_cmp ℕ

-- a range of one key has the keys that tie with it
one_key : (k q : List ℕ) → within k (after k) q ≡ eq_by_cmp key_cmp q k
one_key k q = has_one k q ∙ texts_ties q k

-- a key that has no version is known at version 0, and each key has the version that it had
pub known_at_least_0 : (keys : Versions) (k q : List ℕ)
    → version_in (get (insert keys k (unwrap_or (get keys k) 0)) q) ≡ version_in (get keys q)
known_at_least_0 keys k q =
    ap version_in (get-insert nat_list_cmp_total keys k (unwrap_or (get keys k) 0) q) ∙ by_test (eq_by_cmp key_cmp q k) refl
  where
    filled : (found : Option ℕ) → unwrap_or found 0 ≡ version_in found
    filled None = refl
    filled (Some version) = refl

    by_test : (t : Bool) → eq_by_cmp key_cmp q k ≡ t
        → version_in (cond t (Some (unwrap_or (get keys k) 0)) (get keys q)) ≡ version_in (get keys q)
    by_test true same = filled (get keys k) ∙ sym (ap (λ q. version_in (get keys q)) (tells_apart exact_bytes q k same))
    by_test false _ = refl

-- a key that is given a version is known, and so is each that was
pub known : (keys : Versions) (k : List ℕ) (version : ℕ) (q : List ℕ) → contains_key keys q ≡ true → contains_key (insert keys k version) q ≡ true
known keys k version q there =
    ap is_some (get-insert nat_list_cmp_total keys k version q) ∙ by_test (eq_by_cmp key_cmp q k)
  where
    by_test : (t : Bool) → is_some (cond t (Some version) (get keys q)) ≡ true
    by_test true = refl
    by_test false = there

pub known_now : (keys : Versions) (k : List ℕ) (version : ℕ) → contains_key (insert keys k version) k ≡ true
known_now keys k version =
    ap is_some (get-insert nat_list_cmp_total keys k version k)
    ∙ ap (λ t. is_some (cond t (Some version) (get keys k))) (ap is_eq (tied_itself nat_list_cmp_total k))

-- ---- a key that is given a version by itself

module _ (begin end : List ℕ) (version : ℕ) (old : LastWrites) (bounded : IsBounded old) (low : version ≤ old.newest) where
  abbrev pub alone : LastWrites
  alone = record old { keys = insert old.keys begin version }

  pub alone_bounded : IsBounded alone
  alone_bounded = record {
    keys = λ q. subst (λ found. version_in found ≤ old.newest) (sym (get-insert nat_list_cmp_total old.keys begin version q))
        (by_test q (eq_by_cmp key_cmp q begin));
    ranges = bounded.ranges;
  }
    where
      by_test : (q : List ℕ) (t : Bool) → version_in (cond t (Some version) (get old.keys q)) ≤ old.newest
      by_test q true = low
      by_test q false = bounded.keys q

  pub alone_given : GoesAlone old version begin end → (q : List ℕ)
      → version_at alone q ≡ cond (within begin end q) version (version_at old q)
  alone_given goes q =
      ap (λ found. max (version_in found) (held old.ranges q)) (get-insert nat_list_cmp_total old.keys begin version q)
      ∙ by_test (eq_by_cmp key_cmp q begin)
      ∙ ap (λ t. cond t version (version_at old q)) (sym (one_key begin q) ∙ ap (λ end. within begin end q) (sym goes.0))
    where
      by_test : (t : Bool) → max (version_in (cond t (Some version) (get old.keys q))) (held old.ranges q)
          ≡ cond t version (version_at old q)
      by_test true = let above = goes.1 in let less = bounded.ranges q in omega (arith, above, less)
      by_test false = refl

  pub alone_keeps : KeepsRoom version old alone
  alone_keeps range =
      room_kept version range old alone (record { newest = refl; keys = known old.keys begin version; boundaries = λ boundary there. there })

-- ---- a key that is given a version by itself, which none is above: it is the newest then

module _ (key : List ℕ) (version : ℕ) (old : LastWrites) (bounded : IsBounded old) (above : old.newest ≤ version) (keys : Versions)
    (is : keys ≡ insert old.keys key version) where
  abbrev raised : LastWrites
  raised = record old { newest = version }

  raised_bounded : IsBounded raised
  raised_bounded = record {
    keys = λ q. let less = bounded.keys q in omega (arith, less, above);
    ranges = λ q. let less = bounded.ranges q in omega (arith, less, above);
  }

  abbrev pub newest_alone : LastWrites
  newest_alone = record { keys = keys; ranges = old.ranges; newest = version }

  pub newest_alone_bounded : IsBounded newest_alone
  newest_alone_bounded =
      subst (λ (keys : Versions). IsBounded (record { keys = keys; ranges = old.ranges; newest = version })) (sym is)
      (alone_bounded key (after key) version raised raised_bounded (omega arith))

  pub newest_alone_given : (q : List ℕ) → version_at newest_alone q ≡ cond (within key (after key) q) version (version_at old q)
  newest_alone_given q =
      ap (λ (keys : Versions). version_at (record { keys = keys; ranges = old.ranges; newest = version }) q) is
      ∙ alone_given key (after key) version raised raised_bounded (omega arith) (refl, omega arith) q

-- ---- a range that is given a version

-- what a key has by itself, where the keys of a range lost it
left_of : (begin end : List ℕ) (keys : Versions) (q : List ℕ)
    → get (retain_keys keys (λ k. not (within begin end k))) q ≡ cond (not (within begin end q)) (get keys q) None
left_of begin end keys q =
    get-retain_keys keys (λ k. not (within begin end k)) q (λ x tied. ap (λ k. not (within begin end k)) (sym (exact_bytes q x tied)))

bounded_left : (begin end : List ℕ) (keys : Versions) (newest : ℕ) → ((q : List ℕ) → version_in (get keys q) ≤ newest)
    → (q : List ℕ) → version_in (get (retain_keys keys (λ k. not (within begin end k))) q) ≤ newest
bounded_left begin end keys newest all q =
    subst (λ found. version_in found ≤ newest) (sym (left_of begin end keys q)) (by_test (not (within begin end q)))
  where
    by_test : (t : Bool) → version_in (cond t (get keys q) None) ≤ newest
    by_test true = all q
    by_test false = omega arith

module _ (begin end : List ℕ) (version : ℕ) (old : LastWrites) (ranges : Boundaries ℕ) (rising : IsRising old.ranges.entries)
    (is_begin : is_boundary begin old.ranges ≡ true) (is_end : is_boundary end old.ranges ≡ true)
    (is : ranges ≡ changed (within begin end) (λ _. version) old.ranges) (bounded : IsBounded old) (low : version ≤ old.newest) where
  -- what ranges give a key
  held_now : (q : List ℕ) → held ranges q ≡ cond (within begin end q) version (held old.ranges q)
  held_now q = ap (λ boundaries. held boundaries q) is ∙ held-changed begin end (λ _. version) old.ranges q rising is_begin is_end

  bounded_now : (q : List ℕ) → held ranges q ≤ old.newest
  bounded_now q =
      subst (λ number. number ≤ old.newest) (sym (held_now q)) (by_test (within begin end q))
    where
      by_test : (t : Bool) → cond t version (held old.ranges q) ≤ old.newest
      by_test true = low
      by_test false = bounded.ranges q

  boundary_kept : (boundary : List ℕ) → is_boundary boundary old.ranges ≡ true → is_boundary boundary ranges ≡ true
  boundary_kept boundary there = boundary_given (within begin end) version old.ranges ranges is boundary ∙ there

  -- where no version is above this one, the keys by themselves stay as they are
  abbrev pub in_range : LastWrites
  in_range = record old { ranges = ranges }

  pub range_bounded : IsBounded in_range
  range_bounded = record { keys = bounded.keys; ranges = bounded_now }

  pub range_given : old.newest ≤ version → (q : List ℕ) → version_at in_range q ≡ cond (within begin end q) version (version_at old q)
  range_given above q =
      ap (max (version_in (get old.keys q))) (held_now q) ∙ by_test (within begin end q)
    where
      by_test : (t : Bool) → max (version_in (get old.keys q)) (cond t version (held old.ranges q))
          ≡ cond t version (max (version_in (get old.keys q)) (held old.ranges q))
      by_test true = let less = bounded.keys q in omega (arith, less, above)
      by_test false = refl

  pub range_keeps : KeepsRoom version old in_range
  range_keeps range =
      room_kept version range old in_range (record { newest = refl; keys = λ key there. there; boundaries = boundary_kept })

  -- where one is, the keys of the range lose what they had by themselves
  abbrev pub instead : LastWrites
  instead = record old { keys = retain_keys old.keys (λ k. not (within begin end k)); ranges = ranges }

  pub instead_bounded : IsBounded instead
  instead_bounded = record { keys = bounded_left begin end old.keys old.newest bounded.keys; ranges = bounded_now }

  pub instead_given : (q : List ℕ) → version_at instead q ≡ cond (within begin end q) version (version_at old q)
  instead_given q =
      (λ i. max (version_in (left_of begin end old.keys q i)) (held_now q i)) ∙ by_test (within begin end q)
    where
      by_test : (t : Bool) → max (version_in (cond (not t) (get old.keys q) None)) (cond t version (held old.ranges q))
          ≡ cond t version (max (version_in (get old.keys q)) (held old.ranges q))
      by_test true = omega arith
      by_test false = refl

  pub instead_keeps : version < old.newest → KeepsRoom version old instead
  instead_keeps above range room = record {
    alone = λ goes. let below = goes.1 in absurd (omega (arith, above, below));
    as_range = λ goes. let boundaries = room.as_range goes in (boundary_kept range.begin boundaries.0, boundary_kept range.end boundaries.1);
  }

-- ---- the newest version that a key of a range has

-- no key of a range has more than this
abbrev pub IsAboveAll : (begin end : List ℕ) → LastWrites → ℕ → Type 0
IsAboveAll begin end generation newest = (key : List ℕ) → within begin end key ≡ true → version_at generation key ≤ newest

-- it is 0, or a key of the range has it
abbrev pub IsReached : (begin end : List ℕ) → LastWrites → ℕ → Type 0
IsReached begin end generation newest = (newest ≡ 0) ⊎ ((key : List ℕ) × (within begin end key ≡ true) × (version_at generation key ≡ newest))

module _ (begin end : List ℕ) (generation : LastWrites) (newest : ℕ) where
  pub above_one : end ≡ after begin → newest ≡ version_at generation begin → IsAboveAll begin end generation newest
  above_one single is key is_in =
      let same : key ≡ begin = tells_apart exact_bytes key begin (sym (one_key begin key) ∙ ap (λ end. within begin end key) (sym single) ∙ is_in) in
      let its = ap (version_at generation) same in omega (arith, is, its)

  pub reached_one : end ≡ after begin → newest ≡ version_at generation begin → IsReached begin end generation newest
  reached_one single is = inr (
    begin,
    ap (λ end. within begin end begin) single ∙ one_key begin begin ∙ ap is_eq (tied_itself nat_list_cmp_total begin),
    sym is,
  )

  module _ (of_ranges of_keys : ℕ) (is : newest ≡ max of_ranges of_keys)
      (ranges_above : (key : List ℕ) → within begin end key ≡ true → held generation.ranges key ≤ of_ranges)
      (keys_above : (key : List ℕ) → within begin end key ≡ true → version_in (get generation.keys key) ≤ of_keys) where
    pub above_both : IsAboveAll begin end generation newest
    above_both key is_in = let one = ranges_above key is_in in let other = keys_above key is_in in omega (arith, is, one, other)

    pub reached_both : ((key : List ℕ) × (within begin end key ≡ true) × (held generation.ranges key ≡ of_ranges))
        → ((of_keys ≡ 0) ⊎ ((key : List ℕ) × (within begin end key ≡ true) × (version_in (get generation.keys key) ≡ of_keys)))
        → IsReached begin end generation newest
    reached_both (key, is_in, has) by_keys = elim (cases_lt of_ranges of_keys) [
      | inl more ↦ by_key more by_keys
      | inr less ↦
          let other = keys_above key is_in in
          let same : version_at generation key ≡ newest = omega (arith, is, less, has, other) in inr (key, is_in, same)
    ]
      where
        by_key : of_ranges < of_keys → ((of_keys ≡ 0) ⊎ ((key : List ℕ) × (within begin end key ≡ true) × (version_in (get generation.keys key) ≡ of_keys)))
            → IsReached begin end generation newest
        by_key more (inl none) = absurd (omega (arith, more, none))
        by_key more (inr (key, is_in, has)) =
            let other = ranges_above key is_in in
            let same : version_at generation key ≡ newest = omega (arith, is, more, has, other) in inr (key, is_in, same)
