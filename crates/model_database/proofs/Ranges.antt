-- Which keys lists of ranges have, and that they meet exactly where they have a key in common.
use Rattle.std.proofs.Common.{◌≡◌, ℕ, Bool, true, false, not, List, [], ◌∷◌, ◌++◌, inl, inr, refl, sym, ap, ◌∙◌}
use Rattle.std.specs.Prelude.{◌&&◌, ◌||◌, flat_map, bytes_eq}
use Rattle.std.specs.Bool.{Decides}
use Rattle.std.specs.List.{list_any}
use Rattle.std.specs.Ordering.{is_lt, is_eq, ordering_reverse}
use Rattle.std.specs.declared.cmp.Ordering.{Ordering}
use Rattle.std.specs.declared.cmp.Ordering.TheVariants.{Less, Equal, Greater}
use Rattle.std.specs.Cmp.Lexicographic.{nat_list_cmp_total, texts_ties}
use Rattle.std.proofs.Math.Bool.{or-false, and-true, and-or_distrib_right}
use Rattle.std.proofs.lemmas.Bool.{and_from, and_parts, both_ways, cond_both, false_from_ne_true, not-true, or_cases, or_from, or_left, or_parts, or_right}
use Rattle.std.proofs.lemmas.Bool.Decides.{same_from_decides}
use Rattle.key_bytes.specs.declared.range.KeyRange.{KeyRange}
use Rattle.key_bytes.specs.Keys.{key_cmp, key_lt, within, after, lesser, greater}
use Rattle.key_bytes.specs.Ranges.{has, meets}
use Rattle.key_bytes.proofs.Orders.{irreflexive, le_lt, lt_le, lt_trans, lt_after}
use Rattle.model_database.specs.States.{covers}
use Rattle.model_database.specs.Intervals.{one, minus, without, any_meet}
use Rattle.model_database.specs.Transactions.{with_range}
use Rattle.model_database.proofs.States.{covers-append}

-- ---- a key against the lesser and the greater of two

implies_and : (x y : Bool) → (x ≡ true → y ≡ true) → x ≡ (y && x)
implies_and true y given = sym (and_from y true (given refl) refl)
implies_and false true given = refl
implies_and false false given = refl

and_implied : (x y : Bool) → (x ≡ true → y ≡ true) → x ≡ (x && y)
and_implied true y given = sym (given refl)
and_implied false y given = refl

implies_or : (x y : Bool) → (x ≡ true → y ≡ true) → y ≡ (x || y)
implies_or true y given = given refl
implies_or false y given = refl

or_implied : (x y : Bool) → (y ≡ true → x ≡ true) → x ≡ (x || y)
or_implied true y given = refl
or_implied false true given = given refl
or_implied false false given = refl

-- a key is below the lesser of two where it is below both
pub lt_lesser : (k a b : List ℕ) → key_lt k (lesser a b) ≡ (key_lt k a && key_lt k b)
lt_lesser k a b =
    cond_both (key_lt b a) b a (λ x. key_lt k x ≡ (key_lt k a && key_lt k b))
    (λ below. implies_and (key_lt k b) (key_lt k a) (λ less. lt_trans k b a less below))
    (λ above. and_implied (key_lt k a) (key_lt k b) (λ less. lt_le k a b less above))

-- and below the greater of two where it is below one of them
pub lt_greater : (k a b : List ℕ) → key_lt k (greater a b) ≡ (key_lt k a || key_lt k b)
lt_greater k a b =
    cond_both (key_lt a b) b a (λ x. key_lt k x ≡ (key_lt k a || key_lt k b))
    (λ below. implies_or (key_lt k a) (key_lt k b) (λ less. lt_trans k a b less below))
    (λ above. or_implied (key_lt k a) (key_lt k b) (λ less. lt_le k b a less above))

-- ---- the keys of one range

-- a list of one range has the keys of the range
pub covers_single : (range : KeyRange) (k : List ℕ) → covers (range ∷ []) k ≡ has range k
covers_single range k = or-false (has range k)

-- an empty range has no key
pub none_within : (begin end k : List ℕ) → key_lt begin end ≡ false → within begin end k ≡ false
none_within begin end k empty = false_from_ne_true (within begin end k) (λ inside.
    let parts = and_parts (not (key_lt k begin)) (key_lt k end) inside in
    both_ways (key_lt begin end) empty (le_lt begin k end (not-true (key_lt k begin) parts.0) parts.1))

-- a range from a key up to the key after it has this key alone
pub has_one : (k asked : List ℕ) → within k (after k) asked ≡ bytes_eq asked k
has_one k asked =
    ap (λ b. not (key_lt asked k) && b) (lt_after asked k ∙ ap (λ o. not (is_lt o)) (nat_list_cmp_total.antisymm k asked))
    ∙ by (key_cmp asked k)
    ∙ sym (texts_ties asked k)
  where
    by : (o : Ordering) → (not (is_lt o) && not (is_lt (ordering_reverse o))) ≡ is_eq o
    by Less = refl
    by Equal = refl
    by Greater = refl

pub covers_one : (k asked : List ℕ) → covers (one k ∷ []) asked ≡ bytes_eq asked k
covers_one k asked = covers_single (one k) asked ∙ has_one k asked

-- ---- the keys of many

pub covers-flat_map : {X : Type 0} (ranges_of : X → List KeyRange) (xs : List X) (k : List ℕ)
    → covers (flat_map ranges_of xs) k ≡ list_any (λ x. covers (ranges_of x) k) xs
covers-flat_map ranges_of [] k = refl
covers-flat_map ranges_of (x ∷ xs) k =
    covers-append (ranges_of x) (flat_map ranges_of xs) k ∙ ap (λ b. covers (ranges_of x) k || b) (covers-flat_map ranges_of xs k)

-- one more range, unless it is empty
pub covers_with_range : (ranges : List KeyRange) (range : KeyRange) (k : List ℕ)
    → covers (with_range ranges range) k ≡ (covers ranges k || has range k)
covers_with_range ranges range k =
    cond_both (key_lt range.begin range.end) (ranges ++ range ∷ []) ranges (λ list. covers list k ≡ (covers ranges k || has range k))
    (λ _. covers-append ranges (range ∷ []) k ∙ ap (λ b. covers ranges k || b) (covers_single range k))
    (λ empty. sym (ap (λ b. covers ranges k || b) (none_within range.begin range.end k empty) ∙ or-false (covers ranges k)))

-- ---- ranges without others

-- a range without another has the keys of the one that the other doesn't have
pub covers_minus : (range taken : KeyRange) (k : List ℕ) → covers (minus range taken) k ≡ (has range k && not (has taken k))
covers_minus range taken k =
    ap (λ b. (not (key_lt k range.begin) && b) || (within (greater range.begin taken.end) range.end k || false))
    (lt_lesser k range.end taken.begin)
    ∙ ap (λ b. (not (key_lt k range.begin) && (key_lt k range.end && key_lt k taken.begin)) || ((not b && key_lt k range.end) || false))
    (lt_greater k range.begin taken.end)
    ∙ by (key_lt k range.begin) (key_lt k range.end) (key_lt k taken.begin) (key_lt k taken.end)
  where
    by : (low high first last : Bool)
        → ((not low && (high && first)) || ((not (low || last) && high) || false)) ≡ ((not low && high) && not (not first && last))
    by true high first last = refl
    by false false first true = refl
    by false false first false = refl
    by false true true true = refl
    by false true true false = refl
    by false true false true = refl
    by false true false false = refl

covers_each_minus : (taken : KeyRange) (ranges : List KeyRange) (k : List ℕ)
    → covers (flat_map (λ range. minus range taken) ranges) k ≡ (covers ranges k && not (has taken k))
covers_each_minus taken [] k = refl
covers_each_minus taken (range ∷ ranges) k =
    covers-append (minus range taken) (flat_map (λ range. minus range taken) ranges) k
    ∙ ap (λ b. b || covers (flat_map (λ range. minus range taken) ranges) k) (covers_minus range taken k)
    ∙ ap (λ b. (has range k && not (has taken k)) || b) (covers_each_minus taken ranges k)
    ∙ sym (and-or_distrib_right (has range k) (covers ranges k) (not (has taken k)))

without_each : (x y z : Bool) → ((x && not y) && not z) ≡ (x && not (y || z))
without_each true true z = refl
without_each true false z = refl
without_each false y z = refl

pub covers_without : (taken ranges : List KeyRange) (k : List ℕ)
    → covers (without taken ranges) k ≡ (covers ranges k && not (covers taken k))
covers_without [] ranges k = sym (and-true (covers ranges k))
covers_without (first ∷ others) ranges k =
    covers_without others (flat_map (λ range. minus range first) ranges) k
    ∙ ap (λ b. b && not (covers others k)) (covers_each_minus first ranges k)
    ∙ without_each (covers ranges k) (has first k) (covers others k)

-- ---- ranges that meet

-- two ranges with a key in common meet
pub meets_at : (range other : KeyRange) (k : List ℕ) → has range k ≡ true → has other k ≡ true → meets range other ≡ true
meets_at range other k in_range in_other =
    let first = and_parts (not (key_lt k range.begin)) (key_lt k range.end) in_range in
    let second = and_parts (not (key_lt k other.begin)) (key_lt k other.end) in_other in
    le_lt (greater range.begin other.begin) k (lesser range.end other.end)
    (lt_greater k range.begin other.begin
    ∙ or_from (key_lt k range.begin) (key_lt k other.begin) (not-true (key_lt k range.begin) first.0)
    (not-true (key_lt k other.begin) second.0))
    (lt_lesser k range.end other.end ∙ and_from (key_lt k range.end) (key_lt k other.end) first.1 second.1)

-- two ranges that meet have a key in common: the greater begin
pub common_key : (range other : KeyRange) → meets range other ≡ true → (k : List ℕ) × (has range k ≡ true) × (has other k ≡ true)
common_key range other meet =
    let k = greater range.begin other.begin in
    let from = or_parts (key_lt k range.begin) (key_lt k other.begin) (sym (lt_greater k range.begin other.begin) ∙ irreflexive k) in
    let to = and_parts (key_lt k range.end) (key_lt k other.end) (sym (lt_lesser k range.end other.end) ∙ meet) in (
      k,
      and_from (not (key_lt k range.begin)) (key_lt k range.end) (ap not from.0) to.0,
      and_from (not (key_lt k other.begin)) (key_lt k other.end) (ap not from.1) to.1,
    )

-- a range meets one of some others exactly where it has a key that they have
pub any_meets_at : (range : KeyRange) (others : List KeyRange) (k : List ℕ) → has range k ≡ true → covers others k ≡ true
    → list_any (meets range) others ≡ true
any_meets_at range [] k in_range in_others = in_others
any_meets_at range (other ∷ others) k in_range in_others =
    elim (or_cases (has other k) (covers others k) in_others) [
      | inl first ↦ or_left (meets range other) (list_any (meets range) others) (meets_at range other k in_range first)
      | inr later ↦ or_right (meets range other) (list_any (meets range) others) (any_meets_at range others k in_range later)
    ]

pub common_key_of_one : (range : KeyRange) (others : List KeyRange) → list_any (meets range) others ≡ true
    → (k : List ℕ) × (has range k ≡ true) × (covers others k ≡ true)
common_key_of_one range [] meet = absurd (both_ways false refl meet)
common_key_of_one range (other ∷ others) meet =
    elim (or_cases (meets range other) (list_any (meets range) others) meet) [
      | inl first ↦
          let common = common_key range other first in
          (common.0, common.1, or_left (has other common.0) (covers others common.0) common.2)
      | inr later ↦
          let common = common_key_of_one range others later in
          (common.0, common.1, or_right (has other common.0) (covers others common.0) common.2)
    ]

-- some ranges meet some others exactly where they have a key in common
pub any_meet_at : (ranges others : List KeyRange) (k : List ℕ) → covers ranges k ≡ true → covers others k ≡ true
    → any_meet ranges others ≡ true
any_meet_at [] others k in_ranges in_others = in_ranges
any_meet_at (range ∷ ranges) others k in_ranges in_others =
    elim (or_cases (has range k) (covers ranges k) in_ranges) [
      | inl first ↦ or_left (list_any (meets range) others) (any_meet ranges others) (any_meets_at range others k first in_others)
      | inr later ↦ or_right (list_any (meets range) others) (any_meet ranges others) (any_meet_at ranges others k later in_others)
    ]

pub common_key_of : (ranges others : List KeyRange) → any_meet ranges others ≡ true
    → (k : List ℕ) × (covers ranges k ≡ true) × (covers others k ≡ true)
common_key_of [] others meet = absurd (both_ways false refl meet)
common_key_of (range ∷ ranges) others meet =
    elim (or_cases (list_any (meets range) others) (any_meet ranges others) meet) [
      | inl first ↦
          let common = common_key_of_one range others first in
          (common.0, or_left (has range common.0) (covers ranges common.0) common.1, common.2)
      | inr later ↦
          let common = common_key_of ranges others later in
          (common.0, or_right (has range common.0) (covers ranges common.0) common.1, common.2)
    ]

pub any_meet_decides : (ranges others : List KeyRange)
    → Decides (any_meet ranges others) ((k : List ℕ) × (covers ranges k ≡ true) × (covers others k ≡ true))
any_meet_decides ranges others = (common_key_of ranges others, λ common. any_meet_at ranges others common.0 common.1 common.2)

-- ranges with the same keys meet alike
pub meet_by_keys : (ranges same others alike : List KeyRange)
    → ((k : List ℕ) → covers ranges k ≡ covers same k) → ((k : List ℕ) → covers others k ≡ covers alike k)
    → any_meet ranges others ≡ any_meet same alike
meet_by_keys ranges same others alike same_ranges same_others =
    same_from_decides (any_meet ranges others) (any_meet same alike) (any_meet_decides ranges others) (
      λ meet. let common = common_key_of same alike meet in (common.0, same_ranges common.0 ∙ common.1, same_others common.0 ∙ common.2),
      λ common. any_meet_at same alike common.0 (sym (same_ranges common.0) ∙ common.1) (sym (same_others common.0) ∙ common.2),
    )

-- the same, of one range
pub meets_by_keys : (range same : KeyRange) (others alike : List KeyRange)
    → ((k : List ℕ) → has range k ≡ has same k) → ((k : List ℕ) → covers others k ≡ covers alike k)
    → list_any (meets range) others ≡ list_any (meets same) alike
meets_by_keys range same others alike same_ranges same_others =
    sym (or-false (list_any (meets range) others))
    ∙ meet_by_keys (range ∷ []) (same ∷ []) others alike (λ k. ap (λ b. b || false) (same_ranges k)) same_others
    ∙ or-false (list_any (meets same) alike)
