-- A range meets some of others exactly where it has a key with them in common.
use Rattle.std.proofs.Common.{◌≡◌, ℕ, true, false, cond, not, ◌&&◌, ◌||◌, inl, inr, List, [], ◌∷◌, refl, sym, ◌∙◌, true≢false}
use Rattle.std.proofs.lemmas.Bool.{and_parts, false_from_ne_true, not-true, or_cases, or_left, or_parts, or_right}
use Rattle.std.specs.List.{list_any}
use Rattle.key_bytes.specs.declared.range.KeyRange.{KeyRange}
use Rattle.key_bytes.specs.Keys.{key_le, key_lt, lesser, greater}
use Rattle.key_bytes.specs.Ranges.{has, meets}
use Rattle.key_bytes.proofs.Orders.{above_not_below, irreflexive, le_lt, lt_le, lt_trans}
use Rattle.model_database.specs.States.{covers}
use Rattle.range_map.proofs.Bounded.{within_backward}

-- the greater of two is below neither
not_below_both : (a b : List ℕ) → (key_lt (greater a b) a ≡ false) × (key_lt (greater a b) b ≡ false)
not_below_both a b =
    elim (key_lt a b) as (λ t. key_lt a b ≡ t → (key_lt (cond t b a) a ≡ false) × (key_lt (cond t b a) b ≡ false)) [
      | true ↦ λ below. (above_not_below a b below, irreflexive b)
      | false ↦ λ above. (irreflexive a, above)
    ] refl

-- what is below the lesser of two is below both
below_both : (k a b : List ℕ) → key_lt k (lesser a b) ≡ true → (key_lt k a ≡ true) × (key_lt k b ≡ true)
below_both k a b =
    elim (key_lt b a) as (λ t. key_lt b a ≡ t → key_lt k (cond t b a) ≡ true → (key_lt k a ≡ true) × (key_lt k b ≡ true)) [
      | true ↦ λ below less. (lt_trans k b a less below, less)
      | false ↦ λ above less. (less, lt_le k a b less above)
    ] refl

has_from : (range : KeyRange) (q : List ℕ) → key_lt q range.begin ≡ false → key_lt q range.end ≡ true → has range q ≡ true
has_from range q from to = (λ i. not (from i) && to i)

-- ranges that meet have the greater begin in common
common_key : (a b : KeyRange) → meets a b ≡ true → (has a (greater a.begin b.begin) ≡ true) × (has b (greater a.begin b.begin) ≡ true)
common_key a b meet =
    let key = greater a.begin b.begin in
    let from = not_below_both a.begin b.begin in
    let to = below_both key a.end b.end meet in
    (has_from a key from.0 to.0, has_from b key from.1 to.1)

meet_in : (a b : KeyRange) (q : List ℕ) → has a q ≡ true → has b q ≡ true → meets a b ≡ true
meet_in a b q in_a in_b =
    let first = and_parts (key_le a.begin q) (key_lt q a.end) in_a in
    let second = and_parts (key_le b.begin q) (key_lt q b.end) in_b in
    le_lt (greater a.begin b.begin) q (lesser a.end b.end)
    (elim (key_lt a.begin b.begin) as (λ t. key_lt q (cond t b.begin a.begin) ≡ false) [
      | true ↦ not-true (key_lt q b.begin) second.0
      | false ↦ not-true (key_lt q a.begin) first.0
    ])
    (elim (key_lt b.end a.end) as (λ t. key_lt q (cond t b.end a.end) ≡ true) [ true ↦ second.1 | false ↦ first.1 ])

pub common_meets : (range : KeyRange) (others : List KeyRange) (q : List ℕ) → has range q ≡ true → covers others q ≡ true
    → list_any (meets range) others ≡ true
common_meets range [] q inside covered = absurd (true≢false (sym covered))
common_meets range (other ∷ others) q inside covered =
    elim (or_cases (has other q) (covers others q) covered) [
      | inl here ↦ or_left (meets range other) (list_any (meets range) others) (meet_in range other q inside here)
      | inr there ↦ or_right (meets range other) (list_any (meets range) others) (common_meets range others q inside there)
    ]

pub none_meets : (range : KeyRange) (others : List KeyRange) → ((q : List ℕ) → has range q ≡ true → covers others q ≡ false)
    → list_any (meets range) others ≡ false
none_meets range [] none = refl
none_meets range (other ∷ others) none =
    let apart : meets range other ≡ false = false_from_ne_true (meets range other)
    (λ meet. let key = greater range.begin other.begin in
    let common = common_key range other meet in
    true≢false (sym common.1 ∙ (or_parts (has other key) (covers others key) (none key common.0)).0)) in
    (λ i. apart i || none_meets range others (λ q inside. (or_parts (has other q) (covers others q) (none q inside)).1) i)

-- a range without a key meets none
pub empty_meets_none : (range : KeyRange) (others : List KeyRange) → key_lt range.begin range.end ≡ false
    → list_any (meets range) others ≡ false
empty_meets_none range others empty =
    none_meets range others (λ q inside. absurd (true≢false (sym inside ∙ within_backward range.begin range.end q empty)))
