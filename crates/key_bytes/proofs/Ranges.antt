-- Two ranges meet exactly where some key is in both.
use Rattle.std.proofs.Common.{◌≡◌, Bool, true, false, cond, not, ◌&&◌, List, ℕ, ◌↔◌, IsTrue, refl, sym, ap, ◌∙◌, true≢false}
use Rattle.std.proofs.lemmas.Bool.{not-true}
use Rattle.key_bytes.specs.declared.range.KeyRange.{KeyRange}
use Rattle.key_bytes.specs.Keys.{IsByteString, key_lt, key_le, lesser, greater}
use Rattle.key_bytes.specs.Ranges.{has, meets, IsInBoth}
use Rattle.key_bytes.proofs.Orders.{irreflexive, above_not_below, le_lt, lt_le, lt_trans}

both_true : (x y : Bool) → (x && y) ≡ true → (x ≡ true) × (y ≡ true)
both_true true y h = (refl, h)
both_true false y h = absurd (true≢false (sym h))

is_both : (x y : Bool) → x ≡ true → y ≡ true → (x && y) ≡ true
is_both x y h k = ap (λ (b : Bool). b && y) h ∙ k

-- the greater of two is below neither
greater_first : (a b : List ℕ) → key_lt (greater a b) a ≡ false
greater_first a b = elim (key_lt a b) as (λ t. key_lt a b ≡ t → key_lt (cond t b a) a ≡ false) [
  | true ↦ λ below. above_not_below a b below
  | false ↦ λ _. irreflexive a
] refl

greater_second : (a b : List ℕ) → key_lt (greater a b) b ≡ false
greater_second a b = elim (key_lt a b) as (λ t. key_lt a b ≡ t → key_lt (cond t b a) b ≡ false) [
  | true ↦ λ _. irreflexive b
  | false ↦ λ above. above
] refl

greater_bytes : (a b : List ℕ) → IsByteString a → IsByteString b → IsByteString (greater a b)
greater_bytes a b are_a are_b = elim (key_lt a b) as (λ t. IsByteString (cond t b a)) [ true ↦ are_b | false ↦ are_a ]

-- what is below the lesser of two is below both
below_lesser : (k a b : List ℕ) → key_lt k (lesser a b) ≡ true → (key_lt k a ≡ true) × (key_lt k b ≡ true)
below_lesser k a b = elim (key_lt b a) as (λ t. key_lt b a ≡ t → key_lt k (cond t b a) ≡ true → (key_lt k a ≡ true) × (key_lt k b ≡ true)) [
  | true ↦ λ below less. (lt_trans k b a less below, less)
  | false ↦ λ above less. (less, lt_le k a b less above)
] refl

not_below_greater : (k a b : List ℕ) → key_lt k a ≡ false → key_lt k b ≡ false → key_lt k (greater a b) ≡ false
not_below_greater k a b from_a from_b = elim (key_lt a b) as (λ t. key_lt k (cond t b a) ≡ false) [ true ↦ from_b | false ↦ from_a ]

below_the_lesser : (k a b : List ℕ) → key_lt k a ≡ true → key_lt k b ≡ true → key_lt k (lesser a b) ≡ true
below_the_lesser k a b to_a to_b = elim (key_lt b a) as (λ t. key_lt k (cond t b a) ≡ true) [ true ↦ to_b | false ↦ to_a ]

is_in : (range : KeyRange) (key : List ℕ) → key_lt key range.begin ≡ false → key_lt key range.end ≡ true → has range key ≡ true
is_in range key from to = is_both (key_le range.begin key) (key_lt key range.end) (ap not from) to

has_common : (a b : KeyRange) → IsByteString a.begin → IsByteString b.begin → meets a b ≡ true → (key : List ℕ) × IsInBoth a b key
has_common a b are_a are_b meet =
    let key = greater a.begin b.begin in
    let below = below_lesser key a.end b.end meet in (
      key,
      record {
        bytes = greater_bytes a.begin b.begin are_a are_b;
        in_first = is_in a key (greater_first a.begin b.begin) below.0;
        in_second = is_in b key (greater_second a.begin b.begin) below.1;
      },
    )

common_meets : (a b : KeyRange) → ((key : List ℕ) × IsInBoth a b key) → meets a b ≡ true
common_meets a b common =
    let key = common.0 in
    let first = both_true (key_le a.begin key) (key_lt key a.end) common.1.in_first in
    let second = both_true (key_le b.begin key) (key_lt key b.end) common.1.in_second in
    le_lt (greater a.begin b.begin) key (lesser a.end b.end)
    (not_below_greater key a.begin b.begin (not-true (key_lt key a.begin) first.0) (not-true (key_lt key b.begin) second.0))
    (below_the_lesser key a.end b.end first.1 second.1)

pub meets_iff_common : (a b : KeyRange) → IsByteString a.begin → IsByteString b.begin
    → IsTrue (meets a b) ↔ ((key : List ℕ) × IsInBoth a b key)
meets_iff_common a b are_a are_b = (has_common a b are_a are_b, common_meets a b)
