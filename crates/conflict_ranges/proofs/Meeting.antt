-- Ranges meet exactly where some key is in both.
use Rattle.std.proofs.Common.{◌≡◌, Bool, true, false, cond, ◌&&◌, ◌||◌, IsTrue, ◌↔◌, List, [], ◌∷◌, ℕ, refl, sym, ◌∙◌}
use Rattle.std.proofs.lemmas.Bool.{and_from, and_parts, false≢true, or_left, or_right}
use Rattle.std.specs.List.{list_any}
use Rattle.key_bytes.specs.declared.range.KeyRange.{KeyRange}
use Rattle.key_bytes.specs.Keys.{key_lt, lesser, greater}
use Rattle.key_bytes.specs.Ranges.{has, meets}
use Rattle.key_bytes.proofs.Orders.{irreflexive, above_not_below, le_lt, lt_le, lt_trans}
use Rattle.model_database.specs.States.{covers}
use Rattle.conflict_ranges.proofs.Between.{from_within, is_within}

-- two tests of which each passes where the other does
pub same_test : (a b : Bool) → (a ≡ true → b ≡ true) → (b ≡ true → a ≡ true) → a ≡ b
same_test true b forth back = sym (forth refl)
same_test false true forth back = back refl
same_test false false forth back = refl

-- a key that two ranges have
abbrev pub Common : KeyRange → KeyRange → Type 0
Common a b = (key : List ℕ) × (has a key ≡ true) × (has b key ≡ true)

greater_first : (a b : List ℕ) → key_lt (greater a b) a ≡ false
greater_first a b = elim (key_lt a b) as (λ t. key_lt a b ≡ t → key_lt (cond t b a) a ≡ false) [
  | true ↦ λ below. above_not_below a b below
  | false ↦ λ _. irreflexive a
] refl

greater_second : (a b : List ℕ) → key_lt (greater a b) b ≡ false
greater_second a b = elim (key_lt a b) as (λ t. key_lt a b ≡ t → key_lt (cond t b a) b ≡ false) [
  | true ↦ λ _. irreflexive b
  | false ↦ λ above. above
] refl

below_lesser : (k a b : List ℕ) → key_lt k (lesser a b) ≡ true → (key_lt k a ≡ true) × (key_lt k b ≡ true)
below_lesser k a b = elim (key_lt b a) as (λ t. key_lt b a ≡ t → key_lt k (cond t b a) ≡ true → (key_lt k a ≡ true) × (key_lt k b ≡ true)) [
  | true ↦ λ below less. (lt_trans k b a less below, less)
  | false ↦ λ above less. (less, lt_le k a b less above)
] refl

from_greater : (k a b : List ℕ) → key_lt k a ≡ false → key_lt k b ≡ false → key_lt k (greater a b) ≡ false
from_greater k a b from_a from_b = elim (key_lt a b) as (λ t. key_lt k (cond t b a) ≡ false) [ true ↦ from_b | false ↦ from_a ]

to_lesser : (k a b : List ℕ) → key_lt k a ≡ true → key_lt k b ≡ true → key_lt k (lesser a b) ≡ true
to_lesser k a b to_a to_b = elim (key_lt b a) as (λ t. key_lt k (cond t b a) ≡ true) [ true ↦ to_b | false ↦ to_a ]

-- the greater begin is in both ranges
pub meets-common : (a b : KeyRange) → meets a b ≡ true → Common a b
meets-common a b meet =
    let key = greater a.begin b.begin in
    let below = below_lesser key a.end b.end meet in (
      key,
      is_within a.begin a.end key (greater_first a.begin b.begin) below.0,
      is_within b.begin b.end key (greater_second a.begin b.begin) below.1,
    )

pub common-meets : (a b : KeyRange) → Common a b → meets a b ≡ true
common-meets a b (key, in_a, in_b) =
    let first = from_within a.begin a.end key in_a in
    let second = from_within b.begin b.end key in_b in
    le_lt (greater a.begin b.begin) key (lesser a.end b.end) (from_greater key a.begin b.begin first.0 second.0)
    (to_lesser key a.end b.end first.1 second.1)

-- a range and some of a list meet exactly where some key is in the range and in the list
pub list_any-common : (ranges : List KeyRange) (range : KeyRange) → list_any (λ own. meets own range) ranges ≡ true
    → (key : List ℕ) × (covers ranges key ≡ true) × (has range key ≡ true)
list_any-common [] range meet = absurd (false≢true meet)
list_any-common (own ∷ ranges) range meet = by_first (meets own range) refl meet (list_any-common ranges range)
  where
    by_first : (t : Bool) → meets own range ≡ t → (t || list_any (λ own. meets own range) ranges) ≡ true
        → (list_any (λ own. meets own range) ranges ≡ true → (key : List ℕ) × (covers ranges key ≡ true) × (has range key ≡ true))
        → (key : List ℕ) × (covers (own ∷ ranges) key ≡ true) × (has range key ≡ true)
    by_first true here _ rest =
        let common = meets-common own range here in
        (common.0, or_left (has own common.0) (covers ranges common.0) common.1, common.2)
    by_first false _ later rest =
        let common = rest later in
        (common.0, or_right (has own common.0) (covers ranges common.0) common.1, common.2)

pub common-list_any : (ranges : List KeyRange) (range : KeyRange) (key : List ℕ) → covers ranges key ≡ true → has range key ≡ true
    → list_any (λ own. meets own range) ranges ≡ true
common-list_any [] range key covered is_in = absurd (false≢true covered)
common-list_any (own ∷ ranges) range key covered is_in =
    by_first (has own key) refl covered (λ later. common-list_any ranges range key later is_in)
  where
    by_first : (t : Bool) → has own key ≡ t → (t || covers ranges key) ≡ true
        → (covers ranges key ≡ true → list_any (λ own. meets own range) ranges ≡ true)
        → (meets own range || list_any (λ own. meets own range) ranges) ≡ true
    by_first true here _ rest =
        or_left (meets own range) (list_any (λ own. meets own range) ranges) (common-meets own range (key, here, is_in))
    by_first false _ later rest = or_right (meets own range) (list_any (λ own. meets own range) ranges) (rest later)

-- where it is whether some of a list meet a range, it is whether some key is in both
pub common-found : (ranges : List KeyRange) (range : KeyRange) (found : Bool) → found ≡ list_any (λ own. meets own range) ranges
    → IsTrue found ↔ ((key : List ℕ) × IsTrue (covers ranges key && has range key))
common-found ranges range found is = (
  λ some.
      let (key, covered, is_in) = list_any-common ranges range (sym is ∙ some) in
      (key, and_from (covers ranges key) (has range key) covered is_in),
  λ (key, both).
      let parts = and_parts (covers ranges key) (has range key) both in
      is ∙ common-list_any ranges range key parts.0 parts.1,
)
