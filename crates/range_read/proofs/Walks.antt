-- What a walk meets, one key after the other.
use Rattle.std.proofs.Common.{◌≡◌, ℕ, Bool, true, false, not, ◌&&◌, List, [], ◌∷◌, reverse, None, Some, T, refl, sym, ap, ◌∙◌, true≢false}
use Rattle.std.specs.FinMap as finite
use Rattle.std.specs.FinMap.Entries.{below_all, is_sorted}
use Rattle.std.specs.List.{filter}
use Rattle.key_bytes.specs.Keys.{key_cmp, key_lt, key_le, after, within}
use Rattle.key_bytes.proofs.Orders.{irreflexive}
use Rattle.key_map.specs.Ends.{first}
use Rattle.key_map.proofs.Spans.{filter-within-backward}
use Rattle.model_database.specs.Databases.{Database}
use Rattle.model_database.specs.Slices.{Entries, span, turned}
use Rattle.range_read.specs.Walks.{is_onward, onward, behind, near, begin_behind, end_behind}
use Rattle.range_read.proofs.Lists.{filter-reverse}
use Rattle.key_bytes.proofs.Orders.{lt_trans, le_lt, lt_after, above_not_below}
use Rattle.range_read.proofs.Rising.{IsBefore, Rises, rises_reverse, behind_first, none_stricter, first_stricter, none_above, first_passes}

-- ---- the pairs of a database, in the order of a walk

abbrev pub Entry : Type 0
Entry = List ℕ × List ℕ

-- a walk meets a before b
abbrev pub meets_first : Bool → Entry → Entry → Bool
meets_first true a b = key_lt b.0 a.0
meets_first false a b = key_lt a.0 b.0

is_true : (b : Bool) → T b → b ≡ true
is_true true h = refl
is_true false h = absurd h

left_of : (a b : Bool) → T (a && b) → T a
left_of true b h = tt
left_of false b h = absurd h

right_of : (a b : Bool) → T (a && b) → T b
right_of true b h = h
right_of false b h = absurd h

before_all : (e : Entry) (es : Entries) → T (below_all key_cmp e.0 es) → IsBefore (meets_first false) e es
before_all e [] all = tt
before_all e (f ∷ es) all =
    (is_true (key_lt e.0 f.0) (left_of _ (below_all key_cmp e.0 es) all), before_all e es (right_of (key_lt e.0 f.0) _ all))

rises_up : (es : Entries) → T (is_sorted key_cmp es) → Rises (meets_first false) es
rises_up [] sorted = tt
rises_up (e ∷ es) sorted =
    (before_all e es (left_of _ (is_sorted key_cmp es) sorted), rises_up es (right_of (below_all key_cmp e.0 es) _ sorted))

-- the pairs rise in the order of the walk
pub turned_rises : (database : Database) (backward : Bool) → Rises (meets_first backward) (turned backward (finite.entries database))
turned_rises database false = rises_up (finite.entries database) (finite.entries_sorted database)
turned_rises database true =
    rises_reverse (meets_first true) (finite.entries database) (rises_up (finite.entries database) (finite.entries_sorted database))

not_before_itself : (backward : Bool) (e : Entry) → meets_first backward e e ≡ false
not_before_itself true e = irreflexive e.0
not_before_itself false e = irreflexive e.0

-- the pairs of a range are what a test takes in the order of the walk
pub span_is : (database : Database) (b e : List ℕ) (backward : Bool)
    → span database b e backward ≡ filter (λ x. within b e x.0) (turned backward (finite.entries database))
span_is database b e true = sym (filter-reverse (λ x. within b e x.0) (finite.entries database))
span_is database b e false = refl

-- a range without a key has no pair
pub empty_span : (database : Database) (b e : List ℕ) (backward : Bool) → key_lt b e ≡ false → span database b e backward ≡ []
empty_span database b e true none = ap reverse (filter-within-backward b e (finite.entries database) none)
empty_span database b e false none = filter-within-backward b e (finite.entries database) none

-- ---- tests of keys

and_parts : (a b : Bool) → (a && b) ≡ true → (a ≡ true) × (b ≡ true)
and_parts true b h = (refl, h)
and_parts false b h = absurd (true≢false (sym h))

and_false_left : (a b : Bool) → a ≡ false → (a && b) ≡ false
and_false_left a b is = ap (λ a. a && b) is

and_false_right : (a b : Bool) → b ≡ false → (a && b) ≡ false
and_false_right true b is = is
and_false_right false b is = refl

not_false : (b : Bool) → not b ≡ true → b ≡ false
not_false true h = absurd (true≢false (sym h))
not_false false h = refl

not_true : (b : Bool) → not b ≡ false → b ≡ true
not_true true h = refl
not_true false h = absurd (true≢false h)

not_not : (b : Bool) → not (not b) ≡ b
not_not true = refl
not_not false = refl

-- where c makes a true, c beside b is both and c
and_under : (a b c : Bool) → (c ≡ true → a ≡ true) → (c && b) ≡ ((a && b) && c)
and_under true true true h = refl
and_under true true false h = refl
and_under true false true h = refl
and_under true false false h = refl
and_under false b true h = absurd (true≢false (sym (h refl)))
and_under false b false h = refl

and_below : (a b c : Bool) → (c ≡ true → b ≡ true) → (a && c) ≡ ((a && b) && c)
and_below true true c h = refl
and_below false b c h = refl
and_below true false true h = absurd (true≢false (sym (h refl)))
and_below true false false h = refl

from_after : (k x : List ℕ) → key_le (after k) x ≡ key_lt k x
from_after k x = ap not (lt_after x k) ∙ not_not (key_lt k x)

-- a key above one that is not below b is not below b
still_from : (b k x : List ℕ) → key_le b k ≡ true → key_lt k x ≡ true → key_le b x ≡ true
still_from b k x low above = ap not (above_not_below b x (le_lt b k x (not_false (key_lt k b) low) above))

-- ---- one key after the other

-- behind the first that a walk meets, it meets what a walk from behind that key meets
pub onward_behind : (database : Database) (from : List ℕ) (backward : Bool) (x : Entry) (ys : Entries) → onward database from backward ≡ x ∷ ys
    → onward database (behind x.0 backward) backward ≡ ys
onward_behind database from true x ys is =
    behind_first (meets_first true) (not_before_itself true) (λ e. key_lt e.0 from) (λ e. key_lt e.0 x.0)
    (turned true (finite.entries database)) (turned_rises database true) x ys is
    (λ e. test e)
  where
    passes : key_lt x.0 from ≡ true
    passes = first_passes (λ e. key_lt e.0 from) (turned true (finite.entries database)) x (ap first is)

    test : (e : Entry) → key_lt e.0 x.0 ≡ (key_lt e.0 from && key_lt e.0 x.0)
    test e = and_below true (key_lt e.0 from) (key_lt e.0 x.0) (λ below. lt_trans e.0 x.0 from below passes)
onward_behind database from false x ys is =
    behind_first (meets_first false) (not_before_itself false) (λ e. key_le from e.0) (λ e. key_le (after x.0) e.0)
    (finite.entries database) (turned_rises database false) x ys is
    (λ e. from_after x.0 e.0 ∙ test e)
  where
    passes : key_le from x.0 ≡ true
    passes = first_passes (λ e. key_le from e.0) (finite.entries database) x (ap first is)

    test : (e : Entry) → key_lt x.0 e.0 ≡ (key_le from e.0 && key_lt x.0 e.0)
    test e = and_below true (key_le from e.0) (key_lt x.0 e.0) (still_from from x.0 e.0 passes)

-- behind the first pair of a range stand those of what is left of the range behind its key
pub span_behind : (database : Database) (b e : List ℕ) (backward : Bool) (x : Entry) (ys : Entries) → span database b e backward ≡ x ∷ ys
    → span database (begin_behind b x.0 backward) (end_behind e x.0 backward) backward ≡ ys
span_behind database b e true x ys is =
    span_is database b x.0 true
    ∙ behind_first (meets_first true) (not_before_itself true) (λ y. within b e y.0) (λ y. within b x.0 y.0)
    (turned true (finite.entries database)) (turned_rises database true) x ys (sym (span_is database b e true) ∙ is)
    (λ y. and_below (key_le b y.0) (key_lt y.0 e) (key_lt y.0 x.0) (λ below. lt_trans y.0 x.0 e below passes.1))
  where
    passes : (key_le b x.0 ≡ true) × (key_lt x.0 e ≡ true)
    passes =
        and_parts _ _
        (first_passes (λ y. within b e y.0) (turned true (finite.entries database)) x (ap first (sym (span_is database b e true) ∙ is)))
span_behind database b e false x ys is =
    behind_first (meets_first false) (not_before_itself false) (λ y. within b e y.0) (λ y. within (after x.0) e y.0)
    (finite.entries database) (turned_rises database false) x ys is
    (λ y. ap (λ t. t && key_lt y.0 e) (from_after x.0 y.0)
    ∙ and_under (key_le b y.0) (key_lt y.0 e) (key_lt x.0 y.0) (still_from b x.0 y.0 passes.0))
  where
    passes : (key_le b x.0 ≡ true) × (key_lt x.0 e ≡ true)
    passes = and_parts _ _ (first_passes (λ y. within b e y.0) (finite.entries database) x (ap first is))

-- ---- the first pair of a range, by the first that a walk from its near end meets

-- what a walk does not meet is not in the range
outside_range : (b e : List ℕ) (backward : Bool) (k : List ℕ) → is_onward (near b e backward) backward k ≡ false → within b e k ≡ false
outside_range b e true k is = and_false_right (key_le b k) (key_lt k e) is
outside_range b e false k is = and_false_left (key_le b k) (key_lt k e) is

-- where the first that a walk meets is past the range, so are those behind it
past_range : (b e : List ℕ) (backward : Bool) (k q : Entry) → is_onward (near b e backward) backward k.0 ≡ true → within b e k.0 ≡ false
    → meets_first backward k q ≡ true → within b e q.0 ≡ false
past_range b e true k q met past behind = and_false_left (key_le b q.0) (key_lt q.0 e) (ap not (lt_trans q.0 k.0 b behind low))
  where
    low : key_lt k.0 b ≡ true
    low = not_true (key_lt k.0 b) (left_false (key_le b k.0) (key_lt k.0 e) met past)
      where
        left_false : (a b : Bool) → b ≡ true → (a && b) ≡ false → a ≡ false
        left_false true b is none = absurd (true≢false (sym is ∙ none))
        left_false false b is none = refl
past_range b e false k q met past behind =
    and_false_right (key_le b q.0) (key_lt q.0 e) (above_not_below e q.0 (le_lt e k.0 q.0 high behind))
  where
    high : key_lt k.0 e ≡ false
    high = sym (ap (λ a. a && key_lt k.0 e) met) ∙ past

module _ (database : Database) (b e : List ℕ) (backward : Bool) where
  pub inside_none : first (onward database (near b e backward) backward) ≡ None → first (span database b e backward) ≡ None
  inside_none is =
      ap first (span_is database b e backward)
      ∙ none_stricter (λ x. is_onward (near b e backward) backward x.0) (λ x. within b e x.0) (λ x. outside_range b e backward x.0)
      (turned backward (finite.entries database)) is

  pub inside_some : (x : Entry) → first (onward database (near b e backward) backward) ≡ Some x → within b e x.0 ≡ true
      → first (span database b e backward) ≡ Some x
  inside_some x is inside =
      ap first (span_is database b e backward)
      ∙ first_stricter (λ x. is_onward (near b e backward) backward x.0) (λ x. within b e x.0) (λ x. outside_range b e backward x.0)
      (turned backward (finite.entries database)) x is inside

  pub inside_past : (x : Entry) → first (onward database (near b e backward) backward) ≡ Some x → within b e x.0 ≡ false
      → first (span database b e backward) ≡ None
  inside_past x is past =
      ap first (span_is database b e backward)
      ∙ none_above (λ x. is_onward (near b e backward) backward x.0) (λ x. within b e x.0) (λ x. outside_range b e backward x.0) (meets_first backward)
      (turned backward (finite.entries database)) (turned_rises database backward) x is past
      (λ q behind. past_range b e backward x q
      (first_passes (λ x. is_onward (near b e backward) backward x.0) (turned backward (finite.entries database)) x is) past behind)
