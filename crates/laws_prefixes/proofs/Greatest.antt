-- Where a slice of one pair from the end of a range is empty, the database has no key of the range; where it has a pair, the database
-- has no key of the range above that of the pair.
use Rattle.std.proofs.Common.{◌≡◌, ℕ, Bool, true, false, cond, T, List, [], ◌∷◌, length, take, reverse, Some, None, refl, sym, ap, ◌∙◌, arith}
use Rattle.std.specs.Prelude.{◌&&◌}
use Rattle.std.specs.Cmp.Lexicographic.{nat_list_cmp_total}
use Rattle.std.specs.FinMap as finite
use Rattle.std.specs.FinMap.Entries.{find, find-where_key, is_sorted, is_sorted-where_key}
use Rattle.std.specs.List.{filter}
use Rattle.std.specs.Ordering.{eq_by_cmp, is_eq, is_lt, ordering_reverse}
use Rattle.std.specs.declared.cmp.Ordering.{Ordering}
use Rattle.std.specs.declared.cmp.Ordering.TheVariants.{Less, Equal, Greater}
use Rattle.std.proofs.lemmas.List.{length-reverse, reverse-append, take-append-le}
use Rattle.std.proofs.lemmas.Map.Lookups.{exact_bytes}
use Rattle.key_bytes.specs.Keys.{key_cmp, key_lt, within}
use Rattle.key_bytes.proofs.Orders.{above_not_below, irreflexive, lt_le, lt_trans}
use Rattle.model_database.specs.Databases.{Database}
use Rattle.model_database.specs.Slices.{Entries, slice}

-- ---- the last of a list in order

true_of : (a : Bool) → T a → a ≡ true
true_of true h = refl
true_of false h = absurd h

first_of_and : (a b : Bool) → T (a && b) → T a
first_of_and true b h = tt
first_of_and false b h = absurd h

second_of_and : (a b : Bool) → T (a && b) → T b
second_of_and true b h = h
second_of_and false b h = absurd h

-- a key above another one is not that one
above_differs : (key other : List ℕ) → key_lt other key ≡ true → eq_by_cmp key_cmp key other ≡ false
above_differs key other above =
    ap is_eq (nat_list_cmp_total.antisymm key other) ∙ by (key_cmp other key) above
  where
    by : (o : Ordering) → is_lt o ≡ true → is_eq (ordering_reverse o) ≡ false
    by Less is = refl
    by Equal is = absurd cc
    by Greater is = absurd cc

-- the last of two or more entries is the last without the first
last_behind : (e f : List ℕ × List ℕ) (es : Entries) → take 1 (reverse (e ∷ f ∷ es)) ≡ take 1 (reverse (f ∷ es))
last_behind e f es =
    ap (take 1) (reverse-append (e ∷ []) (f ∷ es))
    ∙ take-append-le 1 (reverse (f ∷ es)) (e ∷ []) (omega (arith, length-reverse (f ∷ es)))

-- a key above the last of entries in order is not among them, and none of them stands above the last
none_above_last : (e : List ℕ × List ℕ) (es : Entries) → T (is_sorted key_cmp (e ∷ es)) → (last : List ℕ × List ℕ) (others : Entries)
    → take 1 (reverse (e ∷ es)) ≡ last ∷ others → (key : List ℕ) → key_lt last.0 key ≡ true
    → (find key_cmp key (e ∷ es) ≡ None) × (key_lt last.0 e.0 ≡ false)
none_above_last e [] sorted last others is key above =
    let same : e ≡ last = cc in
    let below : key_lt e.0 key ≡ true = ap (λ (x : List ℕ × List ℕ). key_lt x.0 key) same ∙ above in (
      ap (λ b. cond b (Some e.1) None) (above_differs key e.0 below),
      ap (λ (x : List ℕ × List ℕ). key_lt x.0 e.0) (sym same) ∙ irreflexive e.0,
    )
none_above_last e (f ∷ es) sorted last others is key above =
    let rest =
    none_above_last f es (second_of_and _ (is_sorted key_cmp (f ∷ es)) sorted) last others (sym (last_behind e f es) ∙ is) key above in
    let first : key_lt e.0 f.0 ≡ true =
    true_of (key_lt e.0 f.0) (first_of_and (key_lt e.0 f.0) _ (first_of_and _ (is_sorted key_cmp (f ∷ es)) sorted)) in
    let below : key_lt e.0 last.0 ≡ true = lt_le e.0 f.0 last.0 first rest.1 in (
      ap (λ b. cond b (Some e.1) (find key_cmp key (f ∷ es))) (above_differs key e.0 (lt_trans e.0 last.0 key below above)) ∙ rest.0,
      above_not_below e.0 last.0 below,
    )

-- the same of all entries in order
none_above : (es : Entries) → T (is_sorted key_cmp es) → (last : List ℕ × List ℕ) (others : Entries)
    → take 1 (reverse es) ≡ last ∷ others → (key : List ℕ) → key_lt last.0 key ≡ true → find key_cmp key es ≡ None
none_above [] sorted last others is key above = absurd cc
none_above (e ∷ es) sorted last others is key above = (none_above_last e es sorted last others is key above).0

-- where there is no last entry there is none
none_last : (es : Entries) → take 1 (reverse es) ≡ [] → (key : List ℕ) → find key_cmp key es ≡ None
none_last [] is key = refl
none_last (e ∷ es) is key =
    absurd (some (reverse (e ∷ es)) (length-reverse (e ∷ es)) is)
  where
    some : (list : Entries) → length list ≡ length (e ∷ es) → take 1 list ≡ [] → ⊥
    some [] long none = omega arith
    some (f ∷ fs) long none = cc

-- ---- a slice of one pair from the end

-- what a database has of a key of a range stands among the entries of the range
in_range : (database : Database) (begin end key : List ℕ) → within begin end key ≡ true
    → finite.get database key ≡ find key_cmp key (filter (λ e. within begin end e.0) (finite.entries database))
in_range database begin end key inside =
    finite.get-entries database key
    ∙ sym (find-where_key key_cmp (within begin end) key (λ x same. ap (within begin end) (sym (exact_bytes key x same)))
    (finite.entries database) ∙ ap (λ b. cond b (find key_cmp key (finite.entries database)) None) inside)

-- without a pair the database has no key of the range
pub absent_all : (database : Database) (begin end : List ℕ) → slice database begin end 1 true ≡ []
    → (key : List ℕ) → within begin end key ≡ true → finite.get database key ≡ None
absent_all database begin end none key inside = in_range database begin end key inside ∙ none_last _ none key

-- and with a pair none above it
pub absent_above : (database : Database) (begin end : List ℕ) (last : List ℕ × List ℕ) (others : Entries)
    → slice database begin end 1 true ≡ last ∷ others
    → (key : List ℕ) → within begin end key ≡ true → key_lt last.0 key ≡ true → finite.get database key ≡ None
absent_above database begin end last others is key inside above =
    in_range database begin end key inside
    ∙ none_above _ (is_sorted-where_key key_cmp (within begin end) (finite.entries database) (finite.entries_sorted database)) last others
    is key above
