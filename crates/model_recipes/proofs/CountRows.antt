-- A small map of counts, computed: of two values of one key, and one of another key, the list of the one key's, and lists that aren't it.
use Rattle.std.proofs.Common.{◌≡◌, ℕ, ◌<◌, T, List, [], ◌∷◌, Option, Some, Ok, refl, ap, ◌∙◌, sym, arith}
use Rattle.std.specs.Prelude.{codes}
use Rattle.std.specs.Int.{w64, to_le_bytes}
use Rattle.std.specs.FinMap as finite
use Rattle.std.specs.FinMap.Entries.{find, is_sorted}
use Rattle.std.specs.List.{AllByRecursion, filter}
use Rattle.std.specs.List.Sorted.{IsStrictlySortedBy}
use Rattle.key_bytes.specs.Keys.{key_cmp}
use Rattle.fdb_tuple.specs.Kinds.{kind_of}
use Rattle.fdb_tuple.specs.Reading.{string_at, bytes_at, coded_at, piece_at, elements_at, read_tuple}
use Rattle.model_database.specs.Databases.{Database}
use Rattle.model_database.specs.Slices.{Entries}
use Rattle.model_recipes.specs.declared.Count.{Count}
use Rattle.model_recipes.specs.Turns.{is_inside}
use Rattle.model_recipes.specs.Multimaps.{pair_key, count_said, count_at, count_of, key_space, counted, count_in, counts_in, listed, AreCountsOf}
use Rattle.model_recipes.proofs.Listing.{counts_listed}

abbrev space : List ℕ
space = codes "map"

abbrev front : List ℕ
front = key_space space (codes "k")

abbrev pair : (key value : List ℕ) (count : ℕ) → List ℕ × List ℕ
pair key value count = (pair_key space key value, to_le_bytes w64 count)

abbrev all : Entries
all = pair (codes "k") (codes "a") 2 ∷ pair (codes "k") (codes "b") 1 ∷ pair (codes "l") (codes "a") 5 ∷ []

abbrev database : Database
database = finite.from_sorted all

abbrev counted_as : (value : List ℕ) (count : ℕ) → Count
counted_as value count = record { value = value; count = count }

abbrev counts : List Count
counts = counted_as (codes "a") 2 ∷ counted_as (codes "b") 1 ∷ []

in_order : T (is_sorted key_cmp all)
in_order = tt

-- ---- the list of the one key

said : counts_in front (filter (λ pair. is_inside front pair.0) all) ≡ Ok counts
unfolding counts_in count_in counted count_said string_at bytes_at coded_at piece_at elements_at read_tuple kind_of
said = refl

are_counts : AreCountsOf counts space (codes "k") database
are_counts =
    counts_listed space (codes "k") database counts
    (ap (λ (pairs : Entries). counts_in front (filter (λ pair. is_inside front pair.0) pairs)) (finite.entries-from_sorted key_cmp all in_order) ∙ said)

-- ---- the same, field by field

got : (key value : List ℕ) → count_of space database key value ≡ count_at (find key_cmp (pair_key space key value) all)
got key value = ap count_at (finite.get-from_sorted key_cmp all (pair_key space key value) in_order)

first : (count_of space database (codes "k") (codes "a") ≡ Some 2) × (listed counts (codes "a") ≡ 2)
unfolding count_said
first = (got (codes "k") (codes "a"), refl)

second : (count_of space database (codes "k") (codes "b") ≡ Some 1) × (listed counts (codes "b") ≡ 1)
unfolding count_said
second = (got (codes "k") (codes "b"), refl)

absent : (count_of space database (codes "k") (codes "c") ≡ Some 0) × (listed counts (codes "c") ≡ 0)
unfolding count_said
absent = (got (codes "k") (codes "c"), refl)

other_key : count_of space database (codes "l") (codes "a") ≡ Some 5
unfolding count_said
other_key = got (codes "l") (codes "a")

there : AllByRecursion (λ (count : Count). 0 < count.count) counts
there = (omega arith, (omega arith, tt))

order : IsStrictlySortedBy key_cmp (codes "a" ∷ codes "b" ∷ [])
unfolding IsStrictlySortedBy
order = ((refl, tt), (tt, tt))

-- ---- lists that aren't it

no_value_left_out : AreCountsOf (counted_as (codes "a") 2 ∷ []) space (codes "k") database → ⊥
no_value_left_out are = let none : ◌≡◌ {A = Option ℕ} (Some 1) (Some 0) = sym second.0 ∙ are.each (codes "b") in cc

no_other_key : AreCountsOf (counted_as (codes "a") 5 ∷ counted_as (codes "b") 1 ∷ []) space (codes "k") database → ⊥
no_other_key are = let other : ◌≡◌ {A = Option ℕ} (Some 2) (Some 5) = sym first.0 ∙ are.each (codes "a") in cc

no_zero : AreCountsOf (counted_as (codes "a") 2 ∷ counted_as (codes "b") 1 ∷ counted_as (codes "c") 0 ∷ []) space (codes "k") database → ⊥
no_zero are = omega (arith, are.there.1.1.0)

not_twice : AreCountsOf (counted_as (codes "a") 2 ∷ counted_as (codes "a") 2 ∷ counted_as (codes "b") 1 ∷ []) space (codes "k") database → ⊥
unfolding IsStrictlySortedBy
not_twice are = let above = are.order.0.0 in cc

not_turned : AreCountsOf (counted_as (codes "b") 1 ∷ counted_as (codes "a") 2 ∷ []) space (codes "k") database → ⊥
unfolding IsStrictlySortedBy
not_turned are = let above = are.order.0.0 in cc
