-- Keys that begin with a prefix stand side by side: the first key that isn't below the prefix tells whether there is one.
use Rattle.std.proofs.Common.{◌≡◌, ℕ, ◌<◌, ◌≤◌, ◌⊎◌, inl, inr, Bool, true, false, ◌&&◌, List, [], ◌∷◌, T, refl, sym, ◌∙◌, true≢false, arith, eq-or-lt_of_le}
use Rattle.std.specs.FinMap as finite
use Rattle.std.specs.FinMap.Entries.{below_all, is_sorted}
use Rattle.std.specs.List.{filter, list_any}
use Rattle.std.proofs.lemmas.Bool.Decides.{nat_tests}
use Rattle.key_bytes.specs.Keys.{begins_with, key_cmp, key_le, key_lt}
use Rattle.key_bytes.proofs.Orders.{above_not_below, head_ge, lt_rest}
use Rattle.key_map.specs.Ends.{first}
use Rattle.model_database.specs.Databases.{Database}
use Rattle.model_database.specs.Slices.{Entries}
use Rattle.model_machine.specs.Worlds.{has_key_with}
use Rattle.version_store.specs.Versions.{Versions, IsFaultAt, last_of, oldest_of}
use Rattle.version_store.specs.declared.fault.VersionFault.{VersionFault}
use Rattle.version_store.specs.declared.fault.VersionFault.TheVariants.{TooOld, Future}
use Rattle.client_core.specs.Contents.{first_begins}

-- a key that begins with a prefix isn't below it
begins_not_below : (key prefix : List ℕ) → begins_with key prefix ≡ true → key_lt key prefix ≡ false
begins_not_below [] [] begins = refl
begins_not_below (c ∷ key) [] begins = refl
begins_not_below [] (b ∷ prefix) begins = absurd (true≢false (sym begins))
begins_not_below (c ∷ key) (b ∷ prefix) begins =
    let parts : (b ≡ c) × (begins_with key prefix ≡ true) = grind (arith, nat_tests) in
    lt_rest c b key prefix (sym parts.0) ∙ begins_not_below key prefix parts.1

-- above a key that is above the prefix and doesn't begin with it none does
others_above : (prefix key other : List ℕ) → key_lt key prefix ≡ false → begins_with key prefix ≡ false → key_lt other key ≡ false
    → begins_with other prefix ≡ false
others_above [] key other not_below differs above = absurd (true≢false differs)
others_above (b ∷ prefix) [] other not_below differs above = absurd (true≢false not_below)
others_above (b ∷ prefix) (c ∷ key) [] not_below differs above = refl
others_above (b ∷ prefix) (c ∷ key) (d ∷ other) not_below differs above =
    by (eq-or-lt_of_le (head_ge c b key prefix not_below)) (eq-or-lt_of_le (head_ge d c other key above)) (others_above prefix key other)
  where
    by : (b ≡ c) ⊎ (b < c) → (c ≡ d) ⊎ (c < d)
        → (key_lt key prefix ≡ false → begins_with key prefix ≡ false → key_lt other key ≡ false → begins_with other prefix ≡ false)
        → begins_with (d ∷ other) (b ∷ prefix) ≡ false
    by (inr less) (inl same) further = grind (arith, nat_tests)
    by (inr less) (inr more) further = grind (arith, nat_tests)
    by (inl same) (inr more) further = grind (arith, nat_tests)
    by (inl same) (inl equal) further =
        let rest : begins_with key prefix ≡ false = grind (arith, nat_tests) in
        let later = further (sym (lt_rest c b key prefix (sym same)) ∙ not_below) rest
        (sym (lt_rest d c other key (sym equal)) ∙ above) in
        grind (arith, nat_tests)

-- ---- pairs in the order of their keys

abbrev begins : (prefix : List ℕ) → List ℕ × List ℕ → Bool
begins prefix entry = begins_with entry.0 prefix

first_half : (a b : Bool) → T (a && b) → T a
first_half true b h = tt
first_half false b h = absurd h

second_half : (a b : Bool) → T (a && b) → T b
second_half true b h = h
second_half false b h = absurd h

holds : (b : Bool) → T b → b ≡ true
holds true h = refl
holds false h = absurd h

-- where the first of some pairs is above the prefix and doesn't begin with it, none of them does
none_begin : (prefix key : List ℕ) (entries : Entries) → key_lt key prefix ≡ false → begins_with key prefix ≡ false
    → T (below_all key_cmp key entries) → list_any (begins prefix) entries ≡ false
none_begin prefix key [] not_below differs all = refl
none_begin prefix key (entry ∷ entries) not_below differs all =
    let above = above_not_below key entry.0 (holds (key_lt key entry.0) (first_half _ (below_all key_cmp key entries) all)) in
    rw (others_above prefix key entry.0 not_below differs above)
    (none_begin prefix key entries not_below differs (second_half (key_lt key entry.0) _ all))

below_differs : (key prefix : List ℕ) (b : Bool) → begins_with key prefix ≡ b → key_lt key prefix ≡ true → b ≡ false
below_differs key prefix false is below = refl
below_differs key prefix true is below = absurd (true≢false (sym below ∙ begins_not_below key prefix is))

first_tells : (prefix : List ℕ) (entries : Entries) → T (is_sorted key_cmp entries)
    → list_any (begins prefix) entries ≡ first_begins prefix (first (filter (λ entry. key_le prefix entry.0) entries))
first_tells prefix [] sorted = refl
first_tells prefix (entry ∷ entries) sorted =
    by (key_lt entry.0 prefix) refl (begins_with entry.0 prefix) refl
    (first_tells prefix entries (second_half (below_all key_cmp entry.0 entries) _ sorted))
  where
    by : (below : Bool) → key_lt entry.0 prefix ≡ below → (own : Bool) → begins_with entry.0 prefix ≡ own
        → list_any (begins prefix) entries ≡ first_begins prefix (first (filter (λ other. key_le prefix other.0) entries))
        → list_any (begins prefix) (entry ∷ entries)
        ≡ first_begins prefix (first (filter (λ other. key_le prefix other.0) (entry ∷ entries)))
    by true is own its rest = rw (is, below_differs entry.0 prefix (begins_with entry.0 prefix) refl is) rest
    by false is true its rest = rw (is, its) refl
    by false is false its rest =
        rw (is, its) (none_begin prefix entry.0 entries is its (first_half _ (is_sorted key_cmp entries) sorted))

-- whether a key of a map begins with a prefix
pub first_key_tells : (prefix : List ℕ) (database : Database)
    → has_key_with prefix database ≡ first_begins prefix (first (filter (λ entry. key_le prefix entry.0) (finite.entries database)))
first_key_tells prefix database = first_tells prefix (finite.entries database) (finite.entries_sorted database)

-- the last version is neither too old nor yet to come
pub last_readable : (store : Versions) (version : ℕ) (fault : VersionFault) → version ≡ last_of store → oldest_of store ≤ version
    → IsFaultAt store version fault → ⊥
last_readable store version (TooOld oldest) is from fault = absurd (omega (arith, from, fault.0))
last_readable store version (Future newest) is from fault = absurd (omega (arith, is, fault.1))
