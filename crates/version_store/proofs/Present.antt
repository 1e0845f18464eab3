-- The keys that are present at a version: their order, what a look-up finds, and what a test of keys leaves.
use Rattle.std.proofs.Common.{◌≡◌, ℕ, Bool, true, false, cond, List, [], ◌∷◌, Option, Some, None, refl, ap, ◌∙◌}
use Rattle.std.proofs.lemmas.Map.{lookup-none}
use Rattle.std.proofs.lemmas.Map.Entries.{none_past_head}
use Rattle.std.proofs.lemmas.Map.Keys.{sorted_tail, IsDistinct-from_sorted}
use Rattle.std.specs.declared.cmp.Ordering.TheVariants.{Less}
use Rattle.std.specs.BTreeMap.{is_at}
use Rattle.std.specs.Cmp.{eq_by_cmp_equiv}
use Rattle.std.specs.Cmp.Lexicographic.{nat_list_cmp_total}
use Rattle.std.specs.FinMap.{find, entries, get, get-from_entries}
use Rattle.std.specs.List.{AllByRecursion, filter, cons_option}
use Rattle.std.specs.List.Sorted.{IsStrictlySortedBy}
use Rattle.std.specs.Map.{keys_of, lookup}
use Rattle.std.specs.Option.{option_map, option_and_then}
use Rattle.key_bytes.specs.Keys.{key_cmp}
use Rattle.key_map.proofs.Finite.{entries-map_of}
use Rattle.version_store.specs.Versions.{Chain, holding, present, database_at}

-- one key before the others
abbrev pub with_present : List ℕ → Option (List ℕ) → List (List ℕ × List ℕ) → List (List ℕ × List ℕ)
with_present key value rest = cons_option (option_map (λ v. (key, v)) value) rest

-- what stands below the keys of all chains stands below those that are present
below-present : (version : ℕ) (key : List ℕ) (es : List (List ℕ × Chain)) → AllByRecursion (λ y. key_cmp key y ≡ Less) (keys_of es)
    → AllByRecursion (λ y. key_cmp key y ≡ Less) (keys_of (present version es))
unfolding present
below-present version key [] below = tt
below-present version key (e ∷ es) below =
    elim (holding version e.1)
    as (λ value. AllByRecursion (λ y. key_cmp key y ≡ Less)
    (keys_of (cons_option (option_map (λ v. (e.0, v)) value) (present version es)))) [
      | None ↦ below-present version key es below.1
      | Some v ↦ (below.0, below-present version key es below.1)
    ]

-- the keys that are present rise
pub rising-present : (version : ℕ) (es : List (List ℕ × Chain)) → IsStrictlySortedBy key_cmp (keys_of es)
    → IsStrictlySortedBy key_cmp (keys_of (present version es))
unfolding present IsStrictlySortedBy
rising-present version [] rising = tt
rising-present version (e ∷ es) rising =
    elim (holding version e.1)
    as (λ value. IsStrictlySortedBy key_cmp (keys_of (cons_option (option_map (λ v. (e.0, v)) value) (present version es)))) [
      | None ↦ rising-present version es rising.1
      | Some v ↦ (below-present version e.0 es rising.0, rising-present version es rising.1)
    ]

-- the entries of the database are the keys that are present
pub entries-database_at : (version : ℕ) (es : List (List ℕ × Chain)) → IsStrictlySortedBy key_cmp (keys_of es)
    → entries (database_at version es) ≡ present version es
unfolding database_at
entries-database_at version es rising = entries-map_of (present version es) (rising-present version es rising)

-- what a look-up among those that are present finds
find-present : (version : ℕ) (es : List (List ℕ × Chain)) (q : List ℕ) → IsStrictlySortedBy key_cmp (keys_of es)
    → find key_cmp q (present version es) ≡ option_and_then (holding version) (lookup (is_at (key_cmp q)) es)
unfolding present
find-present version [] q rising = refl
find-present version (e ∷ es) q rising =
    let rest = find-present version es q (sorted_tail key_cmp e.0 (keys_of es) rising) in
    elim (is_at (key_cmp q) e.0)
    as (λ b. is_at (key_cmp q) e.0 ≡ b → find key_cmp q (present version (e ∷ es)) ≡ option_and_then (holding version)
    (cond b (Some e.1) (lookup (is_at (key_cmp q)) es))) [
      | true ↦ λ here. at_first (holding version e.1) here
          (rest ∙ ap (option_and_then (holding version))
          (lookup-none (is_at (key_cmp q)) es
          (none_past_head (eq_by_cmp_equiv nat_list_cmp_total) q e es (IsDistinct-from_sorted key_cmp _ rising) here)))
      | false ↦ λ past. passed (holding version e.1) past ∙ rest
    ] refl
  where
    at_first : (value : Option (List ℕ)) → is_at (key_cmp q) e.0 ≡ true → find key_cmp q (present version es) ≡ None
        → find key_cmp q (cons_option (option_map (λ v. (e.0, v)) value) (present version es)) ≡ value
    at_first None here none = none
    at_first (Some v) here none = ap (λ b. cond b (Some v) (find key_cmp q (present version es))) here

    passed : (value : Option (List ℕ)) → is_at (key_cmp q) e.0 ≡ false
        → find key_cmp q (cons_option (option_map (λ v. (e.0, v)) value) (present version es)) ≡ find key_cmp q (present version es)
    passed None past = refl
    passed (Some v) past = ap (λ b. cond b (Some v) (find key_cmp q (present version es))) past

-- what the database has at a key
pub get-database_at : (version : ℕ) (es : List (List ℕ × Chain)) (q : List ℕ) → IsStrictlySortedBy key_cmp (keys_of es)
    → get (database_at version es) q ≡ option_and_then (holding version) (lookup (is_at (key_cmp q)) es)
unfolding database_at
get-database_at version es q rising = get-from_entries nat_list_cmp_total (present version es) q ∙ find-present version es q rising

-- a test of the keys may come first
pub present-filter : (version : ℕ) (p : List ℕ → Bool) (es : List (List ℕ × Chain))
    → filter (λ e. p e.0) (present version es) ≡ present version (filter (λ e. p e.0) es)
unfolding present
present-filter version p [] = refl
present-filter version p (e ∷ es) = first_tested (holding version e.1) (p e.0) refl ∙ passed_on (p e.0) (present-filter version p es)
  where
    first_tested : (value : Option (List ℕ)) (b : Bool) → p e.0 ≡ b
        → filter (λ e. p e.0) (with_present e.0 value (present version es))
        ≡ cond b (with_present e.0 value (filter (λ e. p e.0) (present version es))) (filter (λ e. p e.0) (present version es))
    first_tested None true is = refl
    first_tested None false is = refl
    first_tested (Some v) b is =
        ap (λ b. cond b ((e.0, v) ∷ filter (λ e. p e.0) (present version es)) (filter (λ e. p e.0) (present version es))) is

    passed_on : (b : Bool) → filter (λ e. p e.0) (present version es) ≡ present version (filter (λ e. p e.0) es)
        → cond b (with_present e.0 (holding version e.1) (filter (λ e. p e.0) (present version es)))
        (filter (λ e. p e.0) (present version es)) ≡ present version (cond b (e ∷ filter (λ e. p e.0) es) (filter (λ e. p e.0) es))
    passed_on true rest = ap (with_present e.0 (holding version e.1)) rest
    passed_on false rest = rest
