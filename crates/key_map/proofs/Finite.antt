-- The entries of a tree, in the order of their keys, as a finite map.
use Rattle.std.proofs.Common.{◌≡◌, ℕ, Bool, cond, List, [], ◌∷◌, Some, None, refl, sym, ap, ◌∙◌}
use Rattle.std.proofs.lemmas.List.{nil_from_length}
use Rattle.std.proofs.lemmas.Map.Entries.{lookup-filter-keys}
use Rattle.std.proofs.lemmas.Map.Keys.{sorted_head, sorted_tail}
use Rattle.std.proofs.lemmas.Map.Lookups.{exact_bytes}
use Rattle.std.proofs.lemmas.Map.Views.{tells_apart}
use Rattle.std.specs.declared.cmp.Ordering.TheVariants.{Less}
use Rattle.std.specs.BTreeMap.{is_at}
use Rattle.std.specs.Cmp.{eq_by_cmp_equiv}
use Rattle.std.specs.Cmp.Lexicographic.{nat_list_cmp_total}
use Rattle.std.specs.FinMap.{FinMap, find, put, entries, empty, insert, remove, retain_keys, get, from_entries, get-empty, entries-insert, get-from_entries, get-insert, get-remove, get-retain_keys, len-entries, len-empty, same_map}
use Rattle.std.specs.FinMap.Entries.{by_order}
use Rattle.std.specs.List.{AllByRecursion, filter}
use Rattle.std.specs.List.Sorted.{IsStrictlySortedBy}
use Rattle.std.specs.Map.{keys_of, lookup, update_all}
use Rattle.std.specs.Ordering.{eq_by_cmp}
use Rattle.key_bytes.specs.Keys.{key_cmp}
use Rattle.key_map.specs.Inserted.{inserted}

-- whether a key is the one that is asked for
abbrev pub is_key : List ℕ → List ℕ → Bool
is_key key = is_at (key_cmp key)

module _ {X : Type 0} where
  -- the map that a tree with these entries stands for
  abbrev pub map_of : List (List ℕ × X) → FinMap key_cmp X
  map_of = from_entries

  find-lookup : (es : List (List ℕ × X)) (q : List ℕ) → find key_cmp q es ≡ lookup (is_key q) es
  find-lookup [] q = refl
  find-lookup (e ∷ es) q = ap (cond (is_key q e.0) (Some e.1)) (find-lookup es q)

  pub get-map_of : (es : List (List ℕ × X)) (q : List ℕ) → get (map_of es) q ≡ lookup (is_key q) es
  get-map_of es q = get-from_entries nat_list_cmp_total es q ∙ find-lookup es q

  -- Below, es are the entries of a tree that stands for m, and fs those of another tree.
  pub lookup-map_of : (es : List (List ℕ × X)) (m : FinMap key_cmp X) → map_of es ≡ m → (q : List ℕ) → lookup (is_key q) es ≡ get m q
  lookup-map_of es m seen q = sym (get-map_of es q) ∙ ap (λ n. get n q) seen

  -- a map is known by what it answers at each key
  map_of-same : (fs : List (List ℕ × X)) (n : FinMap key_cmp X) → ((q : List ℕ) → lookup (is_key q) fs ≡ get n q) → map_of fs ≡ n
  map_of-same fs n h = same_map nat_list_cmp_total exact_bytes _ _ (λ q. get-map_of fs q ∙ h q)

  -- fs are es but for the value of one key
  pub map_of-inserted : (es fs : List (List ℕ × X)) (m : FinMap key_cmp X) → map_of es ≡ m → (k : List ℕ) (v : X)
      → ((q : List ℕ) → lookup (is_key q) fs ≡ cond (is_key k q) (Some v) (lookup (is_key q) es)) → map_of fs ≡ insert m k v
  map_of-inserted es fs m seen k v h = map_of-same fs (insert m k v) (λ q. h q
      ∙ (λ i. cond ((eq_by_cmp_equiv nat_list_cmp_total).symm k q i) (Some v) (lookup-map_of es m seen q i))
      ∙ sym (get-insert nat_list_cmp_total m k v q))

  -- fs are es without one key
  pub map_of-removed : (es fs : List (List ℕ × X)) (m : FinMap key_cmp X) → map_of es ≡ m → (k : List ℕ)
      → ((q : List ℕ) → lookup (is_key q) fs ≡ cond (is_key k q) None (lookup (is_key q) es)) → map_of fs ≡ remove m k
  map_of-removed es fs m seen k h = map_of-same fs (remove m k) (λ q. h q
      ∙ (λ i. cond ((eq_by_cmp_equiv nat_list_cmp_total).symm k q i) None (lookup-map_of es m seen q i))
      ∙ sym (get-remove nat_list_cmp_total m k q))

  -- fs are es but for the keys that fail a test
  pub map_of-retained : (es fs : List (List ℕ × X)) (m : FinMap key_cmp X) → map_of es ≡ m → (p : List ℕ → Bool)
      → fs ≡ filter (λ e. p e.0) es → map_of fs ≡ retain_keys m p
  map_of-retained es fs m seen p h = map_of-same fs (retain_keys m p) (λ q.
      ap (lookup (is_key q)) h ∙ lookup-filter-keys (is_key q) p (p q) (λ k same. ap p (sym (tells_apart exact_bytes q k same))) es
      ∙ ap (λ v. cond (p q) v None) (lookup-map_of es m seen q) ∙ sym (get-retain_keys m p q (λ k same. ap p (sym (exact_bytes q k same)))))

  put-below : (k : List ℕ) (v : X) (es : List (List ℕ × X)) → AllByRecursion (λ y. key_cmp k y ≡ Less) (keys_of es)
      → put key_cmp k v es ≡ (k, v) ∷ es
  put-below k v [] below = refl
  put-below k v (e ∷ es) below = ap (λ o. by_order o ((k, v) ∷ e ∷ es) ((e.0, v) ∷ es) (e ∷ put key_cmp k v es)) below.0

  -- the map has a tree's entries, since their keys rise
  pub entries-map_of : (es : List (List ℕ × X)) → IsStrictlySortedBy key_cmp (keys_of es) → entries (map_of es) ≡ es
  entries-map_of [] rising = nil_from_length (entries (map_of [])) (sym (len-entries (map_of [])) ∙ len-empty key_cmp X)
  entries-map_of (e ∷ es) rising =
      entries-insert nat_list_cmp_total (map_of es) e.0 e.1
      ∙ ap (put key_cmp e.0 e.1) (entries-map_of es (sorted_tail key_cmp e.0 (keys_of es) rising))
      ∙ put-below e.0 e.1 es (sorted_head key_cmp e.0 (keys_of es) rising)

  pub entries-tree : (es : List (List ℕ × X)) (m : FinMap key_cmp X) → map_of es ≡ m → IsStrictlySortedBy key_cmp (keys_of es)
      → entries m ≡ es
  entries-tree es m seen rising = ap entries (sym seen) ∙ entries-map_of es rising

  get-inserted : (xs : List (List ℕ × X)) (m : FinMap key_cmp X) (q : List ℕ)
      → get (inserted xs m) q ≡ update_all (eq_by_cmp key_cmp) (get m) xs q
  get-inserted [] m q = refl
  get-inserted (x ∷ xs) m q =
      get-inserted xs (insert m x.0 x.1) q
      ∙ ap (λ f. update_all (eq_by_cmp key_cmp) f xs q)
      (λ i r. (get-insert nat_list_cmp_total m x.0 x.1 r
      ∙ ap (λ b. cond b (Some x.1) (get m r)) ((eq_by_cmp_equiv nat_list_cmp_total).symm r x.0)) i)

  -- fs are what `collect` makes of the pairs xs
  pub map_of-collected : (xs fs : List (List ℕ × X))
      → ((q : List ℕ) → lookup (is_key q) fs ≡ update_all (eq_by_cmp key_cmp) (λ _. None) xs q) → map_of fs ≡ inserted xs empty
  map_of-collected xs fs h = map_of-same fs (inserted xs empty) (λ q. h q
      ∙ ap (λ f. update_all (eq_by_cmp key_cmp) f xs q) (λ i r. sym (get-empty key_cmp r) i) ∙ sym (get-inserted xs empty q))
