-- Of pairs of one key that stand one behind the other the last one alone makes the same database.
use Rattle.std.proofs.Common.{◌≡◌, ℕ, Bool, true, false, cond, List, [], ◌∷◌, Some, map, refl, sym, subst, ap, ◌∙◌}
use Rattle.std.specs.FinMap as finite
use Rattle.std.specs.Bool.{MatchBool}
use Rattle.std.specs.List.Retain.{DedupsFrom, IsDeduped}
use Rattle.std.specs.Ordering.{eq_by_cmp}
use Rattle.std.proofs.lemmas.Map.Lookups.{exact_bytes}
use Rattle.std.specs.Cmp.Lexicographic.{nat_list_cmp_total}
use Rattle.key_bytes.specs.Keys.{key_cmp}
use Rattle.key_bytes.specs.Entries.{entries_of, entry_of}
use Rattle.key_bytes.specs.declared.pairs.Pair.{Pair}
use Rattle.model_database.specs.Databases.{Database, do_all}
use Rattle.model_database.specs.Histories.{set_of}

-- a value that a key is given over another one
pub insert_again : (database : Database) (key old new : List ℕ)
    → finite.insert (finite.insert database key old) key new ≡ finite.insert database key new
insert_again database key old new =
    finite.same_map nat_list_cmp_total exact_bytes _ _
    (λ q. finite.get-insert nat_list_cmp_total (finite.insert database key old) key new q
    ∙ by q (eq_by_cmp key_cmp q key) refl
    ∙ sym (finite.get-insert nat_list_cmp_total database key new q))
  where
    by : (q : List ℕ) (is_key : Bool) → eq_by_cmp key_cmp q key ≡ is_key
        → cond is_key (Some new) (finite.get (finite.insert database key old) q) ≡ cond is_key (Some new) (finite.get database q)
    by q true is = refl
    by q false is = finite.get-insert nat_list_cmp_total database key old q ∙ ap (λ b. cond b (Some old) (finite.get database q)) is

-- what pairs make of a database
abbrev made : List Pair → Database → Database
made pairs = do_all (map set_of (entries_of pairs))

-- the later of two pairs of one key
later_made : (kept next : Pair) (pairs : List Pair) (database : Database) → kept.key ≡ next.key
    → made (next ∷ pairs) database ≡ made (kept ∷ next ∷ pairs) database
later_made kept next pairs database same =
    ap (made pairs) (sym (insert_again database next.key kept.value next.value))
    ∙ ap (λ key. made pairs (finite.insert (finite.insert database key kept.value) next.key next.value)) (sym same)

module _ {F : Type 0} (R : F → Pair → Pair → Bool → F → Pair → Pair → Type 0)
    (told : (f f' : F) (x k x' k' : Pair) (b : Bool) → R f x k b f' x' k' → (b ≡ true → k.key ≡ x.key) × (k' ≡ cond b x k) × (b ≡ false → x' ≡ x)) where
  merged_from : (f : F) (k : Pair) (xs ys : List Pair) (database : Database) → DedupsFrom R f k xs ys → made ys database ≡ made (k ∷ xs) database
  merged_from f k [] ys database t = ap (λ zs. made zs database) t
  merged_from f k (x ∷ xs) ys database t =
      elim t.0 as (λ b. R f x k b t.1 t.2 t.3 → MatchBool b (DedupsFrom R t.1 t.3 xs ys) ((zs : List Pair) × DedupsFrom R t.1 t.2 xs zs × (ys ≡ t.3 ∷ zs)) → made ys database ≡ made (k ∷ x ∷ xs) database) [
        | true ↦ λ r rest.
            let is = told f t.1 x k t.2 t.3 true r in
            merged_from t.1 x xs ys database (subst (λ p. DedupsFrom R t.1 p xs ys) is.1 rest) ∙ later_made k x xs database (is.0 refl)
        | false ↦ λ r rest.
            let is = told f t.1 x k t.2 t.3 false r in
            ap (λ zs. made zs database) rest.2
            ∙ ap (λ p. made (p ∷ rest.0) database) is.1
            ∙ merged_from t.1 x xs rest.0 (finite.insert database k.key k.value) (subst (λ p. DedupsFrom R t.1 p xs rest.0) (is.2 refl) rest.1)
      ]
      t.4 t.5

  pub merged : (f : F) (xs ys : List Pair) (database : Database) → IsDeduped R f xs ys → made ys database ≡ made xs database
  merged f [] ys database is = ap (λ zs. made zs database) is.told
  merged f (x ∷ xs) ys database is = merged_from f x xs ys database is.told
