-- What a database has of the keys that a test takes.
use Rattle.std.proofs.Common.{◌≡◌, ℕ, Bool, true, false, cond, List, None, refl, sym, ap, ◌∙◌}
use Rattle.std.specs.FinMap as finite
use Rattle.std.specs.FinMap.Entries.{find-where_key, is_sorted-where_key, same_entries}
use Rattle.std.specs.Cmp.Lexicographic.{nat_list_cmp_total}
use Rattle.std.specs.List.{filter}
use Rattle.std.proofs.lemmas.Map.Lookups.{exact_bytes}
use Rattle.key_bytes.specs.Keys.{key_cmp}
use Rattle.model_database.specs.Databases.{Database}
use Rattle.model_database.specs.Slices.{Entries}

-- the entries whose keys a test takes
abbrev pub chosen : (List ℕ → Bool) → Entries → Entries
chosen p es = filter (λ e. p e.0) es

-- what is retained has the value of each key that the test takes, and of no other
pub get-retained : (m : Database) (p : List ℕ → Bool) (k : List ℕ)
    → finite.get (finite.retain_keys m p) k ≡ cond (p k) (finite.get m k) None
get-retained m p k = finite.get-retain_keys m p k (λ x same. ap p (sym (exact_bytes k x same)))

-- the entries of what is retained are those that the test takes
pub entries-retain : (m : Database) (p : List ℕ → Bool) → finite.entries (finite.retain_keys m p) ≡ chosen p (finite.entries m)
entries-retain m p =
    same_entries key_cmp nat_list_cmp_total exact_bytes _ _ (finite.entries_sorted (finite.retain_keys m p))
    (is_sorted-where_key key_cmp p (finite.entries m) (finite.entries_sorted m))
    (λ k. sym (finite.get-entries (finite.retain_keys m p) k) ∙ get-retained m p k ∙ ap (λ v. cond (p k) v None) (finite.get-entries m k)
    ∙ sym (find-where_key key_cmp p k (λ x same. ap p (sym (exact_bytes k x same))) (finite.entries m)))

-- what two databases have of a key is the same behind a test, where it is the same of each key that the test takes
pub same_cond : (m n : Database) (p : List ℕ → Bool) (k : List ℕ) → (p k ≡ true → finite.get m k ≡ finite.get n k)
    → cond (p k) (finite.get m k) None ≡ cond (p k) (finite.get n k) None
same_cond m n p k same =
    elim (p k) as (λ b. p k ≡ b → cond b (finite.get m k) None ≡ cond b (finite.get n k) None) [
      | true ↦ λ takes. same takes
      | false ↦ λ fails. refl
    ] refl

-- two databases that have the same of each key that a test takes retain the same
pub same_retained : (m n : Database) (p : List ℕ → Bool) → ((k : List ℕ) → p k ≡ true → finite.get m k ≡ finite.get n k)
    → finite.retain_keys m p ≡ finite.retain_keys n p
same_retained m n p same =
    finite.same_map nat_list_cmp_total exact_bytes _ _ (λ k. get-retained m p k ∙ same_cond m n p k (same k) ∙ sym (get-retained n p k))

-- and their entries whose keys the test takes are the same
pub same_chosen : (m n : Database) (p : List ℕ → Bool) → ((k : List ℕ) → p k ≡ true → finite.get m k ≡ finite.get n k)
    → chosen p (finite.entries m) ≡ chosen p (finite.entries n)
same_chosen m n p same = sym (entries-retain m p) ∙ ap finite.entries (same_retained m n p same) ∙ entries-retain n p

-- two tests that a database tells no apart take the same of it
pub alike_chosen : (m : Database) (p q : List ℕ → Bool)
    → ((k : List ℕ) → cond (p k) (finite.get m k) None ≡ cond (q k) (finite.get m k) None)
    → chosen p (finite.entries m) ≡ chosen q (finite.entries m)
alike_chosen m p q alike =
    sym (entries-retain m p)
    ∙ ap finite.entries (finite.same_map nat_list_cmp_total exact_bytes _ _ (λ k. get-retained m p k ∙ alike k ∙ sym (get-retained m q k)))
    ∙ entries-retain m q
