-- The pairs of a subspace after one of its keys was set or cleared.
use Rattle.std.proofs.Common.{◌≡◌, ℕ, Bool, true, false, cond, not, ◌&&◌, T, List, [], ◌∷◌, ◌++◌, Option, Some, None, refl, sym, ap, ◌∙◌, subst}
use Rattle.std.specs.Prelude.{bytes_eq}
use Rattle.std.specs.FinMap as finite
use Rattle.std.specs.FinMap.Entries.{by_order, put, find, below_all, is_sorted, find-where_key, is_sorted-where_key, same_entries}
use Rattle.std.specs.Ordering.{is_eq, is_lt, ordering_reverse}
use Rattle.std.specs.declared.cmp.Ordering.{Ordering}
use Rattle.std.specs.declared.cmp.Ordering.TheVariants.{Less, Equal, Greater}
use Rattle.std.specs.Cmp.Lexicographic.{nat_list_cmp_total, texts_ties, same_text}
use Rattle.std.specs.List.{filter}
use Rattle.std.proofs.lemmas.Map.Lookups.{exact_bytes}
use Rattle.key_bytes.specs.Keys.{key_cmp, key_lt}
use Rattle.key_bytes.proofs.Orders.{less, lt_trans, irreflexive}
use Rattle.model_database.specs.Databases.{Database}
use Rattle.model_database.specs.Intervals.{last_key}
use Rattle.model_database.specs.Slices.{Entries}
use Rattle.model_recipes.specs.Turns.{is_inside, pairs_of}

-- ---- lists of pairs in order

is_true : (b : Bool) → T b → b ≡ true
is_true true h = refl
is_true false h = absurd h

left_of : (a b : Bool) → T (a && b) → T a
left_of true b h = tt
left_of false b h = absurd h

right_of : (a b : Bool) → T (a && b) → T b
right_of true b h = h
right_of false b h = absurd h

greater_of : (a b : List ℕ) → key_lt a b ≡ true → key_cmp b a ≡ Greater
greater_of a b lt = nat_list_cmp_total.antisymm b a ∙ ap ordering_reverse (less (key_cmp a b) lt)

-- each key is below one
abbrev pub AllBelow : Entries → List ℕ → Type 0
AllBelow [] key = Unit {0}
AllBelow (pair ∷ pairs) key = (key_lt pair.0 key ≡ true) × AllBelow pairs key

-- of a list in order each key is below one that the last key is below
pub below_last : (pair : List ℕ × List ℕ) (pairs : Entries) (key : List ℕ) → T (is_sorted key_cmp (pair ∷ pairs))
    → key_lt (last_key pair.0 pairs) key ≡ true → AllBelow (pair ∷ pairs) key
below_last pair [] key sorted below = (below, tt)
below_last pair (next ∷ pairs) key sorted below =
    let others = below_last next pairs key (right_of (below_all key_cmp pair.0 (next ∷ pairs)) (is_sorted key_cmp (next ∷ pairs)) sorted) below in
    let first = is_true (key_lt pair.0 next.0) (left_of (key_lt pair.0 next.0) (below_all key_cmp pair.0 pairs)
    (left_of (below_all key_cmp pair.0 (next ∷ pairs)) (is_sorted key_cmp (next ∷ pairs)) sorted)) in
    (lt_trans pair.0 next.0 key first others.0, others)

-- a key above all of them goes to the end
pub put_last : (pairs : Entries) (key value : List ℕ) → AllBelow pairs key → put key_cmp key value pairs ≡ pairs ++ (key, value) ∷ []
put_last [] key value below = refl
put_last (pair ∷ pairs) key value below =
    ap (λ o. by_order o ((key, value) ∷ pair ∷ pairs) ((pair.0, value) ∷ pairs) (pair ∷ put key_cmp key value pairs)) (greater_of pair.0 key below.0)
    ∙ ap (λ others. pair ∷ others) (put_last pairs key value below.1)

not_found : (key : List ℕ) (pairs : Entries) → T (below_all key_cmp key pairs) → find key_cmp key pairs ≡ None
not_found key [] below = refl
not_found key (pair ∷ pairs) below =
    ap (λ o. cond (is_eq o) (Some pair.1) (find key_cmp key pairs))
    (less (key_cmp key pair.0) (is_true (key_lt key pair.0) (left_of (key_lt key pair.0) (below_all key_cmp key pairs) below)))
    ∙ not_found key pairs (right_of (key_lt key pair.0) (below_all key_cmp key pairs) below)

-- ---- the pairs of a subspace

inside_alike : (space key x : List ℕ) → key_cmp key x ≡ Equal → is_inside space x ≡ is_inside space key
inside_alike space key x same = ap (is_inside space) (sym (exact_bytes key x same))

abbrev kept : (space : List ℕ) → Database → Database
kept space database = finite.retain_keys database (is_inside space)

get_kept : (space : List ℕ) (database : Database) (key : List ℕ)
    → finite.get (kept space database) key ≡ cond (is_inside space key) (finite.get database key) None
get_kept space database key = finite.get-retain_keys database (is_inside space) key (inside_alike space key)

-- they are the entries of a map
pairs_are : (space : List ℕ) (database : Database) → pairs_of space database ≡ finite.entries (kept space database)
pairs_are space database =
    sym (same_entries key_cmp nat_list_cmp_total exact_bytes _ _ (finite.entries_sorted (kept space database))
    (is_sorted-where_key key_cmp (is_inside space) (finite.entries database) (finite.entries_sorted database))
    (λ key. sym (finite.get-entries (kept space database) key) ∙ get_kept space database key
    ∙ ap (λ value. cond (is_inside space key) value None) (finite.get-entries database key)
    ∙ sym (find-where_key key_cmp (is_inside space) key (inside_alike space key) (finite.entries database))))

pub pairs_sorted : (space : List ℕ) (database : Database) → T (is_sorted key_cmp (pairs_of space database))
pairs_sorted space database = is_sorted-where_key key_cmp (is_inside space) (finite.entries database) (finite.entries_sorted database)

-- what a database has of a key of the subspace stands among them
pub found_inside : (space : List ℕ) (database : Database) (key : List ℕ) → is_inside space key ≡ true
    → find key_cmp key (pairs_of space database) ≡ finite.get database key
found_inside space database key inside =
    find-where_key key_cmp (is_inside space) key (inside_alike space key) (finite.entries database)
    ∙ ap (λ b. cond b (find key_cmp key (finite.entries database)) None) inside
    ∙ sym (finite.get-entries database key)

-- where each key of the subspace is as before, so are its pairs
pub pairs_same : (space : List ℕ) (before after : Database)
    → ((q : List ℕ) → is_inside space q ≡ true → finite.get after q ≡ finite.get before q) → pairs_of space after ≡ pairs_of space before
pairs_same space before after as_before =
    pairs_are space after
    ∙ ap finite.entries (finite.same_map nat_list_cmp_total exact_bytes (kept space after) (kept space before) same)
    ∙ sym (pairs_are space before)
  where
    by : (q : List ℕ) (inside : Bool) → is_inside space q ≡ inside
        → cond inside (finite.get after q) None ≡ cond inside (finite.get before q) None
    by q true is = as_before q is
    by q false is = refl

    same : (q : List ℕ) → finite.get (kept space after) q ≡ finite.get (kept space before) q
    same q = get_kept space after q ∙ by q (is_inside space q) refl ∙ sym (get_kept space before q)

-- each other key is as before
abbrev pub SameBut : (key : List ℕ) → (before after : Database) → Type 0
SameBut key before after = (q : List ℕ) → bytes_eq q key ≡ false → finite.get after q ≡ finite.get before q

-- where a key of the subspace has this value, and each other is as before, its pair is put among them
pub pairs_set : (space : List ℕ) (before after : Database) (key value : List ℕ) → is_inside space key ≡ true
    → finite.get after key ≡ Some value → SameBut key before after
    → pairs_of space after ≡ put key_cmp key value (pairs_of space before)
pairs_set space before after key value inside has others =
    pairs_are space after
    ∙ ap finite.entries (finite.same_map nat_list_cmp_total exact_bytes (kept space after) (finite.insert (kept space before) key value) same)
    ∙ finite.entries-insert nat_list_cmp_total (kept space before) key value
    ∙ ap (put key_cmp key value) (sym (pairs_are space before))
  where
    by : (q : List ℕ) (is_it : Bool) → bytes_eq q key ≡ is_it
        → cond (is_inside space q) (finite.get after q) None ≡ cond is_it (Some value) (cond (is_inside space q) (finite.get before q) None)
    by q true is =
        let it : q ≡ key = same_text q key (sym is) in
        ap (λ k. cond (is_inside space k) (finite.get after k) None) it
        ∙ ap (λ b. cond b (finite.get after key) None) inside ∙ has
    by q false is = ap (λ v. cond (is_inside space q) v None) (others q is)

    same : (q : List ℕ) → finite.get (kept space after) q ≡ finite.get (finite.insert (kept space before) key value) q
    same q =
        get_kept space after q
        ∙ by q (bytes_eq q key) refl
        ∙ ap (λ b. cond b (Some value) (cond (is_inside space q) (finite.get before q) None)) (texts_ties q key)
        ∙ ap (cond (is_eq (key_cmp q key)) (Some value)) (sym (get_kept space before q))
        ∙ sym (finite.get-insert nat_list_cmp_total (kept space before) key value q)

either_way : {X : Type 0} (b : Bool) (x : X) → cond b x x ≡ x
either_way true x = refl
either_way false x = refl

-- where the first key has no value any more, and each other is as before, the others are left
pub pairs_cleared : (space : List ℕ) (before after : Database) (pair : List ℕ × List ℕ) (pairs : Entries)
    → pairs_of space before ≡ pair ∷ pairs → finite.get after pair.0 ≡ None → SameBut pair.0 before after
    → pairs_of space after ≡ pairs
pairs_cleared space before after pair pairs are none others =
    pairs_are space after
    ∙ same_entries key_cmp nat_list_cmp_total exact_bytes (finite.entries (kept space after)) pairs (finite.entries_sorted (kept space after)) tail same
  where
    whole : T (is_sorted key_cmp (pair ∷ pairs))
    whole = subst (λ list. T (is_sorted key_cmp list)) are (pairs_sorted space before)

    tail : T (is_sorted key_cmp pairs)
    tail = right_of (below_all key_cmp pair.0 pairs) (is_sorted key_cmp pairs) whole

    found : (q : List ℕ) → find key_cmp q (pair ∷ pairs) ≡ cond (is_inside space q) (finite.get before q) None
    found q =
        ap (find key_cmp q) (sym are ∙ pairs_are space before)
        ∙ sym (finite.get-entries (kept space before) q) ∙ get_kept space before q

    by : (q : List ℕ) (is_it : Bool) → bytes_eq q pair.0 ≡ is_it
        → cond (is_inside space q) (finite.get after q) None ≡ find key_cmp q pairs
    by q true is =
        let it : q ≡ pair.0 = same_text q pair.0 (sym is) in
        ap (λ k. cond (is_inside space q) (finite.get after k) None) it
        ∙ ap (λ v. cond (is_inside space q) v None) none ∙ either_way (is_inside space q) None
        ∙ sym (not_found pair.0 pairs (left_of (below_all key_cmp pair.0 pairs) (is_sorted key_cmp pairs) whole))
        ∙ ap (λ k. find key_cmp k pairs) (sym it)
    by q false is =
        ap (λ v. cond (is_inside space q) v None) (others q is)
        ∙ sym (found q)
        ∙ ap (λ b. cond b (Some pair.1) (find key_cmp q pairs)) (sym (texts_ties q pair.0) ∙ is)

    same : (q : List ℕ) → find key_cmp q (finite.entries (kept space after)) ≡ find key_cmp q pairs
    same q = sym (finite.get-entries (kept space after) q) ∙ get_kept space after q ∙ by q (bytes_eq q pair.0) refl
