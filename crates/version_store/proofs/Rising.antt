-- Lists of changes whose keys rise.
use Rattle.std.proofs.Common.{◌≡◌, ℕ, suc, ◌-◌, List, [], ◌∷◌, ◌++◌, length, Option, Some, IsTrue, refl, sym, ap, subst, ◌∙◌, arith}
use Rattle.std.proofs.lemmas.Option.{none-some}
use Rattle.std.specs.Option.{option_map}
use Rattle.std.proofs.lemmas.Bool.{false≢true}
use Rattle.std.specs.declared.cmp.Ordering.{Ordering}
use Rattle.std.specs.declared.cmp.Ordering.TheVariants.{Less, Equal, Greater}
use Rattle.std.specs.Cmp.Lexicographic.{nat_list_cmp_total}
use Rattle.std.specs.List.{AllByRecursion, slice_get}
use Rattle.std.specs.List.Sorted.{IsStrictlySortedBy}
use Rattle.std.specs.Map.{keys_of}
use Rattle.std.specs.Ordering.{is_lt}
use Rattle.key_bytes.specs.Keys.{key_cmp}
use Rattle.key_map.specs.Ends.{last}
use Rattle.version_store.specs.declared.changes.Change.{Change}
use Rattle.version_store.specs.Changed.{change_of, changes_of, IsRising, is_above}

less-is_lt : (o : Ordering) → IsTrue (is_lt o) → o ≡ Less
less-is_lt Less h = refl
less-is_lt Equal h = absurd (false≢true h)
less-is_lt Greater h = absurd (false≢true h)

-- a key below those of all changes
abbrev IsBelow : List ℕ → List (List ℕ × Option (List ℕ)) → Type 0
IsBelow key changes = AllByRecursion (λ y. key_cmp key y ≡ Less) (keys_of changes)

IsBelow-push : (key : List ℕ) (changes : List (List ℕ × Option (List ℕ))) (change : List ℕ × Option (List ℕ)) → IsBelow key changes
    → key_cmp key change.0 ≡ Less → IsBelow key (changes ++ change ∷ [])
IsBelow-push key [] change below lt = (lt, tt)
IsBelow-push key (c ∷ cs) change below lt = (below.0, IsBelow-push key cs change below.1 lt)

IsBelow-last : (key : List ℕ) (changes : List (List ℕ × Option (List ℕ))) (change : List ℕ × Option (List ℕ))
    → IsBelow key (changes ++ change ∷ []) → key_cmp key change.0 ≡ Less
IsBelow-last key [] change below = below.0
IsBelow-last key (c ∷ cs) change below = IsBelow-last key cs change below.1

pub IsRising-nil : IsRising []
unfolding IsStrictlySortedBy
IsRising-nil = tt

-- a key above all others may come last
pub IsRising-push : (changes : List (List ℕ × Option (List ℕ))) (change : List ℕ × Option (List ℕ)) → IsRising changes
    → IsTrue (is_above changes change.0) → IsRising (changes ++ change ∷ [])
unfolding IsStrictlySortedBy
IsRising-push [] change rising above = (tt, tt)
IsRising-push (c ∷ []) change rising above = ((less-is_lt _ above, tt), (tt, tt))
IsRising-push (c ∷ d ∷ cs) change rising above =
    let rest = IsRising-push (d ∷ cs) change rising.1 above in
    let later = nat_list_cmp_total.trans c.0 d.0 change.0 rising.0.0 (IsBelow-last d.0 cs change rest.0) in
    (IsBelow-push c.0 (d ∷ cs) change rising.0 later, rest)

-- the last change, read by its place
pub last-changes_of : (changes : List Change) (change : Change) → Some change ≡ slice_get changes (length changes - 1)
    → last (changes_of changes) ≡ Some (change_of change)
last-changes_of [] change is = absurd (none-some change (sym is))
last-changes_of (c ∷ []) change is = ap (option_map change_of) (sym is)
last-changes_of (c ∷ d ∷ cs) change is =
    let e : length (c ∷ d ∷ cs) - 1 ≡ suc (length (d ∷ cs) - 1) = omega arith in
    last-changes_of (d ∷ cs) change (is ∙ ap (slice_get (c ∷ d ∷ cs)) e)

-- the first key stands below the others, whose keys rise
pub IsRising-first : (changes more : List (List ℕ × Option (List ℕ))) (change : List ℕ × Option (List ℕ)) → changes ≡ change ∷ more
    → IsRising changes → AllByRecursion (λ y. key_cmp change.0 y ≡ Less) (keys_of more)
unfolding IsStrictlySortedBy
IsRising-first changes more change step rising = (subst IsRising step rising).0

pub IsRising-rest : (changes more : List (List ℕ × Option (List ℕ))) (change : List ℕ × Option (List ℕ)) → changes ≡ change ∷ more
    → IsRising changes → IsRising more
unfolding IsStrictlySortedBy
IsRising-rest changes more change step rising = (subst IsRising step rising).1
