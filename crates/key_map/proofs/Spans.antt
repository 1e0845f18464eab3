-- What a tree's ranges give: the pairs whose keys pass a test, and the first and the last of these.
use Rattle.std.proofs.Common.{◌≡◌, ℕ, Bool, true, false, cond, not, ◌&&◌, List, [], ◌∷◌, ◌++◌, Option, None, Some, is_some, refl, sym, ap, subst, ◌∙◌, true≢false}
use Rattle.std.specs.declared.cmp.Ordering.{Ordering}
use Rattle.std.specs.declared.cmp.Ordering.TheVariants.{Less, Equal, Greater}
use Rattle.std.specs.declared.ops.Bound.TheVariants.{Included, Excluded, Unbounded}
use Rattle.std.specs.BTreeMap.Range.{range_contains}
use Rattle.std.specs.Bool.{OnFalse}
use Rattle.std.specs.Cmp.Lexicographic.{nat_list_cmp_total}
use Rattle.std.specs.List.{filter}
use Rattle.std.specs.Map.Iter.{TakesFirst, TakesLast}
use Rattle.std.specs.Option.{option_map}
use Rattle.std.specs.Ordering.{is_lt, is_le, ordering_reverse}
use Rattle.key_bytes.specs.Keys.{key_cmp, key_le, key_lt, within}
use Rattle.key_map.specs.Ends.{first, last}

is_le-reversed : (o : Ordering) → is_le (ordering_reverse o) ≡ not (is_lt o)
is_le-reversed Less = refl
is_le-reversed Equal = refl
is_le-reversed Greater = refl

and-true : (b : Bool) → (b && true) ≡ b
and-true true = refl
and-true false = refl

and-false : (b : Bool) → (b && false) ≡ false
and-false true = refl
and-false false = refl

not-not : (b : Bool) → not (not b) ≡ b
not-not true = refl
not-not false = refl

-- `<=` from one side is not `<` from the other
is_le-key_cmp : (k q : List ℕ) → is_le (key_cmp k q) ≡ key_le k q
is_le-key_cmp k q = ap is_le (nat_list_cmp_total.antisymm k q) ∙ is_le-reversed (key_cmp q k)

not-is_le-key_cmp : (k q : List ℕ) → not (is_le (key_cmp k q)) ≡ key_lt q k
not-is_le-key_cmp k q = ap not (is_le-key_cmp k q) ∙ not-not (key_lt q k)

-- the test of a range from k on, of a range below k, and of one from b up to e
pub range_contains-from : (k q : List ℕ) → range_contains key_cmp (Included k) Unbounded q ≡ key_le k q
range_contains-from k q = and-true (is_le (key_cmp k q)) ∙ is_le-key_cmp k q

pub range_contains-below : (k q : List ℕ) → range_contains key_cmp Unbounded (Excluded k) q ≡ key_lt q k
range_contains-below k q = not-is_le-key_cmp k q

pub range_contains-within : (b e q : List ℕ) → range_contains key_cmp (Included b) (Excluded e) q ≡ within b e q
range_contains-within b e q = λ i. is_le-key_cmp b q i && not-is_le-key_cmp e q i

-- what `next` gave is the first of what was left
pub option_map-TakesFirst : {A X : Type 0} (shows : A → X) (s t : List X) (r : Option A) → TakesFirst shows s r t
    → option_map shows r ≡ first s
option_map-TakesFirst shows s t None step = ap first (sym step.0)
option_map-TakesFirst shows s t (Some x) step = ap first (sym step)

pub last-append : {X : Type 0} (xs : List X) (x : X) → last (xs ++ x ∷ []) ≡ Some x
last-append [] x = refl
last-append (y ∷ []) x = refl
last-append (y ∷ z ∷ xs) x = last-append (z ∷ xs) x

-- what `next_back` gave is the last of what was left
pub option_map-TakesLast : {A X : Type 0} (shows : A → X) (s t : List X) (r : Option A) → TakesLast shows s r t
    → option_map shows r ≡ last s
option_map-TakesLast shows s t None step = ap last (sym step.0)
option_map-TakesLast shows s t (Some x) step = sym (ap last step ∙ last-append t (shows x))

-- a range with no ends has all
pub filter-unbounded : {X : Type 0} (es : List (List ℕ × X)) → filter (λ e. range_contains key_cmp Unbounded Unbounded e.0) es ≡ es
filter-unbounded [] = refl
filter-unbounded (e ∷ es) = ap (λ es. e ∷ es) (filter-unbounded es)

less-at_most : (q e b : List ℕ) → key_cmp q e ≡ Less → key_lt b e ≡ false → key_cmp q b ≡ Less
less-at_most q e b lt back = below (key_cmp e b) refl
  where
    below : (o : Ordering) → key_cmp e b ≡ o → key_cmp q b ≡ Less
    below Less is = nat_list_cmp_total.trans q e b lt is
    below Equal is =
        nat_list_cmp_total.antisymm q b
        ∙ ap ordering_reverse (sym (nat_list_cmp_total.congr e b q is))
        ∙ sym (nat_list_cmp_total.antisymm q e)
        ∙ lt
    below Greater is = absurd (true≢false (sym (ap is_lt (nat_list_cmp_total.antisymm b e ∙ ap ordering_reverse is)) ∙ back))

within-backward : (b e q : List ℕ) → key_lt b e ≡ false → within b e q ≡ false
within-backward b e q back = outside (key_cmp q e) refl
  where
    outside : (o : Ordering) → key_cmp q e ≡ o → within b e q ≡ false
    outside Less is = ap (λ o. not (is_lt o) && key_lt q e) (less-at_most q e b is back)
    outside Equal is = ap (λ o. key_le b q && is_lt o) is ∙ and-false (key_le b q)
    outside Greater is = ap (λ o. key_le b q && is_lt o) is ∙ and-false (key_le b q)

-- no key is in a range that does not end above its begin
pub filter-within-backward : {X : Type 0} (b e : List ℕ) (es : List (List ℕ × X)) → key_lt b e ≡ false
    → filter (λ x. within b e x.0) es ≡ []
filter-within-backward b e [] back = refl
filter-within-backward b e (x ∷ es) back =
    ap (λ t. cond t (x ∷ filter (λ x. within b e x.0) es) (filter (λ x. within b e x.0) es)) (within-backward b e x.0 back)
    ∙ filter-within-backward b e es back

-- where `next` gave nothing, nothing was left
pub OnFalse-TakesFirst : {A X : Type 0} (shows : A → X) (s t fs : List X) (r : Option A) (b : Bool) → TakesFirst shows s r t → s ≡ fs
    → b ≡ is_some r → OnFalse b (fs ≡ [])
OnFalse-TakesFirst shows s t fs None b step same is = subst (λ b. OnFalse b (fs ≡ [])) (sym is) (sym same ∙ step.0)
OnFalse-TakesFirst shows s t fs (Some x) b step same is = subst (λ b. OnFalse b (fs ≡ [])) (sym is) tt

cons≢nil : {X : Type 0} (x : X) (xs : List X) → x ∷ xs ≡ [] → ⊥
cons≢nil x xs e = cc

-- where no pair passes a test, all pairs fail it
pub filter-not : {X : Type 0} (p : X → Bool) (xs : List X) → filter p xs ≡ [] → filter (λ x. not (p x)) xs ≡ xs
filter-not p [] none = refl
filter-not p (x ∷ xs) none = kept (p x) refl none (filter-not p xs)
  where
    kept : (b : Bool) → p x ≡ b → cond b (x ∷ filter p xs) (filter p xs) ≡ [] → (filter p xs ≡ [] → filter (λ x. not (p x)) xs ≡ xs)
        → filter (λ x. not (p x)) (x ∷ xs) ≡ x ∷ xs
    kept true is none rest = absurd (cons≢nil x (filter p xs) none)
    kept false is none rest =
        ap (λ b. cond (not b) (x ∷ filter (λ x. not (p x)) xs) (filter (λ x. not (p x)) xs)) is ∙ ap (λ ys. x ∷ ys) (rest none)
