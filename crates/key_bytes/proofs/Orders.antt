-- Laws of the order of keys.
use Rattle.std.proofs.Common.{◌≡◌, ◌≢◌, ℕ, ◌<◌, ◌≤◌, ◌⊎◌, inl, inr, true, false, not, List, [], ◌∷◌, ◌++◌, length, refl, sym, ap, ◌∙◌, true≢false, arith}
use Rattle.std.proofs.lemmas.Bool.{false≢true, cases_lt, cases_order}
use Rattle.std.proofs.lemmas.Bool.Decides.{nat_tests}
use Rattle.std.proofs.lemmas.Cmp.{tied_itself}
use Rattle.std.specs.declared.cmp.Ordering.{Ordering}
use Rattle.std.specs.declared.cmp.Ordering.TheVariants.{Less, Equal, Greater}
use Rattle.std.specs.Cmp.Lexicographic.{nat_list_cmp_total}
use Rattle.std.specs.Cmp.{nat_cmp_is}
use Rattle.std.specs.Ordering.{is_lt, nat_cmp, ordering_reverse, ordering_then}
use Rattle.key_bytes.specs.Keys.{key_cmp, key_lt, key_le, after}

-- ---- the order, by the first bytes

pub lt_first : (a c : ℕ) (x y : List ℕ) → a < c → key_lt (a ∷ x) (c ∷ y) ≡ true
lt_first a c x y h = grind (arith, nat_tests)

pub lt_later : (a c : ℕ) (x y : List ℕ) → c < a → key_lt (a ∷ x) (c ∷ y) ≡ false
lt_later a c x y h = grind (arith, nat_tests)

pub lt_rest : (a c : ℕ) (x y : List ℕ) → a ≡ c → key_lt (a ∷ x) (c ∷ y) ≡ key_lt x y
lt_rest a c x y h = grind (arith, nat_tests)

-- one byte alone is not above a key whose first byte is as great
pub not_below_alone : (a c : ℕ) (x : List ℕ) → a ≤ c → key_lt (c ∷ x) (a ∷ []) ≡ false
not_below_alone a c [] h = grind (arith, nat_tests)
not_below_alone a c (d ∷ x) h = grind (arith, nat_tests)

pub below_alone : (a c : ℕ) (x : List ℕ) → key_lt (c ∷ x) (a ∷ []) ≡ true → c < a
below_alone a c [] h = grind (arith, nat_tests)
below_alone a c (d ∷ x) h = grind (arith, nat_tests)

-- nothing is below itself
pub irreflexive : (k : List ℕ) → key_lt k k ≡ false
irreflexive k = ap is_lt (tied_itself nat_list_cmp_total k)

-- the first bytes of two keys are in the order of the keys, or the same
pub head_le : (a c : ℕ) (x y : List ℕ) → key_lt (a ∷ x) (c ∷ y) ≡ true → a ≤ c
head_le a c x y h = grind (arith, nat_tests)

pub head_ge : (a c : ℕ) (x y : List ℕ) → key_lt (a ∷ x) (c ∷ y) ≡ false → c ≤ a
head_ge a c x y h = grind (arith, nat_tests)

-- ---- three keys

pub less : (o : Ordering) → is_lt o ≡ true → o ≡ Less
less Less h = refl
less Equal h = absurd (false≢true h)
less Greater h = absurd (false≢true h)

-- the first is not above the second, which is below the third
pub le_lt : (a b c : List ℕ) → key_lt b a ≡ false → key_lt b c ≡ true → key_lt a c ≡ true
le_lt a b c above below = by (key_cmp b a) refl
  where
    by : (o : Ordering) → key_cmp b a ≡ o → key_lt a c ≡ true
    by Less is = absurd (true≢false (sym (ap is_lt is) ∙ above))
    by Equal is = ap is_lt (sym (nat_list_cmp_total.congr b a c is)) ∙ below
    by Greater is =
        ap is_lt (nat_list_cmp_total.trans a b c (nat_list_cmp_total.antisymm a b ∙ ap ordering_reverse is) (less (key_cmp b c) below))

-- the first is below the second, which is not above the third
pub lt_le : (a b c : List ℕ) → key_lt a b ≡ true → key_lt c b ≡ false → key_lt a c ≡ true
lt_le a b c below above = by (key_cmp c b) refl
  where
    by : (o : Ordering) → key_cmp c b ≡ o → key_lt a c ≡ true
    by Less is = absurd (true≢false (sym (ap is_lt is) ∙ above))
    by Equal is =
        ap is_lt (nat_list_cmp_total.antisymm a c ∙ ap ordering_reverse (nat_list_cmp_total.congr c b a is) ∙ sym (nat_list_cmp_total.antisymm a b))
        ∙ below
    by Greater is =
        ap is_lt (nat_list_cmp_total.trans a b c (less (key_cmp a b) below) (nat_list_cmp_total.antisymm b c ∙ ap ordering_reverse is))

pub lt_trans : (a b c : List ℕ) → key_lt a b ≡ true → key_lt b c ≡ true → key_lt a c ≡ true
lt_trans a b c p q = ap is_lt (nat_list_cmp_total.trans a b c (less (key_cmp a b) p) (less (key_cmp b c) q))

pub above_not_below : (a b : List ℕ) → key_lt a b ≡ true → key_lt b a ≡ false
above_not_below a b below = ap is_lt (nat_list_cmp_total.antisymm b a ∙ ap ordering_reverse (less (key_cmp a b) below))

-- below the key after a key are that key and those below it
pub lt_after : (x k : List ℕ) → key_lt x (after k) ≡ key_le x k
lt_after [] [] = refl
lt_after [] (c ∷ k) = refl
lt_after (a ∷ x) [] = not_below_alone 0 a x (omega arith)
lt_after (a ∷ x) (c ∷ k) = by (cases_lt a c) (cases_lt c a) (lt_after x k)
  where
    by : (a < c) ⊎ (c ≤ a) → (c < a) ⊎ (a ≤ c) → key_lt x (after k) ≡ key_le x k → key_lt (a ∷ x) (c ∷ after k) ≡ key_le (a ∷ x) (c ∷ k)
    by (inl h) _ rest = lt_first a c x (after k) h ∙ sym (ap not (lt_later c a k x h))
    by _ (inl h) rest = lt_later a c x (after k) h ∙ sym (ap not (lt_first c a k x h))
    by (inr h) (inr g) rest =
        let same : a ≡ c = omega arith in
        lt_rest a c x (after k) same ∙ rest ∙ sym (ap not (lt_rest c a k x (sym same)))

pub below_after : (k : List ℕ) → key_lt k (after k) ≡ true
below_after k = lt_after k k ∙ ap not (irreflexive k)

-- ---- parts of byte strings, one after the other

pub ordering_then-assoc : (a b c : Ordering) → ordering_then (ordering_then a b) c ≡ ordering_then a (ordering_then b c)
ordering_then-assoc Less b c = refl
ordering_then-assoc Equal b c = refl
ordering_then-assoc Greater b c = refl

pub ordering_then-equal : (o : Ordering) → ordering_then o Equal ≡ o
ordering_then-equal Less = refl
ordering_then-equal Equal = refl
ordering_then-equal Greater = refl

pub nat_cmp-less : (m n : ℕ) → m < n → nat_cmp m n ≡ Less
nat_cmp-less m n lt = sym (nat_cmp_is m n Less lt)

pub nat_cmp-equal : (m n : ℕ) → m ≡ n → nat_cmp m n ≡ Equal
nat_cmp-equal m n same = sym (nat_cmp_is m n Equal same)

pub nat_cmp-greater : (m n : ℕ) → n < m → nat_cmp m n ≡ Greater
nat_cmp-greater m n lt = sym (nat_cmp_is m n Greater lt)

-- what decides leaves nothing to decide
pub ordering_then-differ : (m n : ℕ) (o : Ordering) → m ≢ n → nat_cmp m n ≡ ordering_then (nat_cmp m n) o
ordering_then-differ m n o differ = elim (cases_order m n) [
  | inl same ↦ absurd (differ same)
  | inr (inl lt) ↦ rw (nat_cmp-less m n lt) refl
  | inr (inr lt) ↦ rw (nat_cmp-greater m n lt) refl
]

-- the first bytes decide where they differ
pub key_cmp-first_less : (a b : ℕ) (x y : List ℕ) → a < b → key_cmp (a ∷ x) (b ∷ y) ≡ Less
key_cmp-first_less a b x y lt = ap (λ (o : Ordering). ordering_then o (key_cmp x y)) (nat_cmp-less a b lt)

pub key_cmp-first_greater : (a b : ℕ) (x y : List ℕ) → b < a → key_cmp (a ∷ x) (b ∷ y) ≡ Greater
key_cmp-first_greater a b x y lt = ap (λ (o : Ordering). ordering_then o (key_cmp x y)) (nat_cmp-greater a b lt)

-- fronts of one length decide before what follows them
pub key_cmp-append : (a b x y : List ℕ) → length a ≡ length b → key_cmp (a ++ x) (b ++ y) ≡ ordering_then (key_cmp a b) (key_cmp x y)
key_cmp-append [] [] x y e = refl
key_cmp-append [] (d ∷ b) x y e = absurd (omega arith)
key_cmp-append (c ∷ a) [] x y e = absurd (omega arith)
key_cmp-append (c ∷ a) (d ∷ b) x y e =
    ap (ordering_then (nat_cmp c d)) (key_cmp-append a b x y (omega arith))
    ∙ sym (ordering_then-assoc (nat_cmp c d) (key_cmp a b) (key_cmp x y))

pub key_cmp-same_front : (a x y : List ℕ) → key_cmp (a ++ x) (a ++ y) ≡ key_cmp x y
key_cmp-same_front a x y =
    key_cmp-append a a x y refl ∙ ap (λ (o : Ordering). ordering_then o (key_cmp x y)) (tied_itself nat_list_cmp_total a)
