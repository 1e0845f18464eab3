-- The order of tuples is the order of their spellings.
use Rattle.std.proofs.Common.{◌≡◌, ◌≢◌, ℕ, suc, ◌+◌, ◌-◌, ◌/◌, ◌%◌, ◌^◌, ◌<◌, ◌≤◌, Bool, true, false, List, [], ◌∷◌, ◌++◌, length, get_or, unsigned_abs, refl, sym, ap, ◌∙◌, inl, inr, append_assoc, arith, rules}
use Rattle.std.specs.Int.{w16, is_negative, to_be_bytes}
use Rattle.std.specs.List.Sorted.{IsStrictlySortedBy}
use Rattle.std.specs.Ordering.{nat_cmp, ordering_then, ordering_reverse}
use Rattle.std.specs.declared.cmp.Ordering.{Ordering}
use Rattle.std.specs.declared.cmp.Ordering.TheVariants.{Less, Greater}
use Rattle.std.proofs.lemmas.Bool.{cases_eq, cases_lt, cases_order, le-leb, lt-leb}
use Rattle.std.proofs.lemmas.Cmp.{nat_list_cmp_total}
use Rattle.std.proofs.lemmas.List.{append-nil}
use Rattle.std.proofs.lemmas.Map.Keys.{below_from_sorted}
use Rattle.key_bytes.specs.Keys.{key_cmp}
use Rattle.fdb_tuple.specs.Tuples.{Scalar, Null, Bytes, Text, Int, Boolean, Uuid, Stamp, Elements, Empty, Single, Nested, greatest_magnitude, IsScalar, AreElements, IsTuple}
use Rattle.fdb_tuple.specs.Spelling.{escaped, string_spelled, with_sign, int_code, signed_spelled, scalar_spelled, spelled_in, spelling}
use Rattle.fdb_tuple.specs.Order.{rank, nested_rank, value_cmp, scalar_cmp, tuple_cmp}
use Rattle.key_bytes.proofs.Orders.{ordering_then-assoc, ordering_then-equal, ordering_then-differ, nat_cmp-less, nat_cmp-equal, nat_cmp-greater, key_cmp-first_less, key_cmp-append}
use Rattle.fdb_tuple.specs.BytesOrder.{key_cmp-escaped, key_cmp-below_escape, IsBelowEscape}
use Rattle.fdb_tuple.specs.IntOrder.{key_cmp-int_spelled, nat_cmp-digits}

-- ---- elements of different kinds: the first bytes decide

-- the least code of each kind, and a byte above all codes
abbrev lowest_codes : List ℕ
lowest_codes = 0x00 ∷ 0x01 ∷ 0x02 ∷ 0x05 ∷ 0x0B ∷ 0x26 ∷ 0x27 ∷ 0x30 ∷ 0x33 ∷ 0x34 ∷ []

abbrev lowest_code : ℕ → ℕ
lowest_code kind = get_or lowest_codes kind 0

lowest_codes-sorted : IsStrictlySortedBy nat_cmp lowest_codes
unfolding IsStrictlySortedBy
lowest_codes-sorted = search rules

lowest_code-le : (m n : ℕ) → m ≤ n → n < 10 → lowest_code m ≤ lowest_code n
lowest_code-le m n le lt = elim (cases_eq m n) [
  | inl same ↦ rw same (omega arith)
  | inr differ ↦ omega (arith, below_from_sorted lowest_codes m n 0 lowest_codes-sorted (omega arith) lt)
]

-- bytes that begin with a code of a kind
record BeginsAs (kind : ℕ) (bytes : List ℕ) : Type 0 where
  first : ℕ
  rest : List ℕ
  is : bytes ≡ first ∷ rest
  within : kind < 9
  low : lowest_code kind ≤ first
  high : first < lowest_code (suc kind)

BeginsAs-cons : {kind : ℕ} (first : ℕ) (rest : List ℕ) → (kind < 9) × (lowest_code kind ≤ first) × (first < lowest_code (suc kind))
    → BeginsAs kind (first ∷ rest)
BeginsAs-cons first rest h = record { first = first; rest = rest; is = refl; within = h.0; low = h.1; high = h.2 }

key_cmp-kinds : (m n : ℕ) (a b : List ℕ) → BeginsAs m a → BeginsAs n b → m < n → key_cmp a b ≡ Less
key_cmp-kinds m n a b h k lt =
    rw (h.is, k.is) (key_cmp-first_less h.first k.first h.rest k.rest (omega (arith, lowest_code-le (suc m) n (omega arith) (omega arith))))

key_cmp-ranks : (m n : ℕ) (a b : List ℕ) → BeginsAs m a → BeginsAs n b → m ≢ n → key_cmp a b ≡ nat_cmp m n
key_cmp-ranks m n a b h k differ = elim (cases_order m n) [
  | inl same ↦ absurd (differ same)
  | inr (inl lt) ↦ key_cmp-kinds m n a b h k lt ∙ sym (nat_cmp-less m n lt)
  | inr (inr lt) ↦ nat_list_cmp_total.antisymm a b ∙ ap ordering_reverse (key_cmp-kinds n m b a k h lt) ∙ sym (nat_cmp-greater m n lt)
]

int_code_begins : (negative : Bool) (size : ℕ) (x : List ℕ) → BeginsAs 4 (int_code negative size ++ x)
int_code_begins false size x = elim (cases_lt 8 size) [
  | inl long ↦ rw (lt-leb size 8 long) (BeginsAs-cons 0x1D _ (search rules))
  | inr short ↦ rw (le-leb size 8 short) (BeginsAs-cons (0x14 + size) _ (search rules))
]
int_code_begins true size x = elim (cases_lt 8 size) [
  | inl long ↦ rw (lt-leb size 8 long) (BeginsAs-cons 0x0B _ (search rules))
  | inr short ↦ rw (le-leb size 8 short) (BeginsAs-cons (0x14 - size) _ (search rules))
]

signed_begins : (negative : Bool) (bytes x : List ℕ) → BeginsAs 4 (signed_spelled negative bytes ++ x)
unfolding signed_spelled
signed_begins negative bytes x =
    rw (append_assoc (int_code negative (length bytes)) (with_sign negative bytes) x) (int_code_begins negative (length bytes) (with_sign negative bytes ++ x))

scalar_begins : (nested : Bool) (s : Scalar) (x : List ℕ) → BeginsAs (rank s) (scalar_spelled nested s ++ x)
scalar_begins false Null x = BeginsAs-cons 0x00 _ (search rules)
scalar_begins true Null x = BeginsAs-cons 0x00 _ (search rules)
scalar_begins nested (Bytes bytes) x = BeginsAs-cons 0x01 _ (search rules)
scalar_begins nested (Text text) x = BeginsAs-cons 0x02 _ (search rules)
scalar_begins nested (Int z) x = signed_begins _ _ x
scalar_begins nested (Boolean false) x = BeginsAs-cons 0x26 _ (search rules)
scalar_begins nested (Boolean true) x = BeginsAs-cons 0x27 _ (search rules)
scalar_begins nested (Uuid bytes) x = BeginsAs-cons 0x30 _ (search rules)
scalar_begins nested (Stamp stamp user) x = BeginsAs-cons 0x33 _ (search rules)

-- ---- scalars

boolean_rank : (value : Bool) → (5 ≤ rank (Boolean value)) × (rank (Boolean value) ≤ 6)
boolean_rank false = search rules
boolean_rank true = search rules

key_cmp-user : (m n : ℕ) (x y : List ℕ) → m < 2 ^ 16 → n < 2 ^ 16
    → key_cmp (to_be_bytes w16 m ++ x) (to_be_bytes w16 n ++ y) ≡ ordering_then (nat_cmp m n) (key_cmp x y)
key_cmp-user m n x y lm ln =
    let high_m : m / 256 % 256 ≡ m / 256 = omega arith in
    let high_n : n / 256 % 256 ≡ n / 256 = omega arith in
    rw (high_m, high_n, ← nat_cmp-digits m n) (sym (ordering_then-assoc (nat_cmp (m / 256) (n / 256)) (nat_cmp (m % 256) (n % 256)) (key_cmp x y)))

key_cmp-string : (a b x y : List ℕ) → IsBelowEscape x → IsBelowEscape y
    → key_cmp (string_spelled a ++ x) (string_spelled b ++ y) ≡ ordering_then (key_cmp a b) (key_cmp x y)
key_cmp-string a b x y h k = rw (append_assoc (escaped a) (0 ∷ []) x, append_assoc (escaped b) (0 ∷ []) y) (key_cmp-escaped a b x y h k)

key_cmp-stamp : (a b : List ℕ) (m n : ℕ) (x y : List ℕ) → length a ≡ length b → m < 2 ^ 16 → n < 2 ^ 16 →
    key_cmp (a ++ to_be_bytes w16 m ++ x) (b ++ to_be_bytes w16 n ++ y) ≡ ordering_then (ordering_then (key_cmp a b) (nat_cmp m n)) (key_cmp x y)
key_cmp-stamp a b m n x y e lm ln =
    rw (append_assoc a (to_be_bytes w16 m) x, append_assoc b (to_be_bytes w16 n) y, key_cmp-append a b (to_be_bytes w16 m ++ x) (to_be_bytes w16 n ++ y) e, key_cmp-user m n x y lm ln)
    (sym (ordering_then-assoc (key_cmp a b) (nat_cmp m n) (key_cmp x y)))

magnitude_below : (negative : Bool) (n : ℕ) → n ≤ greatest_magnitude negative → n < 256 ^ 16
magnitude_below false n le = omega arith
magnitude_below true n le = omega arith

key_cmp-same_kind : (nested : Bool) (s t : Scalar) (x y : List ℕ) → IsScalar s → IsScalar t → IsBelowEscape x → IsBelowEscape y
    → rank s ≡ rank t →
    key_cmp (scalar_spelled nested s ++ x) (scalar_spelled nested t ++ y) ≡ ordering_then (value_cmp s t) (key_cmp x y)
key_cmp-same_kind false Null Null x y hs ht hx hy e = refl
key_cmp-same_kind true Null Null x y hs ht hx hy e = refl
key_cmp-same_kind nested (Bytes a) (Bytes b) x y hs ht hx hy e = key_cmp-string a b x y hx hy
key_cmp-same_kind nested (Text a) (Text b) x y hs ht hx hy e = key_cmp-string a b x y hx hy
key_cmp-same_kind nested (Int a) (Int b) x y hs ht hx hy e =
    key_cmp-int_spelled a b x y (magnitude_below (is_negative a) (unsigned_abs a) hs) (magnitude_below (is_negative b) (unsigned_abs b) ht)
key_cmp-same_kind nested (Boolean false) (Boolean false) x y hs ht hx hy e = refl
key_cmp-same_kind nested (Boolean true) (Boolean true) x y hs ht hx hy e = refl
key_cmp-same_kind nested (Uuid a) (Uuid b) x y hs ht hx hy e = key_cmp-append a b x y (hs.1 ∙ sym ht.1)
key_cmp-same_kind nested (Stamp a m) (Stamp b n) x y hs ht hx hy e = key_cmp-stamp a b m n x y (hs.1 ∙ sym ht.1) hs.2 ht.2
key_cmp-same_kind nested s t x y hs ht hx hy e = absurd (omega (arith, boolean_rank))

key_cmp-scalar_spelled : (nested : Bool) (s t : Scalar) (x y : List ℕ) → IsScalar s → IsScalar t → IsBelowEscape x → IsBelowEscape y →
    key_cmp (scalar_spelled nested s ++ x) (scalar_spelled nested t ++ y) ≡ ordering_then (scalar_cmp s t) (key_cmp x y)
key_cmp-scalar_spelled nested s t x y hs ht hx hy = elim (cases_eq (rank s) (rank t)) [
  | inl same ↦
      key_cmp-same_kind nested s t x y hs ht hx hy same
      ∙ ap (λ (o : Ordering). ordering_then (ordering_then o (value_cmp s t)) (key_cmp x y)) (sym (nat_cmp-equal (rank s) (rank t) same))
  | inr differ ↦
      key_cmp-ranks (rank s) (rank t) _ _ (scalar_begins nested s x) (scalar_begins nested t y) differ
      ∙ ordering_then-differ (rank s) (rank t) (ordering_then (value_cmp s t) (key_cmp x y)) differ
      ∙ sym (ordering_then-assoc (nat_cmp (rank s) (rank t)) (value_cmp s t) (key_cmp x y))
]

-- ---- tuples

-- what stands behind the elements: inside a nested tuple the 00 that ends it, and what follows
abbrev closed : Bool → List ℕ → List ℕ
closed false x = []
closed true x = 0 ∷ x

closed_below : (nested : Bool) (x : List ℕ) → IsBelowEscape (closed nested x)
closed_below false x = tt
closed_below true x = omega arith

begins_below : (kind : ℕ) (bytes : List ℕ) → BeginsAs kind bytes → IsBelowEscape bytes
begins_below kind bytes h =
    let high : h.first < 0xFF = omega (arith, lowest_code-le (suc kind) 9 (omega arith) (omega arith)) in
    rw h.is high

nested_begins : (x : List ℕ) → BeginsAs nested_rank (0x05 ∷ x)
nested_begins x = BeginsAs-cons 0x05 x (search rules)

elements_below : (nested : Bool) (a : Elements) (e : List ℕ) → IsBelowEscape e → IsBelowEscape (spelled_in nested a ++ e)
elements_below nested Empty e h = h
elements_below nested (Single s xs) e h =
    rw (append_assoc (scalar_spelled nested s) (spelled_in nested xs) e) (begins_below (rank s) _ (scalar_begins nested s (spelled_in nested xs ++ e)))
elements_below nested (Nested inner xs) e h = omega arith

rank-nested : (s : Scalar) → rank s ≢ nested_rank
rank-nested (Boolean false) e = absurd (omega arith)
rank-nested (Boolean true) e = absurd (omega arith)
rank-nested s e = absurd (omega arith)

-- the end stands before each element
closed_kind : (nested : Bool) (kind : ℕ) (x bytes : List ℕ) → BeginsAs kind bytes → 0 < kind → key_cmp (closed nested x) bytes ≡ Less
closed_kind false kind x bytes h some = rw h.is refl
closed_kind true kind x bytes h some = rw h.is (key_cmp-first_less 0 h.first x h.rest (omega (arith, lowest_code-le 1 kind (omega arith) (omega arith))))

closed_scalar : (nested : Bool) (s : Scalar) (x y : List ℕ) → IsBelowEscape x
    → key_cmp (closed nested x) (scalar_spelled nested s ++ y) ≡ Less
closed_scalar false Null x y h = refl
closed_scalar true Null x y h = key_cmp-below_escape x y h
closed_scalar nested s x y h = closed_kind nested (rank s) x _ (scalar_begins nested s y) (omega (arith, boolean_rank))

end_before : (nested : Bool) (b : Elements) (x e : List ℕ) → b ≢ Empty → IsBelowEscape x
    → key_cmp (closed nested x) (spelled_in nested b ++ e) ≡ Less
end_before nested Empty x e some h = absurd (some refl)
end_before nested (Single s xs) x e some h = rw (append_assoc (scalar_spelled nested s) (spelled_in nested xs) e) (closed_scalar nested s x (spelled_in nested xs ++ e) h)
end_before nested (Nested inner xs) x e some h = closed_kind nested nested_rank x _ (nested_begins _) (omega arith)

end_after : (nested : Bool) (a : Elements) (y e : List ℕ) → a ≢ Empty → IsBelowEscape y
    → key_cmp (spelled_in nested a ++ e) (closed nested y) ≡ Greater
end_after nested a y e some h = nat_list_cmp_total.antisymm (spelled_in nested a ++ e) (closed nested y)
    ∙ ap ordering_reverse (end_before nested a y e some h)

key_cmp-closed : (nested : Bool) (a b : Elements) (x y : List ℕ) → AreElements a → AreElements b → IsBelowEscape x → IsBelowEscape y →
    key_cmp (spelled_in nested a ++ closed nested x) (spelled_in nested b ++ closed nested y) ≡ ordering_then (tuple_cmp a b) (key_cmp (closed nested x) (closed nested y))
key_cmp-closed nested Empty Empty x y ha hb hx hy = refl
key_cmp-closed nested Empty (Single t ys) x y ha hb hx hy = end_before nested (Single t ys) x (closed nested y) (λ e. cc) hx
key_cmp-closed nested Empty (Nested b ys) x y ha hb hx hy = end_before nested (Nested b ys) x (closed nested y) (λ e. cc) hx
key_cmp-closed nested (Single s xs) Empty x y ha hb hx hy = end_after nested (Single s xs) y (closed nested x) (λ e. cc) hy
key_cmp-closed nested (Nested a xs) Empty x y ha hb hx hy = end_after nested (Nested a xs) y (closed nested x) (λ e. cc) hy
key_cmp-closed nested (Single s xs) (Nested b ys) x y ha hb hx hy =
    rw (append_assoc (scalar_spelled nested s) (spelled_in nested xs) (closed nested x))
    (key_cmp-ranks (rank s) nested_rank _ _ (scalar_begins nested s _) (nested_begins _) (rank-nested s) ∙ ordering_then-differ (rank s) nested_rank _ (rank-nested s))
key_cmp-closed nested (Nested a xs) (Single t ys) x y ha hb hx hy =
    rw (append_assoc (scalar_spelled nested t) (spelled_in nested ys) (closed nested y))
    (key_cmp-ranks nested_rank (rank t) _ _ (nested_begins _) (scalar_begins nested t _) (λ e. rank-nested t (sym e)) ∙ ordering_then-differ nested_rank (rank t) _ (λ e. rank-nested t (sym e)))
key_cmp-closed nested (Single s xs) (Single t ys) x y ha hb hx hy =
    rw (append_assoc (scalar_spelled nested s) (spelled_in nested xs) (closed nested x), append_assoc (scalar_spelled nested t) (spelled_in nested ys) (closed nested y))
    (key_cmp-scalar_spelled nested s t _ _ ha.0 hb.0 (elements_below nested xs _ (closed_below nested x)) (elements_below nested ys _ (closed_below nested y))
    ∙ ap (ordering_then (scalar_cmp s t)) (key_cmp-closed nested xs ys x y ha.1 hb.1 hx hy)
    ∙ sym (ordering_then-assoc (scalar_cmp s t) (tuple_cmp xs ys) (key_cmp (closed nested x) (closed nested y))))
key_cmp-closed nested (Nested a xs) (Nested b ys) x y ha hb hx hy =
    rw (append_assoc (spelled_in true a) (0 ∷ spelled_in nested xs) (closed nested x), append_assoc (spelled_in true b) (0 ∷ spelled_in nested ys) (closed nested y))
    (key_cmp-closed true a b (spelled_in nested xs ++ closed nested x) (spelled_in nested ys ++ closed nested y) ha.0 hb.0 (elements_below nested xs _ (closed_below nested x)) (elements_below nested ys _ (closed_below nested y))
    ∙ ap (ordering_then (tuple_cmp a b)) (key_cmp-closed nested xs ys x y ha.1 hb.1 hx hy)
    ∙ sym (ordering_then-assoc (tuple_cmp a b) (tuple_cmp xs ys) (key_cmp (closed nested x) (closed nested y))))

-- the order of tuples is that of their packed bytes
pub key_cmp-spelling : (a b : Elements) → IsTuple a → IsTuple b → key_cmp (spelling a) (spelling b) ≡ tuple_cmp a b
key_cmp-spelling a b ha hb =
    rw (← append-nil (spelling a), ← append-nil (spelling b)) (key_cmp-closed false a b [] [] ha.0 hb.0 tt tt ∙ ordering_then-equal (tuple_cmp a b))
