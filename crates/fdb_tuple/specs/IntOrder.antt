-- The order of the spellings of integers: by the sign, the number of least bytes, and these bytes.
use Rattle.std.proofs.Common.{◌≡◌, ℕ, zero, suc, ◌+◌, ◌-◌, ◌/◌, ◌%◌, ◌^◌, ◌<◌, ◌≤◌, Bool, true, false, List, [], ◌∷◌, ◌++◌, length, reverse, ℤ, pos, negsuc, refl, sym, ap, ◌∙◌, inl, inr, append_assoc, arith, unsigned_abs}
use Rattle.std.specs.Ordering.{nat_cmp, int_cmp, ordering_then, ordering_reverse, MatchOrdering}
use Rattle.std.specs.Cmp.{nat_cmp_is, ranks}
use Rattle.std.specs.declared.cmp.Ordering.{Ordering}
use Rattle.std.specs.declared.cmp.Ordering.TheVariants.{Less, Equal, Greater}
use Rattle.std.proofs.Math.Nat.{pow-suc}
use Rattle.std.proofs.lemmas.Nat.{div_below}
use Rattle.std.proofs.lemmas.Bool.{cases_order, cases_lt, le-leb, lt-leb, le-ltb}
use Rattle.std.proofs.lemmas.Cmp.{nat_cmp_total, nat_list_cmp_total, tied_itself}
use Rattle.std.proofs.lemmas.List.{reverse-append, length-reverse, map-append}
use Rattle.std.proofs.lemmas.Bool.Decides.{nat_tests}
use Rattle.key_bytes.specs.Keys.{key_cmp}
use Rattle.fdb_tuple.specs.Spelling.{low_first, least_bytes, signed_byte, with_sign, int_code, signed_spelled, int_spelled}
use Rattle.key_bytes.proofs.Orders.{ordering_then-assoc, nat_cmp-less, nat_cmp-greater, key_cmp-first_less, key_cmp-first_greater, key_cmp-same_front}

-- the order of the bytes of two magnitudes
abbrev magnitude_cmp : Bool → ℕ → ℕ → Ordering
magnitude_cmp false m n = nat_cmp m n
magnitude_cmp true m n = nat_cmp n m

-- ---- by digits

digit_ranks : (m n : ℕ) (o p : Ordering) → MatchOrdering o (m / 256 < n / 256) (m / 256 ≡ n / 256) (n / 256 < m / 256)
    → MatchOrdering p (m % 256 < n % 256) (m % 256 ≡ n % 256) (n % 256 < m % 256)
    → MatchOrdering (ordering_then o p) (m < n) (m ≡ n) (n < m)
digit_ranks m n Less p h k = omega arith
digit_ranks m n Greater p h k = omega arith
digit_ranks m n Equal Less h k = omega arith
digit_ranks m n Equal Equal h k = omega arith
digit_ranks m n Equal Greater h k = omega arith

-- the last digit decides last
pub nat_cmp-digits : (m n : ℕ) → ordering_then (nat_cmp (m / 256) (n / 256)) (nat_cmp (m % 256) (n % 256)) ≡ nat_cmp m n
nat_cmp-digits m n = nat_cmp_is m n _ (digit_ranks m n (nat_cmp (m / 256) (n / 256)) (nat_cmp (m % 256) (n % 256)) (ranks (m / 256) (n / 256)) (ranks (m % 256) (n % 256)))

complement_ranks : (c d : ℕ) (o : Ordering) → c < 256 → d < 256
    → MatchOrdering o (0xFF - c < 0xFF - d) (0xFF - c ≡ 0xFF - d) (0xFF - d < 0xFF - c) → MatchOrdering o (d < c) (d ≡ c) (c < d)
complement_ranks c d Less below_c below_d h = omega arith
complement_ranks c d Equal below_c below_d h = omega arith
complement_ranks c d Greater below_c below_d h = omega arith

nat_cmp-complement : (c d : ℕ) → c < 256 → d < 256 → nat_cmp (0xFF - c) (0xFF - d) ≡ nat_cmp d c
nat_cmp-complement c d below_c below_d = nat_cmp_is d c _ (complement_ranks c d (nat_cmp (0xFF - c) (0xFF - d)) below_c below_d (ranks (0xFF - c) (0xFF - d)))

magnitude_cmp-digits : (negative : Bool) (m n : ℕ)
    → ordering_then (magnitude_cmp negative (m / 256) (n / 256)) (nat_cmp (signed_byte negative (m % 256)) (signed_byte negative (n % 256))) ≡ magnitude_cmp negative m n
magnitude_cmp-digits false m n = nat_cmp-digits m n
magnitude_cmp-digits true m n =
    ap (ordering_then (nat_cmp (n / 256) (m / 256))) (nat_cmp-complement (m % 256) (n % 256) (omega arith) (omega arith))
    ∙ nat_cmp-digits n m

shorter_below : (most m n : ℕ) → length (low_first most m) < length (low_first most n) → m < n
unfolding low_first
shorter_below zero m n lt = absurd (omega arith)
shorter_below (suc most) m zero lt = absurd (omega arith)
shorter_below (suc most) zero (suc n) lt = omega arith
shorter_below (suc most) (suc m) (suc n) lt = omega (arith, shorter_below most (suc m / 256) (suc n / 256) (omega arith))

length-low_first : (most n : ℕ) → length (low_first most n) ≤ most
unfolding low_first
length-low_first zero n = omega arith
length-low_first (suc most) zero = omega arith
length-low_first (suc most) (suc n) = omega (arith, length-low_first most (suc n / 256))

magnitude_cmp-same : (negative : Bool) (m : ℕ) → magnitude_cmp negative m m ≡ Equal
magnitude_cmp-same false m = tied_itself nat_cmp_total m
magnitude_cmp-same true m = tied_itself nat_cmp_total m

-- the lowest digit stands last
with_sign-reverse : (negative : Bool) (b : ℕ) (bytes x : List ℕ)
    → with_sign negative (reverse (b ∷ bytes)) ++ x ≡ with_sign negative (reverse bytes) ++ signed_byte negative b ∷ x
with_sign-reverse negative b bytes x =
    rw (reverse-append (b ∷ []) bytes, map-append (signed_byte negative) (reverse bytes) (b ∷ [])) (append_assoc (with_sign negative (reverse bytes)) (signed_byte negative b ∷ []) x)

-- magnitudes of one number of bytes
key_cmp-digits : (negative : Bool) (most m n : ℕ) (x y : List ℕ) → m < 256 ^ most → n < 256 ^ most
    → length (low_first most m) ≡ length (low_first most n) →
    key_cmp (with_sign negative (reverse (low_first most m)) ++ x) (with_sign negative (reverse (low_first most n)) ++ y) ≡ ordering_then (magnitude_cmp negative m n) (key_cmp x y)
unfolding low_first
key_cmp-digits negative zero m n x y lm ln e =
    let same : m ≡ n = omega arith in
    rw (same, magnitude_cmp-same negative n) refl
key_cmp-digits negative (suc most) zero zero x y lm ln e = rw (magnitude_cmp-same negative 0) refl
key_cmp-digits negative (suc most) zero (suc n) x y lm ln e = absurd (omega arith)
key_cmp-digits negative (suc most) (suc m) zero x y lm ln e = absurd (omega arith)
key_cmp-digits negative (suc most) (suc m) (suc n) x y lm ln e =
    let part_m : suc m / 256 < 256 ^ most = div_below (suc m) 256 (256 ^ most) (omega arith) (omega (arith, pow-suc 256 most)) in
    let part_n : suc n / 256 < 256 ^ most = div_below (suc n) 256 (256 ^ most) (omega arith) (omega (arith, pow-suc 256 most)) in
    rw (
      with_sign-reverse negative (suc m % 256) (low_first most (suc m / 256)) x,
      with_sign-reverse negative (suc n % 256) (low_first most (suc n / 256)) y,
      key_cmp-digits negative most (suc m / 256) (suc n / 256) (signed_byte negative (suc m % 256) ∷ x) (signed_byte negative (suc n % 256) ∷ y) part_m part_n (omega arith),
      ← magnitude_cmp-digits negative (suc m) (suc n),
    )
    (sym (ordering_then-assoc (magnitude_cmp negative (suc m / 256) (suc n / 256)) (nat_cmp (signed_byte negative (suc m % 256)) (signed_byte negative (suc n % 256))) (key_cmp x y)))

-- ---- by the number of bytes

-- how the lesser magnitude stands to the greater
abbrev lesser_first : Bool → Ordering
lesser_first false = Less
lesser_first true = Greater

magnitude_cmp-less : (negative : Bool) (m n : ℕ) → m < n → magnitude_cmp negative m n ≡ lesser_first negative
magnitude_cmp-less false m n lt = nat_cmp-less m n lt
magnitude_cmp-less true m n lt = nat_cmp-greater n m lt

magnitude_cmp-greater : (negative : Bool) (m n : ℕ) → n < m → magnitude_cmp negative m n ≡ ordering_reverse (lesser_first negative)
magnitude_cmp-greater false m n lt = nat_cmp-greater m n lt
magnitude_cmp-greater true m n lt = nat_cmp-less n m lt

key_cmp-codes : (negative : Bool) (s t : ℕ) (x y : List ℕ) → s < t → t ≤ 16
    → key_cmp (int_code negative s ++ x) (int_code negative t ++ y) ≡ lesser_first negative
key_cmp-codes false s t x y lt le = elim (cases_lt 8 s) [
  | inl long ↦ rw (lt-leb s 8 long, lt-leb t 8 (omega arith)) (key_cmp-first_less s t x y lt)
  | inr short ↦ elim (cases_lt 8 t) [
    | inl other_long ↦ rw (le-leb s 8 short, lt-leb t 8 other_long) (key_cmp-first_less (0x14 + s) 0x1D x (t ∷ y) (omega arith))
    | inr both_short ↦ rw (le-leb s 8 short, le-leb t 8 both_short) (key_cmp-first_less (0x14 + s) (0x14 + t) x y (omega arith))
  ]
]
key_cmp-codes true s t x y lt le = elim (cases_lt 8 s) [
  | inl long ↦ rw (lt-leb s 8 long, lt-leb t 8 (omega arith)) (key_cmp-first_greater (0xFF - s) (0xFF - t) x y (omega arith))
  | inr short ↦ elim (cases_lt 8 t) [
    | inl other_long ↦ rw (le-leb s 8 short, lt-leb t 8 other_long) (key_cmp-first_greater (0x14 - s) 0x0B x ((0xFF - t) ∷ y) (omega arith))
    | inr both_short ↦ rw (le-leb s 8 short, le-leb t 8 both_short) (key_cmp-first_greater (0x14 - s) (0x14 - t) x y (omega arith))
  ]
]

abbrev size_of : ℕ → ℕ
size_of n = length (least_bytes n)

size_of-le : (n : ℕ) → size_of n ≤ 16
unfolding least_bytes
size_of-le n = omega (arith, length-reverse (low_first 16 n), length-low_first 16 n)

below_by_size : (m n : ℕ) → size_of m < size_of n → m < n
unfolding least_bytes
below_by_size m n lt = shorter_below 16 m n (omega (arith, length-reverse (low_first 16 m), length-reverse (low_first 16 n)))

abbrev magnitude_spelled : Bool → ℕ → List ℕ
magnitude_spelled negative n = signed_spelled negative (least_bytes n)

magnitude_spelled-parts : (negative : Bool) (n : ℕ) (x : List ℕ)
    → magnitude_spelled negative n ++ x ≡ int_code negative (size_of n) ++ (with_sign negative (least_bytes n) ++ x)
unfolding signed_spelled
magnitude_spelled-parts negative n x = append_assoc (int_code negative (size_of n)) (with_sign negative (least_bytes n)) x

key_cmp-shorter : (negative : Bool) (m n : ℕ) (x y : List ℕ) → size_of m < size_of n
    → key_cmp (magnitude_spelled negative m ++ x) (magnitude_spelled negative n ++ y) ≡ lesser_first negative
key_cmp-shorter negative m n x y lt =
    rw (magnitude_spelled-parts negative m x, magnitude_spelled-parts negative n y)
    (key_cmp-codes negative (size_of m) (size_of n) (with_sign negative (least_bytes m) ++ x) (with_sign negative (least_bytes n) ++ y) lt (size_of-le n))

key_cmp-longer : (negative : Bool) (m n : ℕ) (x y : List ℕ) → size_of n < size_of m
    → key_cmp (magnitude_spelled negative m ++ x) (magnitude_spelled negative n ++ y) ≡ ordering_reverse (lesser_first negative)
key_cmp-longer negative m n x y lt =
    nat_list_cmp_total.antisymm (magnitude_spelled negative m ++ x) (magnitude_spelled negative n ++ y)
    ∙ ap ordering_reverse (key_cmp-shorter negative n m y x lt)

key_cmp-as_long : (negative : Bool) (m n : ℕ) (x y : List ℕ) → m < 256 ^ 16 → n < 256 ^ 16 → size_of m ≡ size_of n
    → key_cmp (magnitude_spelled negative m ++ x) (magnitude_spelled negative n ++ y) ≡ ordering_then (magnitude_cmp negative m n) (key_cmp x y)
unfolding least_bytes
key_cmp-as_long negative m n x y lm ln e =
    rw (
      magnitude_spelled-parts negative m x,
      magnitude_spelled-parts negative n y,
      e,
      key_cmp-same_front (int_code negative (size_of n)) (with_sign negative (least_bytes m) ++ x) (with_sign negative (least_bytes n) ++ y),
    )
    (key_cmp-digits negative 16 m n x y lm ln (omega (arith, length-reverse (low_first 16 m), length-reverse (low_first 16 n))))

ordering_then-lesser : (negative : Bool) (o : Ordering) → lesser_first negative ≡ ordering_then (lesser_first negative) o
ordering_then-lesser false o = refl
ordering_then-lesser true o = refl

ordering_then-greater : (negative : Bool) (o : Ordering)
    → ordering_reverse (lesser_first negative) ≡ ordering_then (ordering_reverse (lesser_first negative)) o
ordering_then-greater false o = refl
ordering_then-greater true o = refl

key_cmp-signed : (negative : Bool) (m n : ℕ) (x y : List ℕ) → m < 256 ^ 16 → n < 256 ^ 16
    → key_cmp (magnitude_spelled negative m ++ x) (magnitude_spelled negative n ++ y) ≡ ordering_then (magnitude_cmp negative m n) (key_cmp x y)
key_cmp-signed negative m n x y lm ln = elim (cases_order (size_of m) (size_of n)) [
  | inl same ↦ key_cmp-as_long negative m n x y lm ln same
  | inr (inl lt) ↦ rw (key_cmp-shorter negative m n x y lt, magnitude_cmp-less negative m n (below_by_size m n lt)) (ordering_then-lesser negative (key_cmp x y))
  | inr (inr lt) ↦ rw (key_cmp-longer negative m n x y lt, magnitude_cmp-greater negative m n (below_by_size n m lt)) (ordering_then-greater negative (key_cmp x y))
]

-- ---- by the sign

code_signs : (s t : ℕ) (x y : List ℕ) → 0 < s → key_cmp (int_code true s ++ x) (int_code false t ++ y) ≡ Less
code_signs s t x y some = elim (cases_lt 8 s) [
  | inl long ↦ elim (cases_lt 8 t) [
    | inl other_long ↦ rw (lt-leb s 8 long, lt-leb t 8 other_long) refl
    | inr other_short ↦ rw (lt-leb s 8 long, le-leb t 8 other_short) (key_cmp-first_less 0x0B (0x14 + t) ((0xFF - s) ∷ x) y (omega arith))
  ]
  | inr short ↦ elim (cases_lt 8 t) [
    | inl other_long ↦ rw (le-leb s 8 short, lt-leb t 8 other_long) (key_cmp-first_less (0x14 - s) 0x1D x (t ∷ y) (omega arith))
    | inr other_short ↦ rw (le-leb s 8 short, le-leb t 8 other_short) (key_cmp-first_less (0x14 - s) (0x14 + t) x y (omega arith))
  ]
]

size_of-suc : (n : ℕ) → 0 < size_of (suc n)
unfolding least_bytes low_first
size_of-suc n = omega (arith, length-reverse (low_first 16 (suc n)))

key_cmp-signs : (m n : ℕ) (x y : List ℕ) → key_cmp (magnitude_spelled true (suc m) ++ x) (magnitude_spelled false n ++ y) ≡ Less
key_cmp-signs m n x y =
    rw (magnitude_spelled-parts true (suc m) x, magnitude_spelled-parts false n y)
    (code_signs (size_of (suc m)) (size_of n) (with_sign true (least_bytes (suc m)) ++ x) (with_sign false (least_bytes n) ++ y) (size_of-suc m))

int_cmp-pos : (m n : ℕ) → int_cmp (pos m) (pos n) ≡ nat_cmp m n
int_cmp-pos m n = grind (arith, nat_tests)

int_cmp-negsuc : (m n : ℕ) → int_cmp (negsuc m) (negsuc n) ≡ nat_cmp (suc n) (suc m)
int_cmp-negsuc m n = grind (arith, nat_tests)

pub key_cmp-int_spelled : (a b : ℤ) (x y : List ℕ) → unsigned_abs a < 256 ^ 16 → unsigned_abs b < 256 ^ 16
    → key_cmp (int_spelled a ++ x) (int_spelled b ++ y) ≡ ordering_then (int_cmp a b) (key_cmp x y)
key_cmp-int_spelled (pos m) (pos n) x y la lb = rw (le-ltb m 0 (omega arith), le-ltb n 0 (omega arith), int_cmp-pos m n) (key_cmp-signed false m n x y la lb)
key_cmp-int_spelled (pos m) (negsuc n) x y la lb =
    rw (le-ltb m 0 (omega arith)) (nat_list_cmp_total.antisymm (magnitude_spelled false m ++ x) (magnitude_spelled true (suc n) ++ y) ∙ ap ordering_reverse (key_cmp-signs n m y x))
key_cmp-int_spelled (negsuc m) (pos n) x y la lb = rw (le-ltb n 0 (omega arith)) (key_cmp-signs m n x y)
key_cmp-int_spelled (negsuc m) (negsuc n) x y la lb = rw (int_cmp-negsuc m n) (key_cmp-signed true (suc m) (suc n) x y la lb)
