-- Numbers and their digits to the base 256.
use Rattle.std.proofs.Common.{◌≡◌, ℕ, zero, suc, ◌+◌, ◌-◌, ◌*◌, ◌/◌, ◌%◌, ◌^◌, ◌<◌, ◌≤◌, false, List, [], ◌∷◌, ◌++◌, length, drop, map, reverse, refl, sym, ap, ◌∙◌, arith}
use Rattle.std.specs.Int.{byte_at, bytes_high_first}
use Rattle.std.proofs.Math.Nat.{pow-suc, pow-succ', div-div-eq-div-mul}
use Rattle.std.proofs.lemmas.Nat.{div_below, le-div}
use Rattle.std.proofs.lemmas.List.{reverse-append, map-append}
use Rattle.fdb_tuple.specs.Spelling.{low_first, with_sign}
use Rattle.key_bytes.specs.Numbers.{number_low}

-- ---- a number of its digits, and the digits of a number

part_below : (most n : ℕ) → n < 256 ^ suc most → n / 256 < 256 ^ most
part_below most n lt = div_below n 256 (256 ^ most) (omega arith) (omega (arith, pow-suc 256 most))

part_above : (most n : ℕ) → 256 ^ suc most ≤ n → 256 ^ most ≤ n / 256
part_above most n le = le-div (256 ^ most) n 256 (omega arith) (omega (arith, pow-suc 256 most))

pow_256_pos : (k : ℕ) → 0 < 256 ^ k
pow_256_pos zero = omega arith
pow_256_pos (suc k) = omega (arith, pow_256_pos k, pow-suc 256 k)

pub number_low-low_first : (most n : ℕ) → n < 256 ^ most → number_low (low_first most n) ≡ n
unfolding low_first number_low
number_low-low_first zero n lt = omega arith
number_low-low_first (suc most) zero lt = refl
number_low-low_first (suc most) (suc n) lt = omega (arith, number_low-low_first most (suc n / 256) (part_below most (suc n) lt))

-- digits, the last of them no 0
abbrev pub IsLeast : List ℕ → Type 0
IsLeast [] = Unit {0}
IsLeast (b ∷ []) = (0 < b) × (b < 256)
IsLeast (b ∷ c ∷ bytes) = (b < 256) × IsLeast (c ∷ bytes)

least_first : (b : ℕ) (bytes : List ℕ) → IsLeast (b ∷ bytes) → b < 256
least_first b [] least = least.1
least_first b (c ∷ bytes) least = least.0

least_rest : (b : ℕ) (bytes : List ℕ) → IsLeast (b ∷ bytes) → IsLeast bytes
least_rest b [] least = tt
least_rest b (c ∷ bytes) least = least.1

least_positive : (b : ℕ) (bytes : List ℕ) → IsLeast (b ∷ bytes) → 0 < number_low (b ∷ bytes)
unfolding number_low
least_positive b [] least = omega (arith, least.0)
least_positive b (c ∷ bytes) least = omega (arith, least_positive c bytes least.1)

low_first_again : (most n b m : ℕ) → n ≡ b + 256 * m → b < 256 → 0 < n → low_first (suc most) n ≡ b ∷ low_first most m
unfolding low_first
low_first_again most zero b m e lt pos = absurd (omega arith)
low_first_again most (suc n) b m e lt pos =
    let digit : suc n % 256 ≡ b = omega arith in
    let part : suc n / 256 ≡ m = omega arith in
    rw (digit, part) refl

pub low_first-number_low : (most : ℕ) (bytes : List ℕ) → length bytes ≤ most → IsLeast bytes → low_first most (number_low bytes) ≡ bytes
unfolding number_low low_first
low_first-number_low zero [] le least = refl
low_first-number_low (suc most) [] le least = refl
low_first-number_low zero (b ∷ bytes) le least = absurd (omega arith)
low_first-number_low (suc most) (b ∷ bytes) le least =
    low_first_again most (b + 256 * number_low bytes) b (number_low bytes) refl (least_first b bytes least) (least_positive b bytes least)
    ∙ ap (λ (ds : List ℕ). b ∷ ds) (low_first-number_low most bytes (omega arith) (least_rest b bytes least))

least_more : (b : ℕ) (bytes : List ℕ) → b < 256 → (bytes ≡ [] → 0 < b) → IsLeast bytes → IsLeast (b ∷ bytes)
least_more b [] lt alone least = (alone refl, lt)
least_more b (c ∷ bytes) lt alone least = (lt, least)

no_digits : (most n : ℕ) → n < 256 ^ most → low_first most n ≡ [] → n ≡ 0
unfolding low_first
no_digits zero n lt e = omega arith
no_digits (suc most) zero lt e = refl
no_digits (suc most) (suc n) lt e = absurd cc

positive_digit : (most n : ℕ) → suc n < 256 ^ suc most → low_first most (suc n / 256) ≡ [] → 0 < suc n % 256
positive_digit most n lt e = omega (arith, no_digits most (suc n / 256) (part_below most (suc n) lt) e)

pub IsLeast-low_first : (most n : ℕ) → n < 256 ^ most → IsLeast (low_first most n)
unfolding low_first
IsLeast-low_first zero n lt = tt
IsLeast-low_first (suc most) zero lt = tt
IsLeast-low_first (suc most) (suc n) lt =
    least_more (suc n % 256) (low_first most (suc n / 256)) (omega arith) (positive_digit most n lt) (IsLeast-low_first most (suc n / 256) (part_below most (suc n) lt))

-- ---- how many digits there are

pub length-low_first_le : (most k n : ℕ) → n < 256 ^ k → length (low_first most n) ≤ k
unfolding low_first
length-low_first_le zero k n lt = omega arith
length-low_first_le (suc most) k zero lt = omega arith
length-low_first_le (suc most) zero (suc n) lt = absurd (omega arith)
length-low_first_le (suc most) (suc k) (suc n) lt = omega (arith, length-low_first_le most k (suc n / 256) (part_below k (suc n) lt))

pub length-low_first_ge : (most k n : ℕ) → k < most → 256 ^ k ≤ n → k < length (low_first most n)
unfolding low_first
length-low_first_ge zero k n lt le = absurd (omega arith)
length-low_first_ge (suc most) zero zero lt le = absurd (omega arith)
length-low_first_ge (suc most) zero (suc n) lt le = omega arith
length-low_first_ge (suc most) (suc k) zero lt le = absurd (omega (arith, pow_256_pos (suc k)))
length-low_first_ge (suc most) (suc k) (suc n) lt le = omega (arith, length-low_first_ge most k (suc n / 256) (omega arith) (part_above k (suc n) le))

-- ---- all bytes of a number of so many bytes

byte_at_more : (k n : ℕ) → byte_at (suc k) n ≡ byte_at k (n / 256)
byte_at_more zero n = refl
byte_at_more (suc k) n = ap (λ (m : ℕ). m % 256) (rw pow-succ' (sym (div-div-eq-div-mul n 256 (256 ^ suc k))))

high_first_more : (k n : ℕ) → bytes_high_first (suc k) n ≡ bytes_high_first k (n / 256) ++ n % 256 ∷ []
high_first_more zero n = refl
high_first_more (suc k) n =
    let part : byte_at (suc k) n ≡ byte_at k (n / 256) = byte_at_more k n in
    rw part (ap (λ (bs : List ℕ). byte_at k (n / 256) ∷ bs) (high_first_more k n))

pub high_first_least : (most n : ℕ) → bytes_high_first (length (low_first most n)) n ≡ reverse (low_first most n)
unfolding low_first
high_first_least zero n = refl
high_first_least (suc most) zero = refl
high_first_least (suc most) (suc n) =
    high_first_more (length (low_first most (suc n / 256))) (suc n)
    ∙ ap (λ (bs : List ℕ). bs ++ suc n % 256 ∷ []) (high_first_least most (suc n / 256))
    ∙ sym (reverse-append (suc n % 256 ∷ []) (low_first most (suc n / 256)))

pub drop-high_first : (j k n : ℕ) → drop j (bytes_high_first (j + k) n) ≡ bytes_high_first k n
drop-high_first zero k n = ap (λ (i : ℕ). bytes_high_first i n) (omega arith)
drop-high_first (suc j) k n =
    let more : suc j + k ≡ suc (j + k) = omega arith in
    rw more (drop-high_first j k n)

-- ---- complements

-- what is not negative is spelled as it is
pub with_sign-false : (bytes : List ℕ) → with_sign false bytes ≡ bytes
with_sign-false [] = refl
with_sign-false (b ∷ bytes) = ap (λ (bs : List ℕ). b ∷ bs) (with_sign-false bytes)

pub high_first_complement : (k n : ℕ) → n < 256 ^ k → bytes_high_first k (256 ^ k - 1 - n) ≡ map (λ b. 255 - b) (bytes_high_first k n)
high_first_complement zero n lt = refl
high_first_complement (suc k) n lt =
    let m = 256 ^ suc k - 1 - n in
    let split : m ≡ (256 ^ k - 1 - n / 256) * 256 + (255 - n % 256) = omega (arith, part_below k n lt, pow-suc 256 k) in
    let part : m / 256 ≡ 256 ^ k - 1 - n / 256 = omega arith in
    let digit : m % 256 ≡ 255 - n % 256 = omega arith in
    high_first_more k m
    ∙ rw (part, digit) (ap (λ (bs : List ℕ). bs ++ (255 - n % 256) ∷ []) (high_first_complement k (n / 256) (part_below k n lt)))
    ∙ sym (map-append (λ b. 255 - b) (bytes_high_first k (n / 256)) (n % 256 ∷ []))
    ∙ ap (map (λ b. 255 - b)) (sym (high_first_more k n))
