-- Little-endian numbers: their bytes one by one, sums, and comparisons.
use Rattle.std.proofs.Common.{◌≡◌, ℕ, zero, suc, ◌+◌, ◌*◌, ◌/◌, ◌%◌, ◌^◌, ◌<◌, ◌≤◌, nat_lt, List, [], ◌∷◌, ◌++◌, length, get_or, take, drop, refl, sym, ap, ◌∙◌, inl, inr, add-one, arith}
use Rattle.std.proofs.Math.Nat.{pow-suc, pow-succ', div-div-eq-div-mul, add-mul-div_left}
use Rattle.std.proofs.lemmas.Nat.{pow-add, div-add-mod'}
use Rattle.std.proofs.lemmas.List.{take_all}
use Rattle.std.proofs.lemmas.Bool.{cases_order, lt-ltb, le-ltb}
use Rattle.std.proofs.lemmas.List.Elements.{All-head, All-tail}
use Rattle.key_bytes.specs.Keys.{IsByteString}
use Rattle.key_bytes.specs.Numbers.{number_low}
use Rattle.model_database.specs.Atomics.{little_bytes, little_sum}

pow_256_pos : (k : ℕ) → 0 < 256 ^ k
pow_256_pos zero = omega arith
pow_256_pos (suc k) = omega (arith, pow_256_pos k, pow-suc 256 k)

pow_256 : (k : ℕ) → 256 ^ k ≡ 2 ^ (8 * k)
pow_256 zero = refl
pow_256 (suc k) =
    let more : 8 * suc k ≡ 8 * k + 8 = omega arith in
    rw (more, pow-add, pow-suc 256 k) (ap (λ (m : ℕ). m * 256) (pow_256 k))

-- ---- the bytes of a number

-- one byte more
little_bytes-suc : (k n : ℕ) → little_bytes (suc k) n ≡ little_bytes k n ++ n / 256 ^ k % 256 ∷ []
unfolding little_bytes
little_bytes-suc zero n = let whole : n ≡ n / 1 = omega arith in ap (λ (m : ℕ). m % 256 ∷ []) whole
little_bytes-suc (suc k) n =
    ap (λ (bytes : List ℕ). n % 256 ∷ bytes) (little_bytes-suc k (n / 256))
    ∙ ap (λ (m : ℕ). n % 256 ∷ little_bytes k (n / 256) ++ m % 256 ∷ []) (rw pow-succ' (div-div-eq-div-mul n 256 (256 ^ k)))

-- what is above so many bytes does not change them
little_bytes-add : (k n d : ℕ) → little_bytes k (n + 256 ^ k * d) ≡ little_bytes k n
unfolding little_bytes
little_bytes-add zero n d = refl
little_bytes-add (suc k) n d =
    let m = 256 ^ k * d in
    let more : n + 256 ^ suc k * d ≡ n + 256 * m = rw pow-suc (omega arith) in
    let digit : (n + 256 * m) % 256 ≡ n % 256 = omega arith in
    let part : (n + 256 * m) / 256 ≡ n / 256 + m = omega arith in
    rw (more, digit, part) (ap (λ (bytes : List ℕ). n % 256 ∷ bytes) (little_bytes-add k (n / 256) d))

little_bytes-mod : (k n : ℕ) → little_bytes k (n % 256 ^ k) ≡ little_bytes k n
little_bytes-mod k n =
    let parts : n % 256 ^ k + 256 ^ k * (n / 256 ^ k) ≡ n = omega (arith, div-add-mod' n (256 ^ k)) in
    sym (little_bytes-add k (n % 256 ^ k) (n / 256 ^ k)) ∙ ap (little_bytes k) parts

-- ---- a sum byte by byte

-- one byte more
number_low-take_suc : (i : ℕ) (bytes : List ℕ) → number_low (take (suc i) bytes) ≡ number_low (take i bytes) + 256 ^ i * get_or bytes i 0
unfolding number_low
number_low-take_suc zero [] = refl
number_low-take_suc zero (b ∷ bytes) = omega arith
number_low-take_suc (suc i) [] = omega arith
number_low-take_suc (suc i) (b ∷ bytes) = rw pow-suc (omega (arith, number_low-take_suc i bytes))

-- the sum of the lowest bytes of two numbers, so many of each
unfoldable pub low_sum : List ℕ → List ℕ → ℕ → ℕ
low_sum kept operand i = number_low (take i kept) + number_low (take i operand)

low_sum-suc : (kept operand : List ℕ) (i : ℕ)
    → low_sum kept operand (suc i) ≡ low_sum kept operand i + 256 ^ i * (get_or kept i 0 + get_or operand i 0)
unfolding low_sum
low_sum-suc kept operand i = omega (arith, number_low-take_suc i kept, number_low-take_suc i operand)

-- so many bytes of a sum are made, and what stands above them is carried
pub record IsSummed (kept operand : List ℕ) (i carry : ℕ) (sum : List ℕ) : Type 0 where
  pub bytes : sum ≡ little_bytes i (low_sum kept operand i)
  pub carried : carry ≡ low_sum kept operand i / 256 ^ i
  pub small : carry ≤ 1

pub IsSummed-none : (kept operand : List ℕ) → IsSummed kept operand 0 0 []
unfolding low_sum number_low little_bytes
IsSummed-none kept operand = record { bytes = refl; carried = omega arith; small = omega arith }

pub IsSummed-more : (kept operand : List ℕ) (i carry a b : ℕ) (sum : List ℕ) → IsSummed kept operand i carry sum → a ≡ get_or kept i 0
    → b ≡ get_or operand i 0 → a < 256 → b < 256
    → IsSummed kept operand (i + 1) ((a + b + carry) / 256) (sum ++ (a + b + carry) % 256 ∷ [])
IsSummed-more kept operand i carry a b sum so_far kept_is operand_is kept_fits operand_fits =
    rw add-one record { bytes = bytes; carried = rw (total, pow-suc) (div-div-eq-div-mul all (256 ^ i) 256); small = omega (arith, so_far.small) }
  where
    all : ℕ
    all = low_sum kept operand (suc i)

    more : all ≡ low_sum kept operand i + 256 ^ i * (a + b)
    more = low_sum-suc kept operand i ∙ sym (rw (kept_is, operand_is) refl)

    total : a + b + carry ≡ all / 256 ^ i
    total = omega (arith, so_far.carried, ap (λ (n : ℕ). n / 256 ^ i) more, add-mul-div_left (low_sum kept operand i) (a + b) (pow_256_pos i))

    low : little_bytes i all ≡ sum
    low = ap (little_bytes i) more ∙ little_bytes-add i (low_sum kept operand i) (a + b) ∙ sym so_far.bytes

    bytes : sum ++ (a + b + carry) % 256 ∷ [] ≡ little_bytes (suc i) all
    bytes = rw total (sym (little_bytes-suc i all ∙ ap (λ (bytes : List ℕ). bytes ++ all / 256 ^ i % 256 ∷ []) low))

pub IsSummed-all : (kept operand : List ℕ) (i carry : ℕ) (sum : List ℕ) → IsSummed kept operand i carry sum → length kept ≡ i
    → length operand ≡ i → sum ≡ little_sum kept operand
unfolding low_sum little_sum
IsSummed-all kept operand i carry sum so_far a b =
    let whole : take i kept ≡ kept = take_all i kept (omega arith) in
    let all : take i operand ≡ operand = take_all i operand (omega arith) in
    so_far.bytes ∙ rw (whole, all, b, ← pow_256 i) (sym (little_bytes-mod i (number_low kept + number_low operand)))

-- ---- a comparison from the highest byte down

-- where the bytes above a place are the same, a lesser byte there makes a lesser number
number_low-lt : (xs ys : List ℕ) (i : ℕ) → IsByteString xs → length xs ≡ length ys → i < length xs → drop (suc i) xs ≡ drop (suc i) ys
    → get_or xs i 0 < get_or ys i 0
    → number_low xs < number_low ys
unfolding number_low
number_low-lt [] ys i bytes long inside above less = absurd (omega arith)
number_low-lt (x ∷ xs) [] i bytes long inside above less = absurd (omega arith)
number_low-lt (x ∷ xs) (y ∷ ys) zero bytes long inside above less = let same : number_low xs ≡ number_low ys = ap number_low above in omega arith
number_low-lt (x ∷ xs) (y ∷ ys) (suc i) bytes long inside above less =
    omega (arith, All-head (λ b. b < 256) x xs bytes, number_low-lt xs ys i (All-tail (λ b. b < 256) x xs bytes) (omega arith) (omega arith) above less)

-- the highest byte that differs decides
pub nat_lt-number_low : (xs ys : List ℕ) (i : ℕ) → IsByteString xs → IsByteString ys → length xs ≡ length ys → i < length xs
    → drop (suc i) xs ≡ drop (suc i) ys
    → (get_or xs i 0 ≡ get_or ys i 0 → ⊥) → nat_lt (get_or xs i 0) (get_or ys i 0) ≡ nat_lt (number_low xs) (number_low ys)
nat_lt-number_low xs ys i first second long inside above differ =
    elim (cases_order (get_or xs i 0) (get_or ys i 0)) [
      | inl same ↦ absurd (differ same)
      | inr (inl less) ↦ lt-ltb (get_or xs i 0) (get_or ys i 0) less ∙ sym (lt-ltb (number_low xs) (number_low ys) (number_low-lt xs ys i first long inside above less))
      | inr (inr more) ↦
          let over : number_low ys < number_low xs = number_low-lt ys xs i second (sym long) (omega arith) (sym above) more in
          le-ltb (get_or xs i 0) (get_or ys i 0) (omega arith) ∙ sym (le-ltb (number_low xs) (number_low ys) (omega arith))
    ]
