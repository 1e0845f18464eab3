-- Lists of bytes, and the numbers that they spell.
use Rattle.std.proofs.Common.{◌≡◌, ℕ, zero, suc, ◌+◌, ◌*◌, ◌^◌, ◌<◌, ◌≤◌, Bool, true, false, List, [], ◌∷◌, ◌++◌, length, get_or, take, drop, reverse, sym, subst, arith}
use Rattle.std.specs.List.{AllByRecursion}
use Rattle.std.proofs.Math.Nat.{pow-suc}
use Rattle.std.proofs.lemmas.List.{reverse-append, length-reverse, length-map, length-take, map-append, take_more}
use Rattle.fdb_tuple.specs.Spelling.{signed_byte, with_sign}
use Rattle.key_bytes.specs.Numbers.{number_low}
use Rattle.fdb_tuple.specs.Reading.{number_high}

abbrev pub AreBytes : List ℕ → Type 0
AreBytes bytes = AllByRecursion (λ b. b < 256) bytes

pub AreBytes-by_place : (bytes : List ℕ) → ((i : ℕ) → get_or bytes i 0 < 256) → AreBytes bytes
AreBytes-by_place [] h = tt
AreBytes-by_place (b ∷ bytes) h = (h 0, AreBytes-by_place bytes (λ i. h (suc i)))

pub AreBytes-take : (n : ℕ) (bytes : List ℕ) → AreBytes bytes → AreBytes (take n bytes)
AreBytes-take zero bytes h = tt
AreBytes-take (suc n) [] h = tt
AreBytes-take (suc n) (b ∷ bytes) h = (h.0, AreBytes-take n bytes h.1)

pub AreBytes-drop : (n : ℕ) (bytes : List ℕ) → AreBytes bytes → AreBytes (drop n bytes)
AreBytes-drop zero bytes h = h
AreBytes-drop (suc n) [] h = tt
AreBytes-drop (suc n) (b ∷ bytes) h = AreBytes-drop n bytes h.1

pub AreBytes-append : (xs ys : List ℕ) → AreBytes xs → AreBytes ys → AreBytes (xs ++ ys)
AreBytes-append [] ys h k = k
AreBytes-append (x ∷ xs) ys h k = (h.0, AreBytes-append xs ys h.1 k)

pub AreBytes-reverse : (bytes : List ℕ) → AreBytes bytes → AreBytes (reverse bytes)
AreBytes-reverse [] h = tt
AreBytes-reverse (b ∷ bytes) h =
    subst AreBytes (sym (reverse-append (b ∷ []) bytes)) (AreBytes-append (reverse bytes) (b ∷ []) (AreBytes-reverse bytes h.1) (h.0, tt))

signed_byte_below : (negative : Bool) (b : ℕ) → b < 256 → signed_byte negative b < 256
signed_byte_below false b lt = lt
signed_byte_below true b lt = omega arith

pub AreBytes-with_sign : (negative : Bool) (bytes : List ℕ) → AreBytes bytes → AreBytes (with_sign negative bytes)
AreBytes-with_sign negative [] h = tt
AreBytes-with_sign negative (b ∷ bytes) h = (signed_byte_below negative b h.0, AreBytes-with_sign negative bytes h.1)

pub number_low_below : (most : ℕ) (bytes : List ℕ) → length bytes ≤ most → AreBytes bytes → number_low bytes < 256 ^ most
unfolding number_low
number_low_below zero [] le h = omega arith
number_low_below zero (b ∷ bytes) le h = absurd (omega arith)
number_low_below (suc most) [] le h = omega (arith, number_low_below most [] (omega arith) tt, pow-suc 256 most)
number_low_below (suc most) (b ∷ bytes) le h = omega (arith, h.0, number_low_below most bytes (omega arith) h.1, pow-suc 256 most)

pub number_high_below : (most : ℕ) (bytes : List ℕ) → length bytes ≤ most → AreBytes bytes → number_high bytes < 256 ^ most
number_high_below most bytes le h = number_low_below most (reverse bytes) (omega (arith, length-reverse bytes)) (AreBytes-reverse bytes h)

-- one more digit at the end
number_high_push : (bytes : List ℕ) (b : ℕ) → number_high (bytes ++ b ∷ []) ≡ 256 * number_high bytes + b
unfolding number_low
number_high_push bytes b = rw (reverse-append bytes (b ∷ [])) (omega arith)

pub number_more : (negative : Bool) (bytes : List ℕ) (i : ℕ) → i < length bytes
    → number_high (with_sign negative (take (i + 1) bytes)) ≡ 256 * number_high (with_sign negative (take i bytes)) + signed_byte negative (get_or bytes i 0)
number_more negative bytes i lt =
    rw (take_more bytes i 0 lt, map-append (signed_byte negative) (take i bytes) (get_or bytes i 0 ∷ [])) (number_high_push (with_sign negative (take i bytes)) (signed_byte negative (get_or bytes i 0)))

-- up to 15 digits there is room for one more
pub number_fits : (negative : Bool) (bytes : List ℕ) (i : ℕ) → i < length bytes → length bytes ≤ 16 → AreBytes bytes
    → number_high (with_sign negative (take i bytes)) < 256 ^ 15
number_fits negative bytes i lt le h =
    number_high_below 15 (with_sign negative (take i bytes)) (omega (arith, length-map (take i bytes) (signed_byte negative), length-take i bytes)) (AreBytes-with_sign negative (take i bytes) (AreBytes-take i bytes h))
