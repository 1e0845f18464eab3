-- Runs of plain bytes, seen a vector at a time through the bits of the bytes at which they stop.
use Rattle.std.proofs.Common.{◌≡◌, ℕ, zero, suc, ◌+◌, ◌-◌, ◌*◌, ◌%◌, ◌^◌, ◌<◌, ◌≤◌, Bool, true, false, not, ◌&&◌, cond, eqb, leb, T, ◌⊎◌, inl, inr, List, [], ◌∷◌, map, replicate, length, drop, refl, sym, ap, ap₂, subst, ◌∙◌, arith, w8, Fits, not-suc-le-zero}
use Rattle.std.specs.List.{prefix_len}
use Rattle.std.proofs.lemmas.Bool.{eq-eqb, ne_eqb, cases_order}
use Rattle.std.proofs.lemmas.List.{length-drop, length-map}
use Rattle.std.proofs.lemmas.List.Folds.{prefix_len-append}
use Rattle.std.proofs.lemmas.List.Sums.{prefix_len-le-length}
use Rattle.std.proofs.lemmas.Simd.{map-map, zip2_splat_left, mask_l-mod, chunk-drop, length-chunk, leading_from_mask_l, trailing_mask_l}
use lib.Count.{count_trailing_zeros}
use lib.Lanes.{chunk, mask_l, top, zip2, Each1}
use Rattle.model_lines.specs.Printing.{is_plain}
use Rattle.dump_text.specs.Stops.{is_stop}

-- ---- a vector that was computed lane by lane is held to a test at each of the 256 bytes

-- two tests agree
abbrev agree : Bool → Bool → Bool
agree true b = b
agree false b = not b

agree_is : (a b : Bool) → T (agree a b) → a ≡ b
agree_is true true h = refl
agree_is false false h = refl
agree_is true false h = absurd h
agree_is false true h = absurd h

-- a test holds of each number below one
abbrev pub holds_below : (ℕ → Bool) → ℕ → Bool
holds_below p zero = true
holds_below p (suc n) = p n && holds_below p n

pub true_is : (b : Bool) → T b → b ≡ true
true_is true h = refl
true_is false h = absurd h

pub both : (a b : Bool) → T (a && b) → T a × T b
both true b h = (tt, h)
both false b h = absurd h

pub holds_at : (p : ℕ → Bool) (n : ℕ) → T (holds_below p n) → (i : ℕ) → i < n → T (p i)
holds_at p zero h i lt = absurd (not-suc-le-zero lt)
holds_at p (suc n) h i lt = go (holds_at p n (both (p n) (holds_below p n) h).1 i) (cases_order i n)
  where
    go : (i < n → T (p i)) → (i ≡ n) ⊎ ((i < n) ⊎ (n < i)) → T (p i)
    go below (inl e) = subst (λ x. T (p x)) (sym e) (both (p n) (holds_below p n) h).0
    go below (inr (inl l)) = below l
    go below (inr (inr g)) = let no : ⊥ = omega arith in absurd no

-- the top bit of what f gives tells of each byte whether it is a stop
abbrev pub Tells : (ℕ → ℕ) → Type 0
Tells f = T (holds_below (λ x. agree (top 7 (f x)) (is_stop x)) 256)

each_byte : (f : ℕ → ℕ) → Tells f → (bytes : List ℕ) → Each1 (Fits w8) bytes → map (top 7) (map f bytes) ≡ map is_stop bytes
each_byte f all [] fits = refl
each_byte f all (x ∷ xs) fits =
    ap₂ (λ a b. a ∷ b) (agree_is _ _ (holds_at (λ y. agree (top 7 (f y)) (is_stop y)) 256 all x fits.0.fits)) (each_byte f all xs fits.1)

pub masked : (f : ℕ → ℕ) (bytes lanes : List ℕ) → length bytes ≤ 64 → Each1 (Fits w8) bytes → lanes ≡ map f bytes → Tells f
    → mask_l (map (top 7) lanes) % 2 ^ 64 ≡ mask_l (map is_stop bytes)
masked f bytes lanes short fits e all =
    ap (λ l. mask_l l % 2 ^ 64) (ap (map (top 7)) e ∙ each_byte f all bytes fits)
    ∙ mask_l-mod (map is_stop bytes) 64 (omega (arith, length-map bytes is_stop))

abbrev pub at_most : ℕ → ℕ → ℕ
at_most a b = cond (leb a b) 255 0

abbrev pub equals : ℕ → ℕ → ℕ
equals a b = cond (eqb a b) 255 0

-- the difference of two bytes, modulo 256
abbrev pub less : ℕ → ℕ → ℕ
less a b = (a + (256 - b)) % 256

-- `simd_ge` is `simd_le` with its sides changed
pub from_splat : (h : ℕ → ℕ → ℕ) (f : ℕ → ℕ) (y n : ℕ) (bytes : List ℕ) {lanes : List ℕ} → length bytes ≡ n → lanes ≡ map f bytes
    → zip2 h (replicate n y) lanes ≡ map (λ x. h y (f x)) bytes
from_splat h f y n bytes long e =
    ap (zip2 h (replicate n y)) e ∙ zip2_splat_left h y n (map f bytes) (length-map bytes f ∙ long) ∙ map-map (h y) f bytes

-- ---- runs

pub run_within : (bytes : List ℕ) (i : ℕ) → i ≤ length bytes → i + prefix_len is_plain (drop i bytes) ≤ length bytes
run_within bytes i h = omega (arith, prefix_len-le-length is_plain (drop i bytes), length-drop i bytes)

not-not : (b : Bool) → b ≡ not (not b)
not-not true = refl
not-not false = refl

none_stops : (b : Bool) (n l m : ℕ) → n ≤ l → cond b (1 + n) 0 ≡ 1 + l → (n ≡ l → m ≡ 0) → cond (not b) 1 0 + 2 * m ≡ 0
none_stops false n l m le e ih = let no : ⊥ = omega arith in absurd no
none_stops true n l m le e ih = let z = ih (omega arith) in omega arith

same_run : (xs : List ℕ) → prefix_len is_plain xs ≡ prefix_len (λ x. not (is_stop x)) xs
same_run [] = refl
same_run (x ∷ xs) = ap₂ (λ b n. cond b (1 + n) 0) (not-not (is_plain x)) (same_run xs)

all_plain : (xs : List ℕ) → prefix_len is_plain xs ≡ length xs → mask_l (map is_stop xs) ≡ 0
all_plain [] e = refl
all_plain (x ∷ xs) e = none_stops (is_plain x) _ (length xs) _ (prefix_len-le-length is_plain xs) (omega arith) (all_plain xs)

split : (bytes : List ℕ) (i n : ℕ) → prefix_len is_plain (drop i bytes)
    ≡ cond (eqb (prefix_len is_plain (chunk i n bytes)) (length (chunk i n bytes)))
    (length (chunk i n bytes) + prefix_len is_plain (drop (i + n) bytes)) (prefix_len is_plain (chunk i n bytes))
split bytes i n = ap (prefix_len is_plain) (chunk-drop i n bytes) ∙ prefix_len-append is_plain (chunk i n bytes) (drop (i + n) bytes)

-- no bit is set: the run goes on behind the vector
pub run_through : (bytes : List ℕ) (i n found : ℕ) → found ≡ mask_l (map is_stop (chunk i n bytes)) → i + n ≤ length bytes → found ≡ 0
    → prefix_len is_plain (drop i bytes) ≡ n + prefix_len is_plain (drop (i + n) bytes)
run_through bytes i n found e room none =
    let c = chunk i n bytes in
    split bytes i n
    ∙ ap (λ b. cond b (length c + prefix_len is_plain (drop (i + n) bytes)) (prefix_len is_plain c)) (eq-eqb _ _ (same_run c ∙ leading_from_mask_l is_stop c (sym e ∙ none)))
    ∙ ap (λ k. k + prefix_len is_plain (drop (i + n) bytes)) (length-chunk i n bytes room)

-- a bit is set: the run ends at the lowest
pub run_stops : (bytes : List ℕ) (i n found : ℕ) → found ≡ mask_l (map is_stop (chunk i n bytes)) → i + n ≤ length bytes → n ≤ 64 → 0 < found
    → prefix_len is_plain (drop i bytes) ≡ count_trailing_zeros 64 found
run_stops bytes i n found e room short some =
    let c = chunk i n bytes in
    split bytes i n
    ∙ ap (λ b. cond b (length c + prefix_len is_plain (drop (i + n) bytes)) (prefix_len is_plain c)) (ne_eqb _ _ (λ (all : prefix_len is_plain c ≡ length c). omega (arith, all_plain c all, e)))
    ∙ same_run c ∙ sym (trailing_mask_l is_stop 64 c (omega (arith, length-chunk i n bytes room)) (omega (arith, e))) ∙ ap (count_trailing_zeros 64) (sym e)

-- the lowest bit that is set lies within the vector
pub stops_within : (bytes : List ℕ) (i n found : ℕ) → found ≡ mask_l (map is_stop (chunk i n bytes)) → i + n ≤ length bytes → n ≤ 64 → 0 < found
    → count_trailing_zeros 64 found ≤ n
stops_within bytes i n found e room short some =
    let c = chunk i n bytes in
    let long = length-chunk i n bytes room in
    omega (arith, ap (count_trailing_zeros 64) e, trailing_mask_l is_stop 64 c (omega (arith, long)) (omega (arith, e)), prefix_len-le-length (λ x. not (is_stop x)) c, long)
