-- The order of two byte strings that stand in rooms with zeros behind them, by the words of the rooms.
use Rattle.std.proofs.Common.{◌≡◌, ◌≢◌, ℕ, zero, suc, ◌+◌, ◌*◌, ◌^◌, ◌<◌, ◌≤◌, List, [], ◌∷◌, ◌++◌, length, get_or, take, drop, true, false, true≢false, refl, sym, ap, ◌∙◌, inl, inr, arith}
use Rattle.std.proofs.Math.Nat.{pow-suc, mul-le-mul_right}
use Rattle.std.proofs.Math.Seq.{take-add}
use Rattle.std.proofs.lemmas.Bool.{cases_order}
use Rattle.std.proofs.lemmas.List.{take_all, take-take}
use Rattle.std.proofs.lemmas.List.Elements.{All-head, All-tail}
use Rattle.std.specs.Cmp.{ranks}
use Rattle.std.specs.FinMap.{slice_cmp-IsAntisymmetric, nat_cmp-IsAntisymmetric}
use Rattle.std.specs.Int.{w64, from_be_bytes}
use Rattle.std.specs.Ordering.{is_ne, nat_cmp, ordering_then, MatchOrdering}
use Rattle.std.specs.declared.cmp.Ordering.{Ordering}
use Rattle.std.specs.declared.cmp.Ordering.TheVariants.{Less, Equal, Greater}
use Rattle.key_bytes.specs.Keys.{IsByteString, key_cmp}
use Rattle.key_bytes.proofs.Orders.{nat_cmp-less, nat_cmp-equal, nat_cmp-greater, key_cmp-append, key_cmp-same_front}

-- what an answer that isn't, or is, Equal says
pub differs : (o : Ordering) → is_ne o ≡ true → o ≢ Equal
differs o is e = true≢false (sym is ∙ ap is_ne e)

pub ties : (o : Ordering) → is_ne o ≡ false → o ≡ Equal
ties Less is = absurd (true≢false is)
ties Equal is = refl
ties Greater is = absurd (true≢false is)

-- ---- the number that bytes write, the highest first

number : List ℕ → ℕ
number [] = 0
number (b ∷ bytes) = b * 256 ^ length bytes + number bytes

-- b times p is below the next multiple of p, n behind it included
digit_below : (b n p : ℕ) → b < 256 → n < p → b * p + n < 256 * p
digit_below b n p small less = omega (arith, mul-le-mul_right p (small))

number_below : (bytes : List ℕ) → IsByteString bytes → number bytes < 256 ^ length bytes
unfolding number
number_below [] are = omega arith
number_below (b ∷ bytes) are =
    let rest = number_below bytes (All-tail (λ b. b < 256) b bytes are) in
    omega (arith, pow-suc 256 (length bytes), digit_below b (number bytes) (256 ^ length bytes) (All-head (λ b. b < 256) b bytes are) rest)

lesser_digit : (x y m n p : ℕ) → x < y → m < p → x * p + m < y * p + n
lesser_digit x y m n p less below = omega (arith, mul-le-mul_right p less)

nat_cmp-shift : (a m n : ℕ) → nat_cmp m n ≡ nat_cmp (a + m) (a + n)
nat_cmp-shift a m n = elim (cases_order m n) [
  | inl same ↦ nat_cmp-equal m n same ∙ sym (nat_cmp-equal (a + m) (a + n) (omega arith))
  | inr (inl less) ↦ nat_cmp-less m n less ∙ sym (nat_cmp-less (a + m) (a + n) (omega arith))
  | inr (inr more) ↦ nat_cmp-greater m n more ∙ sym (nat_cmp-greater (a + m) (a + n) (omega arith))
]

-- bytes of one number stand in the order of the numbers that they write
key_cmp-number : (xs ys : List ℕ) → length xs ≡ length ys → IsByteString xs → IsByteString ys
    → key_cmp xs ys ≡ nat_cmp (number xs) (number ys)
unfolding number
key_cmp-number [] [] e are_xs are_ys = refl
key_cmp-number [] (y ∷ ys) e are_xs are_ys = absurd (omega arith)
key_cmp-number (x ∷ xs) [] e are_xs are_ys = absurd (omega arith)
key_cmp-number (x ∷ xs) (y ∷ ys) e are_xs are_ys = elim (cases_order x y) [
  | inl same ↦
      ap (λ (o : Ordering). ordering_then o (key_cmp xs ys)) (nat_cmp-equal x y same)
      ∙ key_cmp-number xs ys (omega arith) rest_xs rest_ys
      ∙ nat_cmp-shift (x * 256 ^ length xs) (number xs) (number ys)
      ∙ ap (λ (n : ℕ). nat_cmp (number (x ∷ xs)) (n + number ys)) (ap (λ (n : ℕ). n * 256 ^ length xs) same ∙ ap (λ (n : ℕ). y * 256 ^ n) lengths)
  | inr (inl less) ↦
      ap (λ (o : Ordering). ordering_then o (key_cmp xs ys)) (nat_cmp-less x y less)
      ∙ sym (nat_cmp-less (number (x ∷ xs)) (number (y ∷ ys)) (omega (arith, lesser_digit x y (number xs) (number ys) (256 ^ length xs) less (number_below xs rest_xs), powers)))
  | inr (inr more) ↦
      ap (λ (o : Ordering). ordering_then o (key_cmp xs ys)) (nat_cmp-greater x y more)
      ∙ sym (nat_cmp-greater (number (x ∷ xs)) (number (y ∷ ys)) (omega (arith, lesser_digit y x (number ys) (number xs) (256 ^ length ys) more (number_below ys rest_ys), ap (λ (n : ℕ). x * n) (sym (ap (λ (n : ℕ). 256 ^ n) lengths)))))
]
  where
    lengths : length xs ≡ length ys
    lengths = omega arith

    powers : y * 256 ^ length xs ≡ y * 256 ^ length ys
    powers = ap (λ (n : ℕ). y * 256 ^ n) lengths

    rest_xs : IsByteString xs
    rest_xs = All-tail (λ b. b < 256) x xs are_xs

    rest_ys : IsByteString ys
    rest_ys = All-tail (λ b. b < 256) y ys are_ys

-- a word is the number that its eight bytes write
word_number : (bytes : List ℕ) → length bytes ≡ 8 → from_be_bytes w64 bytes ≡ number bytes
unfolding number
word_number [] e = absurd (omega arith)
word_number (a ∷ []) e = absurd (omega arith)
word_number (a ∷ b ∷ []) e = absurd (omega arith)
word_number (a ∷ b ∷ c ∷ []) e = absurd (omega arith)
word_number (a ∷ b ∷ c ∷ d ∷ []) e = absurd (omega arith)
word_number (a ∷ b ∷ c ∷ d ∷ f ∷ []) e = absurd (omega arith)
word_number (a ∷ b ∷ c ∷ d ∷ f ∷ g ∷ []) e = absurd (omega arith)
word_number (a ∷ b ∷ c ∷ d ∷ f ∷ g ∷ h ∷ []) e = absurd (omega arith)
word_number (a ∷ b ∷ c ∷ d ∷ f ∷ g ∷ h ∷ i ∷ []) e = omega arith
word_number (a ∷ b ∷ c ∷ d ∷ f ∷ g ∷ h ∷ i ∷ j ∷ bytes) e = absurd (omega arith)

pub key_cmp-words : (xs ys : List ℕ) → length xs ≡ 8 → length ys ≡ 8 → IsByteString xs → IsByteString ys
    → key_cmp xs ys ≡ nat_cmp (from_be_bytes w64 xs) (from_be_bytes w64 ys)
key_cmp-words xs ys eight_xs eight_ys are_xs are_ys =
    rw (word_number xs eight_xs, word_number ys eight_ys) (key_cmp-number xs ys (omega arith) are_xs are_ys)

-- ---- rooms

-- from a place on the room is zero
abbrev pub IsZeroFrom : ℕ → List ℕ → Type 0
IsZeroFrom n room = (k : ℕ) → n ≤ k → get_or room k 0 ≡ 0

zero_rest : (n x : ℕ) (room : List ℕ) → IsZeroFrom (suc n) (x ∷ room) → IsZeroFrom n room
zero_rest n x room zeros = λ k le. zeros (suc k) (omega arith)

zero_all : (x : ℕ) (room : List ℕ) → IsZeroFrom 0 (x ∷ room) → IsZeroFrom 0 room
zero_all x room zeros = λ k le. zeros (suc k) (omega arith)

-- what differs only behind a first byte that is the same
same_first : (x y : ℕ) (p q o : Ordering) → (x ≡ y → p ≡ o → q ≡ o) → ordering_then (nat_cmp x y) p ≡ o → ordering_then (nat_cmp x y) q ≡ o
same_first x y p q o rest h = by_order (nat_cmp x y) (ranks x y) h
  where
    by_order : (d : Ordering) → MatchOrdering d (x < y) (x ≡ y) (y < x) → ordering_then d p ≡ o → ordering_then d q ≡ o
    by_order Less r h = h
    by_order Equal r h = rest r h
    by_order Greater r h = h

empty_first : (y : ℕ) (p o : Ordering) → (p ≡ o → Less ≡ o) → ordering_then (nat_cmp 0 y) p ≡ o → Less ≡ o
empty_first y p o rest h = by_order (nat_cmp 0 y) (ranks 0 y) h
  where
    by_order : (d : Ordering) → MatchOrdering d (0 < y) (0 ≡ y) (y < 0) → ordering_then d p ≡ o → Less ≡ o
    by_order Less r h = h
    by_order Equal r h = rest h
    by_order Greater r h = absurd (omega arith)

empty_last : (x : ℕ) (p o : Ordering) → (p ≡ o → Greater ≡ o) → ordering_then (nat_cmp x 0) p ≡ o → Greater ≡ o
empty_last x p o rest h = by_order (nat_cmp x 0) (ranks x 0) h
  where
    by_order : (d : Ordering) → MatchOrdering d (x < 0) (x ≡ 0) (0 < x) → ordering_then d p ≡ o → Greater ≡ o
    by_order Less r h = absurd (omega arith)
    by_order Equal r h = rest h
    by_order Greater r h = h

nothing_below : (ys : List ℕ) (o : Ordering) → o ≢ Equal → key_cmp [] ys ≡ o → Less ≡ o
nothing_below [] o differ h = absurd (differ (sym h))
nothing_below (y ∷ ys) o differ h = h

nothing_above : (xs : List ℕ) (o : Ordering) → o ≢ Equal → key_cmp xs [] ≡ o → Greater ≡ o
nothing_above [] o differ h = absurd (differ (sym h))
nothing_above (x ∷ xs) o differ h = h

-- where the fronts of two rooms differ, what stands in the rooms is in their order
pub fronts_decide : (k n m : ℕ) (a b : List ℕ) (o : Ordering) → length a ≡ length b → IsZeroFrom n a → IsZeroFrom m b → o ≢ Equal
    → key_cmp (take k a) (take k b) ≡ o → key_cmp (take n a) (take m b) ≡ o
fronts_decide zero n m a b o e zeros_a zeros_b differ h = absurd (differ (sym h))
fronts_decide (suc k) n m [] [] o e zeros_a zeros_b differ h = absurd (differ (sym h))
fronts_decide (suc k) n m [] (y ∷ b) o e zeros_a zeros_b differ h = absurd (omega arith)
fronts_decide (suc k) n m (x ∷ a) [] o e zeros_a zeros_b differ h = absurd (omega arith)
fronts_decide (suc k) zero zero (x ∷ a) (y ∷ b) o e zeros_a zeros_b differ h =
    let same : x ≡ y = zeros_a 0 (omega arith) ∙ sym (zeros_b 0 (omega arith)) in
    fronts_decide k zero zero a b o (omega arith) (zero_all x a zeros_a) (zero_all y b zeros_b) differ (ap (λ (d : Ordering). ordering_then d (key_cmp (take k a) (take k b))) (sym (nat_cmp-equal x y same)) ∙ h)
fronts_decide (suc k) zero (suc m) (x ∷ a) (y ∷ b) o e zeros_a zeros_b differ h =
    let none : x ≡ 0 = zeros_a 0 (omega arith) in
    empty_first y (key_cmp (take k a) (take k b)) o
    (λ h. nothing_below (take m b) o differ (fronts_decide k zero m a b o (omega arith) (zero_all x a zeros_a) (zero_rest m y b zeros_b) differ h))
    (ap (λ (d : ℕ). ordering_then (nat_cmp d y) (key_cmp (take k a) (take k b))) (sym none) ∙ h)
fronts_decide (suc k) (suc n) zero (x ∷ a) (y ∷ b) o e zeros_a zeros_b differ h =
    let none : y ≡ 0 = zeros_b 0 (omega arith) in
    empty_last x (key_cmp (take k a) (take k b)) o
    (λ h. nothing_above (take n a) o differ (fronts_decide k n zero a b o (omega arith) (zero_rest n x a zeros_a) (zero_all y b zeros_b) differ h))
    (ap (λ (d : ℕ). ordering_then (nat_cmp x d) (key_cmp (take k a) (take k b))) (sym none) ∙ h)
fronts_decide (suc k) (suc n) (suc m) (x ∷ a) (y ∷ b) o e zeros_a zeros_b differ h =
    same_first x y (key_cmp (take k a) (take k b)) (key_cmp (take n a) (take m b)) o
    (λ _ h. fronts_decide k n m a b o (omega arith) (zero_rest n x a zeros_a) (zero_rest m y b zeros_b) differ h)
    h

-- ---- the words of two rooms

-- two rooms with their words at a place
pub record HasWords (at first second : ℕ) (a b : List ℕ) : Type 0 where
  pub first_is : first ≡ from_be_bytes w64 (take 8 (drop at a))
  pub second_is : second ≡ from_be_bytes w64 (take 8 (drop at b))
  pub first_bytes : IsByteString (take 8 (drop at a))
  pub second_bytes : IsByteString (take 8 (drop at b))
  pub first_eight : length (take 8 (drop at a)) ≡ 8
  pub second_eight : length (take 8 (drop at b)) ≡ 8

words_cmp : (at first second : ℕ) (a b : List ℕ) → HasWords at first second a b
    → key_cmp (take 8 (drop at a)) (take 8 (drop at b)) ≡ nat_cmp first second
words_cmp at first second a b w =
    key_cmp-words (take 8 (drop at a)) (take 8 (drop at b)) w.first_eight w.second_eight w.first_bytes w.second_bytes
    ∙ ap (λ (n : ℕ). nat_cmp n (from_be_bytes w64 (take 8 (drop at b)))) (sym w.first_is)
    ∙ ap (nat_cmp first) (sym w.second_is)

front_of_two : (room : List ℕ) → take 16 room ≡ take 8 room ++ take 8 (drop 8 room)
front_of_two room = take-add 8 8 room

-- the first words decide where they differ
pub first_words_decide : (n m first second : ℕ) (a b : List ℕ) (o : Ordering) → length a ≡ length b → IsZeroFrom n a → IsZeroFrom m b
    → HasWords 0 first second a b → o ≡ nat_cmp first second → o ≢ Equal → o ≡ key_cmp (take n a) (take m b)
first_words_decide n m first second a b o e zeros_a zeros_b w is differ =
    sym (fronts_decide 8 n m a b o e zeros_a zeros_b differ (words_cmp 0 first second a b w ∙ sym is))

-- where the first words are the same, the second are in the order of the sixteen bytes that both hold
sixteen_cmp : (first second third fourth : ℕ) (a b : List ℕ) → HasWords 0 first second a b → nat_cmp first second ≡ Equal
    → HasWords 8 third fourth a b → key_cmp (take 16 a) (take 16 b) ≡ nat_cmp third fourth
sixteen_cmp first second third fourth a b w same later =
    rw (front_of_two a, front_of_two b) (
    key_cmp-append (take 8 a) (take 8 b) (take 8 (drop 8 a)) (take 8 (drop 8 b)) (w.first_eight ∙ sym w.second_eight)
    ∙ ap (λ (d : Ordering). ordering_then d (key_cmp (take 8 (drop 8 a)) (take 8 (drop 8 b)))) (words_cmp 0 first second a b w ∙ same)
    ∙ words_cmp 8 third fourth a b later)

-- the second words decide where the first are the same and they differ
pub second_words_decide : (n m first second third fourth : ℕ) (a b : List ℕ) (o : Ordering) → length a ≡ length b → IsZeroFrom n a
    → IsZeroFrom m b
    → HasWords 0 first second a b → nat_cmp first second ≡ Equal → HasWords 8 third fourth a b
    → o ≡ nat_cmp third fourth → o ≢ Equal → o ≡ key_cmp (take n a) (take m b)
second_words_decide n m first second third fourth a b o e zeros_a zeros_b w same later is differ =
    sym (fronts_decide 16 n m a b o e zeros_a zeros_b differ (sixteen_cmp first second third fourth a b w same later ∙ sym is))

-- ---- rooms whose first two words are the same

-- lists that stand at one place in the order of keys are the same
same_place : (xs ys : List ℕ) → key_cmp xs ys ≡ Equal → xs ≡ ys
same_place xs ys tied = slice_cmp-IsAntisymmetric nat_cmp-IsAntisymmetric xs ys tied

-- the first sixteen bytes are the same where the first and the second words are
pub sixteen_same : (first second third fourth : ℕ) (a b : List ℕ) → HasWords 0 first second a b → nat_cmp first second ≡ Equal
    → HasWords 8 third fourth a b → nat_cmp third fourth ≡ Equal → take 16 a ≡ take 16 b
sixteen_same first second third fourth a b w same later same_later =
    same_place (take 16 a) (take 16 b) (sixteen_cmp first second third fourth a b w same later ∙ same_later)

fourteen_same : (a b : List ℕ) → take 16 a ≡ take 16 b → take 14 a ≡ take 14 b
fourteen_same a b same = sym (take-take 14 16 a (omega arith)) ∙ ap (take 14) same ∙ take-take 14 16 b (omega arith)

whole_of_two : (room : List ℕ) → take 22 room ≡ take 14 room ++ take 8 (drop 14 room)
whole_of_two room = take-add 14 8 room

-- the third words are in the order of the whole rooms
whole_cmp : (fifth sixth : ℕ) (a b : List ℕ) → take 16 a ≡ take 16 b → HasWords 14 fifth sixth a b
    → key_cmp (take 22 a) (take 22 b) ≡ nat_cmp fifth sixth
whole_cmp fifth sixth a b same w =
    rw (whole_of_two a, whole_of_two b) (
    ap (λ (front : List ℕ). key_cmp (front ++ take 8 (drop 14 a)) (take 14 b ++ take 8 (drop 14 b))) (fourteen_same a b same)
    ∙ key_cmp-same_front (take 14 b) (take 8 (drop 14 a)) (take 8 (drop 14 b))
    ∙ words_cmp 14 fifth sixth a b w)

-- the third words decide where they differ
pub third_words_decide : (n m fifth sixth : ℕ) (a b : List ℕ) (o : Ordering) → length a ≡ length b → IsZeroFrom n a → IsZeroFrom m b
    → take 16 a ≡ take 16 b → HasWords 14 fifth sixth a b → o ≡ nat_cmp fifth sixth → o ≢ Equal → o ≡ key_cmp (take n a) (take m b)
third_words_decide n m fifth sixth a b o e zeros_a zeros_b same w is differ =
    sym (fronts_decide 22 n m a b o e zeros_a zeros_b differ (whole_cmp fifth sixth a b same w ∙ sym is))

-- rooms of 22 bytes are the same where their third words are too
rooms_same : (fifth sixth : ℕ) (a b : List ℕ) → length a ≡ 22 → length b ≡ 22 → take 16 a ≡ take 16 b → HasWords 14 fifth sixth a b
    → nat_cmp fifth sixth ≡ Equal → a ≡ b
rooms_same fifth sixth a b whole_a whole_b same w tied =
    sym (take_all 22 a (omega arith))
    ∙ same_place (take 22 a) (take 22 b) (whole_cmp fifth sixth a b same w ∙ tied)
    ∙ take_all 22 b (omega arith)

-- fronts of one list are in the order of their lengths
fronts_of_one : (n m : ℕ) (room : List ℕ) → n ≤ length room → m ≤ length room → key_cmp (take n room) (take m room) ≡ nat_cmp n m
fronts_of_one zero zero room le_n le_m = sym (nat_cmp-equal 0 0 refl)
fronts_of_one zero (suc m) [] le_n le_m = absurd (omega arith)
fronts_of_one zero (suc m) (x ∷ room) le_n le_m = sym (nat_cmp-less 0 (suc m) (omega arith))
fronts_of_one (suc n) m [] le_n le_m = absurd (omega arith)
fronts_of_one (suc n) zero (x ∷ room) le_n le_m = sym (nat_cmp-greater (suc n) 0 (omega arith))
fronts_of_one (suc n) (suc m) (x ∷ room) le_n le_m =
    ap (λ (o : Ordering). ordering_then o (key_cmp (take n room) (take m room))) (nat_cmp-equal x x refl)
    ∙ fronts_of_one n m room (omega arith) (omega arith)
    ∙ nat_cmp-shift 1 n m
    ∙ ap (λ (k : ℕ). nat_cmp k (1 + m)) (one_more n)
    ∙ ap (nat_cmp (suc n)) (one_more m)
  where
    one_more : (k : ℕ) → 1 + k ≡ suc k
    one_more k = omega arith

-- the lengths decide where all three words are the same
pub lengths_decide : (n m fifth sixth : ℕ) (a b : List ℕ) (o : Ordering) → length a ≡ 22 → length b ≡ 22 → n ≤ 22 → m ≤ 22
    → take 16 a ≡ take 16 b → HasWords 14 fifth sixth a b → nat_cmp fifth sixth ≡ Equal
    → o ≡ nat_cmp n m → o ≡ key_cmp (take n a) (take m b)
lengths_decide n m fifth sixth a b o whole_a whole_b le_n le_m same w tied is =
    is ∙ sym (fronts_of_one n m a (omega arith) (omega arith))
    ∙ ap (λ (room : List ℕ). key_cmp (take n a) (take m room)) (rooms_same fifth sixth a b whole_a whole_b same w tied)
