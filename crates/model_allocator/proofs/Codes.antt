-- How the integers of an allocator's keys are spelled: where the range of the counters begins and ends, and how a key is read.
use Rattle.std.proofs.Common.{◌≡◌, ℕ, ◌+◌, ◌^◌, ◌<◌, ◌≤◌, true, false, cond, not, ◌&&◌, List, [], ◌∷◌, ◌++◌, length, drop, reverse, Some, None, pos, refl, sym, ap, ◌∙◌, append_assoc, arith}
use Rattle.std.specs.Prelude.{nat_le, bytes_eq}
use Rattle.std.specs.Ordering.{is_lt, is_eq, nat_cmp}
use Rattle.std.specs.declared.cmp.Ordering.TheVariants.{Less, Equal, Greater}
use Rattle.std.specs.Cmp.Lexicographic.{nat_list_cmp_total, texts_ties, same_text}
use Rattle.std.proofs.Math.Bool.{and-false}
use Rattle.std.proofs.Math.Seq.{drop-append-add}
use Rattle.std.proofs.lemmas.Bool.{and_parts, and_from, false_from_ne_true, eqb-true, leb-true, le-ltb, le-leb}
use Rattle.std.proofs.lemmas.Bool.Decides.{Decides-eqb}
use Rattle.std.proofs.lemmas.Cmp.{tied_itself}
use Rattle.std.proofs.lemmas.List.{append-nil, length-reverse, reverse-reverse}
use Rattle.std.proofs.lemmas.Option.{cond_some}
use Rattle.std.proofs.lemmas.Slice.Eq.{starts_is}
use Rattle.key_bytes.specs.Keys.{begins_with, key_cmp, key_lt, within}
use Rattle.key_bytes.specs.Numbers.{number_low}
use Rattle.key_bytes.proofs.Orders.{key_cmp-same_front, key_cmp-first_less, key_cmp-first_greater, ordering_then-differ}
use Rattle.fdb_tuple.specs.Spelling.{low_first, least_bytes, signed_spelled, int_spelled}
use Rattle.fdb_tuple.proofs.Digits.{length-low_first_le, number_low-low_first, with_sign-false}
use Rattle.model_allocator.specs.declared.TheConstants.{GREATEST_COUNTER}
use Rattle.model_allocator.specs.Counters.{packed, counters_prefix, counter_key, recent_key, counters_begin, counters_end, counter_in}
use Rattle.model_allocator.proofs.Keys.{element_cmp, recent_later, same_is}

-- ---- the spelling of a number

-- a number of at most 8 bytes has these, the highest first, behind a code that says how many they are
few_bytes : (number : ℕ) → number < 2 ^ 63 → length (least_bytes number) ≤ 8
unfolding least_bytes
few_bytes number small = omega (arith, length-reverse (low_first 16 number), length-low_first_le 16 8 number (omega arith))

pub number_spelled : (number : ℕ) → number < 2 ^ 63 → int_spelled (pos number) ≡ (0x14 + length (least_bytes number)) ∷ least_bytes number
unfolding signed_spelled
number_spelled number small =
    rw (
      le-ltb number 0 (omega arith),
      le-leb (length (least_bytes number)) 8 (few_bytes number small),
      with_sign-false (least_bytes number),
    ) refl

-- ---- the range of the counters

-- what stands behind s[0]
behind_prefix : (space bytes : List ℕ) → counters_prefix space ++ bytes ≡ space ++ (int_spelled (pos 0) ++ bytes)
behind_prefix space bytes = append_assoc space (packed 0) bytes ∙ ap (λ list. space ++ list) (append_assoc (int_spelled (pos 0)) [] bytes)

behind_cmp : (space x bytes : List ℕ) → key_cmp (space ++ (int_spelled (pos 0) ++ x)) (counters_prefix space ++ bytes) ≡ key_cmp x bytes
behind_cmp space x bytes =
    ap (key_cmp (space ++ (int_spelled (pos 0) ++ x))) (behind_prefix space bytes)
    ∙ key_cmp-same_front space _ _ ∙ key_cmp-same_front (int_spelled (pos 0)) x bytes

-- each counter lies in the range that is read
pub counter_inside : (space : List ℕ) (number : ℕ) → number < 2 ^ 63
    → within (counters_begin space) (counters_end space) (counter_key space number) ≡ true
counter_inside space number small = and_from _ _ (ap not (ap is_lt from)) (ap is_lt to)
  where
    from : key_cmp (counter_key space number) (counters_begin space) ≡ Greater
    from =
        behind_cmp space (int_spelled (pos number) ++ []) (0 ∷ [])
        ∙ rw (number_spelled number small) (key_cmp-first_greater (0x14 + length (least_bytes number)) 0 _ [] (omega arith))

    to : key_cmp (counter_key space number) (counters_end space) ≡ Less
    to =
        behind_cmp space (int_spelled (pos number) ++ []) (255 ∷ [])
        ∙ rw (number_spelled number small)
        (key_cmp-first_less (0x14 + length (least_bytes number)) 255 _ [] (omega (arith, few_bytes number small)))

-- no number that was tried lies in it
pub recent_outside : (space : List ℕ) (number : ℕ) → within (counters_begin space) (counters_end space) (recent_key space number) ≡ false
recent_outside space number =
    ap (λ order. not (key_lt (recent_key space number) (counters_begin space)) && is_lt order) later
    ∙ and-false (not (key_lt (recent_key space number) (counters_begin space)))
  where
    later : key_cmp (recent_key space number) (counters_end space) ≡ Greater
    later = ap (key_cmp (recent_key space number)) (behind_prefix space (255 ∷ [])) ∙ recent_later space _ _

-- ---- reading a counter's key

-- the bytes behind the code of the number give the number
read_again : (space : List ℕ) (number : ℕ) → number < 2 ^ 63
    → number_low (reverse (drop (length (counters_prefix space) + 1) (counter_key space number))) ≡ number
unfolding least_bytes
read_again space number small =
    ap (λ key. number_low (reverse (drop (length (counters_prefix space) + 1) key))) key_is
    ∙ ap (λ bytes. number_low (reverse bytes)) (drop-append-add (counters_prefix space) _ 1)
    ∙ ap number_low (reverse-reverse (low_first 16 number))
    ∙ number_low-low_first 16 number (omega arith)
  where
    key_is : counter_key space number ≡ counters_prefix space ++ ((0x14 + length (least_bytes number)) ∷ least_bytes number)
    key_is =
        ap (λ bytes. space ++ (int_spelled (pos 0) ++ bytes)) (append-nil (int_spelled (pos number)) ∙ number_spelled number small)
        ∙ sym (behind_prefix space _)

-- a key that is read as a counter is the key of that number, which is small enough
pub counter_in_is : (space key : List ℕ) (number : ℕ) → counter_in space key ≡ Some number
    → (key ≡ counter_key space number) × (number ≤ GREATEST_COUNTER)
unfolding counter_in
counter_in_is space key number is =
    let read = number_low (reverse (drop (length (counters_prefix space) + 1) key)) in
    let both = cond_some (bytes_eq key (counter_key space read) && nat_le read GREATEST_COUNTER) read number is in
    let parts = and_parts (bytes_eq key (counter_key space read)) (nat_le read GREATEST_COUNTER) both.0 in
    let is_key = same_text key (counter_key space read) (sym parts.0) ∙ ap (counter_key space) both.1 in
    (is_key, omega (arith, leb-true read GREATEST_COUNTER parts.1, both.1))

-- and the key of such a number is read as it
pub counter_in_again : (space : List ℕ) (number : ℕ) → number ≤ GREATEST_COUNTER → counter_in space (counter_key space number) ≡ Some number
unfolding counter_in
counter_in_again space number small =
    let key = counter_key space number in
    let itself : bytes_eq key key ≡ true = texts_ties key key ∙ ap is_eq (tied_itself nat_list_cmp_total key) in
    ap (λ read. cond (bytes_eq key (counter_key space read) && nat_le read GREATEST_COUNTER) (Some read) None)
    (read_again space number (omega arith))
    ∙ ap (λ b. cond b (Some number) None) (and_from _ _ itself (le-leb number GREATEST_COUNTER small))

-- ---- packed numbers

-- the packed tuple of a number begins no other's
pub packed_apart : (one other : ℕ) → one < 2 ^ 63 → other < 2 ^ 63 → (one ≡ other → ⊥) → begins_with (packed one) (packed other) ≡ false
packed_apart one other small other_small differ = false_from_ne_true (begins_with (packed one) (packed other)) (λ begins.
    let rest = drop (length (packed other)) (packed one) in
    let is : packed one ≡ packed other ++ rest = (starts_is Decides-eqb (packed one) (packed other) _ refl).0 begins in
    let alike : key_cmp (packed one) (int_spelled (pos other) ++ rest) ≡ Equal =
    ap (key_cmp (packed one)) (sym (is ∙ append_assoc (int_spelled (pos other)) [] rest)) ∙ tied_itself nat_list_cmp_total (packed one) in
    let equal : nat_cmp one other ≡ Equal =
    ordering_then-differ one other (key_cmp [] rest) differ ∙ sym (element_cmp one other [] rest small other_small) ∙ alike in
    differ (eqb-true one other (sym (same_is one other) ∙ ap is_eq equal)))
