-- The order of an allocator's keys is that of their numbers, and keys of counters stand before those of numbers that were tried.
use Rattle.std.proofs.Common.{◌≡◌, ℕ, ◌^◌, ◌<◌, false, not, ◌&&◌, List, [], ◌∷◌, ◌++◌, pos, refl, ap, ◌∙◌, arith}
use Rattle.std.specs.Prelude.{nat_lt, nat_eq, bytes_eq}
use Rattle.std.specs.Ordering.{nat_cmp, int_cmp, is_lt, is_eq, ordering_then}
use Rattle.std.specs.declared.cmp.Ordering.{Ordering}
use Rattle.std.specs.declared.cmp.Ordering.TheVariants.{Less, Greater}
use Rattle.std.specs.Cmp.Lexicographic.{texts_ties}
use Rattle.std.proofs.Math.Bool.{and-false}
use Rattle.std.proofs.lemmas.Bool.Decides.{nat_tests}
use Rattle.key_bytes.specs.Keys.{key_cmp, key_lt, within}
use Rattle.key_bytes.proofs.Orders.{key_cmp-same_front, ordering_then-equal}
use Rattle.fdb_tuple.specs.Spelling.{int_spelled}
use Rattle.fdb_tuple.specs.IntOrder.{key_cmp-int_spelled}
use Rattle.model_allocator.specs.Counters.{counters_prefix, counter_key, recent_prefix, recent_key}

-- ---- numbers

whole_cmp : (one other : ℕ) → int_cmp (pos one) (pos other) ≡ nat_cmp one other
whole_cmp one other = grind (arith, nat_tests)

less_is : (one other : ℕ) → is_lt (nat_cmp one other) ≡ nat_lt one other
less_is one other = grind (arith, nat_tests)

pub same_is : (one other : ℕ) → is_eq (nat_cmp one other) ≡ nat_eq one other
same_is one other = grind (arith, nat_tests)

-- the first elements of two tuples decide before what follows them
pub element_cmp : (one other : ℕ) (x y : List ℕ) → one < 2 ^ 63 → other < 2 ^ 63
    → key_cmp (int_spelled (pos one) ++ x) (int_spelled (pos other) ++ y) ≡ ordering_then (nat_cmp one other) (key_cmp x y)
element_cmp one other x y small other_small =
    key_cmp-int_spelled (pos one) (pos other) x y (omega arith) (omega arith)
    ∙ ap (λ (o : Ordering). ordering_then o (key_cmp x y)) (whole_cmp one other)

-- packed numbers are in the order of the numbers
pub packed_cmp : (one other : ℕ) → one < 2 ^ 63 → other < 2 ^ 63
    → key_cmp (int_spelled (pos one) ++ []) (int_spelled (pos other) ++ []) ≡ nat_cmp one other
packed_cmp one other small other_small = element_cmp one other [] [] small other_small ∙ ordering_then-equal (nat_cmp one other)

-- ---- keys of one kind

counter_cmp : (space : List ℕ) (one other : ℕ) → one < 2 ^ 63 → other < 2 ^ 63
    → key_cmp (counter_key space one) (counter_key space other) ≡ nat_cmp one other
counter_cmp space one other small other_small =
    key_cmp-same_front space _ _ ∙ element_cmp 0 0 _ _ (omega arith) (omega arith) ∙ packed_cmp one other small other_small

recent_cmp : (space : List ℕ) (one other : ℕ) → one < 2 ^ 63 → other < 2 ^ 63
    → key_cmp (recent_key space one) (recent_key space other) ≡ nat_cmp one other
recent_cmp space one other small other_small =
    key_cmp-same_front space _ _ ∙ element_cmp 1 1 _ _ (omega arith) (omega arith) ∙ packed_cmp one other small other_small

pub counter_order : (space : List ℕ) (one other : ℕ) → one < 2 ^ 63 → other < 2 ^ 63
    → key_lt (counter_key space one) (counter_key space other) ≡ nat_lt one other
counter_order space one other small other_small = ap is_lt (counter_cmp space one other small other_small) ∙ less_is one other

pub recent_order : (space : List ℕ) (one other : ℕ) → one < 2 ^ 63 → other < 2 ^ 63
    → key_lt (recent_key space one) (recent_key space other) ≡ nat_lt one other
recent_order space one other small other_small = ap is_lt (recent_cmp space one other small other_small) ∙ less_is one other

pub counter_same : (space : List ℕ) (one other : ℕ) → one < 2 ^ 63 → other < 2 ^ 63
    → bytes_eq (counter_key space one) (counter_key space other) ≡ nat_eq one other
counter_same space one other small other_small =
    texts_ties (counter_key space one) (counter_key space other)
    ∙ ap is_eq (counter_cmp space one other small other_small) ∙ same_is one other

pub recent_same : (space : List ℕ) (one other : ℕ) → one < 2 ^ 63 → other < 2 ^ 63
    → bytes_eq (recent_key space one) (recent_key space other) ≡ nat_eq one other
recent_same space one other small other_small =
    texts_ties (recent_key space one) (recent_key space other)
    ∙ ap is_eq (recent_cmp space one other small other_small) ∙ same_is one other

-- ---- keys of the two kinds

-- a key under s[0] stands before each key under s[1]
counter_first : (space x y : List ℕ) → key_cmp (space ++ (int_spelled (pos 0) ++ x)) (space ++ (int_spelled (pos 1) ++ y)) ≡ Less
counter_first space x y = key_cmp-same_front space _ _ ∙ element_cmp 0 1 x y (omega arith) (omega arith)

pub recent_later : (space x y : List ℕ) → key_cmp (space ++ (int_spelled (pos 1) ++ x)) (space ++ (int_spelled (pos 0) ++ y)) ≡ Greater
recent_later space x y = key_cmp-same_front space _ _ ∙ element_cmp 1 0 x y (omega arith) (omega arith)

pub kinds_differ : (space : List ℕ) (one other : ℕ) → bytes_eq (counter_key space one) (recent_key space other) ≡ false
kinds_differ space one other = texts_ties (counter_key space one) (recent_key space other) ∙ ap is_eq (counter_first space _ _)

pub kinds_differ_back : (space : List ℕ) (one other : ℕ) → bytes_eq (recent_key space one) (counter_key space other) ≡ false
kinds_differ_back space one other = texts_ties (recent_key space one) (counter_key space other) ∙ ap is_eq (recent_later space _ _)

-- ---- what is cleared below a start

-- a tuple stands before one that begins with it
not_before_front : (space : List ℕ) (kind number : ℕ) → kind < 2 ^ 63
    → key_lt (space ++ (int_spelled (pos kind) ++ (int_spelled (pos number) ++ []))) (space ++ (int_spelled (pos kind) ++ [])) ≡ false
not_before_front space kind number small =
    ap is_lt (key_cmp-same_front space _ _ ∙ key_cmp-same_front (int_spelled (pos kind)) _ [])
    ∙ nothing_below (int_spelled (pos number) ++ [])
  where
    nothing_below : (bytes : List ℕ) → key_lt bytes [] ≡ false
    nothing_below [] = refl
    nothing_below (b ∷ bytes) = refl

-- the counters below a start are cleared
pub counter_cleared : (space : List ℕ) (start number : ℕ) → start < 2 ^ 63 → number < 2 ^ 63
    → within (counters_prefix space) (counter_key space start) (counter_key space number) ≡ nat_lt number start
counter_cleared space start number start_small small =
    ap (λ below. not below && key_lt (counter_key space number) (counter_key space start)) (not_before_front space 0 number (omega arith))
    ∙ counter_order space number start small start_small

-- the numbers below a start are cleared
pub recent_cleared : (space : List ℕ) (start number : ℕ) → start < 2 ^ 63 → number < 2 ^ 63
    → within (recent_prefix space) (recent_key space start) (recent_key space number) ≡ nat_lt number start
recent_cleared space start number start_small small =
    ap (λ below. not below && key_lt (recent_key space number) (recent_key space start)) (not_before_front space 1 number (omega arith))
    ∙ recent_order space number start small start_small

-- clearing numbers keeps each counter
pub counter_kept : (space : List ℕ) (start number : ℕ)
    → within (recent_prefix space) (recent_key space start) (counter_key space number) ≡ false
counter_kept space start number =
    ap (λ order. not (is_lt order) && key_lt (counter_key space number) (recent_key space start)) (counter_first space _ [])

-- clearing counters keeps each number
pub recent_kept : (space : List ℕ) (start number : ℕ)
    → within (counters_prefix space) (counter_key space start) (recent_key space number) ≡ false
recent_kept space start number =
    ap (λ order. not (key_lt (recent_key space number) (counters_prefix space)) && is_lt order) (recent_later space _ _)
    ∙ and-false (not (key_lt (recent_key space number) (counters_prefix space)))
