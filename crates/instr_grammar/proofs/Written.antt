-- The text of elements, one after the other.
use Rattle.std.proofs.Common.{◌≡◌, ◌<◌, ℕ, zero, suc, ◌+◌, ◌==◌, Bool, true, false, List, [], ◌∷◌, ◌++◌, length, get_or, take, append_assoc, refl, sym, ap, ◌∙◌, arith}
use Rattle.std.proofs.lemmas.Bool.{ne_eqb}
use Rattle.std.proofs.lemmas.List.{append-nil, take_more}
use Rattle.fdb_tuple.specs.declared.tuple.Elem.{Elem}
use Rattle.fdb_tuple.specs.declared.tuple.Elem.TheVariants as elem
use Rattle.fdb_tuple.specs.Tuples.{Scalar, Null, Bytes, Text, Int, Boolean, Uuid, Stamp, Elements, Empty, Single}
use Rattle.fdb_tuple.specs.Listed.{before, tuple_of}
use Rattle.instr_grammar.specs.Texts.{gap, opening, closing, scalar_text, elements_text}

pub alone : (scalar : Scalar) → elements_text true (Single scalar Empty) ≡ scalar_text scalar
alone scalar = append-nil (scalar_text scalar)

scalar_gap : (first : Bool) (scalar : Scalar) → elements_text first (Single scalar Empty) ≡ gap first ++ elements_text true (Single scalar Empty)
scalar_gap first scalar = append_assoc (gap first) (scalar_text scalar) []

-- an element behind others is the same text behind a space
pub gap_before : (first : Bool) (element : Elem) → elements_text first (before element Empty) ≡ gap first ++ elements_text true (before element Empty)
gap_before first elem.Null = scalar_gap first Null
gap_before first (elem.Bytes bytes) = scalar_gap first (Bytes bytes)
gap_before first (elem.Text text) = scalar_gap first (Text text)
gap_before first (elem.Nested tuple) = append_assoc (gap first) (opening ∷ elements_text true tuple) (closing ∷ [])
gap_before first (elem.Int number) = scalar_gap first (Int number)
gap_before first (elem.Bool value) = scalar_gap first (Boolean value)
gap_before first (elem.Uuid bytes) = scalar_gap first (Uuid bytes)
gap_before first (elem.Stamp stamp) = scalar_gap first (Stamp stamp.stamp stamp.user)

scalar_others : (first : Bool) (scalar : Scalar) (rest : Elements)
    → elements_text first (Single scalar rest) ≡ elements_text first (Single scalar Empty) ++ elements_text false rest
scalar_others first scalar rest = ap (λ (t : List ℕ). t ++ elements_text false rest) (sym (append-nil (gap first ++ scalar_text scalar)))

others_behind : (first : Bool) (element : Elem) (rest : Elements)
    → elements_text first (before element rest) ≡ elements_text first (before element Empty) ++ elements_text false rest
others_behind first elem.Null rest = scalar_others first Null rest
others_behind first (elem.Bytes bytes) rest = scalar_others first (Bytes bytes) rest
others_behind first (elem.Text text) rest = scalar_others first (Text text) rest
others_behind first (elem.Nested tuple) rest = nested (gap first) (elements_text true tuple) (elements_text false rest)
  where
    nested : (front inner rest : List ℕ) → (front ++ opening ∷ inner) ++ closing ∷ rest ≡ ((front ++ opening ∷ inner) ++ closing ∷ []) ++ rest
    nested front inner rest = sym (append_assoc (front ++ opening ∷ inner) (closing ∷ []) rest)
others_behind first (elem.Int number) rest = scalar_others first (Int number) rest
others_behind first (elem.Bool value) rest = scalar_others first (Boolean value) rest
others_behind first (elem.Uuid bytes) rest = scalar_others first (Uuid bytes) rest
others_behind first (elem.Stamp stamp) rest = scalar_others first (Stamp stamp.stamp stamp.user) rest

-- one more element at the end: a space stands before it unless it is the first
abbrev is_first : List Elem → Bool → Bool
is_first [] first = first
is_first (one ∷ more) first = false

text_push : (first : Bool) (elements : List Elem) (element : Elem)
    → elements_text first (tuple_of (elements ++ element ∷ []))
    ≡ elements_text first (tuple_of elements) ++ gap (is_first elements first) ++ elements_text true (before element Empty)
text_push first [] element = gap_before first element
text_push first (one ∷ more) element =
    others_behind first one (tuple_of (more ++ element ∷ []))
    ∙ ap (λ (t : List ℕ). elements_text first (before one Empty) ++ t) (text_push false more element ∙ later more)
    ∙ four (elements_text first (before one Empty)) (elements_text false (tuple_of more)) (gap false) (elements_text true (before element Empty))
    ∙ ap (λ (t : List ℕ). t ++ gap false ++ elements_text true (before element Empty)) (sym (others_behind first one (tuple_of more)))
  where
    later : (list : List Elem) → elements_text false (tuple_of more) ++ gap (is_first list false) ++ elements_text true (before element Empty)
        ≡ elements_text false (tuple_of more) ++ gap false ++ elements_text true (before element Empty)
    later [] = refl
    later (x ∷ xs) = refl

    four : (a b c d : List ℕ) → a ++ ((b ++ c) ++ d) ≡ ((a ++ b) ++ c) ++ d
    four a b c d = simp append_assoc refl

is_first_taken : (elements : List Elem) (i : ℕ) → i < length elements → is_first (take i elements) true ≡ (i == 0)
is_first_taken elements zero h = refl
is_first_taken [] (suc i) h = absurd (omega arith)
is_first_taken (one ∷ more) (suc i) h = sym (ne_eqb (suc i) 0 (λ e. omega arith))

-- the elements up to a place and the one there
pub text_more : (elements : List Elem) (i : ℕ) (element : Elem) → i < length elements → element ≡ get_or elements i element
    → elements_text true (tuple_of (take (i + 1) elements))
    ≡ elements_text true (tuple_of (take i elements)) ++ gap (i == 0) ++ elements_text true (before element Empty)
text_more elements i element lt is =
    let more : take (i + 1) elements ≡ take i elements ++ element ∷ [] = take_more elements i element lt ∙ ap (λ (last : Elem). take i elements ++ last ∷ []) (sym is) in
    ap (λ (front : List Elem). elements_text true (tuple_of front)) more ∙ text_push true (take i elements) element
    ∙ ap (λ (b : Bool). elements_text true (tuple_of (take i elements)) ++ gap b ++ elements_text true (before element Empty)) (is_first_taken elements i lt)
