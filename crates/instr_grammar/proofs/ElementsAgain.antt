-- Elements that are spelled are read.
use Rattle.std.proofs.Common.{◌≡◌, ℕ, zero, suc, ◌+◌, ◌<◌, ◌≤◌, Bool, true, false, ◌==◌, List, [], ◌∷◌, ◌++◌, length, pos, negsuc, Ok, refl, sym, ap, subst, ◌∙◌, append_assoc, arith}
use Rattle.std.specs.Fmt.{decimal}
use Rattle.std.specs.List.{list_all}
use Rattle.std.proofs.lemmas.Bool.{ne_eqb, and_parts, le-ltb}
use Rattle.std.proofs.lemmas.Bool.Decides.{nat_tests}
use Rattle.std.proofs.lemmas.List.{length-append}
use Rattle.model_input.specs.Orders.{is_digit}
use Rattle.fdb_tuple.specs.declared.tuple.Elem.{Elem}
use Rattle.fdb_tuple.specs.declared.tuple.Elem.TheVariants as elem
use Rattle.fdb_tuple.specs.Tuples.{Scalar, Null, Bytes, Text, Int, Boolean, Uuid, Stamp, Elements, Empty, Single, Nested, IsScalar, AreElements, depth_of, greatest_magnitude}
use Rattle.fdb_tuple.specs.Listed.{element_of, before-element_of}
use Rattle.dump_reading.proofs.Numbers.{AreDigits, digits_of_number, some_digits}
use Rattle.instr_grammar.specs.declared.part.Part.TheVariants as part
use Rattle.instr_grammar.specs.Texts.{opening, closing, gap, scalar_text, elements_text, IsOperand}
use Rattle.instr_grammar.specs.Reading.{TupleRead, before_others, scalar_at, element_part, next_part, elements_at, operand_at}
use Rattle.instr_grammar.proofs.Again.{Ends, scalar_again}
use Rattle.instr_grammar.proofs.Parts.{some_text}

-- ---- what a scalar's text begins with

record Begins (text : List ℕ) : Type 0 where
  byte : ℕ
  tail : List ℕ
  is : text ≡ byte ∷ tail
  no_opening : (byte == opening) ≡ false
  no_closing : (byte == closing) ≡ false

digits_begin : (digits : List ℕ) → AreDigits digits → 0 < length digits → Begins digits
digits_begin [] are some = absurd (omega arith)
digits_begin (digit ∷ digits) are some =
    let is = (and_parts (is_digit digit) (list_all is_digit digits) are).0 in
    record { byte = digit; tail = digits; is = refl; no_opening = grind (arith, nat_tests); no_closing = grind (arith, nat_tests) }

is_small : (n : ℕ) → IsScalar (Int (pos n)) → n ≤ greatest_magnitude false
is_small n h = rw (le-ltb n 0 (omega arith)) at h

text_begins : (scalar : Scalar) → IsScalar scalar → Begins (scalar_text scalar)
unfolding scalar_text
text_begins Null is = record { byte = _; tail = _; is = refl; no_opening = refl; no_closing = refl }
text_begins (Bytes bytes) is = record { byte = _; tail = _; is = refl; no_opening = refl; no_closing = refl }
text_begins (Text text) is = record { byte = _; tail = _; is = refl; no_opening = refl; no_closing = refl }
text_begins (Int (pos n)) is = digits_begin (decimal n) (digits_of_number n (omega (arith, is_small n is))) (some_digits n (omega (arith, is_small n is)))
text_begins (Int (negsuc n)) is = record { byte = _; tail = _; is = refl; no_opening = refl; no_closing = refl }
text_begins (Boolean false) is = record { byte = _; tail = _; is = refl; no_opening = refl; no_closing = refl }
text_begins (Boolean true) is = record { byte = _; tail = _; is = refl; no_opening = refl; no_closing = refl }
text_begins (Uuid uuid) is = record { byte = _; tail = _; is = refl; no_opening = refl; no_closing = refl }
text_begins (Stamp stamp user) is = record { byte = _; tail = _; is = refl; no_opening = refl; no_closing = refl }

-- ---- parts

part_by : (around byte : ℕ) (tail : List ℕ) (element : Elem) (rest : List ℕ) → (byte == opening) ≡ false
    → scalar_at (byte ∷ tail) ≡ Ok (element, rest) → element_part around (byte ∷ tail) ≡ Ok (part.Holds element, rest)
unfolding element_part
part_by around byte tail element rest e read = rw (e, read) refl

next_by : (around byte : ℕ) (tail : List ℕ) → (byte == closing) ≡ false → next_part true around (byte ∷ tail) ≡ element_part around (byte ∷ tail)
unfolding next_part
next_by around byte tail e = rw e refl

pub element_again : (around : ℕ) (scalar : Scalar) (rest : List ℕ) → IsScalar scalar → Ends rest
    → element_part around (scalar_text scalar ++ rest) ≡ Ok (part.Holds (element_of scalar), rest)
element_again around scalar rest is ends =
    let b = text_begins scalar is in
    let e : scalar_text scalar ++ rest ≡ b.byte ∷ (b.tail ++ rest) = ap (λ (x : List ℕ). x ++ rest) b.is in
    ap (element_part around) e ∙ part_by around b.byte (b.tail ++ rest) (element_of scalar) rest b.no_opening (sym (ap scalar_at e) ∙ scalar_again scalar rest is ends)

next_holds : (first : Bool) (around : ℕ) (scalar : Scalar) (rest : List ℕ) → IsScalar scalar → Ends rest
    → next_part first around (gap first ++ (scalar_text scalar ++ rest)) ≡ Ok (part.Holds (element_of scalar), rest)
unfolding next_part
next_holds true around scalar rest is ends =
    let b = text_begins scalar is in
    let e : scalar_text scalar ++ rest ≡ b.byte ∷ (b.tail ++ rest) = ap (λ (x : List ℕ). x ++ rest) b.is in
    ap (next_part true around) e ∙ next_by around b.byte (b.tail ++ rest) b.no_closing ∙ sym (ap (element_part around) e) ∙ element_again around scalar rest is ends
next_holds false around scalar rest is ends = element_again around scalar rest is ends

opens_again : (around : ℕ) (rest : List ℕ) → (around ≡ 100 → ⊥) → element_part around (opening ∷ rest) ≡ Ok (part.Opens, rest)
unfolding element_part
opens_again around rest ne = rw (ne_eqb around 100 ne) refl

next_opens : (first : Bool) (around : ℕ) (rest : List ℕ) → (around ≡ 100 → ⊥) → next_part first around (gap first ++ opening ∷ rest) ≡ Ok (part.Opens, rest)
unfolding next_part
next_opens true around rest ne = opens_again around rest ne
next_opens false around rest ne = opens_again around rest ne

-- ---- elements

abbrev pub ReadsTo : Bool → ℕ → List ℕ → TupleRead → Type 0
ReadsTo first around bytes read = (most : ℕ) → length bytes < most → elements_at most first around bytes ≡ read

reads_end : (first : Bool) (around : ℕ) (more : List ℕ) → ReadsTo first around (closing ∷ more) (Ok (Empty, more))
unfolding elements_at next_part
reads_end first around more zero lt = absurd (omega arith)
reads_end first around more (suc most) lt = refl

reads_scalar : (first : Bool) (around : ℕ) (scalar : Scalar) (rest : List ℕ) (read : TupleRead) → IsScalar scalar → Ends rest → ReadsTo false around rest read
    → ReadsTo first around (gap first ++ (scalar_text scalar ++ rest)) (before_others (element_of scalar) read)
unfolding elements_at
reads_scalar first around scalar rest read is ends reads zero lt = absurd (omega arith)
reads_scalar first around scalar rest read is ends reads (suc most) lt =
    rw (next_holds first around scalar rest is ends)
    (ap (before_others (element_of scalar))
    (reads most (omega (arith, length-append (gap first) (scalar_text scalar ++ rest), length-append (scalar_text scalar) rest, some_text scalar is))))

reads_nested : (first : Bool) (around : ℕ) (bytes : List ℕ) (inner : Elements) (rest : List ℕ) (read : TupleRead) → (around ≡ 100 → ⊥)
    → length rest ≤ length bytes → ReadsTo true (suc around) bytes (Ok (inner, rest)) → ReadsTo false around rest read
    → ReadsTo first around (gap first ++ opening ∷ bytes) (before_others (elem.Nested inner) read)
unfolding elements_at
reads_nested first around bytes inner rest read ne less inside reads zero lt = absurd (omega arith)
reads_nested first around bytes inner rest read ne less inside reads (suc most) lt =
    let lens = length-append (gap first) (opening ∷ bytes) in
    rw (next_opens first around bytes ne, inside most (omega (arith, lens))) (ap (before_others (elem.Nested inner)) (reads most (omega (arith, lens))))

-- no digit follows an element
no_digit : (elements : Elements) (more : List ℕ) → Ends (elements_text false elements ++ closing ∷ more)
no_digit Empty more = refl
no_digit (Single scalar rest) more = refl
no_digit (Nested inner rest) more = refl

pub elements_again : (first : Bool) (around : ℕ) (elements : Elements) (more : List ℕ) → AreElements elements → around + depth_of elements ≤ 100
    → ReadsTo first around (elements_text first elements ++ closing ∷ more) (Ok (elements, more))
elements_again first around Empty more are le = reads_end first around more
elements_again first around (Single scalar rest) more are le =
    let after = elements_text false rest ++ closing ∷ more in
    let others = elements_again false around rest more are.1 le in
    let parts : gap first ++ (scalar_text scalar ++ after) ≡ elements_text first (Single scalar rest) ++ closing ∷ more = simp append_assoc refl in
    let same : before_others (element_of scalar) (Ok (rest, more)) ≡ Ok (Single scalar rest, more) = ap (λ (t : Elements). Ok (t, more)) (before-element_of scalar rest) in
    subst (λ (t : List ℕ). ReadsTo first around t (Ok (Single scalar rest, more))) parts
    (subst (ReadsTo first around (gap first ++ (scalar_text scalar ++ after))) same
    (reads_scalar first around scalar after (Ok (rest, more)) are.0 (no_digit rest more) others))
elements_again first around (Nested inner rest) more are le =
    let after = elements_text false rest ++ closing ∷ more in
    let others = elements_again false around rest more are.1 (omega (arith, le)) in
    let inside = elements_again true (suc around) inner after are.0 (omega (arith, le)) in
    let bytes = elements_text true inner ++ closing ∷ after in
    let parts : gap first ++ opening ∷ bytes ≡ elements_text first (Nested inner rest) ++ closing ∷ more = simp append_assoc refl in
    subst (λ (t : List ℕ). ReadsTo first around t (Ok (Nested inner rest, more))) parts
    (reads_nested first around bytes inner after (Ok (rest, more)) (λ e. omega (arith, le)) (omega (arith, length-append (elements_text true inner) (closing ∷ after))) inside others)

-- ---- the one element of PUSH

nothing_ends : Ends []
nothing_ends = refl

pub operand_again : (operand : Elements) → IsOperand operand → AreElements operand → depth_of operand ≤ 100
    → operand_at (elements_text true operand) ≡ Ok operand
unfolding operand_at
operand_again Empty one are deep = absurd one
operand_again (Single scalar Empty) one are deep =
    rw (element_again 0 scalar [] are.0 nothing_ends) (ap (λ (t : Elements). Ok t) (before-element_of scalar Empty))
operand_again (Nested inner Empty) one are deep =
    rw (
      opens_again 0 (elements_text true inner ++ closing ∷ []) (λ e. omega arith),
      elements_again true 1 inner [] are.0 (omega (arith, deep)) (suc (length (elements_text true inner ++ closing ∷ []))) (omega arith),
    ) refl
operand_again (Single scalar (Single second rest)) one are deep = absurd one
operand_again (Single scalar (Nested second rest)) one are deep = absurd one
operand_again (Nested inner (Single second rest)) one are deep = absurd one
operand_again (Nested inner (Nested second rest)) one are deep = absurd one
