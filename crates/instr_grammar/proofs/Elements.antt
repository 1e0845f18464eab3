-- Elements that were read are spelled so; enough fuel is enough, and a tuple that was read so far goes on with what is left.
use Rattle.std.proofs.Common.{◌≡◌, ◌≢◌, ℕ, zero, suc, ◌+◌, ◌<◌, ◌≤◌, Bool, true, false, List, [], ◌∷◌, ◌++◌, length, Result, Ok, Err, IfOk, refl, sym, ap, subst, ◌∙◌, append_assoc, arith}
use Rattle.std.proofs.lemmas.Result.{IfOk-at_ok}
use Rattle.std.proofs.lemmas.List.{length-append}
use Rattle.fdb_tuple.specs.declared.tuple.Elem.{Elem}
use Rattle.fdb_tuple.specs.declared.tuple.Elem.TheVariants as elem
use Rattle.fdb_tuple.specs.Tuples.{Scalar, Null, Bytes, Text, Int, Boolean, Uuid, Stamp, Elements, Empty, Single, AreElements, depth_of}
use Rattle.fdb_tuple.specs.Listed.{IsElement, before, element_of, before-element_of, tuple_of, elements_of, tuple_of-elements_of}
use Rattle.dump_reading.specs.declared.field.FieldFault.{FieldFault}
use Rattle.dump_reading.specs.declared.field.FieldFault.TheVariants as faults
use Rattle.dump_reading.specs.FieldAnswers.{Fails}
use Rattle.dump_reading.specs.Fields.{◌>>=◌}
use Rattle.instr_grammar.specs.declared.part.Part.{Part}
use Rattle.instr_grammar.specs.declared.part.Part.TheVariants as part
use Rattle.instr_grammar.specs.Texts.{opening, closing, gap, scalar_text, elements_text}
use Rattle.instr_grammar.specs.Reading.{PartRead, TupleRead, before_others, going_on, next_part, elements_at}
use Rattle.instr_grammar.proofs.Parts.{PartIs, HeldIs, part_found, shorter}

-- ---- what was read

pub record ReadIn (first : Bool) (around : ℕ) (bytes : List ℕ) (elements : Elements) (after : List ℕ) : Type 0 where
  pub are_elements : AreElements elements
  pub shallow : around ≤ 100 → around + depth_of elements ≤ 100
  pub parts : bytes ≡ elements_text first elements ++ closing ∷ after

abbrev pub IsRead : Bool → ℕ → List ℕ → Elements × List ℕ → Type 0
IsRead first around bytes x = ReadIn first around bytes x.0 x.1

pub read_shorter : (first : Bool) (around : ℕ) (bytes : List ℕ) (elements : Elements) (after : List ℕ) → ReadIn first around bytes elements after
    → length after < length bytes
read_shorter first around bytes elements after is =
    omega (arith, ap length is.parts, length-append (elements_text first elements) (closing ∷ after))

after_scalar : (first : Bool) (around : ℕ) (bytes : List ℕ) (element : Elem) (rest : List ℕ) (read : TupleRead) → HeldIs first bytes element rest
    → IfOk read (IsRead false around rest) → IfOk (before_others element read) (IsRead first around bytes)
after_scalar first around bytes element rest (Err left) held is = tt
after_scalar first around bytes element rest (Ok x) held is =
    let same : Single held.scalar x.0 ≡ before element x.0 = sym (ap (λ (e : Elem). before e x.0) held.element_is ∙ before-element_of held.scalar x.0) in
    subst (λ (t : Elements). ReadIn first around bytes t x.1) same (record {
      are_elements = (held.is_scalar, is.are_elements);
      shallow = is.shallow;
      parts = held.parts ∙ ap (λ (t : List ℕ). gap first ++ (scalar_text held.scalar ++ t)) is.parts ∙ simp append_assoc refl;
    })

after_nested : (first : Bool) (around : ℕ) (bytes rest : List ℕ) (inner : Elements) (others : List ℕ) (read : TupleRead)
    → bytes ≡ gap first ++ opening ∷ rest → around ≢ 100 → ReadIn true (suc around) rest inner others
    → IfOk read (IsRead false around others) → IfOk (before_others (elem.Nested inner) read) (IsRead first around bytes)
after_nested first around bytes rest inner others (Err left) e ne inside is = tt
after_nested first around bytes rest inner others (Ok x) e ne inside is = record {
  are_elements = (inside.are_elements, is.are_elements);
  shallow = λ le. omega (arith, inside.shallow (omega (arith, ne)), is.shallow le);
  parts = e ∙ ap (λ (t : List ℕ). gap first ++ opening ∷ t) (inside.parts ∙ ap (λ (t : List ℕ). elements_text true inner ++ closing ∷ t) is.parts)
      ∙ simp append_assoc refl;
}

opened_found : (first : Bool) (around : ℕ) (bytes rest : List ℕ) (onward : List ℕ → TupleRead) (read : TupleRead)
    → bytes ≡ gap first ++ opening ∷ rest → around ≢ 100 → IfOk read (IsRead true (suc around) rest)
    → ((others : List ℕ) → IfOk (onward others) (IsRead false around others))
    → IfOk (read >>= (λ inner. before_others (elem.Nested inner.0) (onward inner.1))) (IsRead first around bytes)
opened_found first around bytes rest onward (Err left) e ne is on = tt
opened_found first around bytes rest onward (Ok x) e ne is on = after_nested first around bytes rest x.0 x.1 (onward x.1) e ne is (on x.1)

found_on : (first : Bool) (around : ℕ) (bytes : List ℕ) (inside onward : List ℕ → TupleRead) (read : PartRead) → IfOk read (PartIs first around bytes)
    → ((rest : List ℕ) → IfOk (inside rest) (IsRead true (suc around) rest)) → ((rest : List ℕ) → IfOk (onward rest) (IsRead false around rest))
    → IfOk (read >>= going_on inside onward) (IsRead first around bytes)
found_on first around bytes inside onward (Ok (part.Ends, rest)) is i k = record { are_elements = tt; shallow = λ le. omega arith; parts = is }
found_on first around bytes inside onward (Ok (part.Opens, rest)) is i k = opened_found first around bytes rest onward (inside rest) is.0 is.1 (i rest) k
found_on first around bytes inside onward (Ok (part.Holds element, rest)) is i k = after_scalar first around bytes element rest (onward rest) is (k rest)
found_on first around bytes inside onward (Err left) is i k = tt

pub elements_found : (most : ℕ) (first : Bool) (around : ℕ) (bytes : List ℕ) → IfOk (elements_at most first around bytes) (IsRead first around bytes)
unfolding elements_at
elements_found zero first around bytes = tt
elements_found (suc most) first around bytes =
    found_on first around bytes (elements_at most true (suc around)) (elements_at most false around) (next_part first around bytes)
    (part_found first around bytes) (λ rest. elements_found most true (suc around) rest) (λ rest. elements_found most false around rest)

-- ---- fuel

abbrev pub elements_in : Bool → ℕ → List ℕ → TupleRead
elements_in first around bytes = elements_at (suc (length bytes)) first around bytes

-- two readers that agree on fewer bytes
abbrev Agree : List ℕ → (List ℕ → TupleRead) → (List ℕ → TupleRead) → Type 0
Agree bytes f g = (rest : List ℕ) → length rest < length bytes → f rest ≡ g rest

inner_same : (around : ℕ) (bytes others : List ℕ) (onward onward' : List ℕ → TupleRead) (read : TupleRead) → length others < length bytes
    → IfOk read (IsRead true around others) → Agree bytes onward onward'
    → (read >>= (λ inner. before_others (elem.Nested inner.0) (onward inner.1))) ≡ (read >>= (λ inner. before_others (elem.Nested inner.0) (onward' inner.1)))
inner_same around bytes others onward onward' (Ok x) lt h k =
    ap (before_others (elem.Nested x.0)) (k x.1 (omega (arith, read_shorter true around others x.0 x.1 h)))
inner_same around bytes others onward onward' (Err f) lt h k = refl

going_same : (first : Bool) (around : ℕ) (bytes : List ℕ) (inside inside' onward onward' : List ℕ → TupleRead) (read : PartRead)
    → IfOk read (PartIs first around bytes) → ((rest : List ℕ) → IfOk (inside rest) (IsRead true (suc around) rest))
    → Agree bytes inside inside' → Agree bytes onward onward' → (read >>= going_on inside onward) ≡ (read >>= going_on inside' onward')
going_same first around bytes inside inside' onward onward' (Ok (part.Ends, rest)) h w i k = refl
going_same first around bytes inside inside' onward onward' (Ok (part.Opens, rest)) h w i k =
    inner_same (suc around) bytes rest onward onward' (inside rest) (shorter first around bytes part.Opens rest h) (w rest) k
    ∙ ap (λ (r : TupleRead). r >>= (λ inner. before_others (elem.Nested inner.0) (onward' inner.1))) (i rest (shorter first around bytes part.Opens rest h))
going_same first around bytes inside inside' onward onward' (Ok (part.Holds element, rest)) h w i k =
    ap (before_others element) (k rest (shorter first around bytes (part.Holds element) rest h))
going_same first around bytes inside inside' onward onward' (Err f) h w i k = refl

elements_at-fuel : (most more : ℕ) (first : Bool) (around : ℕ) (bytes : List ℕ) → length bytes < most → length bytes < more
    → elements_at most first around bytes ≡ elements_at more first around bytes
unfolding elements_at
elements_at-fuel zero more first around bytes lt lt' = absurd (omega arith)
elements_at-fuel (suc most) zero first around bytes lt lt' = absurd (omega arith)
elements_at-fuel (suc most) (suc more) first around bytes lt lt' =
    going_same first around bytes (elements_at most true (suc around)) (elements_at more true (suc around)) (elements_at most false around) (elements_at more false around)
    (next_part first around bytes) (part_found first around bytes) (elements_found most true (suc around))
    (λ rest less. elements_at-fuel most more true (suc around) rest (omega arith) (omega arith))
    (λ rest less. elements_at-fuel most more false around rest (omega arith) (omega arith))

pub elements_in-step : (first : Bool) (around : ℕ) (bytes : List ℕ)
    → elements_in first around bytes ≡ (next_part first around bytes >>= going_on (elements_in true (suc around)) (elements_in false around))
unfolding elements_at
elements_in-step first around bytes =
    let most = length bytes in
    going_same first around bytes (elements_at most true (suc around)) (elements_in true (suc around)) (elements_at most false around) (elements_in false around)
    (next_part first around bytes) (part_found first around bytes) (elements_found most true (suc around))
    (λ rest less. elements_at-fuel most (suc (length rest)) true (suc around) rest less (omega arith))
    (λ rest less. elements_at-fuel most (suc (length rest)) false around rest less (omega arith))

-- ---- a loop that has read `tuple` before `rest`

abbrev followed : List Elem → TupleRead → TupleRead
followed [] read = read
followed (element ∷ others) read = before_others element (followed others read)

followed-push : (elements : List Elem) (element : Elem) (read : TupleRead)
    → followed (elements ++ element ∷ []) read ≡ followed elements (before_others element read)
followed-push [] element read = refl
followed-push (first ∷ others) element read = ap (before_others first) (followed-push others element read)

followed-ends : (elements : List Elem) (rest : List ℕ) → followed elements (Ok (Empty, rest)) ≡ Ok (tuple_of elements, rest)
followed-ends [] rest = refl
followed-ends (first ∷ others) rest = ap (before_others first) (followed-ends others rest)

followed-err : (elements : List Elem) (f : ℕ) → followed elements (Err f) ≡ Err f
followed-err [] f = refl
followed-err (first ∷ others) f = ap (before_others first) (followed-err others f)

pub record IsReading (around : ℕ) (bytes : List ℕ) (tuple : Elements) (first : Bool) (rest : List ℕ) : Type 0 where
  pub within : length rest ≤ length bytes
  pub total : followed (elements_of tuple) (elements_in first around rest) ≡ elements_in true around bytes

pub Fails-along : {X Y : Type 0} (f : FieldFault) (r : Result X ℕ) (s : Result Y ℕ) → ((left : ℕ) → r ≡ Err left → s ≡ Err left) → Fails f r → Fails f s
Fails-along faults.NoMemory r s h e = tt
Fails-along (faults.Bad left) r s h e = h left e

IsElement-scalar : (scalar : Scalar) → IsElement (element_of scalar)
IsElement-scalar Null = tt
IsElement-scalar (Bytes bytes) = tt
IsElement-scalar (Text text) = tt
IsElement-scalar (Int number) = tt
IsElement-scalar (Boolean value) = tt
IsElement-scalar (Uuid bytes) = tt
IsElement-scalar (Stamp stamp user) = tt

module _ (around : ℕ) (bytes rest : List ℕ) (tuple : Elements) (first : Bool) (reading : IsReading around bytes tuple first rest) where
  step : (r : PartRead) → next_part first around rest ≡ r → followed (elements_of tuple) (r >>= going_on (elements_in true (suc around)) (elements_in false around)) ≡ elements_in true around bytes
  step r e = ap (λ (p : PartRead). followed (elements_of tuple) (p >>= going_on (elements_in true (suc around)) (elements_in false around))) (sym e) ∙ ap (followed (elements_of tuple)) (sym (elements_in-step first around rest)) ∙ reading.total

  found : (p : Part) (after : List ℕ) → next_part first around rest ≡ Ok (p, after) → PartIs first around rest (p, after)
  found p after e = IfOk-at_ok (PartIs first around rest) e (part_found first around rest)

  pub reading_ends : (after : List ℕ) → next_part first around rest ≡ Ok (part.Ends, after) → elements_in true around bytes ≡ Ok (tuple, after)
  reading_ends after e = sym (step (Ok (part.Ends, after)) e) ∙ followed-ends (elements_of tuple) after ∙ ap (λ (t : Elements). Ok (t, after)) (tuple_of-elements_of tuple)

  pub reading_holds : (element : Elem) (after : List ℕ) (more : Elements) → next_part first around rest ≡ Ok (part.Holds element, after) → elements_of more ≡ elements_of tuple ++ element ∷ []
      → IsReading around bytes more false after × (length after < length rest)
  reading_holds element after more e pushed =
      let less = shorter first around rest (part.Holds element) after (found (part.Holds element) after e) in (
        record {
          within = omega (arith, less, reading.within);
          total = ap (λ (es : List Elem). followed es (elements_in false around after)) pushed
              ∙ followed-push (elements_of tuple) element (elements_in false around after) ∙ step (Ok (part.Holds element, after)) e;
        },
        less,
      )

  pub reading_opens : (others : List ℕ) (inner : Elements) (after : List ℕ) (more : Elements) → next_part first around rest ≡ Ok (part.Opens, others) → elements_in true (suc around) others ≡ Ok (inner, after) → elements_of more ≡ elements_of tuple ++ elem.Nested inner ∷ []
      → IsReading around bytes more false after × (length after < length rest)
  reading_opens others inner after more e i pushed =
      let less = shorter first around rest part.Opens others (found part.Opens others e) in
      let inside = IfOk-at_ok (IsRead true (suc around) others) i (elements_found (suc (length others)) true (suc around) others) in
      let lesser = read_shorter true (suc around) others inner after inside in
      let opened : (elements_in true (suc around) others >>= (λ read. before_others (elem.Nested read.0) (elements_in false around read.1))) ≡ before_others (elem.Nested inner) (elements_in false around after) = ap (λ (r : TupleRead). r >>= (λ read. before_others (elem.Nested read.0) (elements_in false around read.1))) i in (
        record {
          within = omega (arith, less, lesser, reading.within);
          total = ap (λ (es : List Elem). followed es (elements_in false around after)) pushed
              ∙ followed-push (elements_of tuple) (elem.Nested inner) (elements_in false around after)
              ∙ ap (followed (elements_of tuple)) (sym opened) ∙ step (Ok (part.Opens, others)) e;
        },
        omega (arith, less, lesser),
      )

  pub reading_deeper : (others : List ℕ) → next_part first around rest ≡ Ok (part.Opens, others) → (length others < length bytes) × (around ≢ 100)
  reading_deeper others e =
      let is = found part.Opens others e in
      (omega (arith, shorter first around rest part.Opens others is, reading.within), is.1)

  pub reading_stops : (f : FieldFault) → Fails f (next_part first around rest) → Fails f (elements_in true around bytes)
  reading_stops f = Fails-along f (next_part first around rest) (elements_in true around bytes) (λ left e. sym (step (Err left) e) ∙ followed-err (elements_of tuple) left)

  pub reading_stops_inside : (others : List ℕ) (f : FieldFault) → next_part first around rest ≡ Ok (part.Opens, others) → Fails f (elements_in true (suc around) others) → Fails f (elements_in true around bytes)
  reading_stops_inside others f e = Fails-along f (elements_in true (suc around) others) (elements_in true around bytes)
      (λ left i. sym (step (Ok (part.Opens, others)) e) ∙ ap (λ (r : TupleRead). followed (elements_of tuple) (r >>= (λ read. before_others (elem.Nested read.0) (elements_in false around read.1)))) i ∙ followed-err (elements_of tuple) left)

  pub held_is_element : (element : Elem) (after : List ℕ) → next_part first around rest ≡ Ok (part.Holds element, after) → IsElement element
  held_is_element element after e =
      let is = found (part.Holds element) after e in subst IsElement (sym is.element_is) (IsElement-scalar is.scalar)

pub inner_is_element : (around : ℕ) (others after : List ℕ) (inner : Elements) → around < 100
    → elements_in true (suc around) others ≡ Ok (inner, after) → depth_of inner ≤ 99
inner_is_element around others after inner lt i =
    let inside = IfOk-at_ok (IsRead true (suc around) others) i (elements_found (suc (length others)) true (suc around) others) in
    omega (arith, inside.shallow lt)

pub reading_begins : (around : ℕ) (bytes : List ℕ) → IsReading around bytes Empty true bytes
reading_begins around bytes = record { within = omega arith; total = refl }
