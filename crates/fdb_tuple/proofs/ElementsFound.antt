-- What reading elements gives: they are spelled up to their end, or the first faulty one has the fault.
use Rattle.std.proofs.Common.{◌≡◌, ℕ, zero, suc, ◌+◌, ◌<◌, ◌≤◌, Bool, true, List, [], ◌∷◌, ◌++◌, length, Result, Ok, Err, refl, sym, ap, subst, ◌∙◌, arith, length-append, append_assoc}
use Rattle.fdb_tuple.specs.declared.fault.UnpackFault.{UnpackFault}
use Rattle.fdb_tuple.specs.declared.tuple.Elem.{Elem}
use Rattle.fdb_tuple.specs.declared.tuple.Elem.TheVariants as elem
use Rattle.fdb_tuple.specs.declared.piece.Piece.{Piece}
use Rattle.fdb_tuple.specs.declared.piece.Piece.TheVariants as piece
use Rattle.fdb_tuple.specs.Tuples.{Scalar, Elements, Empty, Single, Nested, AreElements, depth_of}
use Rattle.fdb_tuple.specs.Listed.{before, before-element_of}
use Rattle.fdb_tuple.specs.Zeros.{IsNoEscape}
use Rattle.fdb_tuple.specs.Spelling.{scalar_spelled, spelled_in}
use Rattle.fdb_tuple.specs.Reading.{◌>>=◌, TupleRead, before_others, going_on, piece_at, elements_at}
use Rattle.fdb_tuple.specs.Stops.{IsString, EndsByZero, innermost, opened, AreOpen, IsFaulty}
use Rattle.fdb_tuple.proofs.ByteLists.{AreBytes}
use Rattle.fdb_tuple.proofs.Begins.{some_byte}
use Rattle.fdb_tuple.proofs.Taken.{Taken}
use Rattle.fdb_tuple.proofs.PieceLaws.{is_inside, IsEnd, PieceIs, piece_found}

-- these elements come first, and then the end of the tuple that they are in
pub record ReadIn (around : ℕ) (bytes : List ℕ) (elements : Elements) (after : List ℕ) : Type 0 where
  pub are_elements : AreElements elements
  pub shallow : around + depth_of elements ≤ 100
  pub left : List ℕ
  pub parts : bytes ≡ spelled_in (is_inside around) elements ++ left
  pub end : IsEnd around left after

-- whole elements come first, in so many open tuples, then some in each of further ones, and then what is faulty
pub record StopsIn (whole around : ℕ) (bytes : List ℕ) (fault : UnpackFault) : Type 0 where
  pub elements : Elements
  pub are_elements : AreElements elements
  pub shallow : around + depth_of elements ≤ 100
  pub inner : List Elements
  pub are_open : AreOpen around inner
  pub rest : List ℕ
  pub begins : bytes ≡ spelled_in (is_inside around) elements ++ opened inner ++ rest
  pub ends : EndsByZero (innermost elements inner) → IsNoEscape rest
  pub is_faulty : IsFaulty whole (around + length inner) rest fault

-- what reading elements may give
abbrev pub ElementsAre : ℕ → ℕ → List ℕ → TupleRead → Type 0
ElementsAre whole around bytes (Ok x) = ReadIn around bytes x.0 x.1
ElementsAre whole around bytes (Err f) = StopsIn whole around bytes f

AreBytes-back : (front rest : List ℕ) → AreBytes (front ++ rest) → AreBytes rest
AreBytes-back [] rest are = are
AreBytes-back (b ∷ front) rest are = AreBytes-back front rest are.1

-- ---- a scalar comes first

ends_after-scalar : (nested : Bool) (scalar : Scalar) (elements : Elements) (inner : List Elements) (rest : List ℕ)
    → (IsString scalar → IsNoEscape (spelled_in nested elements ++ opened inner ++ rest)) → (EndsByZero (innermost elements inner) → IsNoEscape rest) → EndsByZero (innermost (Single scalar elements) inner) → IsNoEscape rest
ends_after-scalar nested scalar elements (deeper ∷ inner) rest string ends = ends
ends_after-scalar nested scalar Empty [] rest string ends = string
ends_after-scalar nested scalar (Single second others) [] rest string ends = ends
ends_after-scalar nested scalar (Nested second others) [] rest string ends = ends

after_scalar : (whole around : ℕ) (bytes : List ℕ) (element : Elem) (after : List ℕ) (read : TupleRead)
    → Taken (is_inside around) bytes element after → ElementsAre whole around after read
    → ElementsAre whole around bytes (before_others element read)
after_scalar whole around bytes element after (Ok x) taken is =
    let same : Single taken.scalar x.0 ≡ before element x.0 = sym (ap (λ (e : Elem). before e x.0) taken.element_is ∙ before-element_of taken.scalar x.0) in
    subst (λ (t : Elements). ReadIn around bytes t x.1) same (record {
      are_elements = (taken.is_scalar, is.are_elements);
      shallow = is.shallow;
      left = is.left;
      parts = taken.parts ∙ ap (λ (t : List ℕ). scalar_spelled (is_inside around) taken.scalar ++ t) is.parts
          ∙ sym (append_assoc (scalar_spelled (is_inside around) taken.scalar) (spelled_in (is_inside around) x.0) is.left);
      end = is.end;
    })
after_scalar whole around bytes element after (Err f) taken is = record {
  elements = Single taken.scalar is.elements;
  are_elements = (taken.is_scalar, is.are_elements);
  shallow = is.shallow;
  inner = is.inner;
  are_open = is.are_open;
  rest = is.rest;
  begins = taken.parts ∙ ap (λ (t : List ℕ). scalar_spelled (is_inside around) taken.scalar ++ t) is.begins ∙ simp append_assoc;
  ends = ends_after-scalar (is_inside around) taken.scalar is.elements is.inner is.rest (λ string. subst IsNoEscape is.begins (taken.ends string)) is.ends;
  is_faulty = is.is_faulty;
}

-- ---- a nested tuple comes first

ends_after-nested : (nested : Bool) (first elements : Elements) (inner : List Elements) (rest : List ℕ)
    → IsNoEscape (spelled_in nested elements ++ opened inner ++ rest) → (EndsByZero (innermost elements inner) → IsNoEscape rest) → EndsByZero (innermost (Nested first elements) inner) → IsNoEscape rest
ends_after-nested nested first elements (deeper ∷ inner) rest end ends = ends
ends_after-nested nested first Empty [] rest end ends = λ _. end
ends_after-nested nested first (Single second others) [] rest end ends = ends
ends_after-nested nested first (Nested second others) [] rest end ends = ends

nested_rebuilt : (first left after others rest : List ℕ) → after ≡ first ++ left → left ≡ 0 ∷ others → others ≡ rest
    → 5 ∷ after ≡ 5 ∷ first ++ 0 ∷ rest
nested_rebuilt first left after others rest e d c = ap (λ (t : List ℕ). 5 ∷ t) (e ∙ ap (λ (t : List ℕ). first ++ t) (d ∙ ap (λ (t : List ℕ). 0 ∷ t) c))

after_nested : (whole around : ℕ) (after : List ℕ) (first : Elements) (others : List ℕ) (read : TupleRead)
    → ReadIn (suc around) after first others → ElementsAre whole around others read
    → ElementsAre whole around (5 ∷ after) (before_others (elem.Nested first) read)
after_nested whole around after first others (Ok x) inside is = record {
  are_elements = (inside.are_elements, is.are_elements);
  shallow = omega (arith, inside.shallow, is.shallow);
  left = is.left;
  parts = nested_rebuilt (spelled_in true first) inside.left after others (spelled_in (is_inside around) x.0 ++ is.left) inside.parts inside.end.0 is.parts ∙ simp append_assoc;
  end = is.end;
}
after_nested whole around after first others (Err f) inside is = record {
  elements = Nested first is.elements;
  are_elements = (inside.are_elements, is.are_elements);
  shallow = omega (arith, inside.shallow, is.shallow);
  inner = is.inner;
  are_open = is.are_open;
  rest = is.rest;
  begins = nested_rebuilt (spelled_in true first) inside.left after others (spelled_in (is_inside around) is.elements ++ opened is.inner ++ is.rest) inside.parts inside.end.0 is.begins ∙ simp append_assoc;
  ends = ends_after-nested (is_inside around) first is.elements is.inner is.rest (subst IsNoEscape is.begins inside.end.1) is.ends;
  is_faulty = is.is_faulty;
}

-- ---- the fault is in a nested tuple that comes first

in_nested : (whole around : ℕ) (after : List ℕ) (f : UnpackFault) → around ≤ 100 → StopsIn whole (suc around) after f
    → StopsIn whole around (5 ∷ after) f
in_nested whole around after f le is =
    let one : around + 1 ≡ suc around = omega arith in
    let deep : around + suc (length is.inner) ≡ suc around + length is.inner = omega arith in
    record {
      elements = Empty;
      are_elements = tt;
      shallow = omega arith;
      inner = is.elements ∷ is.inner;
      are_open = (is.are_elements, omega (arith, is.shallow), rw one is.are_open);
      rest = is.rest;
      begins = ap (λ (t : List ℕ). 5 ∷ t) is.begins;
      ends = is.ends;
      is_faulty = rw deep is.is_faulty;
    }

-- ---- piece by piece

-- a reader of elements in so many open tuples, at fewer bytes than these
abbrev Reads : ℕ → ℕ → List ℕ → (List ℕ → TupleRead) → Type 0
Reads whole around bytes reader = (rest : List ℕ) → length rest < length bytes → AreBytes rest → ElementsAre whole around rest (reader rest)

opened_found : (whole around : ℕ) (after : List ℕ) (onward : List ℕ → TupleRead) (read : TupleRead) → around ≤ 100 → AreBytes after
    → Reads whole around (5 ∷ after) onward → ElementsAre whole (suc around) after read
    → ElementsAre whole around (5 ∷ after) (read >>= (λ inner. before_others (elem.Nested inner.0) (onward inner.1)))
opened_found whole around after onward (Ok x) le are on is =
    let parts : after ≡ spelled_in true x.0 ++ 0 ∷ x.1 = is.parts ∙ ap (λ (t : List ℕ). spelled_in true x.0 ++ t) is.end.0 in
    let less : length x.1 < length (5 ∷ after) = omega (arith, ap length parts, length-append (spelled_in true x.0) (0 ∷ x.1)) in
    let rest_are = AreBytes-back (spelled_in true x.0) (0 ∷ x.1) (subst AreBytes parts are) in
    after_nested whole around after x.0 x.1 (onward x.1) is (on x.1 less rest_are.1)
opened_found whole around after onward (Err f) le are on is = in_nested whole around after f le is

found_on : (whole around : ℕ) (bytes : List ℕ) (inside onward : List ℕ → TupleRead) (read : Result (Piece × List ℕ) UnpackFault)
    → around ≤ 100 → AreBytes bytes
    → (suc around ≤ 100 → Reads whole (suc around) bytes inside) → Reads whole around bytes onward → PieceIs (IsFaulty whole around bytes) around bytes read
    → ElementsAre whole around bytes (read >>= going_on inside onward)
found_on whole around bytes inside onward (Ok (piece.Ends, after)) le are deeper on is =
    record { are_elements = tt; shallow = omega arith; left = bytes; parts = refl; end = is }
found_on whole around bytes inside onward (Ok (piece.Opens, after)) le are deeper on is =
    let less : length after < length bytes = omega (arith, ap length is.0) in
    let after_are = (subst AreBytes is.0 are).1 in
    let read = deeper (omega (arith, is.1)) after less after_are in
    rw is.0 (opened_found whole around after onward (inside after) le after_are (subst (λ (t : List ℕ). Reads whole around t onward) is.0 on) read)
found_on whole around bytes inside onward (Ok (piece.Holds element, after)) le are deeper on is =
    let spelled = scalar_spelled (is_inside around) is.scalar in
    let less : length after < length bytes = omega (arith, ap length is.parts, length-append spelled after, some_byte (is_inside around) is.scalar) in
    after_scalar whole around bytes element after (onward after) is (on after less (AreBytes-back spelled after (subst AreBytes is.parts are)))
found_on whole around bytes inside onward (Err f) le are deeper on is =
    let none : around + 0 ≡ around = omega arith in
    record { elements = Empty; are_elements = tt; shallow = omega arith; inner = []; are_open = le; rest = bytes; begins = refl; ends = λ none. absurd none; is_faulty = rw none is }

pub elements_found : (most whole around : ℕ) (bytes : List ℕ) → length bytes < most → around ≤ 100 → AreBytes bytes
    → ElementsAre whole around bytes (elements_at most whole around bytes)
unfolding elements_at
elements_found zero whole around bytes lt le are = absurd (omega arith)
elements_found (suc most) whole around bytes lt le are =
    found_on whole around bytes (elements_at most whole (suc around)) (elements_at most whole around) (piece_at whole around bytes) le are
    (λ deeper rest less rest_are. elements_found most whole (suc around) rest (omega arith) deeper rest_are)
    (λ rest less rest_are. elements_found most whole around rest (omega arith) le rest_are)
    (piece_found whole around bytes are)
