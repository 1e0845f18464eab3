-- Elements one after the other: enough fuel is enough, and a tuple that was read so far goes on with what is left.
use Rattle.std.proofs.Common.{◌≡◌, ◌≢◌, ℕ, zero, suc, ◌+◌, ◌<◌, ◌≤◌, List, [], ◌∷◌, ◌++◌, length, Result, Ok, Err, IfOk, refl, sym, ap, ◌∙◌, arith}
use Rattle.std.proofs.lemmas.Result.{IfOk-at_ok}
use Rattle.fdb_tuple.specs.declared.fault.UnpackFault.{UnpackFault}
use Rattle.fdb_tuple.specs.declared.fault.UnpackFault.TheVariants as fault
use Rattle.fdb_tuple.specs.declared.tuple.Elem.{Elem}
use Rattle.fdb_tuple.specs.declared.tuple.Elem.TheVariants as elem
use Rattle.fdb_tuple.specs.declared.piece.Piece.{Piece}
use Rattle.fdb_tuple.specs.declared.piece.Piece.TheVariants as piece
use Rattle.fdb_tuple.specs.Tuples.{Elements, Empty, depth_of}
use Rattle.fdb_tuple.specs.Listed.{IsElement, before, tuple_of, elements_of, tuple_of-elements_of}
use Rattle.fdb_tuple.specs.Reading.{◌>>=◌, Fails, TupleRead, before_others, going_on, piece_at, elements_at}
use Rattle.fdb_tuple.proofs.Pieces.{IsLeaf, IsPiece, piece_is}

-- ---- what is read is no deeper than there is room, and no longer than the bytes

abbrev pub IsWithin : ℕ → List ℕ → Elements × List ℕ → Type 0
IsWithin around bytes x = (length x.1 ≤ length bytes) × (around ≤ 100 → around + depth_of x.0 ≤ 100)

depth_of-leaf : (element : Elem) (rest : Elements) → IsLeaf element → depth_of (before element rest) ≡ depth_of rest
depth_of-leaf elem.Null rest leaf = refl
depth_of-leaf (elem.Bytes bytes) rest leaf = refl
depth_of-leaf (elem.Text text) rest leaf = refl
depth_of-leaf (elem.Nested tuple) rest leaf = absurd leaf
depth_of-leaf (elem.Int number) rest leaf = refl
depth_of-leaf (elem.Bool value) rest leaf = refl
depth_of-leaf (elem.Uuid bytes) rest leaf = refl
depth_of-leaf (elem.Stamp stamp) rest leaf = refl

IsElement-leaf : (element : Elem) → IsLeaf element → IsElement element
IsElement-leaf elem.Null leaf = tt
IsElement-leaf (elem.Bytes bytes) leaf = tt
IsElement-leaf (elem.Text text) leaf = tt
IsElement-leaf (elem.Nested tuple) leaf = absurd leaf
IsElement-leaf (elem.Int number) leaf = tt
IsElement-leaf (elem.Bool value) leaf = tt
IsElement-leaf (elem.Uuid bytes) leaf = tt
IsElement-leaf (elem.Stamp stamp) leaf = tt

leaf_within : (around : ℕ) (bytes others : List ℕ) (element : Elem) (read : TupleRead) → length others < length bytes → IsLeaf element
    → IfOk read (IsWithin around others) → IfOk (before_others element read) (IsWithin around bytes)
leaf_within around bytes others element (Ok x) lt leaf h = (omega (arith, h.0), λ le. rw (depth_of-leaf element x.0 leaf) (h.1 le))
leaf_within around bytes others element (Err f) lt leaf h = tt

nested_within : (around : ℕ) (bytes others : List ℕ) (inner : Elements) (read : TupleRead) → length others < length bytes
    → (around ≤ 100 → around + suc (depth_of inner) ≤ 100) → IfOk read (IsWithin around others)
    → IfOk (before_others (elem.Nested inner) read) (IsWithin around bytes)
nested_within around bytes others inner (Ok x) lt room h = (omega (arith, h.0), λ le. omega (arith, room le, h.1 le))
nested_within around bytes others inner (Err f) lt room h = tt

inner_within : (around : ℕ) (bytes others : List ℕ) (onward : List ℕ → TupleRead) (read : TupleRead) → length others < length bytes
    → around ≢ 100 → IfOk read (IsWithin (suc around) others) → ((rest : List ℕ) → IfOk (onward rest) (IsWithin around rest))
    → IfOk (read >>= (λ inner. before_others (elem.Nested inner.0) (onward inner.1))) (IsWithin around bytes)
inner_within around bytes others onward (Ok x) lt ne h k = nested_within around bytes x.1 x.0 (onward x.1) (omega (arith, h.0)) (λ le. omega (arith, h.1 (omega (arith, ne)))) (k x.1)
inner_within around bytes others onward (Err f) lt ne h k = tt

going_within : (around : ℕ) (bytes : List ℕ) (inside onward : List ℕ → TupleRead) (read : Result (Piece × List ℕ) UnpackFault)
    → IfOk read (IsPiece around bytes) → ((rest : List ℕ) → IfOk (inside rest) (IsWithin (suc around) rest))
    → ((rest : List ℕ) → IfOk (onward rest) (IsWithin around rest))
    → IfOk (read >>= going_on inside onward) (IsWithin around bytes)
going_within around bytes inside onward (Ok (piece.Ends, rest)) h i k = (h, λ le. omega arith)
going_within around bytes inside onward (Ok (piece.Opens, rest)) h i k = inner_within around bytes rest onward (inside rest) h.0 h.1 (i rest) k
going_within around bytes inside onward (Ok (piece.Holds element, rest)) h i k = leaf_within around bytes rest element (onward rest) h.0 h.1 (k rest)
going_within around bytes inside onward (Err f) h i k = tt

pub elements_within : (most whole around : ℕ) (bytes : List ℕ) → IfOk (elements_at most whole around bytes) (IsWithin around bytes)
unfolding elements_at
elements_within zero whole around bytes = tt
elements_within (suc most) whole around bytes =
    going_within around bytes (elements_at most whole (suc around)) (elements_at most whole around) (piece_at whole around bytes) (piece_is whole around bytes)
    (λ rest. elements_within most whole (suc around) rest) (λ rest. elements_within most whole around rest)

-- ---- fuel

-- the elements, with fuel for each byte
abbrev pub elements_in : ℕ → ℕ → List ℕ → TupleRead
elements_in whole around bytes = elements_at (suc (length bytes)) whole around bytes

-- two readers that agree on fewer bytes
abbrev Agree : List ℕ → (List ℕ → TupleRead) → (List ℕ → TupleRead) → Type 0
Agree bytes f g = (rest : List ℕ) → length rest < length bytes → f rest ≡ g rest

inner_same : (around : ℕ) (bytes others : List ℕ) (onward onward' : List ℕ → TupleRead) (read : TupleRead) → length others < length bytes
    → IfOk read (IsWithin around others) → Agree bytes onward onward'
    → (read >>= (λ inner. before_others (elem.Nested inner.0) (onward inner.1))) ≡ (read >>= (λ inner. before_others (elem.Nested inner.0) (onward' inner.1)))
inner_same around bytes others onward onward' (Ok x) lt h k = ap (before_others (elem.Nested x.0)) (k x.1 (omega (arith, h.0)))
inner_same around bytes others onward onward' (Err f) lt h k = refl

going_same : (around : ℕ) (bytes : List ℕ) (inside inside' onward onward' : List ℕ → TupleRead) (read : Result (Piece × List ℕ) UnpackFault)
    → IfOk read (IsPiece around bytes) → ((rest : List ℕ) → IfOk (inside rest) (IsWithin (suc around) rest))
    → Agree bytes inside inside' → Agree bytes onward onward' → (read >>= going_on inside onward) ≡ (read >>= going_on inside' onward')
going_same around bytes inside inside' onward onward' (Ok (piece.Ends, rest)) h w i k = refl
going_same around bytes inside inside' onward onward' (Ok (piece.Opens, rest)) h w i k =
    inner_same (suc around) bytes rest onward onward' (inside rest) h.0 (w rest) k
    ∙ ap (λ (r : TupleRead). r >>= (λ inner. before_others (elem.Nested inner.0) (onward' inner.1))) (i rest h.0)
going_same around bytes inside inside' onward onward' (Ok (piece.Holds element, rest)) h w i k = ap (before_others element) (k rest h.0)
going_same around bytes inside inside' onward onward' (Err f) h w i k = refl

elements_at-fuel : (most more whole around : ℕ) (bytes : List ℕ) → length bytes < most → length bytes < more
    → elements_at most whole around bytes ≡ elements_at more whole around bytes
unfolding elements_at
elements_at-fuel zero more whole around bytes lt lt' = absurd (omega arith)
elements_at-fuel (suc most) zero whole around bytes lt lt' = absurd (omega arith)
elements_at-fuel (suc most) (suc more) whole around bytes lt lt' =
    going_same around bytes (elements_at most whole (suc around)) (elements_at more whole (suc around)) (elements_at most whole around) (elements_at more whole around) (piece_at whole around bytes) (piece_is whole around bytes)
    (elements_within most whole (suc around))
    (λ rest less. elements_at-fuel most more whole (suc around) rest (omega arith) (omega arith)) (λ rest less. elements_at-fuel most more whole around rest (omega arith) (omega arith))

pub elements_in-step : (whole around : ℕ) (bytes : List ℕ)
    → elements_in whole around bytes ≡ (piece_at whole around bytes >>= going_on (elements_in whole (suc around)) (elements_in whole around))
unfolding elements_at
elements_in-step whole around bytes =
    let most = length bytes in
    going_same around bytes (elements_at most whole (suc around)) (elements_in whole (suc around)) (elements_at most whole around) (elements_in whole around) (piece_at whole around bytes) (piece_is whole around bytes)
    (elements_within most whole (suc around))
    (λ rest less. elements_at-fuel most (suc (length rest)) whole (suc around) rest less (omega arith)) (λ rest less. elements_at-fuel most (suc (length rest)) whole around rest less (omega arith))

-- ---- a loop that has read `tuple` before `rest`

-- elements that were read before
abbrev followed : List Elem → TupleRead → TupleRead
followed [] read = read
followed (element ∷ others) read = before_others element (followed others read)

followed-push : (elements : List Elem) (element : Elem) (read : TupleRead)
    → followed (elements ++ element ∷ []) read ≡ followed elements (before_others element read)
followed-push [] element read = refl
followed-push (first ∷ others) element read = ap (before_others first) (followed-push others element read)

followed-ends : (elements : List Elem) (rest : List ℕ) → followed elements (Ok (Empty, rest)) ≡ Ok (tuple_of elements, rest)
followed-ends [] rest = refl
followed-ends (first ∷ others) rest = ap (before_others first) (followed-ends others rest)

followed-err : (elements : List Elem) (f : UnpackFault) → followed elements (Err f) ≡ Err f
followed-err [] f = refl
followed-err (first ∷ others) f = ap (before_others first) (followed-err others f)

pub record IsReading (whole around : ℕ) (bytes : List ℕ) (tuple : Elements) (rest : List ℕ) : Type 0 where
  pub within : length rest ≤ length bytes
  pub total : followed (elements_of tuple) (elements_in whole around rest) ≡ elements_in whole around bytes

Fails-along : {X Y : Type 0} (f : UnpackFault) (r : Result X UnpackFault) (s : Result Y UnpackFault) → (r ≡ Err f → s ≡ Err f) → Fails f r
    → Fails f s
Fails-along fault.NoMemory r s h e = tt
Fails-along (fault.Truncated place) r s h e = h e
Fails-along (fault.BadCode place) r s h e = h e
Fails-along (fault.NotMinimal place) r s h e = h e
Fails-along (fault.TooBig place) r s h e = h e
Fails-along (fault.BadUtf8 place) r s h e = h e
Fails-along (fault.TooDeep place) r s h e = h e

module _ (whole around : ℕ) (bytes rest : List ℕ) (tuple : Elements) (reading : IsReading whole around bytes tuple rest) where
  -- after a piece
  step : (r : Result (Piece × List ℕ) UnpackFault) → piece_at whole around rest ≡ r → followed (elements_of tuple) (r >>= going_on (elements_in whole (suc around)) (elements_in whole around)) ≡ elements_in whole around bytes
  step r e = ap (λ (p : Result (Piece × List ℕ) UnpackFault). followed (elements_of tuple) (p >>= going_on (elements_in whole (suc around)) (elements_in whole around))) (sym e) ∙ ap (followed (elements_of tuple)) (sym (elements_in-step whole around rest)) ∙ reading.total

  pub reading_ends : (after : List ℕ) → piece_at whole around rest ≡ Ok (piece.Ends, after) → elements_in whole around bytes ≡ Ok (tuple, after)
  reading_ends after e = sym (step (Ok (piece.Ends, after)) e) ∙ followed-ends (elements_of tuple) after ∙ ap (λ (t : Elements). Ok (t, after)) (tuple_of-elements_of tuple)

  pub reading_holds : (element : Elem) (after : List ℕ) (more : Elements) → piece_at whole around rest ≡ Ok (piece.Holds element, after) → elements_of more ≡ elements_of tuple ++ element ∷ []
      → IsReading whole around bytes more after × (length after < length rest)
  reading_holds element after more e pushed =
      let shorter = IfOk-at_ok (IsPiece around rest) e (piece_is whole around rest) in (
        record {
          within = omega (arith, shorter.0, reading.within);
          total = ap (λ (es : List Elem). followed es (elements_in whole around after)) pushed
              ∙ followed-push (elements_of tuple) element (elements_in whole around after) ∙ step (Ok (piece.Holds element, after)) e;
        },
        shorter.0,
      )

  pub reading_opens : (others : List ℕ) (inner : Elements) (after : List ℕ) (more : Elements) → piece_at whole around rest ≡ Ok (piece.Opens, others) → elements_in whole (suc around) others ≡ Ok (inner, after) → elements_of more ≡ elements_of tuple ++ elem.Nested inner ∷ []
      → IsReading whole around bytes more after × (length after < length rest)
  reading_opens others inner after more e i pushed =
      let shorter = IfOk-at_ok (IsPiece around rest) e (piece_is whole around rest) in
      let within = IfOk-at_ok (IsWithin (suc around) others) i (elements_within (suc (length others)) whole (suc around) others) in
      let opened : (elements_in whole (suc around) others >>= (λ read. before_others (elem.Nested read.0) (elements_in whole around read.1))) ≡ before_others (elem.Nested inner) (elements_in whole around after) = ap (λ (r : TupleRead). r >>= (λ read. before_others (elem.Nested read.0) (elements_in whole around read.1))) i in (
        record {
          within = omega (arith, shorter.0, within.0, reading.within);
          total = ap (λ (es : List Elem). followed es (elements_in whole around after)) pushed
              ∙ followed-push (elements_of tuple) (elem.Nested inner) (elements_in whole around after)
              ∙ ap (followed (elements_of tuple)) (sym opened) ∙ step (Ok (piece.Opens, others)) e;
        },
        omega (arith, shorter.0, within.0),
      )

  -- there is room to open a tuple
  pub reading_deeper : (others : List ℕ) → piece_at whole around rest ≡ Ok (piece.Opens, others) → (length others < length bytes) × (around ≢ 100)
  reading_deeper others e =
      let shorter = IfOk-at_ok (IsPiece around rest) e (piece_is whole around rest) in
      (omega (arith, shorter.0, reading.within), shorter.1)

  pub reading_stops : (f : UnpackFault) → Fails f (piece_at whole around rest) → Fails f (elements_in whole around bytes)
  reading_stops f = Fails-along f (piece_at whole around rest) (elements_in whole around bytes) (λ e. sym (step (Err f) e) ∙ followed-err (elements_of tuple) f)

  pub reading_stops_inside : (others : List ℕ) (f : UnpackFault) → piece_at whole around rest ≡ Ok (piece.Opens, others) → Fails f (elements_in whole (suc around) others) → Fails f (elements_in whole around bytes)
  reading_stops_inside others f e = Fails-along f (elements_in whole (suc around) others) (elements_in whole around bytes)
      (λ i. sym (step (Ok (piece.Opens, others)) e) ∙ ap (λ (r : TupleRead). followed (elements_of tuple) (r >>= (λ read. before_others (elem.Nested read.0) (elements_in whole around read.1)))) i ∙ followed-err (elements_of tuple) f)

pub held_is_element : (whole around : ℕ) (rest after : List ℕ) (element : Elem)
    → piece_at whole around rest ≡ Ok (piece.Holds element, after) → IsElement element
held_is_element whole around rest after element e = IsElement-leaf element (IfOk-at_ok (IsPiece around rest) e (piece_is whole around rest)).1

pub inner_is_element : (whole around : ℕ) (others after : List ℕ) (inner : Elements) → around < 100
    → elements_in whole (suc around) others ≡ Ok (inner, after) → depth_of inner ≤ 99
inner_is_element whole around others after inner lt i =
    let within = IfOk-at_ok (IsWithin (suc around) others) i (elements_within (suc (length others)) whole (suc around) others) in
    omega (arith, within.1 lt)

pub reading_begins : (whole around : ℕ) (bytes : List ℕ) → IsReading whole around bytes Empty bytes
reading_begins whole around bytes = record { within = omega arith; total = refl }
