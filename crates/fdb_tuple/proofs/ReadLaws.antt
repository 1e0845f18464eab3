-- The laws of reading a tuple: what is read is spelled so, what is spelled is read again, and what is refused has the
-- fault of the first faulty element, and no other.
use Rattle.std.proofs.Common.{◌≡◌, ◌≢◌, ℕ, suc, ◌+◌, false, List, [], ◌++◌, length, Result, Ok, Err, sym, ap, subst, ◌∙◌, arith, append_assoc}
use Rattle.std.proofs.lemmas.List.{append-nil}
use Rattle.fdb_tuple.specs.declared.fault.UnpackFault.{UnpackFault}
use Rattle.fdb_tuple.specs.Tuples.{Elements, Empty, IsTuple}
use Rattle.fdb_tuple.specs.Spelling.{spelled_in, spelling}
use Rattle.fdb_tuple.specs.Reading.{◌>>=◌, TupleRead, elements_at, read_tuple}
use Rattle.fdb_tuple.specs.Stops.{opened, Stops}
use Rattle.fdb_tuple.proofs.ByteLists.{AreBytes}
use Rattle.fdb_tuple.proofs.ElementsFound.{ElementsAre, StopsIn, elements_found}
use Rattle.fdb_tuple.proofs.ElementsAgain.{ReadsTo, reads_nothing, after_front-end, reads_front, reads_stop}

-- what reading a tuple may give
abbrev TupleIs : List ℕ → Result Elements UnpackFault → Type 0
TupleIs bytes (Ok tuple) = IsTuple tuple × (bytes ≡ spelling tuple)
TupleIs bytes (Err f) = StopsIn (length bytes) 0 bytes f

-- the elements at the top, up to the end of the input
all_read : (bytes : List ℕ) (read : TupleRead) → ElementsAre (length bytes) 0 bytes read → TupleIs bytes (read >>= (λ x. Ok x.0))
all_read bytes (Ok x) is = ((is.are_elements, omega (arith, is.shallow)), is.parts ∙ ap (λ (t : List ℕ). spelling x.0 ++ t) is.end.0 ∙ append-nil (spelling x.0))
all_read bytes (Err f) is = is

tuple_is : (bytes : List ℕ) → AreBytes bytes → TupleIs bytes (read_tuple bytes)
unfolding read_tuple
tuple_is bytes are = all_read bytes (elements_at (suc (length bytes)) (length bytes) 0 bytes) (elements_found (suc (length bytes)) (length bytes) 0 bytes (omega arith) (omega arith) are)

pub read_tuple_found : (bytes : List ℕ) (tuple : Elements) → AreBytes bytes → read_tuple bytes ≡ Ok tuple
    → IsTuple tuple × (bytes ≡ spelling tuple)
read_tuple_found bytes tuple are e = subst (TupleIs bytes) e (tuple_is bytes are)

pub read_tuple_again : (tuple : Elements) → IsTuple tuple → read_tuple (spelling tuple) ≡ Ok tuple
unfolding read_tuple
read_tuple_again tuple is =
    let bytes = spelling tuple in
    let whole = length bytes in
    let front = reads_front whole 0 tuple [] (Ok (Empty, [])) is.0 (omega (arith, is.1)) (λ _. tt) (reads_nothing whole) in
    let reads = subst (λ (t : List ℕ). ReadsTo whole 0 t (Ok (tuple, []))) (append-nil bytes) (subst (ReadsTo whole 0 (bytes ++ [])) (after_front-end tuple []) front) in
    ap (λ (r : TupleRead). r >>= (λ x. Ok x.0)) (reads (suc whole) (omega arith))

-- refused bytes spell no tuple, since what is spelled is read
no_spelling : (bytes : List ℕ) (f : UnpackFault) → read_tuple bytes ≡ Err f → (tuple : Elements) → IsTuple tuple → bytes ≢ spelling tuple
no_spelling bytes f refused tuple is e = absurd (let read = ap read_tuple e ∙ read_tuple_again tuple is in cc)

Stops-found : (bytes : List ℕ) (f : UnpackFault) → StopsIn (length bytes) 0 bytes f
    → ((tuple : Elements) → IsTuple tuple → bytes ≢ spelling tuple) → Stops bytes f
Stops-found bytes f is none =
    let inside : 0 + length is.inner ≡ length is.inner = omega arith in
    record {
      elements = is.elements;
      are_elements = (is.are_elements, omega (arith, is.shallow));
      inner = is.inner;
      are_open = is.are_open;
      rest = is.rest;
      begins = is.begins;
      ends = is.ends;
      is_faulty = rw inside at is.is_faulty;
      is_no_spelling = none;
    }

pub read_tuple_stops : (bytes : List ℕ) (f : UnpackFault) → AreBytes bytes → read_tuple bytes ≡ Err f → Stops bytes f
read_tuple_stops bytes f are e = Stops-found bytes f (subst (TupleIs bytes) e (tuple_is bytes are)) (no_spelling bytes f e)

pub read_tuple_refuses : (bytes : List ℕ) (f : UnpackFault) → Stops bytes f → read_tuple bytes ≡ Err f
unfolding read_tuple
read_tuple_refuses bytes f is =
    let whole = length bytes in
    let inside : length is.inner ≡ 0 + length is.inner = omega arith in
    let reads = reads_stop whole 0 is.elements is.inner is.rest f is.are_elements.0 (omega (arith, is.are_elements.1)) is.are_open is.ends (rw inside at is.is_faulty) in
    let there = subst (λ (t : List ℕ). ReadsTo whole 0 t (Err f)) (sym (is.begins ∙ append_assoc (spelled_in false is.elements) (opened is.inner) is.rest)) reads in
    ap (λ (r : TupleRead). r >>= (λ x. Ok x.0)) (there (suc whole) (omega arith))
