-- Elements that are spelled are read again, and reading goes on behind them.
use Rattle.std.proofs.Common.{◌≡◌, ℕ, zero, suc, ◌+◌, ◌<◌, ◌≤◌, true, List, [], ◌∷◌, ◌++◌, length, Ok, Err, refl, sym, ap, subst, arith, length-append, append_assoc}
use Rattle.std.proofs.lemmas.Bool.{ne_eqb}
use Rattle.fdb_tuple.specs.declared.fault.UnpackFault.{UnpackFault}
use Rattle.fdb_tuple.specs.declared.tuple.Elem.TheVariants as elem
use Rattle.fdb_tuple.specs.declared.piece.Piece.TheVariants as piece
use Rattle.fdb_tuple.specs.Tuples.{Scalar, Elements, Empty, Single, Nested, IsScalar, AreElements, depth_of}
use Rattle.fdb_tuple.specs.Listed.{element_of, before-element_of}
use Rattle.fdb_tuple.specs.Zeros.{IsNoEscape}
use Rattle.fdb_tuple.specs.Spelling.{scalar_spelled, spelled_in}
use Rattle.fdb_tuple.specs.Kinds.{kind_of}
use Rattle.fdb_tuple.specs.Reading.{TupleRead, before_others, coded_at, piece_at, elements_at}
use Rattle.fdb_tuple.specs.Stops.{IsString, EndsByZero, innermost, opened, AreOpen, IsFaulty}
use Rattle.fdb_tuple.proofs.Begins.{some_byte, IsNoEscape-spelled_in, EndsByZero-single, EndsByZero-nested}
use Rattle.fdb_tuple.proofs.PieceLaws.{is_inside, scalar_again, piece_refused}

-- reading elements gives this, wherever the number of pieces suffices
abbrev pub ReadsTo : ℕ → ℕ → List ℕ → TupleRead → Type 0
ReadsTo whole around bytes read = (most : ℕ) → length bytes < most → elements_at most whole around bytes ≡ read

pub reads_nothing : (whole : ℕ) → ReadsTo whole 0 [] (Ok (Empty, []))
unfolding elements_at piece_at
reads_nothing whole zero lt = absurd (omega arith)
reads_nothing whole (suc most) lt = refl

reads_end : (whole around : ℕ) (rest : List ℕ) → IsNoEscape rest → ReadsTo whole (suc around) (0 ∷ rest) (Ok (Empty, rest))
unfolding elements_at piece_at coded_at kind_of
reads_end whole around rest end zero lt = absurd (omega arith)
reads_end whole around [] end (suc most) lt = refl
reads_end whole around (b ∷ rest) end (suc most) lt = rw (ne_eqb b 0xFF end) refl

reads_fault : (whole around : ℕ) (bytes : List ℕ) (f : UnpackFault) → IsFaulty whole around bytes f → ReadsTo whole around bytes (Err f)
unfolding elements_at
reads_fault whole around bytes f is zero lt = absurd (omega arith)
reads_fault whole around bytes f is (suc most) lt = rw (piece_refused whole around bytes f is) refl

reads_scalar : (whole around : ℕ) (scalar : Scalar) (rest : List ℕ) (read : TupleRead) → IsScalar scalar
    → (IsString scalar → IsNoEscape rest) → ReadsTo whole around rest read
    → ReadsTo whole around (scalar_spelled (is_inside around) scalar ++ rest) (before_others (element_of scalar) read)
unfolding elements_at
reads_scalar whole around scalar rest read is end reads zero lt = absurd (omega arith)
reads_scalar whole around scalar rest read is end reads (suc most) lt =
    let spelled = scalar_spelled (is_inside around) scalar in
    rw (scalar_again whole around scalar rest is end) (ap (before_others (element_of scalar)) (reads most (omega (arith, length-append spelled rest, some_byte (is_inside around) scalar))))

-- what an opened tuple begins with
piece_at-opens : (whole around : ℕ) (rest : List ℕ) → (around ≡ 100 → ⊥) → piece_at whole around (5 ∷ rest) ≡ Ok (piece.Opens, rest)
unfolding piece_at coded_at kind_of
piece_at-opens whole around rest ne = rw (ne_eqb around 100 ne) refl

reads_nested : (whole around : ℕ) (bytes : List ℕ) (inner : Elements) (rest : List ℕ) (read : TupleRead) → (around ≡ 100 → ⊥)
    → length rest ≤ length bytes → ReadsTo whole (suc around) bytes (Ok (inner, rest)) → ReadsTo whole around rest read
    → ReadsTo whole around (5 ∷ bytes) (before_others (elem.Nested inner) read)
unfolding elements_at
reads_nested whole around bytes inner rest read ne less inside reads zero lt = absurd (omega arith)
reads_nested whole around bytes inner rest read ne less inside reads (suc most) lt =
    rw (piece_at-opens whole around bytes ne, inside most (omega arith)) (ap (before_others (elem.Nested inner)) (reads most (omega arith)))

reads_opened : (whole around : ℕ) (bytes : List ℕ) (f : UnpackFault) → (around ≡ 100 → ⊥) → ReadsTo whole (suc around) bytes (Err f)
    → ReadsTo whole around (5 ∷ bytes) (Err f)
unfolding elements_at
reads_opened whole around bytes f ne inside zero lt = absurd (omega arith)
reads_opened whole around bytes f ne inside (suc most) lt = rw (piece_at-opens whole around bytes ne, inside most (omega arith)) refl

-- ---- elements before what is read

-- whole elements, before those that are read after them
abbrev pub after_front : Elements → TupleRead → TupleRead
after_front Empty read = read
after_front (Single scalar rest) read = before_others (element_of scalar) (after_front rest read)
after_front (Nested inner rest) read = before_others (elem.Nested inner) (after_front rest read)

pub after_front-end : (elements : Elements) (rest : List ℕ) → after_front elements (Ok (Empty, rest)) ≡ Ok (elements, rest)
after_front-end Empty rest = refl
after_front-end (Single scalar others) rest = rw (after_front-end others rest) (ap (λ (t : Elements). Ok (t, rest)) (before-element_of scalar others))
after_front-end (Nested inner others) rest = ap (before_others (elem.Nested inner)) (after_front-end others rest)

after_front-fault : (elements : Elements) (f : UnpackFault) → after_front elements (Err f) ≡ Err f
after_front-fault Empty f = refl
after_front-fault (Single scalar rest) f = ap (before_others (element_of scalar)) (after_front-fault rest f)
after_front-fault (Nested inner rest) f = ap (before_others (elem.Nested inner)) (after_front-fault rest f)

pub reads_front : (whole around : ℕ) (elements : Elements) (more : List ℕ) (read : TupleRead) → AreElements elements
    → around + depth_of elements ≤ 100 → (EndsByZero elements → IsNoEscape more) → ReadsTo whole around more read
    → ReadsTo whole around (spelled_in (is_inside around) elements ++ more) (after_front elements read)
reads_front whole around Empty more read are le ends reads = reads
reads_front whole around (Single scalar rest) more read are le ends reads =
    let nested = is_inside around in
    let after = spelled_in nested rest ++ more in
    let end : IsString scalar → IsNoEscape after = λ string. IsNoEscape-spelled_in nested rest more (λ e. ends (rw e string)) in
    let others = reads_front whole around rest more read are.1 le (λ z. ends (EndsByZero-single scalar rest z)) reads in
    rw append_assoc (reads_scalar whole around scalar after (after_front rest read) are.0 end others)
reads_front whole around (Nested inner rest) more read are le ends reads =
    let nested = is_inside around in
    let after = spelled_in nested rest ++ more in
    let end : IsNoEscape after = IsNoEscape-spelled_in nested rest more (λ e. ends (rw e tt)) in
    let others = reads_front whole around rest more read are.1 (omega (arith, le)) (λ z. ends (EndsByZero-nested inner rest z)) reads in
    let first = reads_front whole (suc around) inner (0 ∷ after) (Ok (Empty, after)) are.0 (omega (arith, le)) (λ _ e. omega arith) (reads_end whole around after end) in
    let inside = subst (ReadsTo whole (suc around) (spelled_in true inner ++ 0 ∷ after)) (after_front-end inner after) first in
    let longer = length-append (spelled_in true inner) (0 ∷ after) in
    let parts : 5 ∷ (spelled_in true inner ++ 0 ∷ after) ≡ spelled_in nested (Nested inner rest) ++ more = ap (λ (t : List ℕ). 5 ∷ t) (sym (append_assoc (spelled_in true inner) (0 ∷ spelled_in nested rest) more)) in
    subst (λ (t : List ℕ). ReadsTo whole around t (before_others (elem.Nested inner) (after_front rest read))) parts
    (reads_nested whole around (spelled_in true inner ++ 0 ∷ after) inner after (after_front rest read) (λ e. omega (arith, le)) (omega (arith, longer)) inside others)

-- ---- the faulty element behind whole ones

-- whole elements, and then a fault
reads_before : (whole around : ℕ) (elements : Elements) (more : List ℕ) (f : UnpackFault) → AreElements elements
    → around + depth_of elements ≤ 100 → (EndsByZero elements → IsNoEscape more) → ReadsTo whole around more (Err f)
    → ReadsTo whole around (spelled_in (is_inside around) elements ++ more) (Err f)
reads_before whole around elements more f are le ends reads =
    subst (ReadsTo whole around (spelled_in (is_inside around) elements ++ more)) (after_front-fault elements f) (reads_front whole around elements more (Err f) are le ends reads)

-- the fault of what follows the whole elements of the tuples that are open
pub reads_stop : (whole around : ℕ) (elements : Elements) (inner : List Elements) (rest : List ℕ) (f : UnpackFault) → AreElements elements
    → around + depth_of elements ≤ 100 → AreOpen around inner
    → (EndsByZero (innermost elements inner) → IsNoEscape rest) → IsFaulty whole (around + length inner) rest f → ReadsTo whole around (spelled_in (is_inside around) elements ++ (opened inner ++ rest)) (Err f)
reads_stop whole around elements [] rest f are le open_rest ends is =
    let none : around + 0 ≡ around = omega arith in
    reads_before whole around elements rest f are le ends (reads_fault whole around rest f (rw none at is))
reads_stop whole around elements (deeper ∷ inner) rest f are le open_rest ends is =
    let deep : around + suc (length inner) ≡ suc around + length inner = omega arith in
    let one : around + 1 ≡ suc around = omega arith in
    let inside = reads_stop whole (suc around) deeper inner rest f open_rest.0 (omega (arith, open_rest.1)) (rw one at open_rest.2) ends (rw deep at is) in
    let parts : 5 ∷ (spelled_in true deeper ++ (opened inner ++ rest)) ≡ opened (deeper ∷ inner) ++ rest = ap (λ (t : List ℕ). 5 ∷ t) (sym (append_assoc (spelled_in true deeper) (opened inner) rest)) in
    let opening = reads_opened whole around (spelled_in true deeper ++ (opened inner ++ rest)) f (λ e. omega (arith, open_rest.1)) inside in
    reads_before whole around elements (opened (deeper ∷ inner) ++ rest) f are le (λ _ e. omega arith) (subst (λ (t : List ℕ). ReadsTo whole around t (Err f)) parts opening)
