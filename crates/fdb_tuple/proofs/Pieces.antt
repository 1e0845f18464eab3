-- What comes next is shorter than the bytes, and no tuple opens where a hundred are open.
use Rattle.std.proofs.Common.{◌≡◌, ◌≢◌, ℕ, zero, suc, ◌<◌, ◌≤◌, Bool, true, false, cond, ◌==◌, List, [], ◌∷◌, length, take, drop, nat_lt, Option, Some, None, Result, Ok, Err, IfOk, refl, arith}
use Rattle.std.proofs.lemmas.Bool.{eqb-false}
use Rattle.std.proofs.lemmas.List.{length-drop}
use Rattle.fdb_tuple.specs.declared.fault.UnpackFault.{UnpackFault}
use Rattle.fdb_tuple.specs.declared.fault.UnpackFault.TheVariants as fault
use Rattle.fdb_tuple.specs.declared.tuple.Elem.{Elem}
use Rattle.fdb_tuple.specs.declared.tuple.Elem.TheVariants as elem
use Rattle.fdb_tuple.specs.declared.code.Kind.{Kind}
use Rattle.fdb_tuple.specs.declared.code.Kind.TheVariants as kind
use Rattle.fdb_tuple.specs.declared.piece.Piece.{Piece}
use Rattle.fdb_tuple.specs.declared.piece.Piece.TheVariants as piece
use Rattle.std.specs.Int.{w16, from_be_bytes}
use Rattle.std.specs.Str.{is_utf8}
use Rattle.fdb_tuple.specs.Tuples.{greatest_magnitude}
use Rattle.fdb_tuple.specs.Spelling.{signed_byte, with_sign}
use Rattle.fdb_tuple.specs.Kinds.{kind_of}
use Rattle.fdb_tuple.specs.Reading.{◌>>=◌, after_run, string_at, bytes_at, text_at, short_at, sized_at, long_at, uuid_at, stamp_at, leads_with_zero, number_high, int_of, int_by, held, zero_at, coded_at, piece_at}

-- an element that is no tuple
abbrev pub IsLeaf : Elem → Type 0
IsLeaf (elem.Nested tuple) = ⊥
IsLeaf _ = Unit {0}

-- a piece of these bytes with what follows it, where so many tuples are open
abbrev pub IsPiece : ℕ → List ℕ → Piece × List ℕ → Type 0
IsPiece around bytes (piece.Ends, rest) = length rest ≤ length bytes
IsPiece around bytes (piece.Opens, rest) = (length rest < length bytes) × (around ≢ 100)
IsPiece around bytes (piece.Holds element, rest) = (length rest < length bytes) × IsLeaf element

-- an element that is no tuple, with no more bytes after it than there were
abbrev IsHeld : List ℕ → Elem × List ℕ → Type 0
IsHeld bytes x = (length x.1 ≤ length bytes) × IsLeaf x.0

either_ok : {A : Type 0} (b : Bool) (r s : Result A UnpackFault) (P : A → Type 0) → IfOk r P → IfOk s P → IfOk (cond b r s) P
either_ok true r s P h k = h
either_ok false r s P h k = k

-- ---- strings

abbrev IsRest : List ℕ → List ℕ × List ℕ → Type 0
IsRest bytes x = length x.1 ≤ length bytes

run_is_rest : (run bytes more : List ℕ) (read : Result (List ℕ × List ℕ) UnpackFault) → length bytes ≤ length more
    → IfOk read (IsRest bytes) → IfOk (after_run run read) (IsRest more)
run_is_rest run bytes more (Ok s) le h = omega (arith, h)
run_is_rest run bytes more (Err f) le h = tt

string_rest : (whole : ℕ) (bytes : List ℕ) → IfOk (string_at whole bytes) (IsRest bytes)
unfolding string_at
string_rest whole [] = tt
string_rest whole (suc b ∷ rest) = run_is_rest (suc b ∷ []) rest (suc b ∷ rest) (string_at whole rest) (omega arith) (string_rest whole rest)
string_rest whole (zero ∷ []) = omega arith
string_rest whole (zero ∷ b ∷ rest) =
    either_ok (b == 0xFF) (after_run (0 ∷ []) (string_at whole rest)) (Ok ([], b ∷ rest)) (IsRest (0 ∷ b ∷ rest))
    (run_is_rest (0 ∷ []) rest (0 ∷ b ∷ rest) (string_at whole rest) (omega arith) (string_rest whole rest)) (omega arith)

bind_ok : {A B : Type 0} (r : Result A UnpackFault) (f : A → Result B UnpackFault) (P : A → Type 0) (Q : B → Type 0) → IfOk r P
    → ((x : A) → P x → IfOk (f x) Q) → IfOk (r >>= f) Q
bind_ok (Ok x) f P Q h k = k x h
bind_ok (Err e) f P Q h k = tt

bytes_held : (whole : ℕ) (rest : List ℕ) → IfOk (bytes_at whole rest) (IsHeld rest)
unfolding bytes_at
bytes_held whole rest = bind_ok (string_at whole rest) (λ s. Ok (elem.Bytes s.0, s.1)) (IsRest rest) (IsHeld rest) (string_rest whole rest) (λ s h. (h, tt))

text_held : (whole place : ℕ) (rest : List ℕ) → IfOk (text_at whole place rest) (IsHeld rest)
unfolding text_at
text_held whole place rest =
    bind_ok (string_at whole rest) (λ s. cond (is_utf8 s.0) (Ok (elem.Text s.0, s.1)) (Err (fault.BadUtf8 place))) (IsRest rest) (IsHeld rest) (string_rest whole rest)
    (λ s h. either_ok (is_utf8 s.0) (Ok (elem.Text s.0, s.1)) (Err (fault.BadUtf8 place)) (IsHeld rest) (h, tt) tt)

-- ---- what has a fixed length

dropped_held : (n : ℕ) (element : Elem) (rest : List ℕ) → IsLeaf element → IsHeld rest (element, drop n rest)
dropped_held n element rest leaf = (omega (arith, length-drop n rest), leaf)

-- a value after a test, and after two and four of them
one_test : {A : Type 0} (a : Bool) (e : UnpackFault) (x : A) (P : A → Type 0) → P x → IfOk (cond a (Err e) (Ok x)) P
one_test true e x P h = tt
one_test false e x P h = h

two_tests : {A : Type 0} (a b : Bool) (e f : UnpackFault) (x : A) (P : A → Type 0) → P x → IfOk (cond a (Err e) (cond b (Err f) (Ok x))) P
two_tests true b e f x P h = tt
two_tests false b e f x P h = one_test b f x P h

four_tests : {A : Type 0} (a b c d : Bool) (e f g i : UnpackFault) (x : A) (P : A → Type 0) → P x
    → IfOk (cond a (Err e) (cond b (Err f) (cond c (Err g) (cond d (Err i) (Ok x))))) P
four_tests true b c d e f g i x P h = tt
four_tests false true c d e f g i x P h = tt
four_tests false false c d e f g i x P h = two_tests c d g i x P h

short_held : (whole place : ℕ) (negative : Bool) (size : ℕ) (rest : List ℕ) → IfOk (short_at whole place negative size rest) (IsHeld rest)
unfolding short_at
short_held whole place negative size rest =
    let digits = with_sign negative (take size rest) in
    two_tests (nat_lt (length rest) size) (leads_with_zero digits) (fault.Truncated whole) (fault.NotMinimal place) (int_by negative digits (drop size rest)) (IsHeld rest) (dropped_held size (elem.Int (int_of negative (number_high digits))) rest tt)

sized_held : (whole place : ℕ) (negative : Bool) (size : ℕ) (rest : List ℕ) → IfOk (sized_at whole place negative size rest) (IsHeld rest)
unfolding sized_at
sized_held whole place negative size rest =
    let digits = with_sign negative (take size rest) in
    four_tests (nat_lt (length rest) size) (nat_lt size 9) (leads_with_zero digits) (nat_lt (greatest_magnitude negative) (number_high digits))
    (fault.Truncated whole) (fault.NotMinimal place) (fault.NotMinimal place) (fault.TooBig place) (int_by negative digits (drop size rest)) (IsHeld rest) (dropped_held size (elem.Int (int_of negative (number_high digits))) rest tt)

longer_held : (size : ℕ) (rest : List ℕ) (read : Result (Elem × List ℕ) UnpackFault) → IfOk read (IsHeld rest)
    → IfOk read (IsHeld (size ∷ rest))
longer_held size rest (Ok x) h = (omega (arith, h.0), h.1)
longer_held size rest (Err f) h = tt

long_held : (whole place : ℕ) (negative : Bool) (rest : List ℕ) → IfOk (long_at whole place negative rest) (IsHeld rest)
long_held whole place negative [] = tt
long_held whole place negative (size ∷ rest) = longer_held size rest (sized_at whole place negative (signed_byte negative size) rest) (sized_held whole place negative (signed_byte negative size) rest)

uuid_held : (whole : ℕ) (rest : List ℕ) → IfOk (uuid_at whole rest) (IsHeld rest)
unfolding uuid_at
uuid_held whole rest = one_test (nat_lt (length rest) 16) (fault.Truncated whole) (elem.Uuid (take 16 rest), drop 16 rest) (IsHeld rest) (dropped_held 16 (elem.Uuid (take 16 rest)) rest tt)

stamp_held : (whole : ℕ) (rest : List ℕ) → IfOk (stamp_at whole rest) (IsHeld rest)
unfolding stamp_at
stamp_held whole rest =
    let stamp = elem.Stamp (record { stamp = take 10 rest; user = from_be_bytes w16 (take 2 (drop 10 rest)) }) in
    one_test (nat_lt (length rest) 12) (fault.Truncated whole) (stamp, drop 12 rest) (IsHeld rest) (dropped_held 12 stamp rest tt)

-- ---- pieces

zero_is_piece : (code around : ℕ) (rest : List ℕ) → IsPiece around (code ∷ rest) (zero_at around rest)
zero_is_piece code zero rest = (omega arith, tt)
zero_is_piece code (suc around) [] = omega arith
zero_is_piece code (suc around) (b ∷ rest) = elim (b == 0xFF) as (λ v. IsPiece (suc around) (code ∷ b ∷ rest) (cond v (piece.Holds elem.Null, rest) (piece.Ends, b ∷ rest))) [ true ↦ (omega arith, tt) | false ↦ omega arith ]

held_is_piece : (around code : ℕ) (rest : List ℕ) (read : Result (Elem × List ℕ) UnpackFault) → IfOk read (IsHeld rest)
    → IfOk (held read) (IsPiece around (code ∷ rest))
held_is_piece around code rest (Ok x) h = (omega (arith, h.0), h.1)
held_is_piece around code rest (Err f) h = tt

opens_is_piece : (around code place : ℕ) (rest : List ℕ) (full : Bool) → (around == 100) ≡ full
    → IfOk (cond full (Err (fault.TooDeep place)) (Ok (piece.Opens, rest))) (IsPiece around (code ∷ rest))
opens_is_piece around code place rest true test = tt
opens_is_piece around code place rest false test = (omega arith, eqb-false around 100 test)

coded_is_piece : (whole place around code : ℕ) (coded : Option Kind) (rest : List ℕ)
    → IfOk (coded_at whole place around coded rest) (IsPiece around (code ∷ rest))
unfolding coded_at
coded_is_piece whole place around code None rest = tt
coded_is_piece whole place around code (Some kind.Null) rest = zero_is_piece code around rest
coded_is_piece whole place around code (Some kind.Bytes) rest = held_is_piece around code rest (bytes_at whole rest) (bytes_held whole rest)
coded_is_piece whole place around code (Some kind.Text) rest = held_is_piece around code rest (text_at whole place rest) (text_held whole place rest)
coded_is_piece whole place around code (Some kind.Nested) rest = opens_is_piece around code place rest (around == 100) refl
coded_is_piece whole place around code (Some (kind.ShortInt negative size)) rest = held_is_piece around code rest (short_at whole place negative size rest) (short_held whole place negative size rest)
coded_is_piece whole place around code (Some (kind.LongInt negative)) rest = held_is_piece around code rest (long_at whole place negative rest) (long_held whole place negative rest)
coded_is_piece whole place around code (Some (kind.Bool value)) rest = (omega arith, tt)
coded_is_piece whole place around code (Some kind.Uuid) rest = held_is_piece around code rest (uuid_at whole rest) (uuid_held whole rest)
coded_is_piece whole place around code (Some kind.Stamp) rest = held_is_piece around code rest (stamp_at whole rest) (stamp_held whole rest)

pub piece_is : (whole around : ℕ) (bytes : List ℕ) → IfOk (piece_at whole around bytes) (IsPiece around bytes)
unfolding piece_at
piece_is whole zero [] = omega arith
piece_is whole (suc around) [] = tt
piece_is whole around (code ∷ rest) = coded_is_piece whole _ around code (kind_of code) rest
