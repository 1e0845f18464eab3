-- A piece is read exactly where one stands, and refused exactly where it is faulty.
use Rattle.std.proofs.Common.{◌≡◌, ℕ, zero, suc, ◌+◌, ◌-◌, ◌^◌, ◌<◌, ◌≤◌, Bool, true, false, ◌==◌, ltb, cond, List, [], ◌∷◌, ◌++◌, length, get_or, take, drop, Option, Result, Some, None, Ok, Err, refl, sym, ap, subst, ◌∙◌, arith, inl, inr, length-append, append_assoc, IsUtf8}
use Rattle.std.specs.Int.{w16, to_be_bytes, from_be_bytes}
use Rattle.std.specs.Str.{is_utf8}
use Rattle.std.proofs.lemmas.Bool.{eqb-true, eqb-false, eq-eqb, ltb-true, ltb-false, lt-ltb, le-ltb, cond_both}
use Rattle.std.proofs.lemmas.Nat.{be_bytes_2, from_be_bytes-to_be_bytes_2}
use Rattle.std.proofs.lemmas.Str.{IsUtf8-from_is_utf8, is_utf8-from_IsUtf8}
use Rattle.std.proofs.lemmas.List.{length-take, length-drop, drop-drop, take-append-drop, take_at, drop_at}
use Rattle.std.proofs.lemmas.List.Elements.{All-from_recursion}
use Rattle.fdb_tuple.specs.declared.fault.UnpackFault.{UnpackFault}
use Rattle.fdb_tuple.specs.declared.fault.UnpackFault.TheVariants as fault
use Rattle.fdb_tuple.specs.declared.tuple.Elem.{Elem}
use Rattle.fdb_tuple.specs.declared.tuple.Elem.TheVariants as elem
use Rattle.fdb_tuple.specs.declared.code.Kind.{Kind}
use Rattle.fdb_tuple.specs.declared.code.Kind.TheVariants as kind
use Rattle.fdb_tuple.specs.declared.piece.Piece.{Piece}
use Rattle.fdb_tuple.specs.declared.piece.Piece.TheVariants as piece
use Rattle.fdb_tuple.specs.Tuples.{Scalar, Null, Bytes, Text, Int, Boolean, Uuid, Stamp, IsScalar}
use Rattle.fdb_tuple.specs.Listed.{element_of}
use Rattle.fdb_tuple.specs.Zeros.{IsNoEscape}
use Rattle.fdb_tuple.specs.Spelling.{string_spelled, boolean_spelled, scalar_spelled}
use Rattle.fdb_tuple.specs.Kinds.{kind_of}
use Rattle.fdb_tuple.specs.Reading.{◌>>=◌, string_at, bytes_at, text_at, short_at, long_at, uuid_at, stamp_at, held, zero_at, end_at, coded_at, piece_at}
use Rattle.fdb_tuple.specs.Stops.{HasNoEnd, IsString, IsFaultyKind, IsFaulty}
use Rattle.fdb_tuple.proofs.ByteLists.{AreBytes, AreBytes-take, AreBytes-drop}
use Rattle.fdb_tuple.proofs.StringLaws.{StringIs, string_found, string_again, string_open}
use Rattle.fdb_tuple.proofs.IntLaws.{code_of, long_code, short_found, long_found, int_again, short_refused, long_refused}
use Rattle.fdb_tuple.proofs.Taken.{Taken, ElementIs}

-- ---- codes

-- the code of a kind
abbrev CodeIs : Option Kind → ℕ → Type 0
CodeIs None code = Unit {0}
CodeIs (Some kind.Null) code = code ≡ 0x00
CodeIs (Some kind.Bytes) code = code ≡ 0x01
CodeIs (Some kind.Text) code = code ≡ 0x02
CodeIs (Some kind.Nested) code = code ≡ 0x05
CodeIs (Some (kind.ShortInt negative size)) code = (size ≤ 8) × (negative ≡ true → 0 < size) × (code ≡ code_of negative size)
CodeIs (Some (kind.LongInt negative)) code = code ≡ long_code negative
CodeIs (Some (kind.Bool value)) code = code ∷ [] ≡ boolean_spelled value
CodeIs (Some kind.Uuid) code = code ≡ 0x30
CodeIs (Some kind.Stamp) code = code ≡ 0x33

equal_or : (code c : ℕ) (there else : Option Kind) → CodeIs there c → ((code ≡ c → ⊥) → CodeIs else code)
    → CodeIs (cond (code == c) there else) code
equal_or code c there else is h =
    cond_both (code == c) there else (λ k. CodeIs k code) (λ e. rw (eqb-true code c e) is) (λ e. h (eqb-false code c e))

below_or : (code c : ℕ) (there else : Option Kind) → (code < c → CodeIs there code) → (c ≤ code → CodeIs else code)
    → CodeIs (cond (ltb code c) there else) code
below_or code c there else low high =
    cond_both (ltb code c) there else (λ k. CodeIs k code) (λ e. low (ltb-true code c e)) (λ e. high (ltb-false code c e))

above_ints : (code : ℕ) → CodeIs
    (cond (code == 0x1D) (Some (kind.LongInt false))
    (cond (code == 0x26) (Some (kind.Bool false)) (cond (code == 0x27) (Some (kind.Bool true)) (cond (code == 0x30) (Some kind.Uuid) (cond (code == 0x33) (Some kind.Stamp) None))))) code
above_ints code =
    equal_or code 0x1D _ _ refl (λ _. equal_or code 0x26 _ _ refl (λ _. equal_or code 0x27 _ _ refl (λ _. equal_or code 0x30 _ _ refl (λ _. equal_or code 0x33 _ _ refl (λ _. tt)))))

code_is : (code : ℕ) → CodeIs (kind_of code) code
unfolding kind_of
code_is code =
    equal_or code 0x00 _ _ refl (λ _. equal_or code 0x01 _ _ refl (λ _. equal_or code 0x02 _ _ refl (λ _. equal_or code 0x05 _ _ refl (λ _. below_or code 0x0B _ _ (λ _. tt) (λ low. equal_or code 0x0B _ _ refl
    (λ ne. below_or code 0x14 _ _ (λ lt. (omega arith, λ e. omega arith, omega arith)) (λ above. below_or code 0x1D _ _ (λ lt. (omega arith, λ e. absurd cc, omega arith)) (λ _. above_ints code))))))))

-- ---- what is read

-- whether so many open tuples are any
abbrev pub is_inside : ℕ → Bool
is_inside zero = false
is_inside (suc around) = true

-- the end of a tuple: that of the input at the top, a 00 inside a nested tuple
abbrev pub IsEnd : ℕ → List ℕ → List ℕ → Type 0
IsEnd zero bytes after = (bytes ≡ []) × (after ≡ [])
IsEnd (suc around) bytes after = (bytes ≡ 0 ∷ after) × IsNoEscape after

-- what reading a piece may give
abbrev pub PieceIs : (UnpackFault → Type 0) → ℕ → List ℕ → Result (Piece × List ℕ) UnpackFault → Type 0
PieceIs IsFaultOf around bytes (Ok (piece.Ends, after)) = IsEnd around bytes after
PieceIs IsFaultOf around bytes (Ok (piece.Opens, after)) = (bytes ≡ 5 ∷ after) × (around ≡ 100 → ⊥)
PieceIs IsFaultOf around bytes (Ok (piece.Holds element, after)) = Taken (is_inside around) bytes element after
PieceIs IsFaultOf around bytes (Err f) = IsFaultOf f

held_found : (IsFaultOf : UnpackFault → Type 0) (around : ℕ) (bytes : List ℕ) (read : Result (Elem × List ℕ) UnpackFault)
    → ElementIs IsFaultOf (is_inside around) bytes read → PieceIs IsFaultOf around bytes (held read)
held_found IsFaultOf around bytes (Ok x) is = is
held_found IsFaultOf around bytes (Err f) is = is

taken_null : (nested : Bool) (bytes after : List ℕ) → bytes ≡ scalar_spelled nested Null ++ after → Taken nested bytes elem.Null after
taken_null nested bytes after parts = record { scalar = Null; element_is = refl; is_scalar = tt; parts = parts; ends = λ string. absurd string }

zero_found : (IsFaultOf : UnpackFault → Type 0) (around : ℕ) (rest : List ℕ)
    → PieceIs IsFaultOf around (0 ∷ rest) (Ok (zero_at around rest))
zero_found IsFaultOf zero rest = taken_null false (0 ∷ rest) rest refl
zero_found IsFaultOf (suc around) [] = (refl, tt)
zero_found IsFaultOf (suc around) (b ∷ rest) =
    cond_both (b == 0xFF) (piece.Holds elem.Null, rest) (piece.Ends, b ∷ rest) (λ p. PieceIs IsFaultOf (suc around) (0 ∷ b ∷ rest) (Ok p))
    (λ e. taken_null true (0 ∷ b ∷ rest) rest (rw (eqb-true b 0xFF e) refl))
    (λ e. (refl, eqb-false b 0xFF e))

-- the bytes of a string are among those of its spelling
AreBytes-string : (string after : List ℕ) → AreBytes (string_spelled string ++ after) → AreBytes string
AreBytes-string [] after are = tt
AreBytes-string (zero ∷ string) after are = (are.0, AreBytes-string string after are.1.1)
AreBytes-string (suc b ∷ string) after are = (are.0, AreBytes-string string after are.1)

bytes_read : (IsFaultOf : UnpackFault → Type 0) (whole : ℕ) (nested : Bool) (rest : List ℕ) (read : Result (List ℕ × List ℕ) UnpackFault)
    → AreBytes rest → StringIs whole rest read
    → ((f : UnpackFault) → StringIs whole rest (Err f) → IsFaultOf f) → ElementIs IsFaultOf nested (1 ∷ rest) (read >>= (λ string. Ok (elem.Bytes string.0, string.1)))
bytes_read IsFaultOf whole nested rest (Ok x) are is fails = record {
  scalar = Bytes x.0;
  element_is = refl;
  is_scalar = All-from_recursion (λ b. b < 256) x.0 (AreBytes-string x.0 x.1 (subst AreBytes is.0 are));
  parts = ap (λ (t : List ℕ). 1 ∷ t) is.0;
  ends = λ string. is.1;
}
bytes_read IsFaultOf whole nested rest (Err f) are is fails = fails f is

text_read : (IsFaultOf : UnpackFault → Type 0) (whole place : ℕ) (nested : Bool) (rest : List ℕ) (read : Result (List ℕ × List ℕ) UnpackFault) → StringIs whole rest read
    → ((f : UnpackFault) → StringIs whole rest (Err f) → IsFaultOf f) → ((x : List ℕ × List ℕ) → StringIs whole rest (Ok x) → is_utf8 x.0 ≡ false → IsFaultOf (fault.BadUtf8 place))
    → ElementIs IsFaultOf nested (2 ∷ rest) (read >>= (λ string. cond (is_utf8 string.0) (Ok (elem.Text string.0, string.1)) (Err (fault.BadUtf8 place))))
text_read IsFaultOf whole place nested rest (Ok x) is fails bad =
    cond_both (is_utf8 x.0) (Ok (elem.Text x.0, x.1)) (Err (fault.BadUtf8 place)) (ElementIs IsFaultOf nested (2 ∷ rest))
    (λ valid. record { scalar = Text x.0; element_is = refl; is_scalar = IsUtf8-from_is_utf8 x.0 valid; parts = ap (λ (t : List ℕ). 2 ∷ t) is.0; ends = λ string. is.1 })
    (λ e. bad x is e)
text_read IsFaultOf whole place nested rest (Err f) is fails bad = fails f is

uuid_found : (whole place around : ℕ) (nested : Bool) (rest : List ℕ) → AreBytes rest
    → ElementIs (IsFaultyKind whole place around (Some kind.Uuid) rest) nested (0x30 ∷ rest) (uuid_at whole rest)
unfolding uuid_at
uuid_found whole place around nested rest are =
    cond_both (ltb (length rest) 16) (Err (fault.Truncated whole)) (Ok (elem.Uuid (take 16 rest), drop 16 rest)) (ElementIs (IsFaultyKind whole place around (Some kind.Uuid) rest) nested (0x30 ∷ rest))
    (λ cut. (ltb-true _ _ cut, refl))
    (λ there. record {
      scalar = Uuid (take 16 rest);
      element_is = refl;
      is_scalar = (All-from_recursion (λ b. b < 256) (take 16 rest) (AreBytes-take 16 rest are), omega (arith, ltb-false _ _ there, length-take 16 rest));
      parts = ap (λ (t : List ℕ). 0x30 ∷ t) (sym (take-append-drop 16 rest));
      ends = λ string. absurd string;
    })

byte_at_place : (bytes : List ℕ) (i : ℕ) → AreBytes bytes → get_or bytes i 0 < 256
byte_at_place [] i are = omega arith
byte_at_place (b ∷ bytes) zero are = are.0
byte_at_place (b ∷ bytes) (suc i) are = byte_at_place bytes i are.1

user_below : (bytes : List ℕ) → AreBytes bytes → from_be_bytes w16 bytes < 2 ^ 16
user_below bytes are = omega (arith, byte_at_place bytes 0 are, byte_at_place bytes 1 are)

stamp_rebuilt : (rest : List ℕ) → AreBytes rest → 12 ≤ length rest
    → rest ≡ take 10 rest ++ to_be_bytes w16 (from_be_bytes w16 (take 2 (drop 10 rest))) ++ drop 12 rest
stamp_rebuilt rest are le =
    let user = take 2 (drop 10 rest) in
    let same : to_be_bytes w16 (from_be_bytes w16 user) ≡ user = be_bytes_2 user (from_be_bytes w16 user) (omega (arith, length-take 2 (drop 10 rest), length-drop 10 rest)) (λ i. byte_at_place user i (AreBytes-take 2 (drop 10 rest) (AreBytes-drop 10 rest are))) refl in
    let after : drop 12 rest ≡ drop 2 (drop 10 rest) = sym (drop-drop 2 10 rest) in
    sym (take-append-drop 10 rest) ∙ ap (λ (t : List ℕ). take 10 rest ++ t) (sym (take-append-drop 2 (drop 10 rest)))
    ∙ rw (same, after, append_assoc) refl

stamp_found : (whole place around : ℕ) (nested : Bool) (rest : List ℕ) → AreBytes rest
    → ElementIs (IsFaultyKind whole place around (Some kind.Stamp) rest) nested (0x33 ∷ rest) (stamp_at whole rest)
unfolding stamp_at
stamp_found whole place around nested rest are =
    let user = from_be_bytes w16 (take 2 (drop 10 rest)) in
    cond_both (ltb (length rest) 12) (Err (fault.Truncated whole)) (Ok (elem.Stamp (record { stamp = take 10 rest; user = user }), drop 12 rest)) (ElementIs (IsFaultyKind whole place around (Some kind.Stamp) rest) nested (0x33 ∷ rest))
    (λ cut. (ltb-true _ _ cut, refl))
    (λ there. record {
      scalar = Stamp (take 10 rest) user;
      element_is = refl;
      is_scalar = (All-from_recursion (λ b. b < 256) (take 10 rest) (AreBytes-take 10 rest are), omega (arith, ltb-false _ _ there, length-take 10 rest), user_below (take 2 (drop 10 rest)) (AreBytes-take 2 (drop 10 rest) (AreBytes-drop 10 rest are)));
      parts = ap (λ (t : List ℕ). 0x33 ∷ t) (stamp_rebuilt rest are (ltb-false _ _ there));
      ends = λ string. absurd string;
    })

bytes_found : (whole place around : ℕ) (nested : Bool) (rest : List ℕ) → AreBytes rest
    → ElementIs (IsFaultyKind whole place around (Some kind.Bytes) rest) nested (1 ∷ rest) (bytes_at whole rest)
unfolding bytes_at
bytes_found whole place around nested rest are =
    bytes_read (IsFaultyKind whole place around (Some kind.Bytes) rest) whole nested rest (string_at whole rest) are (string_found whole rest) (λ f is. is)

text_found : (whole place around : ℕ) (nested : Bool) (rest : List ℕ)
    → ElementIs (IsFaultyKind whole place around (Some kind.Text) rest) nested (2 ∷ rest) (text_at whole place rest)
unfolding text_at
text_found whole place around nested rest =
    text_read (IsFaultyKind whole place around (Some kind.Text) rest) whole place nested rest (string_at whole rest) (string_found whole rest) (λ f is. inl is)
    (λ x is bad. inr (record { string = x.0; after = x.1; begins = is.0; ends = is.1; is_no_text = bad }, refl))

coded_found : (whole place around code : ℕ) (k : Option Kind) (rest : List ℕ) → CodeIs k code → AreBytes rest
    → PieceIs (IsFaultyKind whole place around k rest) around (code ∷ rest) (coded_at whole place around k rest)
unfolding coded_at
coded_found whole place around code None rest is are = refl
coded_found whole place around code (Some kind.Null) rest is are = rw is (zero_found (IsFaultyKind whole place around (Some kind.Null) rest) around rest)
coded_found whole place around code (Some kind.Bytes) rest is are =
    rw is (held_found (IsFaultyKind whole place around (Some kind.Bytes) rest) around (1 ∷ rest) (bytes_at whole rest) (bytes_found whole place around (is_inside around) rest are))
coded_found whole place around code (Some kind.Text) rest is are =
    rw is (held_found (IsFaultyKind whole place around (Some kind.Text) rest) around (2 ∷ rest) (text_at whole place rest) (text_found whole place around (is_inside around) rest))
coded_found whole place around code (Some kind.Nested) rest is are =
    cond_both (around == 100) (Err (fault.TooDeep place)) (Ok (piece.Opens, rest)) (PieceIs (IsFaultyKind whole place around (Some kind.Nested) rest) around (code ∷ rest))
    (λ e. (eqb-true around 100 e, refl))
    (λ e. (ap (λ (c : ℕ). c ∷ rest) is, eqb-false around 100 e))
coded_found whole place around code (Some (kind.ShortInt negative size)) rest is are =
    rw is.2 (held_found (IsFaultyKind whole place around (Some (kind.ShortInt negative size)) rest) around (code_of negative size ∷ rest) (short_at whole place negative size rest)
    (short_found whole place around (is_inside around) negative size rest is.0 is.1 are))
coded_found whole place around code (Some (kind.LongInt negative)) rest is are =
    rw is (held_found (IsFaultyKind whole place around (Some (kind.LongInt negative)) rest) around (long_code negative ∷ rest) (long_at whole place negative rest)
    (long_found whole place around (is_inside around) negative rest are))
coded_found whole place around code (Some (kind.Bool value)) rest is are =
    record { scalar = Boolean value; element_is = refl; is_scalar = tt; parts = ap (λ (t : List ℕ). t ++ rest) is; ends = λ string. absurd string }
coded_found whole place around code (Some kind.Uuid) rest is are =
    rw is (held_found (IsFaultyKind whole place around (Some kind.Uuid) rest) around (0x30 ∷ rest) (uuid_at whole rest) (uuid_found whole place around (is_inside around) rest are))
coded_found whole place around code (Some kind.Stamp) rest is are =
    rw is (held_found (IsFaultyKind whole place around (Some kind.Stamp) rest) around (0x33 ∷ rest) (stamp_at whole rest) (stamp_found whole place around (is_inside around) rest are))

end_found : (whole around : ℕ) → PieceIs (IsFaulty whole around []) around [] (end_at whole around)
end_found whole zero = (refl, refl)
end_found whole (suc around) = (omega arith, refl)

pub piece_found : (whole around : ℕ) (bytes : List ℕ) → AreBytes bytes
    → PieceIs (IsFaulty whole around bytes) around bytes (piece_at whole around bytes)
unfolding piece_at
piece_found whole around [] are = end_found whole around
piece_found whole around (code ∷ rest) are =
    let place : whole - suc (length rest) ≡ whole - (length rest + 1) = omega arith in
    rw place (coded_found whole (whole - (length rest + 1)) around code (kind_of code) rest (code_is code) are.1)

-- ---- what is spelled is read again

text_again : (whole place : ℕ) (string rest : List ℕ) → IsUtf8 string → IsNoEscape rest
    → text_at whole place (string_spelled string ++ rest) ≡ Ok (elem.Text string, rest)
unfolding text_at
text_again whole place string rest valid end = rw (string_again whole string rest end, is_utf8-from_IsUtf8 string valid) refl

bytes_again : (whole : ℕ) (string rest : List ℕ) → IsNoEscape rest
    → bytes_at whole (string_spelled string ++ rest) ≡ Ok (elem.Bytes string, rest)
unfolding bytes_at
bytes_again whole string rest end = rw (string_again whole string rest end) refl

uuid_again : (whole : ℕ) (bytes rest : List ℕ) → length bytes ≡ 16 → uuid_at whole (bytes ++ rest) ≡ Ok (elem.Uuid bytes, rest)
unfolding uuid_at
uuid_again whole bytes rest len =
    let there : ltb (length (bytes ++ rest)) 16 ≡ false = le-ltb _ _ (omega (arith, length-append bytes rest)) in
    rw (there, take_at bytes rest 16 len, drop_at bytes rest 16 len) refl

stamp_again : (whole : ℕ) (stamp : List ℕ) (user : ℕ) (rest : List ℕ) → length stamp ≡ 10 → user < 2 ^ 16
    → stamp_at whole (stamp ++ to_be_bytes w16 user ++ rest) ≡ Ok (elem.Stamp (record { stamp = stamp; user = user }), rest)
unfolding stamp_at
stamp_again whole stamp user rest len below =
    let bytes = to_be_bytes w16 user in
    let all = stamp ++ bytes ++ rest in
    let there : ltb (length all) 12 ≡ false = le-ltb _ _ (omega (arith, length-append (stamp ++ bytes) rest, length-append stamp bytes)) in
    let front : take 10 all ≡ stamp = rw append_assoc (take_at stamp (bytes ++ rest) 10 len) in
    let after : drop 10 all ≡ bytes ++ rest = rw append_assoc (drop_at stamp (bytes ++ rest) 10 len) in
    let last : drop 12 all ≡ rest = sym (drop-drop 2 10 all) ∙ ap (drop 2) after in
    let number : from_be_bytes w16 (take 2 (drop 10 all)) ≡ user = ap (λ (t : List ℕ). from_be_bytes w16 (take 2 t)) after ∙ from_be_bytes-to_be_bytes_2 user below in
    rw (there, front, number, last) refl

null_again : (around : ℕ) (rest : List ℕ) → (whole : ℕ)
    → piece_at whole around (scalar_spelled (is_inside around) Null ++ rest) ≡ Ok (piece.Holds elem.Null, rest)
unfolding piece_at coded_at kind_of
null_again zero rest whole = refl
null_again (suc around) rest whole = refl

boolean_again : (whole around : ℕ) (value : Bool) (rest : List ℕ)
    → piece_at whole around (boolean_spelled value ++ rest) ≡ Ok (piece.Holds (elem.Bool value), rest)
unfolding piece_at coded_at kind_of
boolean_again whole around false rest = refl
boolean_again whole around true rest = refl

pub scalar_again : (whole around : ℕ) (scalar : Scalar) (rest : List ℕ) → IsScalar scalar → (IsString scalar → IsNoEscape rest)
    → piece_at whole around (scalar_spelled (is_inside around) scalar ++ rest) ≡ Ok (piece.Holds (element_of scalar), rest)
unfolding piece_at coded_at kind_of
scalar_again whole around Null rest is end = null_again around rest whole
scalar_again whole around (Bytes bytes) rest is end = ap held (bytes_again whole bytes rest (end tt))
scalar_again whole around (Text text) rest is end = ap held (text_again whole (whole - suc (length (string_spelled text ++ rest))) text rest is (end tt))
scalar_again whole around (Int z) rest is end =
    let a = int_again whole around z rest is in
    ap (piece_at whole around) a.parts ∙ a.reads (whole - suc (length a.bytes))
scalar_again whole around (Boolean value) rest is end = boolean_again whole around value rest
scalar_again whole around (Uuid bytes) rest is end = ap held (uuid_again whole bytes rest is.1)
scalar_again whole around (Stamp stamp user) rest is end = ap held (stamp_again whole stamp user rest is.1 is.2)

-- ---- what is faulty is refused

string_refused : (whole : ℕ) (rest : List ℕ) → HasNoEnd rest → string_at whole rest ≡ Err (fault.Truncated whole)
string_refused whole rest cut = rw cut.1 (string_open whole cut.0)

bytes_refused : (whole place around : ℕ) (rest : List ℕ) (f : UnpackFault) → IsFaultyKind whole place around (Some kind.Bytes) rest f
    → bytes_at whole rest ≡ Err f
unfolding bytes_at
bytes_refused whole place around rest f is = rw (string_refused whole rest is.0, is.1) refl

text_refused : (whole place around : ℕ) (rest : List ℕ) (f : UnpackFault) → IsFaultyKind whole place around (Some kind.Text) rest f
    → text_at whole place rest ≡ Err f
unfolding text_at
text_refused whole place around rest f (inl is) = rw (string_refused whole rest is.0, is.1) refl
text_refused whole place around rest f (inr is) = rw (is.0.begins, string_again whole is.0.string is.0.after is.0.ends, is.0.is_no_text, is.1) refl

uuid_refused : (whole place around : ℕ) (rest : List ℕ) (f : UnpackFault) → IsFaultyKind whole place around (Some kind.Uuid) rest f
    → uuid_at whole rest ≡ Err f
unfolding uuid_at
uuid_refused whole place around rest f is = rw (lt-ltb (length rest) 16 is.0, is.1) refl

stamp_refused : (whole place around : ℕ) (rest : List ℕ) (f : UnpackFault) → IsFaultyKind whole place around (Some kind.Stamp) rest f
    → stamp_at whole rest ≡ Err f
unfolding stamp_at
stamp_refused whole place around rest f is = rw (lt-ltb (length rest) 12 is.0, is.1) refl

coded_refused : (whole place around : ℕ) (k : Option Kind) (rest : List ℕ) (f : UnpackFault) → IsFaultyKind whole place around k rest f
    → coded_at whole place around k rest ≡ Err f
unfolding coded_at
coded_refused whole place around None rest f is = rw is refl
coded_refused whole place around (Some kind.Null) rest f is = absurd is
coded_refused whole place around (Some kind.Bytes) rest f is = ap held (bytes_refused whole place around rest f is)
coded_refused whole place around (Some kind.Text) rest f is = ap held (text_refused whole place around rest f is)
coded_refused whole place around (Some kind.Nested) rest f is = rw (is.1, eq-eqb around 100 is.0) refl
coded_refused whole place around (Some (kind.ShortInt negative size)) rest f is = ap held (short_refused whole place around negative size rest f is)
coded_refused whole place around (Some (kind.LongInt negative)) rest f is = ap held (long_refused whole place around negative rest f is)
coded_refused whole place around (Some (kind.Bool value)) rest f is = absurd is
coded_refused whole place around (Some kind.Uuid) rest f is = ap held (uuid_refused whole place around rest f is)
coded_refused whole place around (Some kind.Stamp) rest f is = ap held (stamp_refused whole place around rest f is)

pub piece_refused : (whole around : ℕ) (bytes : List ℕ) (f : UnpackFault) → IsFaulty whole around bytes f
    → piece_at whole around bytes ≡ Err f
unfolding piece_at
piece_refused whole zero [] f is = absurd (omega (arith, is.0))
piece_refused whole (suc around) [] f is = rw is.1 refl
piece_refused whole around (code ∷ rest) f is =
    let place : whole - suc (length rest) ≡ whole - (length rest + 1) = omega arith in
    rw place (coded_refused whole (whole - (length rest + 1)) around (kind_of code) rest f is)
