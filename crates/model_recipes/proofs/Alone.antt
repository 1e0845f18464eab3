-- What is read as one byte string alone is spelled as it. No byte needs to be below 256 for that: a database's keys are any lists.
use Rattle.std.proofs.Common.{◌≡◌, ℕ, zero, suc, ◌-◌, Bool, true, false, cond, List, [], ◌∷◌, ◌++◌, length, take, drop, nat_lt, Option, Some, None, Result, Ok, Err, IfOk, refl, ap, ◌∙◌, subst, arith}
use Rattle.std.proofs.lemmas.Bool.Decides.{nat_tests}
use Rattle.std.specs.Int.{w16, from_be_bytes}
use Rattle.std.specs.Str.{is_utf8}
use Rattle.fdb_tuple.specs.declared.fault.UnpackFault.{UnpackFault}
use Rattle.fdb_tuple.specs.declared.fault.UnpackFault.TheVariants as fault
use Rattle.fdb_tuple.specs.declared.tuple.Elem.{Elem}
use Rattle.fdb_tuple.specs.declared.tuple.Elem.TheVariants as elem
use Rattle.fdb_tuple.specs.declared.code.Kind.{Kind}
use Rattle.fdb_tuple.specs.declared.code.Kind.TheVariants as kind
use Rattle.fdb_tuple.specs.Tuples.{Elements, Empty, Single, Bytes, greatest_magnitude}
use Rattle.fdb_tuple.specs.Spelling.{string_spelled, spelling, signed_byte, with_sign}
use Rattle.fdb_tuple.specs.Kinds.{kind_of}
use Rattle.fdb_tuple.specs.Reading.{◌>>=◌, TupleRead, string_at, bytes_at, text_at, short_at, sized_at, long_at, uuid_at, stamp_at, leads_with_zero, number_high, int_by, held, coded_at, piece_at, before_others, going_on, elements_at, read_tuple}
use Rattle.fdb_tuple.proofs.StringLaws.{StringIs, string_found}

-- ---- what other codes give

-- an element that is no byte string
abbrev IsOther : Elem → Type 0
IsOther (elem.Bytes bytes) = ⊥
IsOther _ = Unit {0}

abbrev GivesOther : Result (Elem × List ℕ) UnpackFault → Type 0
GivesOther read = IfOk read (λ x. IsOther x.0)

one_test : (a : Bool) (e : UnpackFault) (x : Elem × List ℕ) → IsOther x.0 → GivesOther (cond a (Err e) (Ok x))
one_test true e x other = tt
one_test false e x other = other

two_tests : (a b : Bool) (e f : UnpackFault) (x : Elem × List ℕ) → IsOther x.0 → GivesOther (cond a (Err e) (cond b (Err f) (Ok x)))
two_tests true b e f x other = tt
two_tests false b e f x other = one_test b f x other

four_tests : (a b c d : Bool) (e f g h : UnpackFault) (x : Elem × List ℕ) → IsOther x.0
    → GivesOther (cond a (Err e) (cond b (Err f) (cond c (Err g) (cond d (Err h) (Ok x)))))
four_tests true b c d e f g h x other = tt
four_tests false true c d e f g h x other = tt
four_tests false false c d e f g h x other = two_tests c d g h x other

text_other : (whole place : ℕ) (rest : List ℕ) → GivesOther (text_at whole place rest)
unfolding text_at
text_other whole place rest = by (string_at whole rest)
  where
    decided : (good : Bool) (x : List ℕ × List ℕ) → GivesOther (cond good (Ok (elem.Text x.0, x.1)) (Err (fault.BadUtf8 place)))
    decided true x = tt
    decided false x = tt

    by : (read : Result (List ℕ × List ℕ) UnpackFault)
        → GivesOther (read >>= (λ string. cond (is_utf8 string.0) (Ok (elem.Text string.0, string.1)) (Err (fault.BadUtf8 place))))
    by (Ok x) = decided (is_utf8 x.0) x
    by (Err f) = tt

short_other : (whole place : ℕ) (negative : Bool) (size : ℕ) (rest : List ℕ) → GivesOther (short_at whole place negative size rest)
unfolding short_at
short_other whole place negative size rest =
    let digits = with_sign negative (take size rest) in
    two_tests (nat_lt (length rest) size) (leads_with_zero digits) (fault.Truncated whole) (fault.NotMinimal place) (int_by negative digits (drop size rest)) tt

sized_other : (whole place : ℕ) (negative : Bool) (size : ℕ) (rest : List ℕ) → GivesOther (sized_at whole place negative size rest)
unfolding sized_at
sized_other whole place negative size rest =
    let digits = with_sign negative (take size rest) in
    four_tests (nat_lt (length rest) size) (nat_lt size 9) (leads_with_zero digits) (nat_lt (greatest_magnitude negative) (number_high digits))
    (fault.Truncated whole) (fault.NotMinimal place) (fault.NotMinimal place) (fault.TooBig place) (int_by negative digits (drop size rest)) tt

long_other : (whole place : ℕ) (negative : Bool) (rest : List ℕ) → GivesOther (long_at whole place negative rest)
long_other whole place negative [] = tt
long_other whole place negative (size ∷ rest) = sized_other whole place negative (signed_byte negative size) rest

uuid_other : (whole : ℕ) (rest : List ℕ) → GivesOther (uuid_at whole rest)
unfolding uuid_at
uuid_other whole rest = one_test (nat_lt (length rest) 16) (fault.Truncated whole) (elem.Uuid (take 16 rest), drop 16 rest) tt

stamp_other : (whole : ℕ) (rest : List ℕ) → GivesOther (stamp_at whole rest)
unfolding stamp_at
stamp_other whole rest =
    one_test (nat_lt (length rest) 12) (fault.Truncated whole)
    (elem.Stamp (record { stamp = take 10 rest; user = from_be_bytes w16 (take 2 (drop 10 rest)) }), drop 12 rest) tt

-- ---- the first element

-- a tuple that begins with this byte string was read
abbrev BeginsWith : TupleRead → (value : List ℕ) → Elements → (after : List ℕ) → Type 0
BeginsWith read value others after = read ≡ Ok (Single (Bytes value) others, after)

same_parts : (one two : Elements) (x y : List ℕ) → ◌≡◌ {A = TupleRead} (Ok (one, x)) (Ok (two, y)) → (one ≡ two) × (x ≡ y)
same_parts one two x y is =
    let same : ◌≡◌ {A = Elements × List ℕ} (one, x) (two, y) = cc in
    (ap (λ p. p.0) same, ap (λ p. p.1) same)

-- two tuples that differ
apart : (one two : Elements) (x y : List ℕ) → (one ≡ two → ⊥) → ◌≡◌ {A = TupleRead} (Ok (one, x)) (Ok (two, y)) → ⊥
apart one two x y differ is = differ (same_parts one two x y is).0

-- which no other element does
no_other : (element : Elem) (read : TupleRead) (value : List ℕ) (others : Elements) (after : List ℕ) → IsOther element
    → BeginsWith (before_others element read) value others after → ⊥
no_other elem.Null (Ok x) value others after other is = apart _ _ _ _ (λ same. cc) is
no_other (elem.Bytes bytes) (Ok x) value others after other is = other
no_other (elem.Text text) (Ok x) value others after other is = apart _ _ _ _ (λ same. cc) is
no_other (elem.Nested tuple) (Ok x) value others after other is = apart _ _ _ _ (λ same. cc) is
no_other (elem.Int number) (Ok x) value others after other is = apart _ _ _ _ (λ same. cc) is
no_other (elem.Bool truth) (Ok x) value others after other is = apart _ _ _ _ (λ same. cc) is
no_other (elem.Uuid bytes) (Ok x) value others after other is = apart _ _ _ _ (λ same. cc) is
no_other (elem.Stamp stamp) (Ok x) value others after other is = apart _ _ _ _ (λ same. cc) is
no_other element (Err f) value others after other is = cc

-- no tuple that was read with an element first is empty
not_empty : (element : Elem) (read : TupleRead) (after : List ℕ) → before_others element read ≡ Ok (Empty, after) → ⊥
not_empty elem.Null (Ok x) after is = apart _ _ _ _ (λ same. cc) is
not_empty (elem.Bytes bytes) (Ok x) after is = apart _ _ _ _ (λ same. cc) is
not_empty (elem.Text text) (Ok x) after is = apart _ _ _ _ (λ same. cc) is
not_empty (elem.Nested tuple) (Ok x) after is = apart _ _ _ _ (λ same. cc) is
not_empty (elem.Int number) (Ok x) after is = apart _ _ _ _ (λ same. cc) is
not_empty (elem.Bool truth) (Ok x) after is = apart _ _ _ _ (λ same. cc) is
not_empty (elem.Uuid bytes) (Ok x) after is = apart _ _ _ _ (λ same. cc) is
not_empty (elem.Stamp stamp) (Ok x) after is = apart _ _ _ _ (λ same. cc) is
not_empty element (Err f) after is = cc

-- the byte string, and what was read behind it
same_first : (bytes : List ℕ) (read : TupleRead) (value : List ℕ) (others : Elements) (after : List ℕ)
    → BeginsWith (before_others (elem.Bytes bytes) read) value others after → (bytes ≡ value) × (read ≡ Ok (others, after))
same_first bytes (Ok (found, left)) value others after is =
    let parts = same_parts (Single (Bytes bytes) found) (Single (Bytes value) others) left after is in
    let first : Single (Bytes bytes) found ≡ Single (Bytes value) others = parts.0 in
    let behind : left ≡ after = parts.1 in
    let rest : found ≡ others = cc in
    (cc, ap (λ elements. Ok (elements, left)) rest ∙ ap (λ end. Ok (others, end)) behind)
same_first bytes (Err f) value others after is = absurd cc

-- ---- by the code

module _ (whole place : ℕ) (inside onward : List ℕ → TupleRead) where
  -- how it goes on behind a code
  abbrev behind : Option Kind → (rest : List ℕ) → TupleRead
  behind code rest = coded_at whole place 0 code rest >>= going_on inside onward

  -- the byte string is spelled first, and what is read behind it
  record IsBehind (rest value : List ℕ) (others : Elements) (after : List ℕ) : Type 0 where
    left : List ℕ
    parts : rest ≡ string_spelled value ++ left
    onward_read : onward left ≡ Ok (others, after)

  held_no_other : (read : Result (Elem × List ℕ) UnpackFault) (value : List ℕ) (others : Elements) (after : List ℕ) → GivesOther read
      → BeginsWith (held read >>= going_on inside onward) value others after → ⊥
  held_no_other (Ok x) value others after other is = no_other x.0 (onward x.1) value others after other is
  held_no_other (Err f) value others after other is = cc

  held_not_empty : (read : Result (Elem × List ℕ) UnpackFault) (after : List ℕ)
      → (held read >>= going_on inside onward) ≡ Ok (Empty, after) → ⊥
  held_not_empty (Ok x) after is = not_empty x.0 (onward x.1) after is
  held_not_empty (Err f) after is = cc

  -- a nested tuple comes first
  nested : TupleRead → TupleRead
  nested read = read >>= (λ inner. before_others (elem.Nested inner.0) (onward inner.1))

  -- at the top a code ends nothing
  some_first : (code : Option Kind) (rest after : List ℕ) → behind code rest ≡ Ok (Empty, after) → ⊥
  unfolding coded_at nested
  some_first None rest after is = cc
  some_first (Some kind.Null) rest after is = not_empty elem.Null (onward rest) after is
  some_first (Some kind.Bytes) rest after is = held_not_empty (bytes_at whole rest) after is
  some_first (Some kind.Text) rest after is = held_not_empty (text_at whole place rest) after is
  some_first (Some kind.Nested) rest after is = by (inside rest) is
    where
      by : (read : TupleRead) → nested read ≡ Ok (Empty, after) → ⊥
      by (Ok x) is = not_empty (elem.Nested x.0) (onward x.1) after is
      by (Err f) is = cc
  some_first (Some (kind.ShortInt negative size)) rest after is = held_not_empty (short_at whole place negative size rest) after is
  some_first (Some (kind.LongInt negative)) rest after is = held_not_empty (long_at whole place negative rest) after is
  some_first (Some (kind.Bool value)) rest after is = not_empty (elem.Bool value) (onward rest) after is
  some_first (Some kind.Uuid) rest after is = held_not_empty (uuid_at whole rest) after is
  some_first (Some kind.Stamp) rest after is = held_not_empty (stamp_at whole rest) after is

  -- where a byte string comes first, the code is that of one, and these are its bytes
  bytes_first : (code : Option Kind) (rest value : List ℕ) (others : Elements) (after : List ℕ)
      → BeginsWith (behind code rest) value others after → (code ≡ Some kind.Bytes) × IsBehind rest value others after
  unfolding coded_at nested bytes_at
  bytes_first None rest value others after is = absurd cc
  bytes_first (Some kind.Null) rest value others after is = absurd (no_other elem.Null (onward rest) value others after tt is)
  bytes_first (Some kind.Bytes) rest value others after is = (refl, string_first (string_at whole rest) refl is)
    where
      string_first : (read : Result (List ℕ × List ℕ) UnpackFault) → string_at whole rest ≡ read
          → BeginsWith (held (read >>= (λ string. Ok (elem.Bytes string.0, string.1))) >>= going_on inside onward) value others after
          → IsBehind rest value others after
      string_first (Ok string) is read =
          let same = same_first string.0 (onward string.1) value others after read in
          record {
            left = string.1;
            parts = (subst (StringIs whole rest) is (string_found whole rest)).0 ∙ ap (λ bytes. string_spelled bytes ++ string.1) same.0;
            onward_read = same.1;
          }
      string_first (Err f) is read = absurd cc
  bytes_first (Some kind.Text) rest value others after is = absurd (held_no_other (text_at whole place rest) value others after (text_other whole place rest) is)
  bytes_first (Some kind.Nested) rest value others after is = absurd (by (inside rest) is)
    where
      by : (read : TupleRead) → BeginsWith (nested read) value others after → ⊥
      by (Ok x) is = no_other (elem.Nested x.0) (onward x.1) value others after tt is
      by (Err f) is = cc
  bytes_first (Some (kind.ShortInt negative size)) rest value others after is =
      absurd (held_no_other (short_at whole place negative size rest) value others after (short_other whole place negative size rest) is)
  bytes_first (Some (kind.LongInt negative)) rest value others after is =
      absurd (held_no_other (long_at whole place negative rest) value others after (long_other whole place negative rest) is)
  bytes_first (Some (kind.Bool truth)) rest value others after is = absurd (no_other (elem.Bool truth) (onward rest) value others after tt is)
  bytes_first (Some kind.Uuid) rest value others after is = absurd (held_no_other (uuid_at whole rest) value others after (uuid_other whole rest) is)
  bytes_first (Some kind.Stamp) rest value others after is = absurd (held_no_other (stamp_at whole rest) value others after (stamp_other whole rest) is)

-- the code of a byte string
bytes_code : (code : ℕ) → kind_of code ≡ Some kind.Bytes → code ≡ 1
unfolding kind_of
bytes_code code is = grind (arith, nat_tests)

-- ---- the tuple

-- an empty tuple is read of nothing
of_nothing : (most whole : ℕ) (bytes after : List ℕ) → elements_at most whole 0 bytes ≡ Ok (Empty, after) → bytes ≡ []
unfolding elements_at piece_at
of_nothing zero whole bytes after is = absurd cc
of_nothing (suc most) whole [] after is = refl
of_nothing (suc most) whole (code ∷ rest) after is =
    absurd (some_first whole (whole - suc (length rest)) (elements_at most whole 1) (elements_at most whole 0) (kind_of code) rest after is)

alone_in : (most whole : ℕ) (bytes value after : List ℕ) → BeginsWith (elements_at most whole 0 bytes) value Empty after
    → bytes ≡ spelling (Single (Bytes value) Empty)
unfolding elements_at piece_at
alone_in zero whole bytes value after is = absurd cc
alone_in (suc most) whole [] value after is = absurd (apart _ _ _ _ (λ same. cc) is)
alone_in (suc most) whole (code ∷ rest) value after is =
    let onward = elements_at most whole 0 in
    let first = bytes_first whole (whole - suc (length rest)) (elements_at most whole 1) onward (kind_of code) rest value Empty after is in
    let nothing = of_nothing most whole first.1.left after first.1.onward_read in
    ap (λ code. code ∷ rest) (bytes_code code first.0) ∙ ap (λ bytes. 1 ∷ bytes) (first.1.parts ∙ ap (λ left. string_spelled value ++ left) nothing)

-- what is read as a byte string alone is its spelling
pub alone_spelled : (bytes value : List ℕ) → read_tuple bytes ≡ Ok (Single (Bytes value) Empty) → bytes ≡ spelling (Single (Bytes value) Empty)
unfolding read_tuple
alone_spelled bytes value is = by (elements_at (suc (length bytes)) (length bytes) 0 bytes) refl is
  where
    by : (read : TupleRead) → elements_at (suc (length bytes)) (length bytes) 0 bytes ≡ read
        → (read >>= (λ x. Ok x.0)) ≡ Ok (Single (Bytes value) Empty) → bytes ≡ spelling (Single (Bytes value) Empty)
    by (Ok x) read is =
        let one : x.0 ≡ Single (Bytes value) Empty = cc in
        alone_in (suc (length bytes)) (length bytes) bytes value x.1 (read ∙ ap (λ elements. Ok (elements, x.1)) one)
    by (Err f) read is = absurd cc
