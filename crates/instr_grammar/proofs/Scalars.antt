-- A scalar that was read is spelled so.
use Rattle.std.proofs.Common.{◌≡◌, ℕ, zero, suc, ◌^◌, ◌<◌, ◌≤◌, Bool, true, false, cond, ◌==◌, List, [], ◌∷◌, ◌++◌, length, pos, negsuc, Some, Result, Ok, Err, IfOk, refl, sym, ap, ap₂, subst, ◌∙◌, append_assoc, arith}
use Rattle.std.specs.Prelude.{codes}
use Rattle.std.specs.Fmt.{decimal}
use Rattle.std.specs.Str.{is_utf8}
use Rattle.std.proofs.lemmas.Bool.{eqb-true, le-ltb}
use Rattle.std.proofs.lemmas.Fmt.{decimal_digit}
use Rattle.std.proofs.lemmas.List.Elements.{All-from_recursion}
use Rattle.std.proofs.lemmas.Str.{IsUtf8-from_is_utf8}
use Rattle.key_bytes.specs.Keys.{IsByteString}
use Rattle.model_lines.specs.Printing.{printable_but}
use Rattle.fdb_tuple.specs.declared.tuple.Elem.{Elem}
use Rattle.fdb_tuple.specs.declared.tuple.Elem.TheVariants as elem
use Rattle.fdb_tuple.specs.Tuples.{Scalar, Null, Bytes, Text, Int, Boolean, Uuid, Stamp, IsScalar, greatest_magnitude}
use Rattle.fdb_tuple.specs.Listed.{element_of}
use Rattle.dump_reading.specs.Fields.{◌>>=◌, behind, number_at}
use Rattle.dump_reading.proofs.FieldLaws.{behind_was}
use Rattle.dump_reading.proofs.Numbers.{IsNumber, number_was}
use Rattle.instr_grammar.specs.Texts.{quote, in_hexadecimal, scalar_text}
use Rattle.instr_grammar.specs.Reading.{Run, run_of, behind_quote, with_string, closed, hexadecimal_at, word_at, bytes_at, text_in, text_at, uuid_at, stamp_at, positive_at, begins_magnitude, magnitude_at, negative_at, is_uuid, scalar_at}
use Rattle.instr_grammar.proofs.Runs.{AreBytes, IsRun, run_is}
use Rattle.instr_grammar.proofs.Hexadecimal.{SpelledIn, BytesRead, hexadecimal_were}

-- ---- what a step that did not fail says

pub if_ok : {A : Type 0} (read : Result A ℕ) (P : A → Type 0) → ((x : A) → read ≡ Ok x → P x) → IfOk read P
if_ok (Ok x) P h = h x refl
if_ok (Err left) P h = tt

pub then_ok : {A B : Type 0} (read : Result A ℕ) (f : A → Result B ℕ) (P : A → Type 0) (Q : B → Type 0) → IfOk read P
    → ((x : A) → P x → IfOk (f x) Q) → IfOk (read >>= f) Q
then_ok (Ok x) f P Q h k = k x h
then_ok (Err left) f P Q h k = tt

pub cond_ok : {A : Type 0} (test : Bool) (p q : Result A ℕ) (P : A → Type 0) → IfOk p P → IfOk q P → IfOk (cond test p q) P
cond_ok true p q P h k = h
cond_ok false p q P h k = k

pub behind_ok : (word bytes : List ℕ) → IfOk (behind word bytes) (λ rest. bytes ≡ word ++ rest)
behind_ok word bytes = if_ok (behind word bytes) (λ rest. bytes ≡ word ++ rest) (λ rest e. behind_was word bytes rest e)

-- ---- a scalar at the front

pub record Taken (bytes : List ℕ) (element : Elem) (rest : List ℕ) : Type 0 where
  pub scalar : Scalar
  pub element_is : element ≡ element_of scalar
  pub is_scalar : IsScalar scalar
  pub parts : bytes ≡ scalar_text scalar ++ rest

abbrev pub IsTaken : List ℕ → Elem × List ℕ → Type 0
IsTaken bytes x = Taken bytes x.0 x.1

word_was : (word bytes : List ℕ) (scalar : Scalar) → word ≡ scalar_text scalar → IsScalar scalar → IfOk (word_at word (element_of scalar) bytes) (IsTaken bytes)
word_was word bytes scalar same is =
    then_ok (behind word bytes) (λ rest. Ok (element_of scalar, rest)) (λ rest. bytes ≡ word ++ rest) (IsTaken bytes) (behind_ok word bytes)
    (λ rest e. record { scalar = scalar; element_is = refl; is_scalar = is; parts = e ∙ ap (λ (x : List ℕ). x ++ rest) same })

-- ---- strings

as_string : (bytes : List ℕ) → AreBytes bytes → IsByteString bytes
as_string bytes h = All-from_recursion (λ b. b < 256) bytes h

quote_was : (left : List ℕ) → IfOk (behind_quote left) (λ rest. left ≡ quote ∷ rest)
quote_was [] = tt
quote_was (byte ∷ rest) = by (byte == quote) refl
  where
    by : (test : Bool) → (byte == quote) ≡ test → IfOk (cond test (Ok rest) (Err (length (byte ∷ rest)))) (λ behind. byte ∷ rest ≡ quote ∷ behind)
    by true e = ap (λ (x : ℕ). x ∷ rest) (eqb-true byte quote e)
    by false e = tt

with_was : (string : List ℕ) (left : List ℕ) (read : Result (List ℕ) ℕ) → IfOk read (λ rest. left ≡ quote ∷ rest)
    → IfOk (with_string string read) (λ x. (x.0 ≡ string) × (left ≡ quote ∷ x.1))
with_was string left (Ok rest) h = (refl, h)
with_was string left (Err fault) h = tt

abbrev pub IsString : List ℕ → List ℕ × List ℕ → Type 0
IsString inside x = (inside ≡ printable_but (Some quote) x.0 ++ quote ∷ x.1) × AreBytes x.0

closed_was : (inside : List ℕ) (run : Run) → IsRun (Some quote) inside run → IfOk (closed run) (IsString inside)
closed_was inside run is = by (closed run) (with_was run.0 run.1 (behind_quote run.1) (quote_was run.1))
  where
    by : (read : BytesRead) → IfOk read (λ x. (x.0 ≡ run.0) × (run.1 ≡ quote ∷ x.1)) → IfOk read (IsString inside)
    by (Ok x) h =
        (is.parts ∙ ap₂ (λ (front behind : List ℕ). printable_but (Some quote) front ++ behind) (sym h.0) h.1, subst AreBytes (sym h.0) is.are_bytes)
    by (Err left) h = tt

string_was : (inside : List ℕ) → IfOk (closed (run_of (Some quote) inside)) (IsString inside)
string_was inside = closed_was inside (run_of (Some quote) inside) (run_is (Some quote) inside)

bytes_were : (bytes : List ℕ) → IfOk (bytes_at bytes) (IsTaken bytes)
unfolding bytes_at scalar_text
bytes_were bytes =
    then_ok (behind (codes "b'") bytes) (λ inside. closed (run_of (Some quote) inside) >>= (λ string. Ok (elem.Bytes string.0, string.1)))
    (λ rest. bytes ≡ codes "b'" ++ rest) (IsTaken bytes) (behind_ok (codes "b'") bytes)
    (λ inside e. then_ok (closed (run_of (Some quote) inside)) (λ string. Ok (elem.Bytes string.0, string.1)) (IsString inside) (IsTaken bytes)
    (string_was inside)
    (λ string is. record {
      scalar = Bytes string.0;
      element_is = refl;
      is_scalar = as_string string.0 is.1;
      parts = e ∙ ap (λ (x : List ℕ). codes "b'" ++ x) is.0 ∙ simp append_assoc refl;
    }))

text_was : (left : ℕ) (bytes inside front : List ℕ) (read : BytesRead) → bytes ≡ codes "u'" ++ inside → IfOk read (IsString inside)
    → IfOk (text_in left front read) (IsTaken bytes)
unfolding scalar_text
text_was left bytes inside front (Err fault) e is = tt
text_was left bytes inside front (Ok string) e is = by (is_utf8 string.0) refl
  where
    by : (test : Bool) → is_utf8 string.0 ≡ test → IfOk (cond test (Ok (elem.Text string.0, string.1)) (Err left)) (IsTaken bytes)
    by true valid = record {
      scalar = Text string.0;
      element_is = refl;
      is_scalar = IsUtf8-from_is_utf8 string.0 valid;
      parts = e ∙ ap (λ (x : List ℕ). codes "u'" ++ x) is.0 ∙ simp append_assoc refl;
    }
    by false valid = tt

text_were : (bytes : List ℕ) → IfOk (text_at bytes) (IsTaken bytes)
unfolding text_at
text_were bytes =
    then_ok (behind (codes "u'") bytes) (λ inside. text_in (length bytes) (run_of (Some quote) inside).0 (closed (run_of (Some quote) inside)))
    (λ rest. bytes ≡ codes "u'" ++ rest) (IsTaken bytes) (behind_ok (codes "u'") bytes)
    (λ inside e. text_was (length bytes) bytes inside (run_of (Some quote) inside).0 (closed (run_of (Some quote) inside)) e (string_was inside))

-- ---- by digits

abbrev IsHex : ℕ → List ℕ → List ℕ × List ℕ → Type 0
IsHex count digits x = (digits ≡ in_hexadecimal x.0 ++ x.1) × AreBytes x.0 × (length x.0 ≡ count)

hex_was : (count : ℕ) (digits : List ℕ) → IfOk (hexadecimal_at count digits) (IsHex count digits)
hex_was count digits = by (hexadecimal_at count digits) (hexadecimal_were count digits)
  where
    by : (read : BytesRead) → SpelledIn count digits read → IfOk read (IsHex count digits)
    by (Ok x) h = h
    by (Err left) h = tt

uuid_was : (bytes : List ℕ) → IfOk (uuid_at bytes) (IsTaken bytes)
unfolding uuid_at scalar_text
uuid_was bytes =
    then_ok (behind (codes "uuid:") bytes) (λ digits. hexadecimal_at 16 digits >>= (λ uuid. Ok (elem.Uuid uuid.0, uuid.1)))
    (λ rest. bytes ≡ codes "uuid:" ++ rest) (IsTaken bytes) (behind_ok (codes "uuid:") bytes)
    (λ digits e. then_ok (hexadecimal_at 16 digits) (λ uuid. Ok (elem.Uuid uuid.0, uuid.1)) (IsHex 16 digits) (IsTaken bytes) (hex_was 16 digits)
    (λ uuid is. record {
      scalar = Uuid uuid.0;
      element_is = refl;
      is_scalar = (as_string uuid.0 is.1, is.2);
      parts = e ∙ ap (λ (x : List ℕ). codes "uuid:" ++ x) is.0;
    }))

number_ok : (most : ℕ) (bytes : List ℕ) → most < 10 ^ 64 → IfOk (number_at most bytes) (IsNumber most bytes)
number_ok most bytes h = if_ok (number_at most bytes) (IsNumber most bytes) (λ read e. number_was most bytes read h e)

stamp_was : (bytes : List ℕ) → IfOk (stamp_at bytes) (IsTaken bytes)
unfolding stamp_at scalar_text
stamp_was bytes =
    then_ok (behind (codes "stamp:") bytes)
    (λ digits. hexadecimal_at 10 digits >>= (λ stamp. behind (codes ".") stamp.1 >>= (λ number. number_at 65535 number
    >>= (λ user. Ok (elem.Stamp (record { stamp = stamp.0; user = user.0 }), user.1)))))
    (λ rest. bytes ≡ codes "stamp:" ++ rest) (IsTaken bytes) (behind_ok (codes "stamp:") bytes)
    (λ digits e. then_ok (hexadecimal_at 10 digits)
    (λ stamp. behind (codes ".") stamp.1 >>= (λ number. number_at 65535 number >>= (λ user. Ok (elem.Stamp (record { stamp = stamp.0; user = user.0 }), user.1))))
    (IsHex 10 digits) (IsTaken bytes) (hex_was 10 digits)
    (λ stamp is. then_ok (behind (codes ".") stamp.1)
    (λ number. number_at 65535 number >>= (λ user. Ok (elem.Stamp (record { stamp = stamp.0; user = user.0 }), user.1)))
    (λ rest. stamp.1 ≡ codes "." ++ rest) (IsTaken bytes) (behind_ok (codes ".") stamp.1)
    (λ number dot. then_ok (number_at 65535 number) (λ user. Ok (elem.Stamp (record { stamp = stamp.0; user = user.0 }), user.1))
    (IsNumber 65535 number) (IsTaken bytes) (number_ok 65535 number (omega arith))
    (λ user read. record {
      scalar = Stamp stamp.0 user.0;
      element_is = refl;
      is_scalar = (as_string stamp.0 is.1, is.2, omega (arith, read.small));
      parts = e ∙ ap (λ (x : List ℕ). codes "stamp:" ++ x)
          (is.0 ∙ ap (λ (x : List ℕ). in_hexadecimal stamp.0 ++ x) (dot ∙ ap (λ (x : List ℕ). codes "." ++ x) read.spelled))
          ∙ simp append_assoc refl;
    }))))

-- ---- integers

positive_small : (n : ℕ) → n ≤ greatest_magnitude false → IsScalar (Int (pos n))
positive_small n h = rw (le-ltb n 0 (omega arith)) h

positive_was : (bytes : List ℕ) → IfOk (positive_at bytes) (IsTaken bytes)
unfolding positive_at scalar_text
positive_was bytes =
    then_ok (number_at (greatest_magnitude false) bytes) (λ number. Ok (elem.Int (pos number.0), number.1)) (IsNumber (greatest_magnitude false) bytes)
    (IsTaken bytes) (number_ok (greatest_magnitude false) bytes (omega arith))
    (λ number read. record { scalar = Int (pos number.0); element_is = refl; is_scalar = positive_small number.0 read.small; parts = read.spelled })

no_zero : (rest others : List ℕ) → begins_magnitude rest ≡ true → rest ≡ decimal 0 ++ others → ⊥
no_zero rest others begins e =
    let zero_first : rest ≡ 48 ∷ others = e ∙ ap (λ (x : List ℕ). x ++ others) (decimal_digit 0 (omega arith)) in
    let same : begins_magnitude rest ≡ begins_magnitude (48 ∷ others) = ap begins_magnitude zero_first in
    absurd (let no : false ≡ true = sym same ∙ begins in cc)

magnitude_was : (bytes rest : List ℕ) (test : Bool) (read : Result (ℕ × List ℕ) ℕ) → begins_magnitude rest ≡ test → bytes ≡ codes "-" ++ rest
    → IfOk read (IsNumber (greatest_magnitude true) rest) → IfOk (magnitude_at test rest read) (IsTaken bytes)
unfolding scalar_text
magnitude_was bytes rest false read begins e is = tt
magnitude_was bytes rest true (Err left) begins e is = tt
magnitude_was bytes rest true (Ok (zero, others)) begins e is = absurd (no_zero rest others begins is.spelled)
magnitude_was bytes rest true (Ok (suc n, others)) begins e is =
    record { scalar = Int (negsuc n); element_is = refl; is_scalar = is.small; parts = e ∙ ap (λ (x : List ℕ). codes "-" ++ x) is.spelled }

negative_was : (bytes : List ℕ) → IfOk (negative_at bytes) (IsTaken bytes)
unfolding negative_at
negative_was bytes =
    then_ok (behind (codes "-") bytes) (λ rest. magnitude_at (begins_magnitude rest) rest (number_at (greatest_magnitude true) rest))
    (λ rest. bytes ≡ codes "-" ++ rest) (IsTaken bytes) (behind_ok (codes "-") bytes)
    (λ rest e. magnitude_was bytes rest (begins_magnitude rest) (number_at (greatest_magnitude true) rest) refl e
    (number_ok (greatest_magnitude true) rest (omega arith)))

-- ---- all of them

pub scalar_was : (bytes : List ℕ) → IfOk (scalar_at bytes) (IsTaken bytes)
unfolding scalar_at scalar_text
scalar_was [] = tt
scalar_was (byte ∷ rest) =
    let bytes = byte ∷ rest in
    cond_ok (byte == 98) (bytes_at bytes) _ (IsTaken bytes) (bytes_were bytes)
    (cond_ok (byte == 117) (cond (is_uuid rest) (uuid_at bytes) (text_at bytes)) _ (IsTaken bytes)
    (cond_ok (is_uuid rest) (uuid_at bytes) (text_at bytes) (IsTaken bytes) (uuid_was bytes) (text_were bytes))
    (cond_ok (byte == 110) (word_at (codes "null") elem.Null bytes) _ (IsTaken bytes) (word_was (codes "null") bytes Null refl tt)
    (cond_ok (byte == 116) (word_at (codes "true") (elem.Bool true) bytes) _ (IsTaken bytes) (word_was (codes "true") bytes (Boolean true) refl tt)
    (cond_ok (byte == 102) (word_at (codes "false") (elem.Bool false) bytes) _ (IsTaken bytes) (word_was (codes "false") bytes (Boolean false) refl tt)
    (cond_ok (byte == 115) (stamp_at bytes) _ (IsTaken bytes) (stamp_was bytes)
    (cond_ok (byte == 45) (negative_at bytes) (positive_at bytes) (IsTaken bytes) (negative_was bytes) (positive_was bytes)))))))
