-- A scalar that is spelled is read, where no digit stands behind it.
use Rattle.std.proofs.Common.{◌≡◌, ℕ, suc, ◌^◌, ◌<◌, ◌≤◌, true, false, List, [], ◌∷◌, ◌++◌, length, get_or, pos, negsuc, Some, None, Ok, refl, sym, ap, ◌∙◌, append_assoc, arith}
use Rattle.std.specs.Prelude.{codes}
use Rattle.std.specs.Fmt.{decimal}
use Rattle.std.specs.List.{prefix_len, list_all}
use Rattle.std.proofs.lemmas.Bool.{ne_eqb, le-ltb, and_parts}
use Rattle.std.proofs.lemmas.Bool.Decides.{nat_tests}
use Rattle.std.proofs.lemmas.List.{get_or_append_left}
use Rattle.std.proofs.lemmas.List.Elements.{recursion_from_All}
use Rattle.std.specs.Str.{is_utf8}
use Rattle.std.proofs.lemmas.Str.{is_utf8-from_IsUtf8}
use Rattle.key_bytes.specs.Keys.{IsByteString}
use Rattle.model_lines.specs.Printing.{printable_but}
use Rattle.fdb_tuple.specs.declared.tuple.Elem.TheVariants as elem
use Rattle.fdb_tuple.specs.Tuples.{Scalar, Null, Bytes, Text, Int, Boolean, Uuid, Stamp, IsScalar, greatest_magnitude}
use Rattle.fdb_tuple.specs.Listed.{element_of}
use Rattle.model_input.specs.Orders.{is_digit}
use Rattle.dump_reading.specs.Fields.{behind, number_at}
use Rattle.dump_reading.specs.Spellings.{byte_at}
use Rattle.dump_reading.proofs.FieldLaws.{behind_again}
use Rattle.dump_reading.proofs.Numbers.{AreDigits, number_again, digits_of_number, some_digits, first_digit}
use Rattle.instr_grammar.specs.Texts.{quote, in_hexadecimal, scalar_text}
use Rattle.instr_grammar.specs.Reading.{run_of, closed, hexadecimal_at, bytes_at, text_at, uuid_at, stamp_at, positive_at, begins_magnitude, negative_at, scalar_at}
use Rattle.instr_grammar.proofs.Runs.{AreBytes, run_again}
use Rattle.instr_grammar.proofs.Utf8.{text_bytes}
use Rattle.instr_grammar.proofs.Hexadecimal.{hexadecimal_again}

abbrev pub Ends : List ℕ → Type 0
Ends rest = prefix_len is_digit rest ≡ 0

string_bytes : (bytes : List ℕ) → IsByteString bytes → AreBytes bytes
string_bytes bytes h = recursion_from_All (λ b. b < 256) bytes h

at_quote : (rest : List ℕ) → byte_at (Some quote) (quote ∷ rest) ≡ None
unfolding byte_at
at_quote rest = refl

-- the run of a string
string_run : (bytes rest : List ℕ) → AreBytes bytes → run_of (Some quote) (printable_but (Some quote) bytes ++ quote ∷ rest) ≡ (bytes, quote ∷ rest)
string_run bytes rest h = run_again (Some quote) bytes (quote ∷ rest) h (at_quote rest)

string_read : (bytes rest : List ℕ) → AreBytes bytes → closed (run_of (Some quote) (printable_but (Some quote) bytes ++ quote ∷ rest)) ≡ Ok (bytes, rest)
string_read bytes rest h = ap closed (string_run bytes rest h)

bytes_again : (bytes rest : List ℕ) → AreBytes bytes → bytes_at (98 ∷ quote ∷ printable_but (Some quote) bytes ++ quote ∷ rest) ≡ Ok (elem.Bytes bytes, rest)
unfolding bytes_at behind
bytes_again bytes rest h = rw (string_read bytes rest h) refl

text_again : (text rest : List ℕ) → AreBytes text → is_utf8 text ≡ true → text_at (117 ∷ quote ∷ printable_but (Some quote) text ++ quote ∷ rest) ≡ Ok (elem.Text text, rest)
unfolding text_at behind
text_again text rest h valid = rw (string_read text rest h, valid) refl

uuid_again : (uuid rest : List ℕ) → AreBytes uuid → length uuid ≡ 16 → uuid_at (codes "uuid:" ++ in_hexadecimal uuid ++ rest) ≡ Ok (elem.Uuid uuid, rest)
unfolding uuid_at behind
uuid_again uuid rest h len =
    let read : hexadecimal_at 16 (in_hexadecimal uuid ++ rest) ≡ Ok (uuid, rest) =
    ap (λ (n : ℕ). hexadecimal_at n (in_hexadecimal uuid ++ rest)) (sym len) ∙ hexadecimal_again uuid rest h in
    rw read refl

stamp_by_parts : (digits stamp behind_it number : List ℕ) (user : ℕ) (rest : List ℕ) → hexadecimal_at 10 digits ≡ Ok (stamp, behind_it)
    → behind (codes ".") behind_it ≡ Ok number → number_at 65535 number ≡ Ok (user, rest)
    → stamp_at (codes "stamp:" ++ digits) ≡ Ok (elem.Stamp (record { stamp = stamp; user = user }), rest)
unfolding stamp_at
stamp_by_parts digits stamp behind_it number user rest e f g = rw (behind_again (codes "stamp:") digits, e, f, g) refl

stamp_shape : (stamp user rest : List ℕ) → (codes "stamp:" ++ stamp ++ codes "." ++ user) ++ rest ≡ codes "stamp:" ++ (stamp ++ (codes "." ++ (user ++ rest)))
stamp_shape stamp user rest = simp append_assoc refl

stamp_again : (stamp : List ℕ) (user : ℕ) (rest : List ℕ) → AreBytes stamp → length stamp ≡ 10 → user < 2 ^ 16 → Ends rest
    → stamp_at (codes "stamp:" ++ (in_hexadecimal stamp ++ (codes "." ++ (decimal user ++ rest)))) ≡ Ok (elem.Stamp (record { stamp = stamp; user = user }), rest)
stamp_again stamp user rest h len small ends =
    let behind_it : List ℕ = codes "." ++ (decimal user ++ rest) in
    stamp_by_parts (in_hexadecimal stamp ++ behind_it) stamp behind_it (decimal user ++ rest) user rest
    (ap (λ (n : ℕ). hexadecimal_at n (in_hexadecimal stamp ++ behind_it)) (sym len) ∙ hexadecimal_again stamp behind_it h)
    (behind_again (codes ".") (decimal user ++ rest)) (number_again 65535 user rest (omega arith) (omega arith) ends)

-- ---- integers

positive_again : (n : ℕ) (rest : List ℕ) → n ≤ greatest_magnitude false → Ends rest → positive_at (decimal n ++ rest) ≡ Ok (elem.Int (pos n), rest)
unfolding positive_at
positive_again n rest h ends = rw (number_again (greatest_magnitude false) n rest (omega arith) h ends) refl

digit_begins : (byte : ℕ) (rest : List ℕ) → is_digit byte ≡ true → scalar_at (byte ∷ rest) ≡ positive_at (byte ∷ rest)
unfolding scalar_at
digit_begins byte rest e =
    let low : 48 ≤ byte = grind (arith, nat_tests) in
    let high : byte ≤ 57 = grind (arith, nat_tests) in
    rw (
      ne_eqb byte 98 (λ k. omega arith),
      ne_eqb byte 117 (λ k. omega arith),
      ne_eqb byte 110 (λ k. omega arith),
      ne_eqb byte 116 (λ k. omega arith),
      ne_eqb byte 102 (λ k. omega arith),
      ne_eqb byte 115 (λ k. omega arith),
      ne_eqb byte 45 (λ k. omega arith),
    ) refl

digits_begin : (digits rest : List ℕ) → AreDigits digits → 0 < length digits → scalar_at (digits ++ rest) ≡ positive_at (digits ++ rest)
digits_begin [] rest are some = absurd (omega arith)
digits_begin (digit ∷ digits) rest are some = digit_begins digit (digits ++ rest) (and_parts (is_digit digit) (list_all is_digit digits) are).0

magnitude_begins : (n : ℕ) (rest : List ℕ) → suc n < 10 ^ 64 → begins_magnitude (decimal (suc n) ++ rest) ≡ true
magnitude_begins n rest h =
    let digits = decimal (suc n) in
    let some = some_digits (suc n) h in
    let first = get_or_append_left digits rest 0 0 some in
    let low : 48 < get_or digits 0 0 = first_digit (suc n) (omega arith) h in
    let high : get_or digits 0 0 ≤ 57 = first_within digits (digits_of_number (suc n) h) some in
    rw first (let l : 49 ≤ get_or digits 0 0 = omega arith in grind (arith, nat_tests))
  where
    first_within : (digits : List ℕ) → AreDigits digits → 0 < length digits → get_or digits 0 0 ≤ 57
    first_within [] are some = absurd (omega arith)
    first_within (digit ∷ digits) are some = let is = (and_parts (is_digit digit) (list_all is_digit digits) are).0 in grind (arith, nat_tests)

negative_again : (n : ℕ) (rest : List ℕ) → suc n ≤ greatest_magnitude true → Ends rest → negative_at (45 ∷ decimal (suc n) ++ rest) ≡ Ok (elem.Int (negsuc n), rest)
unfolding negative_at behind
negative_again n rest h ends =
    rw (magnitude_begins n rest (omega arith), number_again (greatest_magnitude true) (suc n) rest (omega arith) h ends) refl

is_small : (n : ℕ) → IsScalar (Int (pos n)) → n ≤ greatest_magnitude false
is_small n h = rw (le-ltb n 0 (omega arith)) at h

-- ---- all of them

pub scalar_again : (scalar : Scalar) (rest : List ℕ) → IsScalar scalar → Ends rest → scalar_at (scalar_text scalar ++ rest) ≡ Ok (element_of scalar, rest)
unfolding scalar_at scalar_text behind
scalar_again Null rest is ends = refl
scalar_again (Bytes bytes) rest is ends =
    ap (λ (x : List ℕ). bytes_at (98 ∷ quote ∷ x)) (append_assoc (printable_but (Some quote) bytes) (quote ∷ []) rest)
    ∙ bytes_again bytes rest (string_bytes bytes is)
scalar_again (Text text) rest is ends =
    ap (λ (x : List ℕ). text_at (117 ∷ quote ∷ x)) (append_assoc (printable_but (Some quote) text) (quote ∷ []) rest)
    ∙ text_again text rest (text_bytes text is) (is_utf8-from_IsUtf8 text is)
scalar_again (Int (pos n)) rest is ends =
    digits_begin (decimal n) rest (digits_of_number n (omega (arith, is_small n is))) (some_digits n (omega (arith, is_small n is)))
    ∙ positive_again n rest (is_small n is) ends
scalar_again (Int (negsuc n)) rest is ends = negative_again n rest is ends
scalar_again (Boolean false) rest is ends = refl
scalar_again (Boolean true) rest is ends = refl
scalar_again (Uuid uuid) rest is ends = uuid_again uuid rest (string_bytes uuid is.0) is.1
scalar_again (Stamp stamp user) rest is ends =
    ap stamp_at (stamp_shape (in_hexadecimal stamp) (decimal user) rest)
    ∙ stamp_again stamp user rest (string_bytes stamp is.0) is.1 is.2 ends
