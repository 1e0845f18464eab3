-- A line that was read is the line of its value, and the line of a value is read as this value.
use Rattle.std.proofs.Common.{◌≡◌, ℕ, ◌≤◌, Bool, true, false, cond, ◌==◌, ◌⊎◌, inl, inr, List, [], ◌∷◌, ◌++◌, length, Result, Ok, Err, refl, sym, ap, subst, ◌∙◌, arith}
use Rattle.std.specs.Fmt.{decimal}
use Rattle.std.proofs.lemmas.Bool.{eqb-true}
use Rattle.std.proofs.lemmas.List.{append-nil}
use Rattle.model_lines.specs.Printing.{printable, separator, machine_line, item_line, error_line, order_line, pair_line}
use Rattle.model_lines.specs.Reading.{Entry, Flaw, Bad, Fault, start, size_of, pair_at, joined, lines_of, is_pair, line_limit}
use Rattle.model_lines.specs.Reading as reading
use Rattle.model_input.proofs.Machines.{choice_ok}
use Rattle.model_input.specs.Orders.{last_machine}
use Rattle.dump_text.specs.declared.line.Line.{Line}
use Rattle.dump_text.specs.declared.line.Line.TheVariants as line
use Rattle.dump_text.specs.Ends.{word_of}
use Rattle.dump_text.specs.Lines.{line_of}
use Rattle.dump_text.proofs.Laws.{standing, lines_were}
use Rattle.dump_reading.specs.Dumps.{machine_fields, item_fields, error_fields, order_up_to, order_fields, rank_of, placed, with_pair, value_at, kind_of, pairs_of, IsLawful, greatest_machine, greatest_number}
use Rattle.dump_reading.specs.Fields.{◌>>=◌, number_field, end_field, word_field, text_field}
use Rattle.dump_reading.proofs.FieldLaws.{bind_ok, spaced, number_field_was, end_field_was, word_field_was, text_field_was}
use Rattle.dump_reading.proofs.PairLines.{read_alone}

-- ---- what stands in a line before its line feed

abbrev pub content : Line → List ℕ
content (line.M machine end number prefix) =
    77 ∷ spaced (decimal machine ++ spaced (word_of end ++ spaced (decimal number ++ spaced (printable prefix))))
content (line.S machine place instruction packed) =
    83 ∷ spaced (decimal machine ++ spaced (decimal place ++ spaced (decimal instruction ++ spaced (printable packed))))
content (line.E machine instruction word) = 69 ∷ spaced (decimal machine ++ spaced (decimal instruction ++ spaced word))
content (line.O machine) = 79 ∷ spaced (decimal machine)
content (line.K key value) = 75 ∷ spaced (printable key ++ separator ++ printable value)

pub line_of-is : (value : Line) → line_of value ≡ content value ++ 10 ∷ []
unfolding machine_line item_line error_line order_line pair_line
line_of-is (line.M machine end number prefix) = refl
line_of-is (line.S machine place instruction packed) = refl
line_of-is (line.E machine instruction word) = refl
line_of-is (line.O machine) = refl
line_of-is (line.K key value) = refl

pub rank_is : (value : Line) → rank_of (content value) ≡ kind_of value
rank_is (line.M machine end number prefix) = refl
rank_is (line.S machine place instruction packed) = refl
rank_is (line.E machine instruction word) = refl
rank_is (line.O machine) = refl
rank_is (line.K key value) = refl

pub pairs_are : (value : Line) → length (pairs_of value) ≡ cond (is_pair (content value)) 1 0
pairs_are (line.M machine end number prefix) = refl
pairs_are (line.S machine place instruction packed) = refl
pairs_are (line.E machine instruction word) = refl
pairs_are (line.O machine) = refl
pairs_are (line.K key value) = refl

-- ---- fields that were read

-- the fields behind a letter are those of a value
pub record AreFields (letter : ℕ) (fields : List ℕ) (value : Line) : Type 0 where
  pub spelled : letter ∷ fields ≡ content value
  pub lawful : IsLawful value

abbrev found : Line → Result Line ℕ
found value = Ok value

value_is : (x y : Line) → found x ≡ found y → x ≡ y
value_is x y e = cc

-- fields, each with what stands behind it, are one text
three_fields : (letter : ℕ) (bytes first second third behind_first behind_second behind_third last : List ℕ)
    → bytes ≡ spaced (first ++ behind_first) → behind_first ≡ spaced (second ++ behind_second)
    → behind_second ≡ spaced (third ++ behind_third) → behind_third ≡ spaced last
    → letter ∷ bytes ≡ letter ∷ spaced (first ++ spaced (second ++ spaced (third ++ spaced last)))
three_fields letter bytes first second third behind_first behind_second behind_third last e f g h = rw (e, f, g, h) refl

two_fields : (letter : ℕ) (bytes first second behind_first behind_second last : List ℕ)
    → bytes ≡ spaced (first ++ behind_first) → behind_first ≡ spaced (second ++ behind_second) → behind_second ≡ spaced last
    → letter ∷ bytes ≡ letter ∷ spaced (first ++ spaced (second ++ spaced last))
two_fields letter bytes first second behind_first behind_second last e f g = rw (e, f, g) refl

one_field : (letter : ℕ) (bytes first behind_first : List ℕ) → bytes ≡ spaced (first ++ behind_first) → behind_first ≡ []
    → letter ∷ bytes ≡ letter ∷ spaced first
one_field letter bytes first behind_first e f = rw (e, f, append-nil first) refl

machine_was : (fields : List ℕ) (value : Line) → machine_fields fields ≡ Ok value → AreFields 77 fields value
unfolding machine_fields
machine_was fields value e =
    let a = bind_ok (number_field greatest_machine fields) (λ machine. end_field machine.1 >>= λ end. number_field greatest_number end.1 >>= λ number. text_field number.1 >>= λ prefix. found (line.M machine.0 end.0 number.0 prefix)) value e in
    let b = bind_ok (end_field a.0.1) (λ end. number_field greatest_number end.1 >>= λ number. text_field number.1 >>= λ prefix. found (line.M a.0.0 end.0 number.0 prefix)) value a.2 in
    let c = bind_ok (number_field greatest_number b.0.1) (λ number. text_field number.1 >>= λ prefix. found (line.M a.0.0 b.0.0 number.0 prefix)) value b.2 in
    let d = bind_ok (text_field c.0.1) (λ prefix. found (line.M a.0.0 b.0.0 c.0.0 prefix)) value c.2 in
    let machine = number_field_was greatest_machine fields a.0 (omega arith) a.1 in
    let end = end_field_was a.0.1 b.0 b.1 in
    let number = number_field_was greatest_number b.0.1 c.0 (omega arith) c.1 in
    let prefix = text_field_was c.0.1 d.0 d.1 in
    let made = line.M a.0.0 b.0.0 c.0.0 d.0 in
    subst (AreFields 77 fields) {x = made} (value_is made value d.2) (record {
      spelled = three_fields 77 fields (decimal a.0.0) (word_of b.0.0) (decimal c.0.0) a.0.1 b.0.1 c.0.1 (printable d.0) machine.0 end number.0 prefix.0;
      lawful = (machine.1, number.1, prefix.1);
    })

item_was : (fields : List ℕ) (value : Line) → item_fields fields ≡ Ok value → AreFields 83 fields value
unfolding item_fields
item_was fields value e =
    let a = bind_ok (number_field greatest_machine fields) (λ machine. number_field greatest_number machine.1 >>= λ place. number_field greatest_number place.1 >>= λ instruction. text_field instruction.1 >>= λ packed. found (line.S machine.0 place.0 instruction.0 packed)) value e in
    let b = bind_ok (number_field greatest_number a.0.1) (λ place. number_field greatest_number place.1 >>= λ instruction. text_field instruction.1 >>= λ packed. found (line.S a.0.0 place.0 instruction.0 packed)) value a.2 in
    let c = bind_ok (number_field greatest_number b.0.1) (λ instruction. text_field instruction.1 >>= λ packed. found (line.S a.0.0 b.0.0 instruction.0 packed)) value b.2 in
    let d = bind_ok (text_field c.0.1) (λ packed. found (line.S a.0.0 b.0.0 c.0.0 packed)) value c.2 in
    let machine = number_field_was greatest_machine fields a.0 (omega arith) a.1 in
    let place = number_field_was greatest_number a.0.1 b.0 (omega arith) b.1 in
    let instruction = number_field_was greatest_number b.0.1 c.0 (omega arith) c.1 in
    let packed = text_field_was c.0.1 d.0 d.1 in
    let made = line.S a.0.0 b.0.0 c.0.0 d.0 in
    subst (AreFields 83 fields) {x = made} (value_is made value d.2) (record {
      spelled = three_fields 83 fields (decimal a.0.0) (decimal b.0.0) (decimal c.0.0) a.0.1 b.0.1 c.0.1 (printable d.0) machine.0 place.0 instruction.0 packed.0;
      lawful = (machine.1, place.1, instruction.1, packed.1);
    })

error_was : (fields : List ℕ) (value : Line) → error_fields fields ≡ Ok value → AreFields 69 fields value
unfolding error_fields
error_was fields value e =
    let a = bind_ok (number_field greatest_machine fields) (λ machine. number_field greatest_number machine.1 >>= λ instruction. word_field instruction.1 >>= λ word. found (line.E machine.0 instruction.0 word)) value e in
    let b = bind_ok (number_field greatest_number a.0.1) (λ instruction. word_field instruction.1 >>= λ word. found (line.E a.0.0 instruction.0 word)) value a.2 in
    let c = bind_ok (word_field b.0.1) (λ word. found (line.E a.0.0 b.0.0 word)) value b.2 in
    let machine = number_field_was greatest_machine fields a.0 (omega arith) a.1 in
    let instruction = number_field_was greatest_number a.0.1 b.0 (omega arith) b.1 in
    let word = word_field_was b.0.1 c.0 c.1 in
    let made = line.E a.0.0 b.0.0 c.0 in
    subst (AreFields 69 fields) {x = made} (value_is made value c.2) (record {
      spelled = two_fields 69 fields (decimal a.0.0) (decimal b.0.0) a.0.1 b.0.1 c.0 machine.0 instruction.0 word.0;
      lawful = (machine.1, instruction.1, word.1);
    })

order_ended : (machine : ℕ) (rest : List ℕ) (value : Line) → order_up_to machine rest ≡ Ok value → (rest ≡ []) × (line.O machine ≡ value)
order_ended machine [] value e = (refl, value_is (line.O machine) value e)
order_ended machine (byte ∷ rest) value e = absurd cc

order_was : (fields : List ℕ) (value : Line) → order_fields fields ≡ Ok value → AreFields 79 fields value
unfolding order_fields
order_was fields value e =
    let a = bind_ok (number_field last_machine fields) (λ machine. order_up_to machine.0 machine.1) value e in
    let ended = order_ended a.0.0 a.0.1 value a.2 in
    let machine = number_field_was last_machine fields a.0 (omega arith) a.1 in
    subst (AreFields 79 fields) ended.1 (record {
      spelled = one_field 79 fields (decimal a.0.0) a.0.1 machine.0 ended.0;
      lawful = machine.1;
    })

-- ---- a line that was read

-- a line that was read is the line of a lawful value, of the kind that its first byte names
pub record IsLine (its_line : reading.Line) (value : Line) : Type 0 where
  pub stands : standing its_line ≡ line_of value
  pub kind : kind_of value ≡ rank_of its_line.bytes
  pub count : length (pairs_of value) ≡ cond (is_pair its_line.bytes) 1 0
  pub lawful : IsLawful value

choice : {A : Type 0} (test : Bool) (p q r : A) → cond test p q ≡ r → (test ≡ true) × (p ≡ r) ⊎ (test ≡ false) × (q ≡ r)
choice true p q r e = inl (refl, e)
choice false p q r e = inr (refl, e)

placed_was : (its_line : reading.Line) (read : Result Line ℕ) (value : Line) → placed its_line read ≡ Ok value
    → (its_line.is_whole ≡ true) × (read ≡ Ok value)
placed_was its_line (Err left) value e = absurd cc
placed_was its_line (Ok other) value e =
    let parts = choice_ok its_line.is_whole (Bad (length its_line.bytes)) (Ok other) value e in
    (parts.0, cc)

fields_line : (its_line : reading.Line) (letter : ℕ) (fields : List ℕ) (value : Line) → its_line.bytes ≡ letter ∷ fields
    → its_line.is_whole ≡ true → AreFields letter fields value → IsLine its_line value
fields_line its_line letter fields value e whole are =
    let spelled : its_line.bytes ≡ content value = e ∙ are.spelled in
    record {
      stands = rw (whole, spelled) (sym (line_of-is value));
      kind = sym (rank_is value) ∙ ap rank_of (sym spelled);
      count = pairs_are value ∙ ap (λ (x : List ℕ). cond (is_pair x) 1 0) (sym spelled);
      lawful = are.lawful;
    }

pair_found : (read : Result Entry Flaw) (value : Line) → with_pair read ≡ Ok value
    → (entry : Entry) × ((read ≡ Ok entry) × (line.K entry.0 entry.1 ≡ value))
pair_found (Err flaw) value e = absurd cc
pair_found (Ok entry) value e = (entry, (refl, cc))

joined_one : (first : Result Entry Fault) (entry : Entry) → first ≡ Ok entry → joined first (Ok []) ≡ Ok (entry ∷ [])
joined_one first entry e = rw e refl

read_one : (its_line : reading.Line) (entry : Entry) → reading.read_line start its_line ≡ Ok entry
    → reading.read_lines start (its_line ∷ []) ≡ Ok (entry ∷ [])
unfolding reading.read_lines
read_one its_line entry e = joined_one (reading.read_line start its_line) entry e

pair_line_was : (its_line : reading.Line) (fields : List ℕ) (entry : Entry) → its_line.bytes ≡ 75 ∷ fields
    → length its_line.bytes ≤ line_limit → pair_at its_line its_line.bytes ≡ Ok entry → IsLine its_line (line.K entry.0 entry.1)
pair_line_was its_line fields entry bytes_are short e =
    let read : reading.read_line start its_line ≡ Ok entry = read_alone its_line short ∙ ap (reading.judged 1) e in
    let were = lines_were start (its_line ∷ []) (entry ∷ []) (omega arith) (omega arith) (read_one its_line entry read) in
    record {
      stands = sym (append-nil (standing its_line)) ∙ were.spelled ∙ append-nil (line_of (line.K entry.0 entry.1));
      kind = rw bytes_are refl;
      count = rw bytes_are refl;
      lawful = were.small.0;
    }

fields_at_was : (its_line : reading.Line) (letter : ℕ) (fields : List ℕ) (value : Line) → its_line.bytes ≡ letter ∷ fields
    → length its_line.bytes ≤ line_limit → value_at its_line (letter ∷ fields) ≡ Ok value → IsLine its_line value
unfolding value_at
fields_at_was its_line letter fields value bytes_are short e =
    let pair = cond (letter == 75) (with_pair (pair_at its_line (letter ∷ fields))) (Err (Bad 0)) in
    let order = cond (letter == 79) (placed its_line (order_fields fields)) pair in
    let error = cond (letter == 69) (placed its_line (error_fields fields)) order in
    let item = cond (letter == 83) (placed its_line (item_fields fields)) error in
    let begins = λ (n : ℕ) (test : (letter == n) ≡ true). bytes_are ∙ ap (λ (x : ℕ). x ∷ fields) (eqb-true letter n test) in
    elim (choice (letter == 77) (placed its_line (machine_fields fields)) item (Ok value) e) [
      | inl h ↦
          let parts = placed_was its_line (machine_fields fields) value h.1 in
          fields_line its_line 77 fields value (begins 77 h.0) parts.0 (machine_was fields value parts.1)
      | inr h ↦
          elim (choice (letter == 83) (placed its_line (item_fields fields)) error (Ok value) h.1) [
            | inl k ↦
                let parts = placed_was its_line (item_fields fields) value k.1 in
                fields_line its_line 83 fields value (begins 83 k.0) parts.0 (item_was fields value parts.1)
            | inr k ↦
                elim (choice (letter == 69) (placed its_line (error_fields fields)) order (Ok value) k.1) [
                  | inl l ↦
                      let parts = placed_was its_line (error_fields fields) value l.1 in
                      fields_line its_line 69 fields value (begins 69 l.0) parts.0 (error_was fields value parts.1)
                  | inr l ↦
                      elim (choice (letter == 79) (placed its_line (order_fields fields)) pair (Ok value) l.1) [
                        | inl m ↦
                            let parts = placed_was its_line (order_fields fields) value m.1 in
                            fields_line its_line 79 fields value (begins 79 m.0) parts.0 (order_was fields value parts.1)
                        | inr m ↦
                            elim (choice (letter == 75) (with_pair (pair_at its_line (letter ∷ fields))) (Err (Bad 0)) (Ok value) m.1) [
                              | inl n ↦
                                  let parts = pair_found (pair_at its_line (letter ∷ fields)) value n.1 in
                                  subst (IsLine its_line) parts.1.1
                                  (pair_line_was its_line fields parts.0 (begins 75 n.0) short (ap (pair_at its_line) bytes_are ∙ parts.1.0))
                              | inr n ↦ let none = n.1 in absurd cc
                            ]
                      ]
                ]
          ]
    ]

value_at_was : (its_line : reading.Line) (bytes : List ℕ) (value : Line) → its_line.bytes ≡ bytes → length its_line.bytes ≤ line_limit
    → value_at its_line bytes ≡ Ok value → IsLine its_line value
unfolding value_at
value_at_was its_line [] value bytes_are short e = absurd cc
value_at_was its_line (letter ∷ fields) value bytes_are short e = fields_at_was its_line letter fields value bytes_are short e

pub value_was : (its_line : reading.Line) (value : Line) → length its_line.bytes ≤ line_limit → value_at its_line its_line.bytes ≡ Ok value
    → IsLine its_line value
value_was its_line value short e = value_at_was its_line its_line.bytes value refl short e
