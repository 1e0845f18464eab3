-- The place of a bad line of a pair.
use Rattle.std.proofs.Common.{◌≡◌, ◌≤◌, ◌<◌, ◌+◌, ◌-◌, ℕ, Bool, true, false, true≢false, cond, nat_lt, ◌||◌, ◌==◌, List, [], ◌∷◌, ◌++◌, length, Ok, Err, refl, sym, ap, subst, ◌∙◌, append_assoc, arith}
use Rattle.std.specs.Ordering.{nat_cmp, is_lt, ordering_then}
use Rattle.std.specs.Cmp.Lexicographic.{slice_cmp}
use Rattle.std.specs.declared.cmp.Ordering.TheVariants.{Less, Equal, Greater}
use Rattle.std.proofs.lemmas.List.{append-nil, length-append}
use Rattle.std.proofs.lemmas.List.Elements.{All-from_recursion, recursion_from_All}
use Rattle.key_bytes.specs.Keys.{IsByteString, key_lt, top}
use Rattle.model_database.specs.declared.TheConstants.{KEY_LIMIT, VALUE_LIMIT}
use Rattle.model_lines.specs.Printing.{printable, separator, space}
use Rattle.model_lines.specs.Reading.{ReadText, text_of, Stop, AtEnd, AtSeparator, AtFault, Line, Bad, Long, Entry, pair_within, place_of, value_at, key_at, fields_at, pair_at}
use Rattle.dump_text.specs.Texts.{with_front}
use Rattle.dump_text.proofs.Pieces.{text_parted}
use Rattle.dump_text.proofs.Printed.{ending, text_was, text_printed}
use Rattle.laws_lines.specs.Places.{IsKey, IsPairFront, NoPair, PairKind, PairKey, PairValue, IsLongestFront, ArePairPlaces}
use Rattle.laws_lines.proofs.Heads.{Heads, no_byte, one_byte, more_bytes, IsHeaded, read_behind, place_of_bad, leaves_least, behind_space, line_longest}

-- the fronts of a line of a pair, whatever stands behind them
abbrev Fronts : (front rest : List ℕ) → Type 0
Fronts front rest = IsPairFront front

pub heads : (front : List ℕ) → IsPairFront front → Heads 75 front
heads front (NoPair is) = no_byte is
heads front (PairKind is) = one_byte is
heads front (PairKey key lawful is) = more_bytes (printable key) is
heads front (PairValue key value lawful bytes is) = more_bytes (printable key ++ separator ++ printable value) is

headed : IsHeaded 75 Fronts
headed = record { nothing = λ rest. NoPair refl; letter = λ rest. PairKind refl; heads = λ front rest h. heads front h }

-- ---- texts that begin a text

-- what is left behind the bytes that were spelled, the separator included
abbrev pub unspelled : ReadText → List ℕ
unspelled text = ending text.stop text.left

pub no_longer : (bytes : List ℕ) → length (unspelled (text_of bytes)) ≤ length bytes
no_longer bytes =
    let text = text_of bytes in
    omega (arith, ap length (text_was bytes).parts, length-append (printable text.bytes) (unspelled text))

pub byte_string : (bytes : List ℕ) → IsByteString (text_of bytes).bytes
byte_string bytes = All-from_recursion (λ b. b < 256) (text_of bytes).bytes (text_was bytes).small

-- a text that begins with a printable form
pub begun : (bytes front behind : List ℕ) → IsByteString front → bytes ≡ printable front ++ behind
    → text_of bytes ≡ with_front front (text_of behind)
begun bytes front behind h parts = ap text_of parts ∙ text_printed front behind (recursion_from_All (λ b. b < 256) front h)

-- behind it no less is left than behind the whole text
pub begun_leaves : (bytes front behind : List ℕ) → IsByteString front → bytes ≡ printable front ++ behind
    → length (unspelled (text_of bytes)) ≤ length behind
begun_leaves bytes front behind h parts =
    omega (arith, ap (λ (x : ReadText). length (unspelled x)) (begun bytes front behind h parts), no_longer behind)

-- a text up to a separator
parted : (bytes key left : List ℕ) → IsByteString key → bytes ≡ printable key ++ (separator ++ left)
    → text_of bytes ≡ record { bytes = key; stop = AtSeparator; left = left }
parted bytes key left h parts =
    begun bytes key (separator ++ left) h parts ∙ ap (with_front key) (text_parted left)
    ∙ ap (λ (x : List ℕ). record { bytes = x; stop = AtSeparator; left = left }) (append-nil key)

regrouped : (key value behind : List ℕ)
    → (printable key ++ separator ++ printable value) ++ behind ≡ printable key ++ (separator ++ (printable value ++ behind))
regrouped key value behind = append_assoc (printable key ++ separator) (printable value) behind
    ∙ append_assoc (printable key) separator (printable value ++ behind)

-- the fields of a line that begins with a key and a value
parted_fields : (fields key value other behind : List ℕ) → IsByteString key → 75 ∷ space ∷ fields ≡ other ++ behind
    → other ≡ 75 ∷ space ∷ (printable key ++ separator ++ printable value)
    → text_of fields ≡ record { bytes = key; stop = AtSeparator; left = printable value ++ behind }
parted_fields fields key value other behind h parts is =
    parted fields key (printable value ++ behind) h
    (behind_space 75 fields (printable key ++ separator ++ printable value) other behind parts is ∙ regrouped key value behind)

-- ---- keys that are not less than FF

stays_less : (less same : Bool) (rest more : List ℕ)
    → is_lt (ordering_then (cond less Less (cond same Equal Greater)) (slice_cmp nat_cmp rest [])) ≡ true
    → is_lt (ordering_then (cond less Less (cond same Equal Greater)) (slice_cmp nat_cmp more [])) ≡ true
stays_less true same rest more e = refl
stays_less false true [] more e = absurd cc
stays_less false true (byte ∷ rest) more e = absurd cc
stays_less false false rest more e = absurd cc

-- the first byte of a key decides, so more bytes change nothing
pub stays_below : (byte : ℕ) (rest more : List ℕ) → key_lt (byte ∷ rest) top ≡ true → key_lt (byte ∷ more) top ≡ true
stays_below byte rest more e = stays_less (nat_lt byte 255) (byte == 255) rest more e

pub empty_key : IsKey []
empty_key = record { bytes = All-from_recursion (λ b. b < 256) [] tt; below_top = refl }

key_past_top : (fields : List ℕ) → key_lt (text_of fields).bytes top ≡ false → IsLongestFront Fronts (75 ∷ space ∷ fields) 2
unfolding printable
key_past_top fields past = record {
  front = 75 ∷ space ∷ [];
  rest = fields;
  parts = refl;
  place_is = refl;
  is_front = PairKey [] empty_key refl;
  longest = λ other behind parts h. short other behind parts h;
}
  where
    no_longer_key : (key other behind : List ℕ) → IsKey key → 75 ∷ space ∷ fields ≡ other ++ behind → other ≡ 75 ∷ space ∷ printable key
        → length other ≤ 2
    no_longer_key [] other behind lawful parts is = omega (arith, ap length is)
    no_longer_key (byte ∷ rest) other behind lawful parts is =
        let text = begun fields (byte ∷ rest) behind lawful.bytes (behind_space 75 fields (printable (byte ∷ rest)) other behind parts is) in
        let below : key_lt (text_of fields).bytes top ≡ true =
        ap (λ (x : ReadText). key_lt x.bytes top) text ∙ stays_below byte rest (rest ++ (text_of behind).bytes) lawful.below_top in
        absurd (true≢false (sym below ∙ past))

    short : (other behind : List ℕ) → 75 ∷ space ∷ fields ≡ other ++ behind → IsPairFront other → length other ≤ 2
    short other behind parts (NoPair is) = omega (arith, ap length is)
    short other behind parts (PairKind is) = omega (arith, ap length is)
    short other behind parts (PairKey key lawful is) = no_longer_key key other behind lawful parts is
    short other behind parts (PairValue key value lawful bytes is) =
        let text = parted_fields fields key value other behind lawful.bytes parts is in
        absurd (true≢false (sym lawful.below_top ∙ sym (ap (λ (x : ReadText). key_lt x.bytes top) text) ∙ past))

-- ---- where reading stopped

-- the last front ends in the key, where no separator stands behind it
key_last : (fields : List ℕ) (place : ℕ) → key_lt (text_of fields).bytes top ≡ true
    → ((text_of fields).stop ≡ AtSeparator → ⊥) → place + length (unspelled (text_of fields)) ≡ length fields + 2
    → IsLongestFront Fronts (75 ∷ space ∷ fields) place
key_last fields place below unparted size =
    let text = text_of fields in
    leaves_least Fronts (75 ∷ space ∷ fields) (75 ∷ space ∷ printable text.bytes) (unspelled text) place
    (ap (λ (x : List ℕ). 75 ∷ space ∷ x) (text_was fields).parts) (omega arith)
    (PairKey text.bytes (record { bytes = byte_string fields; below_top = below }) refl) least
  where
    least : (other behind : List ℕ) → 75 ∷ space ∷ fields ≡ other ++ behind → IsPairFront other
        → length (unspelled (text_of fields)) ≤ length behind
    least other behind parts (NoPair is) =
        omega (arith, ap length parts, length-append other behind, ap length is, no_longer fields)
    least other behind parts (PairKind is) =
        omega (arith, ap length parts, length-append other behind, ap length is, no_longer fields)
    least other behind parts (PairKey key lawful is) =
        begun_leaves fields key behind lawful.bytes (behind_space 75 fields (printable key) other behind parts is)
    least other behind parts (PairValue key value lawful bytes is) =
        absurd (unparted (ap (λ (x : ReadText). x.stop) (parted_fields fields key value other behind lawful.bytes parts is)))

-- the last front ends in the value
value_last : (fields : List ℕ) (place : ℕ) → key_lt (text_of fields).bytes top ≡ true → (text_of fields).stop ≡ AtSeparator
    → place + length (unspelled (text_of (text_of fields).left)) ≡ length fields + 2
    → IsLongestFront Fronts (75 ∷ space ∷ fields) place
value_last fields place below is_parted size =
    let key = text_of fields in
    let value = text_of key.left in
    let first : fields ≡ printable key.bytes ++ (separator ++ key.left) = (text_was fields).parts
    ∙ ap (λ (x : Stop). printable key.bytes ++ ending x key.left) is_parted in
    let all : fields ≡ (printable key.bytes ++ separator ++ printable value.bytes) ++ unspelled value = first
    ∙ ap (λ (x : List ℕ). printable key.bytes ++ (separator ++ x)) (text_was key.left).parts
    ∙ sym (regrouped key.bytes value.bytes (unspelled value)) in
    leaves_least Fronts (75 ∷ space ∷ fields) (75 ∷ space ∷ (printable key.bytes ++ separator ++ printable value.bytes)) (unspelled value) place
    (ap (λ (x : List ℕ). 75 ∷ space ∷ x) all) (omega arith)
    (PairValue key.bytes value.bytes (record { bytes = byte_string fields; below_top = below }) (byte_string key.left) refl) least
  where
    left_shorter : length (text_of fields).left + 2 ≤ length fields
    left_shorter = omega (arith, no_longer fields, ap (λ (x : Stop). length (ending x (text_of fields).left)) is_parted)

    least : (other behind : List ℕ) → 75 ∷ space ∷ fields ≡ other ++ behind → IsPairFront other
        → length (unspelled (text_of (text_of fields).left)) ≤ length behind
    least other behind parts (NoPair is) =
        omega (arith, ap length parts, length-append other behind, ap length is, left_shorter, no_longer (text_of fields).left)
    least other behind parts (PairKind is) =
        omega (arith, ap length parts, length-append other behind, ap length is, left_shorter, no_longer (text_of fields).left)
    least other behind parts (PairKey key lawful is) =
        let leaves = begun_leaves fields key behind lawful.bytes (behind_space 75 fields (printable key) other behind parts is) in
        omega (arith, leaves, ap (λ (x : Stop). length (ending x (text_of fields).left)) is_parted, no_longer (text_of fields).left)
    least other behind parts (PairValue key value lawful bytes is) =
        let left = ap (λ (x : ReadText). x.left) (parted_fields fields key value other behind lawful.bytes parts is) in
        begun_leaves (text_of fields).left value behind bytes left

-- ---- the place that reading gives

-- a key or a value that is too long has no place
no_place : (long : Bool) (entry : Entry) (place : ℕ) → cond long (Err Long) (Ok entry) ≡ Err (Bad place) → ⊥
no_place true entry place e = absurd cc
no_place false entry place e = absurd cc

value_place : (line : Line) (key : List ℕ) (stop : Stop) (value : ReadText) (place : ℕ) → value_at line key stop value ≡ Err (Bad place)
    → place ≡ length line.bytes - length (ending stop value.left)
value_place line key AtEnd value place e =
    elim line.is_whole as (λ b. cond b (pair_within key value.bytes) (Err (Bad (length line.bytes))) ≡ Err (Bad place)
    → place ≡ length line.bytes - 0) [
      | true ↦ λ f.
          absurd (no_place (nat_lt KEY_LIMIT (length key) || nat_lt VALUE_LIMIT (length value.bytes)) (key, value.bytes) place f)
      | false ↦ λ f. let is = place_of_bad Entry (length line.bytes) place f in omega arith
    ] e
value_place line key AtSeparator value place e =
    let is = place_of_bad Entry (place_of line value.left - 2) place e in
    omega arith
value_place line key AtFault value place e = sym (place_of_bad Entry (place_of line value.left) place e)

key_place : (line : Line) (fields : List ℕ) (place : ℕ) (stop : Stop) → line.bytes ≡ 75 ∷ space ∷ fields
    → key_lt (text_of fields).bytes top ≡ true → (text_of fields).stop ≡ stop → key_at line stop (text_of fields) ≡ Err (Bad place)
    → IsLongestFront Fronts (75 ∷ space ∷ fields) place
key_place line fields place AtEnd bytes below stops e =
    let is = place_of_bad Entry (length line.bytes) place e in
    key_last fields place below (λ (s : (text_of fields).stop ≡ AtSeparator). let no : AtEnd ≡ AtSeparator = sym stops ∙ s in cc)
    (omega (arith, is, ap length bytes, ap (λ (x : Stop). length (ending x (text_of fields).left)) stops))
key_place line fields place AtFault bytes below stops e =
    let is = place_of_bad Entry (place_of line (text_of fields).left) place e in
    key_last fields place below (λ (s : (text_of fields).stop ≡ AtSeparator). let no : AtFault ≡ AtSeparator = sym stops ∙ s in cc)
    (omega (arith, is, ap length bytes, ap (λ (x : Stop). length (ending x (text_of fields).left)) stops, no_longer fields))
key_place line fields place AtSeparator bytes below stops e =
    let key = text_of fields in
    let value = text_of key.left in
    let is = value_place line key.bytes value.stop value place e in
    value_last fields place below stops
    (omega (arith, is, ap length bytes, ap (λ (x : Stop). length (ending x key.left)) stops, no_longer fields, no_longer key.left))

fields_place : (line : Line) (fields : List ℕ) (place : ℕ) → line.bytes ≡ 75 ∷ space ∷ fields
    → fields_at line (text_of fields) ≡ Err (Bad place) → IsLongestFront Fronts line.bytes place
fields_place line fields place bytes =
    let key = text_of fields in
    elim (key_lt key.bytes top) as
    (λ b. key_lt key.bytes top ≡ b → cond b (key_at line key.stop key) (Err (Bad 2)) ≡ Err (Bad place)
    → IsLongestFront Fronts line.bytes place) [
      | true ↦ λ below e. subst (λ (x : List ℕ). IsLongestFront Fronts x place) (sym bytes) (key_place line fields place key.stop bytes below refl e)
      | false ↦ λ past e.
          subst (λ (x : List ℕ). IsLongestFront Fronts x place) (sym bytes)
          (subst (IsLongestFront Fronts (75 ∷ space ∷ fields)) (place_of_bad Entry 2 place e) (key_past_top fields past))
    ] refl

-- how a line of a pair is read, as its letter and its fields
read_as : (line : Line) (bytes : List ℕ) → pair_at line bytes ≡ read_behind 75 (λ fields. fields_at line (text_of fields)) bytes
unfolding pair_at
read_as line [] = refl
read_as line (kind ∷ []) = refl
read_as line (kind ∷ gap ∷ fields) = refl

pub pair_places : ArePairPlaces
pair_places line place e =
    line_longest Fronts 75 (λ fields. fields_at line (text_of fields)) line.bytes place headed
    (λ fields its_place bytes f. fields_place line fields its_place bytes f) (sym (read_as line line.bytes) ∙ e)
