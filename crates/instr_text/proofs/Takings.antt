-- Pairs that were taken apart are those of the sections whose text came out.
use Rattle.std.proofs.Common.{◌≡◌, ◌≢◌, inl, inr, ℕ, zero, suc, ◌+◌, ◌-◌, ◌^◌, ◌<◌, Bool, true, false, cond, not, ◌&&◌, ◌||◌, ◌==◌, nat_lt, List, [], ◌∷◌, ◌++◌, length, map, take, pos, negsuc, Option, Some, None, Result, Ok, Err, refl, sym, ap, subst, ◌∙◌, append_assoc, arith}
use Rattle.std.specs.Prelude.{codes, flat_map, bytes_eq}
use Rattle.std.specs.List.{AllByRecursion}
use Rattle.std.proofs.lemmas.Bool.{and_parts, eqb-true, ltb-false, not-true}
use Rattle.std.proofs.lemmas.List.{length-append, length-take-le}
use Rattle.std.proofs.lemmas.List.Elements.{recursion_from_All}
use Rattle.instr_text.specs.Taken.{IsPairOfBytes, IsAsm, IsFirstBad}
use Rattle.std.proofs.lemmas.Slice.Eq.{bytes_eq-Decides}
use Rattle.key_bytes.specs.Keys.{IsByteString}
use Rattle.model_lines.specs.Printing.{printable, line_feed}
use Rattle.model_lines.specs.Reading.{Entry}
use Rattle.fdb_tuple.specs.declared.fault.UnpackFault.{UnpackFault}
use Rattle.fdb_tuple.specs.Tuples.{Null, Bytes, Text, Int, Boolean, Uuid, Stamp, Elements, Empty, Single, Nested, IsTuple}
use Rattle.fdb_tuple.specs.Spelling.{spelling}
use Rattle.fdb_tuple.specs.Reading.{read_tuple}
use Rattle.fdb_tuple.proofs.ByteLists.{AreBytes}
use Rattle.fdb_tuple.proofs.ReadLaws.{read_tuple_found}
use Rattle.instr_grammar.specs.Names.{names, push, is_among}
use Rattle.instr_grammar.specs.Texts.{Instruction, Section, IsInstruction, IsOperand, Takes, IsSection, AreDistinct, AreSections, instruction_line, text_of, instruction_key, packed, pairs_from, asm}
use Rattle.instr_grammar.specs.Reading.{prefix_limit}
use Rattle.instr_grammar.specs.Lines.{first_of}
use Rattle.instr_text.proofs.TakingSections.{sections_again}
use Rattle.instr_grammar.specs.Taking.{place_of, is_one, is_none_left, instruction_in, Taken, follows, head_of, next_taken, step_by, in_tuple, step, with_text, taken_on, take_pairs, disassembled}

-- ---- what a tuple is as a key and as an instruction

some_same : {A : Type 0} (x y : A) → Some x ≡ Some y → x ≡ y
some_same x y e = cc

key_is : (tuple : Elements) (prefix : List ℕ) (i : ℕ) → place_of tuple ≡ Some (prefix, i) → tuple ≡ Single (Bytes prefix) (Single (Int (pos i)) Empty)
key_is Empty prefix i e = absurd cc
key_is (Nested inner rest) prefix i e = absurd cc
key_is (Single Null rest) prefix i e = absurd cc
key_is (Single (Text text) rest) prefix i e = absurd cc
key_is (Single (Int number) rest) prefix i e = absurd cc
key_is (Single (Boolean value) rest) prefix i e = absurd cc
key_is (Single (Uuid uuid) rest) prefix i e = absurd cc
key_is (Single (Stamp stamp user) rest) prefix i e = absurd cc
key_is (Single (Bytes bytes) Empty) prefix i e = absurd cc
key_is (Single (Bytes bytes) (Nested inner rest)) prefix i e = absurd cc
key_is (Single (Bytes bytes) (Single Null rest)) prefix i e = absurd cc
key_is (Single (Bytes bytes) (Single (Bytes other) rest)) prefix i e = absurd cc
key_is (Single (Bytes bytes) (Single (Text text) rest)) prefix i e = absurd cc
key_is (Single (Bytes bytes) (Single (Boolean value) rest)) prefix i e = absurd cc
key_is (Single (Bytes bytes) (Single (Uuid uuid) rest)) prefix i e = absurd cc
key_is (Single (Bytes bytes) (Single (Stamp stamp user) rest)) prefix i e = absurd cc
key_is (Single (Bytes bytes) (Single (Int (negsuc n)) rest)) prefix i e = absurd cc
key_is (Single (Bytes bytes) (Single (Int (pos n)) (Single scalar rest))) prefix i e = absurd cc
key_is (Single (Bytes bytes) (Single (Int (pos n)) (Nested inner rest))) prefix i e = absurd cc
key_is (Single (Bytes bytes) (Single (Int (pos n)) Empty)) prefix i e =
    let same : (bytes, n) ≡ (prefix, i) = some_same (bytes, n) (prefix, i) e in
    λ t. Single (Bytes (same t).0) (Single (Int (pos (same t).1)) Empty)

guard_some : {A : Type 0} (test : Bool) (x y : A) → cond test (Some x) None ≡ Some y → (test ≡ true) × (x ≡ y)
guard_some true x y e = (refl, cc)
guard_some false x y e = absurd cc

one_is : (operand : Elements) → is_one operand ≡ true → IsOperand operand
one_is Empty e = absurd cc
one_is (Single scalar Empty) e = tt
one_is (Nested inner Empty) e = tt
one_is (Single scalar (Single second rest)) e = absurd cc
one_is (Single scalar (Nested second rest)) e = absurd cc
one_is (Nested inner (Single second rest)) e = absurd cc
one_is (Nested inner (Nested second rest)) e = absurd cc

none_is : (operand : Elements) → is_none_left operand ≡ true → operand ≡ Empty
none_is Empty e = refl
none_is (Single scalar rest) e = absurd cc
none_is (Nested inner rest) e = absurd cc

takes_by : (name : List ℕ) (operand : Elements) (pushes alone : Bool) → (bytes_eq name push && is_one operand) ≡ pushes
    → (is_among name names && is_none_left operand) ≡ alone → (pushes || alone) ≡ true → Takes (record { name = name; operand = operand })
takes_by name operand true alone e f is =
    let both = and_parts (bytes_eq name push) (is_one operand) e in
    inl ((bytes_eq-Decides name push).0 both.0, one_is operand both.1)
takes_by name operand false true e f is =
    let both = and_parts (is_among name names) (is_none_left operand) f in
    inr (both.0, none_is operand both.1)
takes_by name operand false false e f is = absurd cc

one_was : (tuple : Elements) (one : Instruction) → instruction_in tuple ≡ Some one → (tuple ≡ Single (Text one.name) one.operand) × Takes one
one_was Empty one e = absurd cc
one_was (Nested inner rest) one e = absurd cc
one_was (Single Null rest) one e = absurd cc
one_was (Single (Bytes bytes) rest) one e = absurd cc
one_was (Single (Int number) rest) one e = absurd cc
one_was (Single (Boolean value) rest) one e = absurd cc
one_was (Single (Uuid uuid) rest) one e = absurd cc
one_was (Single (Stamp stamp user) rest) one e = absurd cc
one_was (Single (Text name) operand) one e =
    let found = guard_some ((bytes_eq name push && is_one operand) || (is_among name names && is_none_left operand))
    (record { name = name; operand = operand }) one e in
    let takes = takes_by name operand (bytes_eq name push && is_one operand) (is_among name names && is_none_left operand) refl refl found.0 in
    (ap (λ (x : Instruction). Single (Text x.name) x.operand) found.1, subst Takes found.1 takes)

-- ---- a key and a value

in_tuple_ok : {A : Type 0} (f : Elements → Option A) (read : Result Elements UnpackFault) (x : A) → in_tuple f read ≡ Some x
    → (tuple : Elements) × ((read ≡ Ok tuple) × (f tuple ≡ Some x))
in_tuple_ok f (Ok tuple) x e = (tuple, (refl, e))
in_tuple_ok f (Err fault) x e = absurd cc

record IsKey (key : List ℕ) (place : List ℕ × ℕ) : Type 0 where
  bytes : IsByteString place.0
  is : key ≡ instruction_key place.0 place.1

key_was : (key : List ℕ) (place : List ℕ × ℕ) → AreBytes key → in_tuple place_of (read_tuple key) ≡ Some place → IsKey key place
key_was key place are e =
    let parts = in_tuple_ok place_of (read_tuple key) place e in
    let found = read_tuple_found key parts.0 are parts.1.0 in
    let is = key_is parts.0 place.0 place.1 parts.1.1 in
    let lawful = subst IsTuple is found.0 in
    record { bytes = lawful.0.0; is = found.1 ∙ ap spelling is }

record IsValue (value : List ℕ) (one : Instruction) : Type 0 where
  lawful : IsInstruction one
  is : value ≡ packed one

value_was : (value : List ℕ) (one : Instruction) → AreBytes value → in_tuple instruction_in (read_tuple value) ≡ Some one → IsValue value one
value_was value one are e =
    let parts = in_tuple_ok instruction_in (read_tuple value) one e in
    let found = read_tuple_found value parts.0 are parts.1.0 in
    let was = one_was parts.0 one parts.1.1 in
    let lawful = subst IsTuple was.0 found.0 in
    record { lawful = record { takes = was.1; elements = lawful.0.1; depth = lawful.1 }; is = found.1 ∙ ap spelling was.0 }

-- ---- a pair

record WasStep (taken : Taken) (pair : Entry) (lines : List ℕ) (next : Taken) : Type 0 where
  place : List ℕ × ℕ
  one : Instruction
  key : IsKey pair.0 place
  value : IsValue pair.1 one
  follows_is : follows taken place ≡ true
  lines_are : lines ≡ head_of place ++ instruction_line one
  next_is : next ≡ next_taken taken place

step_was : (taken : Taken) (pair : Entry) (lines : List ℕ) (next : Taken) → IsPairOfBytes pair → step taken pair ≡ Some (lines, next)
    → WasStep taken pair lines next
unfolding step
step_was taken pair lines next are e = by (in_tuple place_of (read_tuple pair.0)) refl (in_tuple instruction_in (read_tuple pair.1)) refl e
  where
    by : (place : Option (List ℕ × ℕ)) → in_tuple place_of (read_tuple pair.0) ≡ place
        → (one : Option Instruction) → in_tuple instruction_in (read_tuple pair.1) ≡ one
        → step_by taken place one ≡ Some (lines, next) → WasStep taken pair lines next
    by None p one o e = absurd cc
    by (Some place) p None o e = absurd cc
    by (Some place) p (Some one) o e =
        let found = guard_some (follows taken place) (head_of place ++ instruction_line one, next_taken taken place) (lines, next) e in
        record {
          place = place;
          one = one;
          key = key_was pair.0 place (recursion_from_All (λ b. b < 256) pair.0 are.0) p;
          value = value_was pair.1 one (recursion_from_All (λ b. b < 256) pair.1 are.1) o;
          follows_is = found.0;
          lines_are = ap (λ (x : List ℕ × Taken). x.0) (sym found.1);
          next_is = ap (λ (x : List ℕ × Taken). x.1) (sym found.1);
        }

-- ---- pairs from a place on

abbrev AreApart : List (List ℕ) → List Section → Type 0
AreApart before sections = AllByRecursion (λ (s : Section). is_among s.prefix before ≡ false) sections

-- the instructions of the section that is open, and the sections behind it
record WereTaken (taken : Taken) (pairs : List Entry) (text : List ℕ) : Type 0 where
  instructions : List Instruction
  sections : List Section
  pairs_are : pairs ≡ pairs_from (first_of taken.prefixes) taken.index instructions ++ asm sections
  text_is : text ≡ flat_map instruction_line instructions ++ text_of sections
  each : AllByRecursion IsInstruction instructions
  are : AllByRecursion IsSection sections
  distinct : AreDistinct (map (λ (s : Section). s.prefix) sections)
  new : AreApart taken.prefixes sections
  none : (length taken.prefixes == 0) ≡ true → instructions ≡ []

with_text_ok : (front : List ℕ) (read : Result (List ℕ) ℕ) (text : List ℕ) → with_text front read ≡ Ok text
    → (others : List ℕ) × ((read ≡ Ok others) × (front ++ others ≡ text))
with_text_ok front (Ok others) text e = (others, (refl, cc))
with_text_ok front (Err line) text e = absurd cc

pub taken_on_ok : (line : ℕ) (one : Option (List ℕ × Taken)) (more : Taken → Result (List ℕ) ℕ) (text : List ℕ) → taken_on line one more ≡ Ok text
    → (lines : List ℕ) × ((next : Taken) × ((others : List ℕ) × ((one ≡ Some (lines, next)) × (more next ≡ Ok others) × (lines ++ others ≡ text))))
taken_on_ok line None more text e = absurd cc
taken_on_ok line (Some one) more text e =
    let parts = with_text_ok one.0 (more one.1) text e in
    (one.0, (one.1, (parts.0, (refl, parts.1.0, parts.1.1))))

apart : (prefix other : List ℕ) (before : List (List ℕ)) → is_among other (prefix ∷ before) ≡ false → (prefix ≢ other) × (is_among other before ≡ false)
apart prefix other before e = by (bytes_eq prefix other) refl e
  where
    by : (same : Bool) → bytes_eq prefix other ≡ same → (same || is_among other before) ≡ false → (prefix ≢ other) × (is_among other before ≡ false)
    by true h e = absurd cc
    by false h e = (λ k. let t = (bytes_eq-Decides prefix other).1 k in cc, e)

others_apart : (prefix : List ℕ) (before : List (List ℕ)) (sections : List Section) → AreApart (prefix ∷ before) sections
    → AllByRecursion (λ other. prefix ≢ other) (map (λ (s : Section). s.prefix) sections) × AreApart before sections
others_apart prefix before [] h = (tt, tt)
others_apart prefix before (section ∷ sections) h =
    let here = apart prefix section.prefix before h.0 in
    let later = others_apart prefix before sections h.1 in
    ((here.0, later.0), (here.1, later.1))

-- a pair of index 0 begins a section
section_begins : (taken : Taken) (pair : Entry) (pairs : List Entry) (prefix lines others : List ℕ) (i : ℕ) (one : Instruction) → i ≡ 0
    → IsKey pair.0 (prefix, i) → IsValue pair.1 one → nat_lt prefix_limit (length prefix) ≡ false → is_among prefix taken.prefixes ≡ false
    → lines ≡ (codes "@ " ++ printable prefix ++ line_feed ∷ []) ++ instruction_line one
    → WereTaken (record { prefixes = prefix ∷ taken.prefixes; index = 1 }) pairs others → WereTaken taken (pair ∷ pairs) (lines ++ others)
section_begins taken pair pairs prefix lines others i one zero_is key value short new lines_are later =
    let apart_from = others_apart prefix taken.prefixes later.sections later.new in
    let section : Section = record { prefix = prefix; instructions = one ∷ later.instructions } in
    let pair_is : pair ≡ (instruction_key prefix 0, packed one) =
    λ t. ((key.is ∙ ap (instruction_key prefix) zero_is) t, value.is t) in
    record {
      instructions = [];
      sections = section ∷ later.sections;
      pairs_are = ap (λ (x : Entry). x ∷ pairs) pair_is ∙ ap (λ (x : List Entry). (instruction_key prefix 0, packed one) ∷ x) later.pairs_are;
      text_is = ap (λ (x : List ℕ). x ++ others) lines_are
          ∙ ap (λ (x : List ℕ). ((codes "@ " ++ printable prefix ++ line_feed ∷ []) ++ instruction_line one) ++ x) later.text_is
          ∙ five (codes "@ " ++ printable prefix) (line_feed ∷ []) (instruction_line one) (flat_map instruction_line later.instructions) (text_of later.sections);
      each = tt;
      are = (
        record { prefix = key.bytes; short = ltb-false prefix_limit (length prefix) short; some = omega arith; instructions = (value.lawful, later.each) },
        later.are,
      );
      distinct = (apart_from.0, later.distinct);
      new = (new, apart_from.1);
      none = λ none. refl;
    }
  where
    five : (a b c d e : List ℕ) → ((a ++ b) ++ c) ++ (d ++ e) ≡ (a ++ (b ++ (c ++ d))) ++ e
    five a b c d e = simp append_assoc refl

-- a pair of the next index goes on in the section that is open
section_goes_on : (taken : Taken) (pair : Entry) (pairs : List Entry) (prefix lines others : List ℕ) (i : ℕ) (one : Instruction)
    → IsKey pair.0 (prefix, i) → IsValue pair.1 one → (length taken.prefixes == 0) ≡ false → first_of taken.prefixes ≡ prefix → i ≡ taken.index
    → lines ≡ [] ++ instruction_line one
    → WereTaken (record { prefixes = taken.prefixes; index = taken.index + 1 }) pairs others → WereTaken taken (pair ∷ pairs) (lines ++ others)
section_goes_on taken pair pairs prefix lines others i one key value opened first index lines_are later =
    let pair_is : pair ≡ (instruction_key (first_of taken.prefixes) taken.index, packed one) =
    λ t. ((key.is ∙ (λ u. instruction_key (sym first u) (index u))) t, value.is t) in
    record {
      instructions = one ∷ later.instructions;
      sections = later.sections;
      pairs_are = ap (λ (x : Entry). x ∷ pairs) pair_is ∙ ap (λ (x : List Entry). (instruction_key (first_of taken.prefixes) taken.index, packed one) ∷ x) later.pairs_are;
      text_is = ap (λ (x : List ℕ). x ++ others) lines_are
          ∙ ap (λ (x : List ℕ). instruction_line one ++ x) later.text_is
          ∙ sym (append_assoc (instruction_line one) (flat_map instruction_line later.instructions) (text_of later.sections));
      each = (value.lawful, later.each);
      are = later.are;
      distinct = later.distinct;
      new = later.new;
      none = λ none. absurd cc;
    }

pair_was : (taken : Taken) (pair : Entry) (pairs : List Entry) (lines others : List ℕ) (next : Taken) → WasStep taken pair lines next
    → WereTaken next pairs others → WereTaken taken (pair ∷ pairs) (lines ++ others)
pair_was taken pair pairs lines others next was later = by (was.place.1 == 0) refl was.follows_is was.lines_are was.next_is
  where
    by : (begins : Bool) → (was.place.1 == 0) ≡ begins
        → cond begins (not (nat_lt prefix_limit (length was.place.0)) && not (is_among was.place.0 taken.prefixes))
        (not (length taken.prefixes == 0) && bytes_eq (first_of taken.prefixes) was.place.0 && was.place.1 == taken.index) ≡ true
        → lines ≡ cond begins (codes "@ " ++ printable was.place.0 ++ line_feed ∷ []) [] ++ instruction_line was.one
        → next ≡ cond begins (record { prefixes = was.place.0 ∷ taken.prefixes; index = 1 }) (record taken { index = taken.index + 1 })
        → WereTaken taken (pair ∷ pairs) (lines ++ others)
    by true zero_is follows_is lines_are next_is =
        let both = and_parts (not (nat_lt prefix_limit (length was.place.0))) (not (is_among was.place.0 taken.prefixes)) follows_is in
        section_begins taken pair pairs was.place.0 lines others was.place.1 was.one (eqb-true was.place.1 0 zero_is) was.key was.value
        (not-true (nat_lt prefix_limit (length was.place.0)) both.0) (not-true (is_among was.place.0 taken.prefixes) both.1) lines_are
        (subst (λ (n : Taken). WereTaken n pairs others) next_is later)
    by false zero_is follows_is lines_are next_is =
        let three = and_parts (not (length taken.prefixes == 0) && bytes_eq (first_of taken.prefixes) was.place.0) (was.place.1 == taken.index) follows_is in
        let two = and_parts (not (length taken.prefixes == 0)) (bytes_eq (first_of taken.prefixes) was.place.0) three.0 in
        section_goes_on taken pair pairs was.place.0 lines others was.place.1 was.one was.key was.value
        (not-true (length taken.prefixes == 0) two.0) ((bytes_eq-Decides (first_of taken.prefixes) was.place.0).0 two.1)
        (eqb-true was.place.1 taken.index three.1) lines_are
        (subst (λ (n : Taken). WereTaken n pairs others) next_is later)

pairs_were : (line : ℕ) (taken : Taken) (pairs : List Entry) (text : List ℕ) → AllByRecursion IsPairOfBytes pairs
    → take_pairs line taken pairs ≡ Ok text → WereTaken taken pairs text
unfolding take_pairs
pairs_were line taken [] text are e = record {
  instructions = [];
  sections = [];
  pairs_are = refl;
  text_is = cc;
  each = tt;
  are = tt;
  distinct = tt;
  new = tt;
  none = λ none. refl;
}
pairs_were line taken (pair ∷ pairs) text are e =
    let parts = taken_on_ok line (step taken pair) (λ next. take_pairs (line + 1) next pairs) text e in
    let was = step_was taken pair parts.0 parts.1.0 are.0 parts.1.1.1.0 in
    let later = pairs_were (line + 1) parts.1.0 pairs parts.1.1.0 are.1 parts.1.1.1.1 in
    subst (WereTaken taken (pair ∷ pairs)) parts.1.1.1.2 (pair_was taken pair pairs parts.0 parts.1.1.0 parts.1.0 was later)

pub disassembled_was : (pairs : List Entry) (text : List ℕ) → AllByRecursion IsPairOfBytes pairs → disassembled pairs ≡ Ok text
    → (sections : List Section) × (AreSections sections × (pairs ≡ asm sections) × (text ≡ text_of sections))
unfolding disassembled
disassembled_was pairs text are e =
    let were = pairs_were 1 (record { prefixes = []; index = 0 }) pairs text are e in
    let none = were.none refl in (
      were.sections,
      (
        record { each = were.are; distinct = were.distinct },
        were.pairs_are ∙ ap (λ (i : List Instruction). pairs_from [] 0 i ++ asm were.sections) none,
        were.text_is ∙ ap (λ (i : List Instruction). flat_map instruction_line i ++ text_of were.sections) none,
      ),
    )

-- ---- the pairs of sections are taken apart

pub length-pairs : (prefix : List ℕ) (i : ℕ) (instructions : List Instruction) → length (pairs_from prefix i instructions) ≡ length instructions
length-pairs prefix i [] = refl
length-pairs prefix i (one ∷ more) = ap suc (length-pairs prefix (i + 1) more)

all_few : (sections : List Section) → length (asm sections) < 2 ^ 63
    → AllByRecursion (λ (s : Section). (is_among s.prefix [] ≡ false) × (length s.instructions < 2 ^ 63)) sections
all_few [] h = tt
all_few (section ∷ sections) h =
    let lens = length-append (pairs_from section.prefix 0 section.instructions) (asm sections) in
    let here = length-pairs section.prefix 0 section.instructions in
    ((refl, omega (arith, h, lens, here)), all_few sections (omega (arith, h, lens)))

pub disassembled_again : (pairs : List Entry) (sections : List Section) → length pairs < 2 ^ 63 → AreSections sections → pairs ≡ asm sections
    → disassembled pairs ≡ Ok (text_of sections)
unfolding disassembled
disassembled_again pairs sections few are e =
    ap (take_pairs 1 (record { prefixes = []; index = 0 })) e
    ∙ sections_again 1 [] 0 sections are.each are.distinct (all_few sections (omega (arith, few, ap length e)))

-- ---- the first pair that can't follow

with_text_err : (front : List ℕ) (read : Result (List ℕ) ℕ) (line : ℕ) → with_text front read ≡ Err line → read ≡ Err line
with_text_err front (Ok others) line e = absurd cc
with_text_err front (Err other) line e = cc

-- so many pairs are taken apart, and the next one can't follow
record FailsAt (line : ℕ) (taken : Taken) (pairs : List Entry) (fault : ℕ) : Type 0 where
  count : ℕ
  number : fault ≡ line + count
  within : count < length pairs
  text : List ℕ
  front : take_pairs line taken (take count pairs) ≡ Ok text
  bad : take_pairs line taken (take (suc count) pairs) ≡ Err fault

fails_at : (line : ℕ) (taken : Taken) (pairs : List Entry) (fault : ℕ) → take_pairs line taken pairs ≡ Err fault → FailsAt line taken pairs fault
unfolding take_pairs
fails_at line taken [] fault e = absurd cc
fails_at line taken (pair ∷ pairs) fault e = by (λ next h. fails_at (line + 1) next pairs fault h) (step taken pair) refl e
  where
    by : ((next : Taken) → take_pairs (line + 1) next pairs ≡ Err fault → FailsAt (line + 1) next pairs fault)
        → (one : Option (List ℕ × Taken)) → step taken pair ≡ one → taken_on line one (λ next. take_pairs (line + 1) next pairs) ≡ Err fault
        → FailsAt line taken (pair ∷ pairs) fault
    by inside None s e =
        let same : line ≡ fault = cc in
        record {
          count = 0;
          number = omega arith;
          within = omega arith;
          text = [];
          front = refl;
          bad = ap (λ (o : Option (List ℕ × Taken)). taken_on line o (λ next. take_pairs (line + 1) next [])) s ∙ e;
        }
    by inside (Some one) s e =
        let later = inside one.1 (with_text_err one.0 (take_pairs (line + 1) one.1 pairs) fault e) in
        let number = later.number in
        let within = later.within in
        record {
          count = suc later.count;
          number = omega arith;
          within = omega arith;
          text = one.0 ++ later.text;
          front = ap (λ (o : Option (List ℕ × Taken)). taken_on line o (λ next. take_pairs (line + 1) next (take later.count pairs))) s
              ∙ ap (with_text one.0) later.front;
          bad = ap (λ (o : Option (List ℕ × Taken)). taken_on line o (λ next. take_pairs (line + 1) next (take (suc later.count) pairs))) s
              ∙ ap (with_text one.0) later.bad;
        }

pub all_taken : {A : Type 0} (P : A → Type 0) (n : ℕ) (xs : List A) → AllByRecursion P xs → AllByRecursion P (take n xs)
all_taken P zero xs h = tt
all_taken P (suc n) [] h = tt
all_taken P (suc n) (x ∷ xs) h = (h.0, all_taken P n xs h.1)

pub first_bad : (pairs : List Entry) (line : ℕ) → AllByRecursion IsPairOfBytes pairs → length pairs < 2 ^ 63 → disassembled pairs ≡ Err line
    → IsFirstBad pairs line
unfolding disassembled
first_bad pairs line are few e =
    let fails = fails_at 1 (record { prefixes = []; index = 0 }) pairs line e in
    let was = disassembled_was (take fails.count pairs) fails.text (all_taken IsPairOfBytes fails.count pairs are) fails.front in
    let number = fails.number in
    let within = fails.within in
    let before : line - 1 ≡ fails.count = omega arith in
    let up_to : line ≡ suc fails.count = omega arith in
    let short : length (take (suc fails.count) pairs) < 2 ^ 63 = omega (arith, few, length-take-le (suc fails.count) pairs) in
    record {
      some = omega arith;
      within = omega arith;
      front = subst (λ (n : ℕ). IsAsm (take n pairs)) (sym before) (was.0, (was.1.0, was.1.1));
      bad = subst (λ (n : ℕ). IsAsm (take n pairs) → ⊥) (sym up_to)
          (λ h. let read = disassembled_again (take (suc fails.count) pairs) h.0 short h.1.0 h.1.1 in
          let refused = fails.bad in
          absurd cc);
    }
