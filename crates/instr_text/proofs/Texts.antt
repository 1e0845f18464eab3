-- A text that was read is in the grammar, and a text in the grammar is read.
use Rattle.std.proofs.Common.{◌≡◌, ◌≢◌, ℕ, ◌+◌, ◌*◌, ◌<◌, ◌≤◌, Bool, true, false, not, ◌&&◌, ◌||◌, ◌==◌, List, [], ◌∷◌, ◌++◌, length, map, Ok, refl, sym, ap, subst, ◌∙◌, arith}
use Rattle.std.specs.Prelude.{codes, flat_map, bytes_eq}
use Rattle.std.specs.List.{AllByRecursion}
use Rattle.std.proofs.lemmas.Bool.{ne_eqb}
use Rattle.std.proofs.lemmas.List.{length-append}
use Rattle.std.proofs.lemmas.List.Elements.{recursion_from_All, All-from_recursion}
use Rattle.std.proofs.lemmas.Slice.Eq.{bytes_eq-Decides}
use Rattle.model_database.specs.declared.TheConstants.{VALUE_LIMIT}
use Rattle.model_lines.specs.Printing.{is_plain, backslash, printed, printable, line_feed}
use Rattle.model_lines.specs.Reading.{Entry, lines_of, input_limit, line_limit}
use Rattle.instr_grammar.specs.Names.{is_among}
use Rattle.instr_grammar.specs.Texts.{Instruction, Section, IsInstruction, IsSection, AreDistinct, IsTextOf, instruction_line, section_lines, text_of, packed, pairs_from, asm, instructions_limit}
use Rattle.instr_grammar.specs.Reading.{prefix_limit}
use Rattle.instr_grammar.specs.Lines.{Place, start, Said, Begins, Does, is_waiting, next_place, read_lines, assembled}
use Rattle.instr_text.proofs.Gathered.{Tail, gathered, said_line, pairs_gathered, text_gathered, done, saids_of, gathered_sections}
use Rattle.instr_text.proofs.TakingSections.{not_equal}
use Rattle.instr_text.proofs.Lawful.{said_text, line_for, size_is, MaySay, MaySayAll, lines_were, lines_again, lines_are, bytes_are}

abbrev IsShort : Instruction → Type 0
IsShort one = (length (instruction_line one) ≤ line_limit + 1) × (length (packed one) ≤ VALUE_LIMIT)

abbrev instructions_of : List Section → List Instruction
instructions_of sections = flat_map (λ (s : Section). s.instructions) sections

-- ---- what was read, gathered

-- the instructions of the section that is open at a place, and the sections behind it
record AreGathered (place : Place) (instructions : List Instruction) (sections : List Section) : Type 0 where
  each : AllByRecursion IsInstruction instructions
  are : AllByRecursion IsSection sections
  distinct : AreDistinct (map (λ (s : Section). s.prefix) sections)
  new : AllByRecursion (λ (s : Section). is_among s.prefix place.prefixes ≡ false) sections
  some : is_waiting place ≡ true → 0 < length instructions
  none : (length place.prefixes == 0) ≡ true → instructions ≡ []
  count : place.instructions + (length instructions + length (instructions_of sections)) ≤ instructions_limit
  short : AllByRecursion IsShort (instructions ++ instructions_of sections)

apart : (prefix other : List ℕ) (before : List (List ℕ)) → is_among other (prefix ∷ before) ≡ false → (prefix ≢ other) × (is_among other before ≡ false)
apart prefix other before e = by (bytes_eq prefix other) refl e
  where
    by : (same : Bool) → bytes_eq prefix other ≡ same → (same || is_among other before) ≡ false → (prefix ≢ other) × (is_among other before ≡ false)
    by true h e = absurd cc
    by false h e = (λ k. let t = (bytes_eq-Decides prefix other).1 k in cc, e)

others_apart : (prefix : List ℕ) (before : List (List ℕ)) (sections : List Section)
    → AllByRecursion (λ (s : Section). is_among s.prefix (prefix ∷ before) ≡ false) sections
    → AllByRecursion (λ other. prefix ≢ other) (map (λ (s : Section). s.prefix) sections)
    × AllByRecursion (λ (s : Section). is_among s.prefix before ≡ false) sections
others_apart prefix before [] h = (tt, tt)
others_apart prefix before (section ∷ sections) h =
    let here = apart prefix section.prefix before h.0 in
    let later = others_apart prefix before sections h.1 in
    ((here.0, later.0), (here.1, later.1))

some_came : (prefix : List ℕ) (before : List (List ℕ)) → (length (prefix ∷ before) == 0) ≡ false
some_came prefix before = ne_eqb (length (prefix ∷ before)) 0 (λ e. omega arith)

waits : (place : Place) (prefix : List ℕ) (before : List (List ℕ)) → place.prefixes ≡ prefix ∷ before → place.index ≡ 0 → is_waiting place ≡ true
waits place prefix before e f = rw (e, f, some_came prefix before) refl

line_feeds : (one : Instruction) → length (instruction_line one) ≡ length (said_text (Does one)) + 1
line_feeds one = length-append (said_text (Does one)) (line_feed ∷ [])

gather_one : (place : Place) (one : Instruction) (instructions : List Instruction) (sections : List Section) → MaySay place (Does one)
    → AreGathered (next_place place (line_for (Does one)) (Does one)) instructions sections → AreGathered place (one ∷ instructions) sections
gather_one place one instructions sections may later = record {
  each = (may.lawful.lawful, later.each);
  are = later.are;
  distinct = later.distinct;
  new = later.new;
  some = λ waiting. omega arith;
  none = λ none. let inside = may.lawful.inside in absurd cc;
  count = omega (arith, later.count);
  short = ((omega (arith, line_feeds one, may.short), may.lawful.small), later.short);
}

gather_section : (place : Place) (prefix : List ℕ) (instructions : List Instruction) (sections : List Section) → MaySay place (Begins prefix)
    → AreGathered (next_place place (line_for (Begins prefix)) (Begins prefix)) instructions sections
    → AreGathered place [] (record { prefix = prefix; instructions = instructions } ∷ sections)
gather_section place prefix instructions sections may later =
    let begun = may.lawful in
    let others = others_apart prefix place.prefixes sections later.new in
    let some = later.some (waits (next_place place (line_for (Begins prefix)) (Begins prefix)) prefix place.prefixes refl refl) in
    record {
      each = tt;
      are = (record { prefix = All-from_recursion (λ b. b < 256) prefix begun.are_bytes; short = begun.short; some = some; instructions = later.each }, later.are);
      distinct = (others.0, later.distinct);
      new = (begun.new, others.1);
      some = λ waiting. let ready = begun.ready in absurd cc;
      none = λ none. refl;
      count = omega (arith, later.count, length-append instructions (instructions_of sections));
      short = later.short;
    }

said_gathered : (place : Place) (saids : List Said) → place.instructions ≤ instructions_limit → MaySayAll place saids
    → AreGathered place (gathered saids).0 (gathered saids).1
said_gathered place [] few ready = record {
  each = tt;
  are = tt;
  distinct = tt;
  new = tt;
  some = λ waiting. absurd cc;
  none = λ none. refl;
  count = omega arith;
  short = tt;
}
said_gathered place (Does one ∷ saids) few may =
    let few_done = may.0.lawful.few in
    gather_one place one (gathered saids).0 (gathered saids).1 may.0
    (said_gathered (next_place place (line_for (Does one)) (Does one)) saids (omega arith) may.1)
said_gathered place (Begins prefix ∷ saids) few may =
    gather_section place prefix (gathered saids).0 (gathered saids).1 may.0
    (said_gathered (next_place place (line_for (Begins prefix)) (Begins prefix)) saids few may.1)

next_bytes : (place : Place) (said : Said) → (next_place place (line_for said) said).bytes ≡ place.bytes + length (said_line said)
next_bytes place (Does one) = ap (λ (n : ℕ). place.bytes + n) (size_is (Does one))
next_bytes place (Begins prefix) = ap (λ (n : ℕ). place.bytes + n) (size_is (Begins prefix))

-- the lines keep within the limit of the size
size_kept : (place : Place) (saids : List Said) → place.bytes ≤ input_limit → MaySayAll place saids
    → place.bytes + length (flat_map said_line saids) ≤ input_limit
size_kept place [] within may = omega arith
size_kept place (said ∷ saids) within may =
    let next = next_bytes place said in
    let here = may.0.size in
    let later = size_kept (next_place place (line_for said) said) saids (omega arith) may.1 in
    omega (arith, later, next, length-append (said_line said) (flat_map said_line saids))

pub text_was : (text : List ℕ) (pairs : List Entry) → assembled text ≡ Ok pairs
    → (sections : List Section) × (IsTextOf text sections × (pairs ≡ asm sections))
unfolding assembled
text_was text pairs e =
    let were = lines_were start (lines_of text) pairs e in
    let saids = were.saids in
    let sections = (gathered saids).1 in
    let all = said_gathered start saids (omega arith) were.may in
    let none = all.none refl in
    let spelled = bytes_are text saids were.lines_are in
    let kept = size_kept start saids (omega arith) were.may in
    let count = all.count in (
      sections,
      (
        record {
          spelled = spelled ∙ text_gathered saids ∙ ap (λ (i : List Instruction). flat_map instruction_line i ++ text_of sections) none;
          lawful = record { each = all.are; distinct = all.distinct };
          size = omega (arith, kept, ap length spelled);
          count = omega (arith, count);
          short = subst (λ (i : List Instruction). AllByRecursion IsShort (i ++ instructions_of sections)) none all.short;
        },
        were.pairs_are ∙ pairs_gathered [] 0 saids ∙ ap (λ (i : List Instruction). pairs_from [] 0 i ++ asm sections) none,
      ),
    )

-- ---- what is spelled is read

length-printed : (byte : ℕ) → length (printed byte) ≤ 4
length-printed byte =
    elim (is_plain byte) as (λ p. is_plain byte ≡ p → length (printed byte) ≤ 4) [
      | true ↦ λ p. rw p (omega arith)
      | false ↦ λ p.
          elim (byte == backslash) as (λ b. (byte == backslash) ≡ b → length (printed byte) ≤ 4) [
            | true ↦ λ b. rw (p, b) (omega arith)
            | false ↦ λ b. rw (p, b) (omega arith)
          ] refl
    ] refl

length-printable : (bytes : List ℕ) → length (printable bytes) ≤ 4 * length bytes
unfolding printable
length-printable [] = omega arith
length-printable (byte ∷ bytes) = omega (arith, length-append (printed byte) (printable bytes), length-printed byte, length-printable bytes)

all_split : {A : Type 0} (P : A → Type 0) (xs ys : List A) → AllByRecursion P (xs ++ ys) → AllByRecursion P xs × AllByRecursion P ys
all_split P [] ys h = (tt, h)
all_split P (x ∷ xs) ys h = let later = all_split P xs ys h.1 in ((h.0, later.0), later.1)

-- what comes behind the instructions of a section
abbrev MayFollow : Place → List Instruction → List Said → Type 0
MayFollow place instructions rest = (next : Place) → next.prefixes ≡ place.prefixes → next.instructions ≡ place.instructions + length instructions
    → next.bytes ≡ place.bytes + length (flat_map instruction_line instructions) → next.index ≡ place.index + length instructions
    → MaySayAll next rest

done_may : (place : Place) (instructions : List Instruction) (rest : List Said) → (length place.prefixes == 0) ≡ false
    → AllByRecursion IsInstruction instructions → AllByRecursion IsShort instructions
    → place.instructions + length instructions ≤ instructions_limit → place.bytes + length (flat_map instruction_line instructions) ≤ input_limit
    → MayFollow place instructions rest → MaySayAll place (done instructions rest)
done_may place [] rest inside are short few size later = later place refl (omega arith) (omega arith) (omega arith)
done_may place (one ∷ more) rest inside are short few size later =
    let next = next_place place (line_for (Does one)) (Does one) in
    let lens = length-append (instruction_line one) (flat_map instruction_line more) in
    let step = next_bytes place (Does one) in (
      record {
        size = omega (arith, size, lens);
        short = omega (arith, line_feeds one, short.0.0);
        lawful = record { lawful = are.0; small = short.0.1; few = omega arith; inside = inside };
      },
      done_may next more rest inside are.1 short.1 (omega arith) (omega (arith, lens, step, size))
          (λ after prefixes instructions bytes index. later after prefixes (omega arith) (omega (arith, lens, step, bytes)) (omega arith)),
    )

and_false : (b : Bool) → (b && false) ≡ false
and_false true = refl
and_false false = refl

not_waiting : (place : Place) → 0 < place.index → is_waiting place ≡ false
not_waiting place some = rw (ne_eqb place.index 0 (λ e. omega arith)) (and_false (not (length place.prefixes == 0)))

abbrev AreNew : List (List ℕ) → List Section → Type 0
AreNew before sections = AllByRecursion (λ (s : Section). is_among s.prefix before ≡ false) sections

still_new : (prefix : List ℕ) (before : List (List ℕ)) (sections : List Section)
    → AllByRecursion (λ other. prefix ≢ other) (map (λ (s : Section). s.prefix) sections) → AreNew before sections → AreNew (prefix ∷ before) sections
still_new prefix before [] apart new = tt
still_new prefix before (section ∷ sections) apart new =
    (rw (not_equal prefix section.prefix apart.0) new.0, still_new prefix before sections apart.1 new.1)

all_new : (sections : List Section) → AreNew [] sections
all_new [] = tt
all_new (section ∷ sections) = (refl, all_new sections)

length-head : (prefix rest : List ℕ) → length (codes "@ " ++ printable prefix ++ line_feed ∷ rest) ≡ length (said_line (Begins prefix)) + length rest
length-head prefix rest = omega (arith, length-append (codes "@ " ++ printable prefix) (line_feed ∷ rest), length-append (codes "@ " ++ printable prefix) (line_feed ∷ []))

short_head : (prefix : List ℕ) → length prefix ≤ prefix_limit → length (said_text (Begins prefix)) ≤ line_limit
short_head prefix h = omega (arith, length-append (codes "@ ") (printable prefix), length-printable prefix)

sections_may : (place : Place) (sections : List Section) → is_waiting place ≡ false → AllByRecursion IsSection sections
    → AreDistinct (map (λ (s : Section). s.prefix) sections) → AreNew place.prefixes sections → AllByRecursion IsShort (instructions_of sections)
    → place.instructions + length (instructions_of sections) ≤ instructions_limit → place.bytes + length (text_of sections) ≤ input_limit
    → MaySayAll place (saids_of sections)
sections_may place [] ready are distinct new short few size = ready
sections_may place (section ∷ sections) ready are distinct new short few size =
    let is = are.0 in
    let prefix = section.prefix in
    let instructions = section.instructions in
    let next = next_place place (line_for (Begins prefix)) (Begins prefix) in
    let parts = all_split IsShort instructions (instructions_of sections) short in
    let counts = length-append instructions (instructions_of sections) in
    let lens = length-append (section_lines section) (text_of sections) in
    let head = length-head prefix (flat_map instruction_line instructions) in
    let step = next_bytes place (Begins prefix) in
    let some = is.some in (
      record {
        size = omega (arith, size, lens, head);
        short = short_head prefix is.short;
        lawful = record { are_bytes = recursion_from_All (λ b. b < 256) prefix is.prefix; short = is.short; new = new.0; ready = ready };
      },
      done_may next instructions (saids_of sections) (some_came prefix place.prefixes) is.instructions parts.0
          (omega (arith, few, counts)) (omega (arith, size, lens, head, step))
          (λ after prefixes count bytes index.
          let newer = subst (λ (before : List (List ℕ)). AreNew before sections) (sym prefixes) (still_new prefix place.prefixes sections distinct.0 new.1) in
          sections_may after sections (not_waiting after (omega (arith, index, some))) are.1 distinct.1 newer parts.1
          (omega (arith, few, counts, count)) (omega (arith, size, lens, head, step, bytes))),
    )

pub text_again : (text : List ℕ) (sections : List Section) → IsTextOf text sections → assembled text ≡ Ok (asm sections)
unfolding assembled
text_again text sections h =
    let saids = saids_of sections in
    let back = gathered_sections sections in
    let spelled : text ≡ flat_map said_line saids = h.spelled
    ∙ sym (text_gathered saids ∙ ap (λ (t : Tail). flat_map instruction_line t.0 ++ text_of t.1) back) in
    let may = sections_may start sections refl h.lawful.each h.lawful.distinct (all_new sections) h.short (omega (arith, h.count))
    (omega (arith, h.size, ap length h.spelled)) in
    ap (λ (x : List ℕ). read_lines start (lines_of x)) spelled
    ∙ ap (read_lines start) (lines_are start saids may)
    ∙ lines_again start saids may
    ∙ ap (λ (x : List Entry). Ok x) (pairs_gathered [] 0 saids ∙ ap (λ (t : Tail). pairs_from [] 0 t.0 ++ asm t.1) back)
