-- What lines may say from a place on, and that reading takes exactly this.
use Rattle.std.proofs.Common.{◌≡◌, ⊎_elim, ℕ, ◌+◌, ◌<◌, ◌≤◌, Bool, true, false, cond, not, ◌&&◌, ◌==◌, nat_lt, nat_le, List, [], ◌∷◌, ◌++◌, length, map, Result, Ok, Err, IfOk, refl, sym, ap, subst, ◌∙◌, arith}
use Rattle.std.specs.Prelude.{codes, flat_map}
use Rattle.std.proofs.lemmas.Bool.{ltb-false, leb-false, le-ltb, lt-leb, not-true}
use Rattle.model_database.specs.declared.TheConstants.{VALUE_LIMIT}
use Rattle.model_lines.specs.Printing.{printable, line_feed}
use Rattle.model_lines.specs.Reading.{Line, Flaw, Bad, Long, Entry, Fault, BadLine, TooMany, TooLong, size_of, lines_of, input_limit, line_limit}
use Rattle.model_lines.proofs.Lines.{IsFeedless, IsFeedless-append, whole_first}
use Rattle.model_lines.proofs.ReadLines.{guard_ok, neither}
use Rattle.dump_text.proofs.Laws.{standing, lines_stand, length-standing}
use Rattle.std.specs.List.{list_all}
use Rattle.instr_grammar.specs.Names.{names, push, is_among}
use Rattle.instr_grammar.specs.Texts.{Instruction, IsInstruction, Takes, elements_text, packed, instructions_limit}
use Rattle.instr_grammar.specs.Reading.{instruction_at, prefix_at, prefix_limit}
use Rattle.instr_grammar.specs.Lines.{Place, Said, Begins, Does, is_head, is_too_many, is_waiting, whole, head_in, within, instruction_in, said_at, judged, read_line, next_place, first_of, pairs_of, with_pairs, read_on, read_lines}
use Rattle.instr_grammar.proofs.Runs.{AreBytes}
use Rattle.instr_grammar.proofs.Instructions.{IsSaid, instruction_was, instruction_again}
use Rattle.instr_text.specs.Standing.{IsInside}
use Rattle.instr_text.proofs.Feedless.{among_passes, feedless_printable, feedless_instruction}
use Rattle.instr_text.proofs.Heads.{IsHead, prefix_was, prefix_again}
use Rattle.instr_text.proofs.Gathered.{said_line, said_pairs}

-- a line without its line feed
abbrev pub said_text : Said → List ℕ
said_text (Does one) = one.name ++ elements_text false one.operand
said_text (Begins prefix) = codes "@ " ++ printable prefix

abbrev pub line_for : Said → Line
line_for said = record { bytes = said_text said; is_whole = true }

pub record IsBegun (place : Place) (prefix : List ℕ) : Type 0 where
  pub are_bytes : AreBytes prefix
  pub short : length prefix ≤ prefix_limit
  pub new : is_among prefix place.prefixes ≡ false
  pub ready : is_waiting place ≡ false

pub record IsDone (place : Place) (one : Instruction) : Type 0 where
  pub lawful : IsInstruction one
  pub small : length (packed one) ≤ VALUE_LIMIT
  pub few : place.instructions < instructions_limit
  pub inside : (length place.prefixes == 0) ≡ false

abbrev pub IsLawful : Place → Said → Type 0
IsLawful place (Begins prefix) = IsBegun place prefix
IsLawful place (Does one) = IsDone place one

pub record MaySay (place : Place) (said : Said) : Type 0 where
  pub size : place.bytes + length (said_line said) ≤ input_limit
  pub short : length (said_text said) ≤ line_limit
  pub lawful : IsLawful place said

abbrev pub MaySayAll : Place → List Said → Type 0
MaySayAll place [] = is_waiting place ≡ false
MaySayAll place (said ∷ saids) = MaySay place said × MaySayAll (next_place place (line_for said) said) saids

pub may_stand : (place : Place) (said : Said) → MaySay place said → IsInside place said
may_stand place (Begins prefix) h = tt
may_stand place (Does one) h = h.lawful.inside

-- ---- a line as it stands

said_line-is : (said : Said) → said_line said ≡ said_text said ++ line_feed ∷ []
said_line-is (Does one) = refl
said_line-is (Begins prefix) = refl

stands : (said : Said) → standing (line_for said) ≡ said_line said
stands said = sym (said_line-is said)

pub size_is : (said : Said) → size_of (line_for said) ≡ length (said_line said)
size_is said = sym (length-standing (line_for said)) ∙ ap length (stands said)

-- ---- a line that was read

whole_ok : {A : Type 0} (is_whole : Bool) (fault : Flaw) (value read : A) → cond is_whole (Ok value) (Err fault) ≡ Ok read
    → (is_whole ≡ true) × (value ≡ read)
whole_ok true fault value read e = (refl, cc)
whole_ok false fault value read e = absurd cc

record WasRead (place : Place) (line : Line) (said : Said) : Type 0 where
  is_whole : line.is_whole ≡ true
  text : line.bytes ≡ said_text said
  lawful : (few : is_head line.bytes ≡ false → place.instructions < instructions_limit) → IsLawful place said

head_begins : (bytes prefix : List ℕ) → bytes ≡ codes "@ " ++ prefix → is_head bytes ≡ true
head_begins bytes prefix e = ap is_head e

head_was : (place : Place) (line : Line) (said : Said) (read : Result (List ℕ) ℕ) → IfOk read (IsHead line.bytes) → is_waiting place ≡ false
    → head_in place line read ≡ Ok said → WasRead place line said
head_was place line said (Err left) is ready e = absurd cc
head_was place line said (Ok prefix) is ready e =
    let parts = guard_ok (is_among prefix place.prefixes) (Bad 2) (whole line (Begins prefix)) said e in
    let ended = whole_ok line.is_whole (Bad (length line.bytes)) (Begins prefix) said parts.1 in
    subst (WasRead place line) ended.1 (record {
      is_whole = ended.0;
      text = is.parts;
      lawful = λ few. record { are_bytes = is.are_bytes; short = is.short; new = parts.0; ready = ready };
    })

within_was : (one : Instruction) (line : Line) (said : Said) → within one (whole line (Does one)) ≡ Ok said
    → (line.is_whole ≡ true) × (Does one ≡ said) × (length (packed one) ≤ VALUE_LIMIT)
within_was one line said e = by line.is_whole refl e
  where
    by : (is_whole : Bool) → line.is_whole ≡ is_whole → within one (cond is_whole (Ok (Does one)) (Err (Bad (length line.bytes)))) ≡ Ok said
        → (line.is_whole ≡ true) × (Does one ≡ said) × (length (packed one) ≤ VALUE_LIMIT)
    by true h e =
        let parts = guard_ok (nat_lt VALUE_LIMIT (length (packed one))) Long (Ok (Does one)) said e in
        let same : Does one ≡ said = cc in
        (h, same, ltb-false VALUE_LIMIT (length (packed one)) parts.0)
    by false h e = absurd cc

instruction_in_was : (place : Place) (line : Line) (said : Said) (read : Result Instruction ℕ) → IfOk read (IsSaid line.bytes)
    → (length place.prefixes == 0) ≡ false → is_head line.bytes ≡ false → instruction_in line read ≡ Ok said → WasRead place line said
instruction_in_was place line said (Err left) is inside no_head e = absurd cc
instruction_in_was place line said (Ok one) is inside no_head e =
    let parts = within_was one line said e in
    subst (WasRead place line) parts.1 (record {
      is_whole = parts.0;
      text = is.parts;
      lawful = λ few. record { lawful = is.lawful; small = parts.2; few = few no_head; inside = inside };
    })

said_was : (place : Place) (line : Line) (said : Said) → said_at place line ≡ Ok said → WasRead place line said
unfolding said_at
said_was place line said e = by (is_head line.bytes) refl e
  where
    by : (head : Bool) → is_head line.bytes ≡ head
        → cond head (cond (is_waiting place) (Err (Bad 0)) (head_in place line (prefix_at line.bytes)))
        (cond (length place.prefixes == 0) (Err (Bad 0)) (instruction_in line (instruction_at line.bytes))) ≡ Ok said → WasRead place line said
    by true h e =
        let parts = guard_ok (is_waiting place) (Bad 0) (head_in place line (prefix_at line.bytes)) said e in
        head_was place line said (prefix_at line.bytes) (prefix_was line.bytes) parts.0 parts.1
    by false h e =
        let parts = guard_ok (length place.prefixes == 0) (Bad 0) (instruction_in line (instruction_at line.bytes)) said e in
        instruction_in_was place line said (instruction_at line.bytes) (instruction_was line.bytes) parts.0 h parts.1

judged_ok : (number : ℕ) (read : Result Said Flaw) (said : Said) → judged number read ≡ Ok said → read ≡ Ok said
judged_ok number (Ok other) said e = cc
judged_ok number (Err flaw) said e = absurd cc

few_left : (head : Bool) (instructions : ℕ) → (not head && nat_le instructions_limit instructions) ≡ false → head ≡ false
    → instructions < instructions_limit
few_left true instructions e no_head = absurd cc
few_left false instructions e no_head = leb-false instructions_limit instructions e

line_is : (line : Line) (said : Said) → line.is_whole ≡ true → line.bytes ≡ said_text said → line ≡ line_for said
line_is line said whole_is text = λ t. record { bytes = text t; is_whole = whole_is t }

pub line_was : (place : Place) (line : Line) (said : Said) → read_line place line ≡ Ok said → (line ≡ line_for said) × MaySay place said
unfolding read_line
line_was place line said e =
    let many = guard_ok (is_too_many place line) (TooMany place.number)
    (cond (nat_lt line_limit (length line.bytes)) (Err (TooLong place.number)) (judged place.number (said_at place line))) said e in
    let long = guard_ok (nat_lt line_limit (length line.bytes)) (TooLong place.number) (judged place.number (said_at place line)) said many.1 in
    let was = said_was place line said (judged_ok place.number (said_at place line) said long.1) in
    let limits = neither (nat_lt input_limit (place.bytes + size_of line)) (not (is_head line.bytes) && nat_le instructions_limit place.instructions) many.0 in
    let same = line_is line said was.is_whole was.text in
    let size : place.bytes + size_of line ≤ input_limit = ltb-false input_limit (place.bytes + size_of line) limits.0 in
    let sizes : size_of line ≡ length (said_line said) = ap size_of same ∙ size_is said in
    let short : length line.bytes ≤ line_limit = ltb-false line_limit (length line.bytes) long.0 in (
      same,
      record {
        size = omega (arith, size, sizes);
        short = omega (arith, short, ap length was.text);
        lawful = was.lawful (few_left (is_head line.bytes) place.instructions limits.1);
      },
    )

-- ---- a line that may be said is read

leads : List ℕ → Bool
leads [] = false
leads (byte ∷ rest) = not (byte == 64)

names_lead : list_all leads names ≡ true
unfolding names leads
names_lead = refl

push_leads : leads push ≡ true
unfolding leads
push_leads = refl

lead_is_no_head : (name rest : List ℕ) → leads name ≡ true → is_head (name ++ rest) ≡ false
unfolding leads
lead_is_no_head [] rest e = absurd cc
lead_is_no_head (byte ∷ name) rest e = not-true (byte == 64) e

name_leads : (one : Instruction) → Takes one → leads one.name ≡ true
name_leads one takes = ⊎_elim (λ h. ap leads h.0 ∙ push_leads) (λ h. among_passes leads names one.name names_lead h.0) takes

no_head : (one : Instruction) → IsInstruction one → is_head (said_text (Does one)) ≡ false
no_head one is = lead_is_no_head one.name (elements_text false one.operand) (name_leads one is.takes)

said_again : (place : Place) (said : Said) → IsLawful place said → said_at place (line_for said) ≡ Ok said
unfolding said_at
said_again place (Begins prefix) h = rw (h.ready, prefix_again prefix h.are_bytes h.short, h.new) refl
said_again place (Does one) h =
    rw (no_head one h.lawful, h.inside, instruction_again one h.lawful, le-ltb VALUE_LIMIT (length (packed one)) h.small) refl

never_too_many : (place : Place) (said : Said) → IsLawful place said → (not (is_head (said_text said)) && nat_le instructions_limit place.instructions) ≡ false
never_too_many place (Begins prefix) h = refl
never_too_many place (Does one) h = rw (no_head one h.lawful, lt-leb instructions_limit place.instructions h.few) refl

pub line_again : (place : Place) (said : Said) → MaySay place said → read_line place (line_for said) ≡ Ok said
unfolding read_line
line_again place said h =
    let size : place.bytes + size_of (line_for said) ≤ input_limit = omega (arith, h.size, size_is said) in
    rw (
      le-ltb input_limit (place.bytes + size_of (line_for said)) size,
      never_too_many place said h.lawful,
      le-ltb line_limit (length (said_text said)) h.short,
      said_again place said h.lawful,
    ) refl

-- ---- all lines

with_pairs_ok : (front : List Entry) (read : Result (List Entry) Fault) (pairs : List Entry) → with_pairs front read ≡ Ok pairs
    → (others : List Entry) × ((read ≡ Ok others) × (front ++ others ≡ pairs))
with_pairs_ok front (Err fault) pairs e = absurd cc
with_pairs_ok front (Ok others) pairs e = (others, (refl, cc))

read_on_ok : (place : Place) (line : Line) (more : Place → Result (List Entry) Fault) (read : Result Said Fault) (pairs : List Entry)
    → read_on place line more read ≡ Ok pairs
    → (said : Said) × ((others : List Entry) × ((read ≡ Ok said) × (more (next_place place line said) ≡ Ok others) × (pairs_of place said ++ others ≡ pairs)))
read_on_ok place line more (Err fault) pairs e = absurd cc
read_on_ok place line more (Ok said) pairs e =
    let parts = with_pairs_ok (pairs_of place said) (more (next_place place line said)) pairs e in
    (said, (parts.0, (refl, parts.1.0, parts.1.1)))

-- the pairs of a line and of those behind it
said_more : (place : Place) (said : Said) (saids : List Said)
    → pairs_of place said ++ said_pairs (first_of (next_place place (line_for said) said).prefixes) (next_place place (line_for said) said).index saids
    ≡ said_pairs (first_of place.prefixes) place.index (said ∷ saids)
said_more place (Begins prefix) saids = refl
said_more place (Does one) saids = refl

pub record WereSaid (place : Place) (lines : List Line) (pairs : List Entry) : Type 0 where
  pub saids : List Said
  pub lines_are : lines ≡ map line_for saids
  pub may : MaySayAll place saids
  pub pairs_are : pairs ≡ said_pairs (first_of place.prefixes) place.index saids

pub lines_were : (place : Place) (lines : List Line) (pairs : List Entry) → read_lines place lines ≡ Ok pairs → WereSaid place lines pairs
unfolding read_lines
lines_were place [] pairs e =
    let parts = guard_ok (is_waiting place) (BadLine place.number 0) (Ok []) pairs e in
    record { saids = []; lines_are = refl; may = parts.0; pairs_are = cc }
lines_were place (line ∷ lines) pairs e =
    let parts = read_on_ok place line (λ next. read_lines next lines) (read_line place line) pairs e in
    let said = parts.0 in
    let others = parts.1.0 in
    let was = line_was place line said parts.1.1.0 in
    let read : read_lines (next_place place (line_for said) said) lines ≡ Ok others =
    ap (λ (l : Line). read_lines (next_place place l said) lines) (sym was.0) ∙ parts.1.1.1 in
    let later = lines_were (next_place place (line_for said) said) lines others read in
    record {
      saids = said ∷ later.saids;
      lines_are = ap (λ (l : Line). l ∷ lines) was.0 ∙ ap (λ (ls : List Line). line_for said ∷ ls) later.lines_are;
      may = (was.1, later.may);
      pairs_are = sym parts.1.1.2 ∙ ap (λ (x : List Entry). pairs_of place said ++ x) later.pairs_are ∙ said_more place said later.saids;
    }

pub lines_again : (place : Place) (saids : List Said) → MaySayAll place saids
    → read_lines place (map line_for saids) ≡ Ok (said_pairs (first_of place.prefixes) place.index saids)
unfolding read_lines
lines_again place [] h = rw h refl
lines_again place (said ∷ saids) h =
    let later = lines_again (next_place place (line_for said) said) saids h.1 in
    rw (line_again place said h.0, later) (ap (λ (x : List Entry). Ok x) (said_more place said saids))

-- ---- the bytes of lines

feedless : (place : Place) (said : Said) → IsLawful place said → IsFeedless (said_text said)
feedless place (Begins prefix) h = IsFeedless-append (codes "@ ") (printable prefix) (refl, (refl, tt)) (feedless_printable prefix)
feedless place (Does one) h = feedless_instruction one h.lawful

pub lines_are : (place : Place) (saids : List Said) → MaySayAll place saids → lines_of (flat_map said_line saids) ≡ map line_for saids
unfolding lines_of
lines_are place [] h = refl
lines_are place (said ∷ saids) h =
    ap (λ (x : List ℕ). lines_of (x ++ flat_map said_line saids)) (said_line-is said)
    ∙ whole_first (said_text said) (flat_map said_line saids) (feedless place said h.0.lawful)
    ∙ ap (λ (ls : List Line). line_for said ∷ ls) (lines_are (next_place place (line_for said) said) saids h.1)

lines_stand_as : (saids : List Said) → flat_map standing (map line_for saids) ≡ flat_map said_line saids
lines_stand_as [] = refl
lines_stand_as (said ∷ saids) =
    ap (λ (x : List ℕ). x ++ flat_map standing (map line_for saids)) (stands said)
    ∙ ap (λ (x : List ℕ). said_line said ++ x) (lines_stand_as saids)

pub bytes_are : (bytes : List ℕ) (saids : List Said) → lines_of bytes ≡ map line_for saids → bytes ≡ flat_map said_line saids
bytes_are bytes saids e = sym (lines_stand bytes) ∙ ap (flat_map standing) e ∙ lines_stand_as saids
