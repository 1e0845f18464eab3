-- The packed tuple of an instruction.
use Rattle.std.proofs.Common.{◌≡◌, ⊎_elim, ℕ, ◌<◌, ◌≤◌, ◌==◌, Bool, true, false, not, Option, Some, None, List, [], ◌∷◌, ◌++◌, length, pos, Result, Ok, Err, IfOk, refl, sym, ap, subst, ◌∙◌}
use Rattle.std.specs.List.{list_all}
use Rattle.std.proofs.lemmas.Bool.{and_parts, le-ltb, lt-ltb, not-true}
use Rattle.std.proofs.lemmas.List.{append-nil}
use Rattle.model_database.specs.declared.TheConstants.{VALUE_LIMIT}
use Rattle.model_lines.specs.Reading.{Line, TooLong}
use Rattle.fdb_tuple.specs.declared.tuple.Elem.{Elem}
use Rattle.fdb_tuple.specs.declared.tuple.Elem.TheVariants as elem
use Rattle.fdb_tuple.specs.Tuples.{Bytes, Text, Int, Empty, Single}
use Rattle.fdb_tuple.specs.Listed.{before}
use Rattle.fdb_tuple.specs.Spelling.{spelling, escaped}
use Rattle.fdb_tuple.specs.Zeros.{HasNoZero}
use Rattle.fdb_tuple.proofs.Spellings.{spelled_in-before}
use Rattle.fdb_tuple.proofs.ZeroRuns.{escaped_last}
use Rattle.instr_grammar.specs.Names.{names, push}
use Rattle.instr_grammar.specs.Texts.{Instruction, IsInstruction, Takes, instruction_key, packed}
use Rattle.instr_grammar.specs.Seen.{instruction_is}
use Rattle.instr_grammar.specs.Reading.{instruction_at}
use Rattle.instr_grammar.specs.Lines.{Does, instruction_in, judged}
use Rattle.instr_grammar.proofs.Instructions.{IsSaid, instruction_was}
use Rattle.instr_text.proofs.Feedless.{among_passes}

pub element_behind : (name : List ℕ) (element : Elem)
    → spelling (Single (Text name) (before element Empty)) ≡ spelling (Single (Text name) Empty) ++ spelling (before element Empty)
element_behind name element = spelled_in-before false (elem.Text name) (before element Empty)

pub key_parts : (prefix : List ℕ) (i : ℕ)
    → instruction_key prefix i ≡ spelling (Single (Bytes prefix) Empty) ++ spelling (Single (Int (pos i)) Empty)
key_parts prefix i = spelled_in-before false (elem.Bytes prefix) (Single (Int (pos i)) Empty)

pub name_as_it_stands : (name : List ℕ) → HasNoZero name → spelling (Single (Text name) Empty) ≡ 2 ∷ name ++ 0 ∷ []
name_as_it_stands name h =
    append-nil (2 ∷ escaped name ++ 0 ∷ []) ∙ ap (λ (x : List ℕ). 2 ∷ x ++ 0 ∷ []) (escaped_last name h)

-- ---- names have no zero in them

abbrev no_zeros : List ℕ → Bool
no_zeros name = list_all (λ b. not (b == 0)) name

none_is_zero : (name : List ℕ) → no_zeros name ≡ true → HasNoZero name
none_is_zero [] e = tt
none_is_zero (byte ∷ name) e =
    let both = and_parts (not (byte == 0)) (no_zeros name) e in
    (λ k. let other = not-true (byte == 0) both.0 in let same = ap (λ (b : ℕ). b == 0) k in cc, none_is_zero name both.1)

names_have_no_zeros : list_all no_zeros names ≡ true
unfolding names
names_have_no_zeros = refl

pub name_has_no_zero : (one : Instruction) → Takes one → HasNoZero one.name
name_has_no_zero one takes = ⊎_elim
    (λ h. subst HasNoZero (sym h.0) (none_is_zero push refl))
    (λ h. none_is_zero one.name (among_passes no_zeros names one.name names_have_no_zeros h.0)) takes

-- ---- an instruction that was read

pub read_lawful : (bytes : List ℕ) (one : Instruction) → instruction_at bytes ≡ Ok one → IsInstruction one
read_lawful bytes one e =
    let was = subst (λ (r : Result Instruction ℕ). IfOk r (IsSaid bytes)) e (instruction_was bytes) in was.lawful

pub name_is : (name : List ℕ) (element : Option Elem) → (instruction_is name element).name ≡ name
name_is name None = refl
name_is name (Some element) = refl

pub read_name_has_no_zero : (bytes name : List ℕ) (element : Option Elem) → instruction_at bytes ≡ Ok (instruction_is name element) → HasNoZero name
read_name_has_no_zero bytes name element e =
    let lawful = read_lawful bytes (instruction_is name element) e in
    subst HasNoZero (name_is name element) (name_has_no_zero (instruction_is name element) lawful.takes)

pub instruction_said : (line : Line) (number : ℕ) (one : Instruction) (value : List ℕ) → value ≡ packed one → line.is_whole ≡ true
    → length value ≤ VALUE_LIMIT → judged number (instruction_in line (Ok one)) ≡ Ok (Does one)
instruction_said line number one value e whole small =
    let fits : length (packed one) ≤ VALUE_LIMIT = subst (λ (v : List ℕ). length v ≤ VALUE_LIMIT) e small in
    rw (whole, le-ltb VALUE_LIMIT (length (packed one)) fits) refl

pub instruction_long : (line : Line) (number : ℕ) (one : Instruction) (value : List ℕ) → value ≡ packed one → line.is_whole ≡ true
    → VALUE_LIMIT < length value → judged number (instruction_in line (Ok one)) ≡ Err (TooLong number)
instruction_long line number one value e whole long =
    let past : VALUE_LIMIT < length (packed one) = subst (λ (v : List ℕ). VALUE_LIMIT < length v) e long in
    rw (whole, lt-ltb VALUE_LIMIT (length (packed one)) past) refl
