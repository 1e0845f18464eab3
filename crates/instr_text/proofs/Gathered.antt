-- Lines, gathered into sections from the right.
use Rattle.std.proofs.Common.{◌≡◌, ℕ, ◌+◌, List, [], ◌∷◌, ◌++◌, refl, sym, ap, ◌∙◌, append_assoc}
use Rattle.std.specs.Prelude.{codes, flat_map}
use Rattle.std.proofs.lemmas.List.{append-nil}
use Rattle.model_lines.specs.Printing.{printable, line_feed}
use Rattle.model_lines.specs.Reading.{Entry}
use Rattle.instr_grammar.specs.Texts.{Instruction, Section, instruction_line, text_of, instruction_key, packed, pairs_from, asm}
use Rattle.instr_grammar.specs.Lines.{Said, Begins, Does}

-- the instructions of the section that is open, and the sections behind it
abbrev pub Tail : Type 0
Tail = List Instruction × List Section

abbrev pub with_said : Said → Tail → Tail
with_said (Does one) tail = (one ∷ tail.0, tail.1)
with_said (Begins prefix) tail = ([], record { prefix = prefix; instructions = tail.0 } ∷ tail.1)

abbrev pub gathered : List Said → Tail
gathered [] = ([], [])
gathered (said ∷ rest) = with_said said (gathered rest)

abbrev pub said_line : Said → List ℕ
said_line (Does one) = instruction_line one
said_line (Begins prefix) = codes "@ " ++ printable prefix ++ line_feed ∷ []

abbrev pub said_pairs : List ℕ → ℕ → List Said → List Entry
said_pairs prefix i [] = []
said_pairs prefix i (Does one ∷ rest) = (instruction_key prefix i, packed one) ∷ said_pairs prefix (i + 1) rest
said_pairs prefix i (Begins next ∷ rest) = said_pairs next 0 rest

pub pairs_gathered : (prefix : List ℕ) (i : ℕ) (saids : List Said)
    → said_pairs prefix i saids ≡ pairs_from prefix i (gathered saids).0 ++ asm (gathered saids).1
pairs_gathered prefix i [] = refl
pairs_gathered prefix i (Does one ∷ rest) = ap (λ (x : List Entry). (instruction_key prefix i, packed one) ∷ x) (pairs_gathered prefix (i + 1) rest)
pairs_gathered prefix i (Begins next ∷ rest) = pairs_gathered next 0 rest

pub text_gathered : (saids : List Said) → flat_map said_line saids ≡ flat_map instruction_line (gathered saids).0 ++ text_of (gathered saids).1
text_gathered [] = refl
text_gathered (Does one ∷ rest) = ap (λ (x : List ℕ). instruction_line one ++ x) (text_gathered rest)
    ∙ sym (append_assoc (instruction_line one) (flat_map instruction_line (gathered rest).0) (text_of (gathered rest).1))
text_gathered (Begins prefix ∷ rest) = ap (λ (x : List ℕ). said_line (Begins prefix) ++ x) (text_gathered rest) ∙ simp append_assoc refl

-- ---- and back: the lines of sections

abbrev pub done : List Instruction → List Said → List Said
done [] rest = rest
done (one ∷ more) rest = Does one ∷ done more rest

abbrev pub saids_of : List Section → List Said
saids_of [] = []
saids_of (section ∷ sections) = Begins section.prefix ∷ done section.instructions (saids_of sections)

gathered_done : (instructions : List Instruction) (rest : List Said)
    → gathered (done instructions rest) ≡ (instructions ++ (gathered rest).0, (gathered rest).1)
gathered_done [] rest = refl
gathered_done (one ∷ more) rest = ap (with_said (Does one)) (gathered_done more rest)

pub gathered_sections : (sections : List Section) → gathered (saids_of sections) ≡ ([], sections)
gathered_sections [] = refl
gathered_sections (section ∷ sections) =
    let later = gathered_done section.instructions (saids_of sections)
    ∙ ap (λ (t : Tail). (section.instructions ++ t.0, t.1)) (gathered_sections sections)
    ∙ ap (λ (i : List Instruction). (i, sections)) (append-nil section.instructions) in
    ap (with_said (Begins section.prefix)) later
