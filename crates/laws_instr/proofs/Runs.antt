-- A machine takes each instruction of a text, and a text that is assembled comes back.
use Rattle.std.proofs.Common.{◌≡◌, ⊎_elim, ℕ, ◌+◌, true, List, [], ◌∷◌, length, is_some, Ok, refl, sym, ap, ◌∙◌, arith}
use Rattle.std.specs.Prelude.{flat_map}
use Rattle.std.proofs.lemmas.List.{length-append}
use Rattle.std.proofs.lemmas.Slice.Eq.{bytes_eq-Decides}
use Rattle.model_lines.specs.Reading.{Entry}
use Rattle.fdb_tuple.specs.Tuples.{Text, Elements, Empty, Single, Nested}
use Rattle.fdb_tuple.specs.Listed.{elements_of}
use Rattle.fdb_tuple.proofs.ReadLaws.{read_tuple_again}
use Rattle.model_machine.specs.Instructions.{named_instruction, instruction_read, instruction_of}
use Rattle.instr_grammar.specs.Names.{push}
use Rattle.instr_grammar.specs.Texts.{Instruction, Section, IsInstruction, IsOperand, Takes, IsTextOf, packed, pairs_from, text_of, asm}
use Rattle.instr_grammar.specs.Lines.{assembled}
use Rattle.instr_grammar.specs.Taking.{disassembled}
use Rattle.instr_text.proofs.Packed.{name_is_text}
use Rattle.instr_text.proofs.Texts.{text_was, text_again}
use Rattle.instr_text.proofs.Takings.{disassembled_again, length-pairs}
use Rattle.laws_instr.proofs.MachineNames.{names_are}

pushed : (name : List ℕ) (operand : Elements) → IsOperand operand → name ≡ push → is_some (named_instruction name (elements_of operand)) ≡ true
pushed name Empty one e = absurd one
pushed name (Single scalar Empty) one e = rw ((bytes_eq-Decides name push).1 e) refl
pushed name (Nested inner Empty) one e = rw ((bytes_eq-Decides name push).1 e) refl
pushed name (Single scalar (Single second rest)) one e = absurd one
pushed name (Single scalar (Nested second rest)) one e = absurd one
pushed name (Nested inner (Single second rest)) one e = absurd one
pushed name (Nested inner (Nested second rest)) one e = absurd one

taken : (one : Instruction) → Takes one → is_some (named_instruction one.name (elements_of one.operand)) ≡ true
taken one takes = ⊎_elim (λ h. pushed one.name one.operand h.1 h.0)
    (λ h. ap (λ (o : Elements). is_some (named_instruction one.name (elements_of o))) h.1 ∙ sym (names_are one.name) ∙ h.0) takes

pub machine_takes : (one : Instruction) → IsInstruction one → is_some (instruction_of (packed one)) ≡ true
unfolding instruction_of
machine_takes one is =
    ap (λ read. is_some (instruction_read read))
    (read_tuple_again (Single (Text one.name) one.operand) ((name_is_text one is.takes, is.elements), is.depth))
    ∙ taken one is.takes

-- ---- a text comes back

count_of : (sections : List Section) → length (asm sections) ≡ length (flat_map (λ (s : Section). s.instructions) sections)
count_of [] = refl
count_of (section ∷ sections) =
    length-append (pairs_from section.prefix 0 section.instructions) (asm sections)
    ∙ (λ t. length-pairs section.prefix 0 section.instructions t + count_of sections t)
    ∙ sym (length-append section.instructions (flat_map (λ (s : Section). s.instructions) sections))

pub comes_back : (text : List ℕ) (pairs : List Entry) → assembled text ≡ Ok pairs → disassembled pairs ≡ Ok text
comes_back text pairs e =
    let was = text_was text pairs e in
    let sections = was.0 in
    let is = was.1.0 in
    let pairs_are = was.1.1 in
    let few = is.count in
    disassembled_again pairs sections (omega (arith, few, count_of sections, ap length pairs_are)) is.lawful pairs_are
    ∙ ap (λ (x : List ℕ). Ok x) (sym is.spelled)

pub sections_come_back : (sections : List Section) → IsTextOf (text_of sections) sections
    → (disassembled (asm sections) ≡ Ok (text_of sections)) × (assembled (text_of sections) ≡ Ok (asm sections))
sections_come_back sections is =
    let few = is.count in
    (disassembled_again (asm sections) sections (omega (arith, few, count_of sections)) is.lawful refl, text_again (text_of sections) sections is)
