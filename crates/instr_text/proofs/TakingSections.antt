-- The pairs of sections are taken apart as their text.
use Rattle.std.proofs.Common.{◌≡◌, ◌≢◌, ℕ, ◌+◌, ◌^◌, ◌<◌, ◌≤◌, Bool, true, false, List, [], ◌∷◌, ◌++◌, length, map, Option, Some, Ok, refl, ap, ◌∙◌, append_assoc, arith}
use Rattle.std.specs.Prelude.{flat_map, bytes_eq, codes}
use Rattle.std.specs.List.{AllByRecursion}
use Rattle.std.proofs.lemmas.Bool.{le-ltb}
use Rattle.std.proofs.lemmas.Slice.Eq.{bytes_eq-Decides}
use Rattle.key_bytes.specs.Keys.{IsByteString}
use Rattle.model_lines.specs.Printing.{printable, line_feed}
use Rattle.model_lines.specs.Reading.{Entry}
use Rattle.instr_grammar.specs.Names.{is_among}
use Rattle.instr_grammar.specs.Texts.{Instruction, Section, IsInstruction, IsSection, AreDistinct, instruction_line, text_of, instruction_key, packed, pairs_from, asm}
use Rattle.instr_grammar.specs.Taking.{Taken, step, with_text, taken_on, take_pairs}
use Rattle.instr_text.proofs.Packed.{key_again, one_again}
use Rattle.instr_text.proofs.TakingAgain.{section_goes_on}

pub not_equal : (a b : List ℕ) → (a ≡ b → ⊥) → bytes_eq a b ≡ false
not_equal a b ne = by (bytes_eq a b) refl
  where
    by : (t : Bool) → bytes_eq a b ≡ t → t ≡ false
    by true e = absurd (ne ((bytes_eq-Decides a b).0 e))
    by false e = refl

-- prefixes that did not come, and instructions that can be counted
abbrev pub AreNew : List (List ℕ) → List Section → Type 0
AreNew older sections = AllByRecursion (λ (s : Section). (is_among s.prefix older ≡ false) × (length s.instructions < 2 ^ 63)) sections

still_new : (prefix : List ℕ) (older : List (List ℕ)) (sections : List Section)
    → AllByRecursion (λ other. prefix ≢ other) (map (λ (s : Section). s.prefix) sections) → AreNew older sections → AreNew (prefix ∷ older) sections
still_new prefix older [] apart new = tt
still_new prefix older (section ∷ sections) apart new =
    ((rw (not_equal prefix section.prefix apart.0) new.0.0, new.0.1), still_new prefix older sections apart.1 new.1)

abbrev head : List ℕ → List ℕ
head prefix = codes "@ " ++ printable prefix ++ line_feed ∷ []

begins : (prefix : List ℕ) (older : List (List ℕ)) (index : ℕ) (one : Instruction) → IsByteString prefix → length prefix ≤ 1000 → IsInstruction one
    → is_among prefix older ≡ false → step (record { prefixes = older; index = index }) (instruction_key prefix 0, packed one)
    ≡ Some (head prefix ++ instruction_line one, record { prefixes = prefix ∷ older; index = 1 })
unfolding step
begins prefix older index one bytes short is new =
    rw (key_again prefix 0 bytes (omega arith), one_again one is, le-ltb 1000 (length prefix) short, new) refl

four : (a b c d : List ℕ) → (a ++ b) ++ (c ++ d) ≡ (a ++ (b ++ c)) ++ d
four a b c d = simp append_assoc refl

one_section : (line : ℕ) (older : List (List ℕ)) (index : ℕ) (prefix : List ℕ) (instructions : List Instruction) (rest : List Entry) (text : List ℕ)
    → IsByteString prefix → length prefix ≤ 1000 → 0 < length instructions → AllByRecursion IsInstruction instructions → is_among prefix older ≡ false
    → length instructions < 2 ^ 63 → ((n i : ℕ) → take_pairs n (record { prefixes = prefix ∷ older; index = i }) rest ≡ Ok text)
    → take_pairs line (record { prefixes = older; index = index }) (pairs_from prefix 0 instructions ++ rest)
    ≡ Ok ((head prefix ++ flat_map instruction_line instructions) ++ text)
unfolding take_pairs
one_section line older index prefix [] rest text bytes short some are new few later = absurd (omega arith)
one_section line older index prefix (one ∷ more) rest text bytes short some are new few later =
    let inside = section_goes_on (line + 1) prefix older 1 more rest (omega arith) (omega arith) bytes are.1 in
    ap (λ (o : Option (List ℕ × Taken)). taken_on line o (λ next. take_pairs (line + 1) next (pairs_from prefix 1 more ++ rest)))
    (begins prefix older index one bytes short are.0 new)
    ∙ ap (with_text (head prefix ++ instruction_line one)) (inside ∙ ap (with_text (flat_map instruction_line more)) (later (line + 1 + length more) (1 + length more)))
    ∙ ap (λ (x : List ℕ). Ok x) (four (head prefix) (instruction_line one) (flat_map instruction_line more) text)

pub sections_again : (line : ℕ) (older : List (List ℕ)) (index : ℕ) (sections : List Section) → AllByRecursion IsSection sections
    → AreDistinct (map (λ (s : Section). s.prefix) sections) → AreNew older sections
    → take_pairs line (record { prefixes = older; index = index }) (asm sections) ≡ Ok (text_of sections)
unfolding take_pairs
sections_again line older index [] are apart new = refl
sections_again line older index (section ∷ sections) are apart new =
    let is = are.0 in
    one_section line older index section.prefix section.instructions (asm sections) (text_of sections) is.prefix is.short is.some is.instructions
    new.0.0 new.0.1 (λ n i. sections_again n (section.prefix ∷ older) i sections are.1 apart.1 (still_new section.prefix older sections apart.0 new.1))
    ∙ ap (λ (x : List ℕ). Ok (x ++ text_of sections))
    (append_assoc (codes "@ " ++ printable section.prefix) (line_feed ∷ []) (flat_map instruction_line section.instructions))
