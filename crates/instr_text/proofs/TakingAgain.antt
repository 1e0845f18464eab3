-- The pairs of a section are taken apart as its lines.
use Rattle.std.proofs.Common.{◌≡◌, ℕ, suc, ◌+◌, ◌^◌, ◌<◌, false, ◌==◌, List, [], ◌∷◌, ◌++◌, length, Option, Some, Result, Ok, Err, refl, sym, ap, ◌∙◌, append_assoc, arith}
use Rattle.std.specs.Prelude.{flat_map}
use Rattle.std.specs.List.{AllByRecursion}
use Rattle.std.proofs.lemmas.Bool.{eq-eqb, ne_eqb}
use Rattle.std.proofs.lemmas.Slice.Eq.{bytes_eq-Decides}
use Rattle.key_bytes.specs.Keys.{IsByteString}
use Rattle.model_lines.specs.Reading.{Entry}
use Rattle.instr_grammar.specs.Texts.{Instruction, IsInstruction, instruction_line, instruction_key, packed, pairs_from}
use Rattle.instr_grammar.specs.Taking.{Taken, step, with_text, taken_on, take_pairs}
use Rattle.instr_text.proofs.Packed.{key_again, one_again}

abbrev pub Text : Type 0
Text = Result (List ℕ) ℕ

texts_join : (front more : List ℕ) (text : Text) → with_text front (with_text more text) ≡ with_text (front ++ more) text
texts_join front more (Ok rest) = ap (λ (x : List ℕ). Ok x) (sym (append_assoc front more rest))
texts_join front more (Err line) = refl

no_text : (text : Text) → with_text [] text ≡ text
no_text (Ok rest) = refl
no_text (Err line) = refl

abbrev at : List ℕ → List (List ℕ) → ℕ → Taken
at prefix older i = record { prefixes = prefix ∷ older; index = i }

-- one more instruction of the section that is open
one_more : (prefix : List ℕ) (older : List (List ℕ)) (i : ℕ) (one : Instruction) → 0 < i → i < 2 ^ 64 → IsByteString prefix → IsInstruction one
    → step (at prefix older i) (instruction_key prefix i, packed one) ≡ Some (instruction_line one, at prefix older (i + 1))
unfolding step
one_more prefix older i one some small bytes is =
    let no_zero : (i == 0) ≡ false = ne_eqb i 0 (λ e. omega arith) in
    let open_one : (length (prefix ∷ older) == 0) ≡ false = ne_eqb (length (prefix ∷ older)) 0 (λ e. omega arith) in
    rw (key_again prefix i bytes small, one_again one is, no_zero, open_one, (bytes_eq-Decides prefix prefix).1 refl, eq-eqb i i refl) refl

pub section_goes_on : (line : ℕ) (prefix : List ℕ) (older : List (List ℕ)) (i : ℕ) (instructions : List Instruction) (rest : List Entry) → 0 < i
    → i + length instructions < 2 ^ 64 → IsByteString prefix → AllByRecursion IsInstruction instructions
    → take_pairs line (at prefix older i) (pairs_from prefix i instructions ++ rest)
    ≡ with_text (flat_map instruction_line instructions) (take_pairs (line + length instructions) (at prefix older (i + length instructions)) rest)
unfolding take_pairs
section_goes_on line prefix older i [] rest some small bytes is =
    let same : line ≡ line + 0 = omega arith in
    let still : i ≡ i + 0 = omega arith in
    sym (no_text (take_pairs line (at prefix older i) rest)) ∙ (λ t. with_text [] (take_pairs (same t) (at prefix older (still t)) rest))
section_goes_on line prefix older i (one ∷ more) rest some small bytes is =
    let later = section_goes_on (line + 1) prefix older (i + 1) more rest (omega arith) (omega arith) bytes is.1 in
    let lines : line + 1 + length more ≡ line + suc (length more) = omega arith in
    let places : i + 1 + length more ≡ i + suc (length more) = omega arith in
    ap (λ (o : Option (List ℕ × Taken)). taken_on line o (λ next. take_pairs (line + 1) next (pairs_from prefix (i + 1) more ++ rest)))
    (one_more prefix older i one some (omega arith) bytes is.0)
    ∙ ap (with_text (instruction_line one)) later
    ∙ texts_join (instruction_line one) (flat_map instruction_line more) (take_pairs (line + 1 + length more) (at prefix older (i + 1 + length more)) rest)
    ∙ (λ t. with_text (instruction_line one ++ flat_map instruction_line more) (take_pairs (lines t) (at prefix older (places t)) rest))
