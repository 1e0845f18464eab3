-- An instruction that was read is spelled so, and one that is spelled is read.
use Rattle.std.proofs.Common.{◌≡◌, inl, inr, ⊎_elim, ℕ, Bool, true, false, cond, ◌||◌, List, [], ◌∷◌, ◌++◌, Result, Ok, Err, IfOk, refl, sym, ap, subst, ◌∙◌, arith}
use Rattle.std.specs.Prelude.{codes, bytes_eq}
use Rattle.std.specs.List.{list_all}
use Rattle.std.proofs.lemmas.Bool.{and_parts}
use Rattle.std.proofs.lemmas.Slice.Eq.{bytes_eq-Decides}
use Rattle.std.proofs.lemmas.List.{append-nil}
use Rattle.fdb_tuple.specs.Tuples.{Elements, Empty, Single, Nested}
use Rattle.dump_reading.specs.Fields.{behind}
use Rattle.dump_reading.proofs.FieldLaws.{behind_again, behind_was}
use Rattle.instr_grammar.specs.Names.{names, push, is_among}
use Rattle.instr_grammar.specs.Texts.{Instruction, IsInstruction, IsOperand, elements_text}
use Rattle.instr_grammar.specs.Reading.{operand_at, pushed, named, instruction_at}
use Rattle.instr_grammar.proofs.Operands.{IsPushed, operand_was}
use Rattle.instr_grammar.proofs.ElementsAgain.{operand_again}

-- the text of an instruction, without its line feed
abbrev pub instruction_text : Instruction → List ℕ
instruction_text one = one.name ++ elements_text false one.operand

pub record IsSaid (bytes : List ℕ) (one : Instruction) : Type 0 where
  pub lawful : IsInstruction one
  pub parts : bytes ≡ instruction_text one

-- behind a name a space comes before the one element
spaced : (operand : Elements) → IsOperand operand → elements_text false operand ≡ 32 ∷ elements_text true operand
spaced Empty one = absurd one
spaced (Single scalar Empty) one = refl
spaced (Nested inner Empty) one = refl
spaced (Single scalar (Single second rest)) one = absurd one
spaced (Single scalar (Nested second rest)) one = absurd one
spaced (Nested inner (Single second rest)) one = absurd one
spaced (Nested inner (Nested second rest)) one = absurd one

pushed_was : (bytes rest : List ℕ) (read : Result Elements ℕ) → bytes ≡ codes "PUSH " ++ rest → IfOk read (IsPushed rest) → IfOk (pushed read) (IsSaid bytes)
pushed_was bytes rest (Err left) e is = tt
pushed_was bytes rest (Ok operand) e is = record {
  lawful = record { takes = inl (refl, is.one); elements = is.are_elements; depth = is.shallow };
  parts = e ∙ ap (λ (t : List ℕ). codes "PUSH " ++ t) is.parts ∙ ap (λ (t : List ℕ). push ++ t) (sym (spaced operand is.one));
}

named_was : (bytes : List ℕ) (left : ℕ) (known : Bool) → is_among bytes names ≡ known
    → IfOk (cond known (Ok (record { name = bytes; operand = Empty })) (Err left)) (IsSaid bytes)
named_was bytes left true e =
    record { lawful = record { takes = inr (e, refl); elements = tt; depth = omega arith }; parts = sym (append-nil bytes) }
named_was bytes left false e = tt

pub instruction_was : (bytes : List ℕ) → IfOk (instruction_at bytes) (IsSaid bytes)
unfolding instruction_at
instruction_was bytes = by (behind (codes "PUSH ") bytes) refl
  where
    by : (read : Result (List ℕ) ℕ) → behind (codes "PUSH ") bytes ≡ read → IfOk (named bytes read) (IsSaid bytes)
    by (Ok rest) e = pushed_was bytes rest (operand_at rest) (behind_was (codes "PUSH ") bytes rest e) (operand_was rest)
    by (Err left) e = named_was bytes _ (is_among bytes names) refl

-- ---- what is spelled is read

-- no name alone begins with PUSH and a space
abbrev is_no_push : List ℕ → Type 0
is_no_push name = (left : ℕ) × (behind (codes "PUSH ") name ≡ Err left)

abbrev refuses : Result (List ℕ) ℕ → Bool
refuses (Ok rest) = false
refuses (Err left) = true

abbrev no_push : List ℕ → Bool
no_push name = refuses (behind (codes "PUSH ") name)

among_refused : (list : List (List ℕ)) (name : List ℕ) → list_all no_push list ≡ true → is_among name list ≡ true → no_push name ≡ true
among_refused [] name all e = absurd cc
among_refused (other ∷ others) name all e =
    let both = and_parts (no_push other) (list_all no_push others) all in
    elim (bytes_eq other name) as (λ b. bytes_eq other name ≡ b → (b || is_among name others) ≡ true → no_push name ≡ true) [
      | true ↦ λ same k. subst (λ (n : List ℕ). no_push n ≡ true) ((bytes_eq-Decides other name).0 same) both.0
      | false ↦ λ same k. among_refused others name both.1 k
    ] refl e

all_refused : list_all no_push names ≡ true
unfolding behind names
all_refused = refl

refused_is : (read : Result (List ℕ) ℕ) → refuses read ≡ true → (left : ℕ) × (read ≡ Err left)
refused_is (Ok rest) e = absurd cc
refused_is (Err left) e = (left, refl)

each_is_no_push : (name : List ℕ) → is_among name names ≡ true → is_no_push name
each_is_no_push name e = refused_is (behind (codes "PUSH ") name) (among_refused names name all_refused e)

pub instruction_again : (one : Instruction) → IsInstruction one → instruction_at (instruction_text one) ≡ Ok one
unfolding instruction_at
instruction_again one is = ⊎_elim pushes alone is.takes
  where
    pushes : (one.name ≡ push) × IsOperand one.operand → instruction_at (instruction_text one) ≡ Ok one
    pushes h =
        let text : instruction_text one ≡ codes "PUSH " ++ elements_text true one.operand =
        ap (λ (n : List ℕ). n ++ elements_text false one.operand) h.0 ∙ ap (λ (t : List ℕ). push ++ t) (spaced one.operand h.1) in
        ap instruction_at text
        ∙ rw (behind_again (codes "PUSH ") (elements_text true one.operand), operand_again one.operand h.1 is.elements is.depth)
        (ap (λ (n : List ℕ). Ok (record { name = n; operand = one.operand })) (sym h.0))

    alone : (is_among one.name names ≡ true) × (one.operand ≡ Empty) → instruction_at (instruction_text one) ≡ Ok one
    alone h =
        let no = each_is_no_push one.name h.0 in
        let text : instruction_text one ≡ one.name = ap (λ (t : Elements). one.name ++ elements_text false t) h.1 ∙ append-nil one.name in
        ap instruction_at text ∙ rw (no.1, h.0) (ap (λ (t : Elements). Ok (record { name = one.name; operand = t })) (sym h.1))
