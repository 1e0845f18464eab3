-- A key and a value that were packed are taken apart again.
use Rattle.std.proofs.Common.{◌≡◌, ⊎_elim, ℕ, ◌^◌, ◌<◌, ◌≤◌, Bool, true, false, ◌||◌, ◌&&◌, List, [], ◌∷◌, pos, Some, refl, ap, subst, ◌∙◌, arith}
use Rattle.std.specs.Prelude.{IsUtf8, bytes_eq}
use Rattle.std.specs.List.{list_all}
use Rattle.std.specs.Str.{is_utf8, chars}
use Rattle.std.specs.Char.{encode_utf8}
use Rattle.std.proofs.lemmas.Bool.{and_parts, le-ltb}
use Rattle.std.proofs.lemmas.Str.{IsUtf8-from_is_utf8}
use Rattle.std.proofs.lemmas.Slice.Eq.{bytes_eq-Decides}
use Rattle.key_bytes.specs.Keys.{IsByteString}
use Rattle.fdb_tuple.specs.Tuples.{Bytes, Text, Int, Elements, Empty, Single, Nested, IsScalar, greatest_magnitude}
use Rattle.fdb_tuple.specs.Reading.{read_tuple}
use Rattle.fdb_tuple.proofs.ReadLaws.{read_tuple_again}
use Rattle.instr_grammar.specs.Names.{names, push, is_among}
use Rattle.instr_grammar.specs.Texts.{Instruction, IsInstruction, Takes, IsOperand, instruction_key, packed}
use Rattle.instr_grammar.specs.Taking.{place_of, is_one, is_none_left, instruction_in, in_tuple}

pub key_again : (prefix : List ℕ) (i : ℕ) → IsByteString prefix → i < 2 ^ 64 → in_tuple place_of (read_tuple (instruction_key prefix i)) ≡ Some (prefix, i)
key_again prefix i h small =
    ap (in_tuple place_of) (read_tuple_again (Single (Bytes prefix) (Single (Int (pos i)) Empty)) ((h, (number, tt)), omega arith))
  where
    number : IsScalar (Int (pos i))
    number = rw (le-ltb i 0 (omega arith)) (let bound : i ≤ greatest_magnitude false = omega arith in bound)

-- each name is a text
among_texts : (list : List (List ℕ)) (name : List ℕ) → list_all is_utf8 list ≡ true → is_among name list ≡ true → is_utf8 name ≡ true
among_texts [] name all e = absurd cc
among_texts (other ∷ others) name all e =
    let both = and_parts (is_utf8 other) (list_all is_utf8 others) all in
    elim (bytes_eq other name) as (λ b. bytes_eq other name ≡ b → (b || is_among name others) ≡ true → is_utf8 name ≡ true) [
      | true ↦ λ same k. subst (λ (n : List ℕ). is_utf8 n ≡ true) ((bytes_eq-Decides other name).0 same) both.0
      | false ↦ λ same k. among_texts others name both.1 k
    ] refl e

names_are_texts : list_all is_utf8 names ≡ true
unfolding names is_utf8 chars encode_utf8
names_are_texts = refl

push_is_text : is_utf8 push ≡ true
unfolding is_utf8 chars encode_utf8
push_is_text = refl

pub name_is_text : (one : Instruction) → Takes one → IsUtf8 one.name
name_is_text one takes = ⊎_elim
    (λ h. IsUtf8-from_is_utf8 one.name (ap is_utf8 h.0 ∙ push_is_text))
    (λ h. IsUtf8-from_is_utf8 one.name (among_texts names one.name names_are_texts h.0)) takes

operand_is_one : (operand : Elements) → IsOperand operand → is_one operand ≡ true
operand_is_one Empty h = absurd h
operand_is_one (Single scalar Empty) h = refl
operand_is_one (Nested inner Empty) h = refl
operand_is_one (Single scalar (Single second rest)) h = absurd h
operand_is_one (Single scalar (Nested second rest)) h = absurd h
operand_is_one (Nested inner (Single second rest)) h = absurd h
operand_is_one (Nested inner (Nested second rest)) h = absurd h

either : (a b : Bool) → b ≡ true → (a || b) ≡ true
either true b e = refl
either false b e = e

test_passes : (one : Instruction) → Takes one
    → ((bytes_eq one.name push && is_one one.operand) || (is_among one.name names && is_none_left one.operand)) ≡ true
test_passes one takes = ⊎_elim
    (λ h. let same = (bytes_eq-Decides one.name push).1 h.0 in rw (same, operand_is_one one.operand h.1) refl)
    (λ h. let none : is_none_left one.operand ≡ true = ap is_none_left h.1 in
    either (bytes_eq one.name push && is_one one.operand) (is_among one.name names && is_none_left one.operand) (rw (h.0, none) refl)) takes

pub one_again : (one : Instruction) → IsInstruction one → in_tuple instruction_in (read_tuple (packed one)) ≡ Some one
one_again one is =
    ap (in_tuple instruction_in) (read_tuple_again (Single (Text one.name) one.operand) ((name_is_text one is.takes, is.elements), is.depth))
    ∙ rw (test_passes one is.takes) refl
