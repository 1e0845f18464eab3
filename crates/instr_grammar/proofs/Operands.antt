-- The one element of PUSH: what was read is spelled so.
use Rattle.std.proofs.Common.{◌≡◌, ℕ, suc, ◌≤◌, true, List, [], ◌∷◌, ◌++◌, length, Ok, Err, IfOk, refl, sym, ap, subst, ◌∙◌, append_assoc, arith}
use Rattle.std.proofs.lemmas.List.{append-nil}
use Rattle.fdb_tuple.specs.declared.tuple.Elem.{Elem}
use Rattle.fdb_tuple.specs.declared.tuple.Elem.TheVariants as elem
use Rattle.fdb_tuple.specs.Tuples.{Elements, Empty, Single, Nested, AreElements, depth_of}
use Rattle.fdb_tuple.specs.Listed.{before, before-element_of}
use Rattle.dump_reading.specs.Fields.{◌>>=◌}
use Rattle.instr_grammar.specs.declared.part.Part.{Part}
use Rattle.instr_grammar.specs.declared.part.Part.TheVariants as part
use Rattle.instr_grammar.specs.Texts.{opening, elements_text, IsOperand}
use Rattle.instr_grammar.specs.Reading.{TupleRead, element_part, elements_at, whole_element, up_to_end, operand_at}
use Rattle.instr_grammar.proofs.Scalars.{then_ok}
use Rattle.instr_grammar.proofs.Parts.{ElementIs, element_found}
use Rattle.instr_grammar.proofs.Elements.{IsRead, elements_found}

pub record IsPushed (bytes : List ℕ) (operand : Elements) : Type 0 where
  pub one : IsOperand operand
  pub are_elements : AreElements operand
  pub shallow : depth_of operand ≤ 100
  pub parts : bytes ≡ elements_text true operand

-- an element, and what stands behind it
record IsWhole (bytes : List ℕ) (x : Elem × List ℕ) : Type 0 where
  operand : Elements
  same : before x.0 Empty ≡ operand
  one : IsOperand operand
  are_elements : AreElements operand
  shallow : depth_of operand ≤ 100
  parts : bytes ≡ elements_text true operand ++ x.1

after_inner : (bytes rest : List ℕ) (read : TupleRead) → bytes ≡ opening ∷ rest → IfOk read (IsRead true 1 rest)
    → IfOk (read >>= (λ inner. Ok (elem.Nested inner.0, inner.1))) (IsWhole bytes)
after_inner bytes rest (Err left) e is = tt
after_inner bytes rest (Ok x) e is = record {
  operand = Nested x.0 Empty;
  same = refl;
  one = tt;
  are_elements = (is.are_elements, tt);
  shallow = omega (arith, is.shallow (omega arith));
  parts = e ∙ ap (λ (t : List ℕ). opening ∷ t) is.parts ∙ simp append_assoc refl;
}

whole_was : (bytes : List ℕ) (p : Part × List ℕ) → ElementIs 0 bytes p → IfOk (whole_element p) (IsWhole bytes)
whole_was bytes (part.Ends, rest) is = tt
whole_was bytes (part.Opens, rest) is =
    after_inner bytes rest (elements_at (suc (length rest)) true 1 rest) is.0 (elements_found (suc (length rest)) true 1 rest)
whole_was bytes (part.Holds element, rest) is = record {
  operand = Single is.scalar Empty;
  same = ap (λ (e : Elem). before e Empty) is.element_is ∙ before-element_of is.scalar Empty;
  one = tt;
  are_elements = (is.is_scalar, tt);
  shallow = omega arith;
  parts = is.parts ∙ simp append_assoc refl;
}

end_was : (bytes : List ℕ) (x : Elem × List ℕ) → IsWhole bytes x → IfOk (up_to_end x) (IsPushed bytes)
end_was bytes (element, []) is =
    subst (IsPushed bytes) (sym is.same)
    (record { one = is.one; are_elements = is.are_elements; shallow = is.shallow; parts = is.parts ∙ append-nil (elements_text true is.operand) })
end_was bytes (element, byte ∷ rest) is = tt

pub operand_was : (bytes : List ℕ) → IfOk (operand_at bytes) (IsPushed bytes)
unfolding operand_at
operand_was bytes =
    then_ok (element_part 0 bytes >>= whole_element) up_to_end (IsWhole bytes) (IsPushed bytes)
    (then_ok (element_part 0 bytes) whole_element (ElementIs 0 bytes) (IsWhole bytes) (element_found 0 bytes) (λ p is. whole_was bytes p is))
    (λ x is. end_was bytes x is)
