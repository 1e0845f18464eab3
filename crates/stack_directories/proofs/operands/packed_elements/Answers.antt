use Rattle.std.proofs.Common.{List, ◌∷◌, [], ◌++◌, Ok, ◌∙◌, ap, subst, sym, arith}
use Rattle.std.proofs.lemmas.Result.{err_from_is_err_and}
use Rattle.fdb_tuple.specs.declared.tuple.Elem.{Elem}
use Rattle.fdb_tuple.specs.Listed.{tuple_of}
use Rattle.model_machine.specs.Operands.{◌>>=◌, Popped, element_operand}
use Rattle.stack_items.specs.Looks.{left_in}
use Rattle.stack_items.proofs.Repeats.{after_more, after_all, refused_after}
use Rattle.stack_directories.proofs.Packing.{PacksFirst, packed_more, packed_all}
use Rattle.stack_directories.proofs.Refused.{refuses, refuses_then}
use Rattle.stack_directories.proofs.operands.packed_elements.Goals as goal

pub returns-in_err-element : goal.returns-in_err-element
returns-in_err-element c =
    let why = c.in_err-element.field-0.0 in
    let left = left_in c.element.new.self in
    let refused = err_from_is_err_and c.from_residual.result c.from_residual.ensures.1 in (
      c.in_err-element.ensures.0 ∙ c.loop-seen.invariant.whole,
      rw (refused.1, refused.2, c.loop-seen.invariant.found)
          (refuses_then why _ (λ elements. Ok (tuple_of elements.0, elements.1)) left
          (refuses why _ left
          (refused_after element_operand why c.loop-seen.invariant.firsts c.args.count c.loop-seen._seen (left_in c.loop-seen.operands) left (omega arith) c.in_err-element.ensures.1))),
    )

pub loop-seen-preserved : goal.loop-seen-preserved
loop-seen-preserved c =
    let firsts = c.loop-seen.invariant.firsts in
    let element = c.in_ok-element.field-0.now in record {
      whole = c.in_ok-element.ensures.0 ∙ c.loop-seen.invariant.whole;
      firsts = firsts ++ element ∷ [];
      packed = subst (λ packed. PacksFirst packed (firsts ++ element ∷ [])) (sym c.in_ok-pack_element_into.ensures.ok)
          (packed_more c.loop-seen.packed.items firsts element c.loop-seen.invariant.packed);
      found =
          c.loop-seen.invariant.found
          ∙ after_more element_operand firsts c.args.count c.loop-seen._seen (left_in c.loop-seen.operands) (left_in c.element.new.self) element (omega arith) c.in_ok-element.ensures.1;
    }

pub returns : goal.returns
returns c =
    let firsts = c.loop-seen.invariant.firsts in (
      c.loop-seen.invariant.whole,
      (
        tuple_of firsts,
        ap (λ (found : Popped (List Elem)). found >>= (λ elements. Ok (tuple_of elements.0, elements.1)))
            (c.loop-seen.invariant.found ∙ after_all element_operand firsts c.args.count c.loop-seen._seen (left_in c.loop-seen.operands) (omega arith)),
        c.in_ok-from_vec.ensures ∙ packed_all c.loop-seen.packed.items firsts c.loop-seen.invariant.packed,
      ),
    )
