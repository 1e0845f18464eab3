use Rattle.std.proofs.Common.{ap, arith, append_assoc, refl, sym, ◌+◌}
use Rattle.std.proofs.lemmas.Bool.{ne_eqb}
use Rattle.fdb_tuple.specs.Tuples.{weight}
use Rattle.fdb_tuple.proofs.Weights.{weight_within}
use Rattle.instr_grammar.proofs.Written.{text_more}
use Rattle.instr_grammar.proofs.writing.+put.Goals as goal

pub put_elements-put_element-requires : goal.put_elements-put_element-requires
put_elements-put_element-requires t c =
    let items = c.as_slice-element-items.result.now in
    let within = weight_within items c.loop-element.element-index c.element-item.result (omega arith) c.element-item.is in
    (omega (arith, within, ap weight c.as_slice-element-items.ensures.tuple), tt)

pub put_elements-loop-element-preserved : goal.put_elements-loop-element-preserved
put_elements-loop-element-preserved t c =
    let items = c.as_slice-element-items.result.now in
    let more = text_more items c.loop-element.element-index c.element-item.result (omega arith) c.element-item.is in
    record {
      text = rw (more, c.in_ok-put_element.ensures, c.in_ok-put_gap.ensures, c.loop-element.invariant.text, c.loop-element.invariant.first) (simp append_assoc refl);
      first = sym (ne_eqb (c.loop-element.element-index + 1) 0 (λ e. omega arith));
    }
