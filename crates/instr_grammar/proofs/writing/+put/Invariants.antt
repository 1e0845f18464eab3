use Rattle.std.proofs.Common.{◌≡◌, ◌+◌, ◌*◌, ◌++◌, ◌==◌, true, take}
use Rattle.fdb_tuple.specs.Tuples.{Empty, weight}
use Rattle.fdb_tuple.specs.Listed.{before, tuple_of}
use Rattle.instr_grammar.specs.Texts.{elements_text}
use Rattle.instr_grammar.proofs.writing.+put.Given as goal

-- the elements so far are written
abbrev pub invariant-put_elements-loop-element : goal.invariant-put_elements-loop-element
invariant-put_elements-loop-element l = record {
  text : l.to.items ≡ l.initial.to.items ++ elements_text true (tuple_of (take l.element-index l.element-items));
  first : l.first ≡ (l.element-index == 0);
}

abbrev pub decreases-put_nested : goal.decreases-put_nested
decreases-put_nested l = 3 * weight l.tuple.now + 2

abbrev pub decreases-put_elements : goal.decreases-put_elements
decreases-put_elements l = 3 * weight l.tuple.now + 1

abbrev pub decreases-put_element : goal.decreases-put_element
decreases-put_element l = 3 * weight (before l.element.now Empty)
