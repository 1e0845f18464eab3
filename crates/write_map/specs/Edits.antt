-- A list of atomic operations, each with its operand, as contracts see it.
use Rattle.std.specs.Prelude.{ℕ, List, map}
use Rattle.model_database.specs.declared.AtomicOp.{AtomicOp}
use Rattle.write_map.specs.declared.edits.AtomicEdit.{AtomicEdit}

abbrev pub edit_of : AtomicEdit → AtomicOp × List ℕ
edit_of edit = (edit.op, edit.operand)

abbrev pub edits_of : List AtomicEdit → List (AtomicOp × List ℕ)
edits_of edits = map edit_of edits
