use Rattle.std.proofs.Common.{◌≡◌, ◌++◌, take}
use Rattle.std.specs.List.{flat_map}
use Rattle.model_lines.specs.Printing.{error_line}
use Rattle.machine_runs.proofs.dumping.add_error_lines.Given as goal

abbrev pub invariant-loop-note : goal.invariant-loop-note
invariant-loop-note l =
    l.to.items ≡ l.fn.to.items ++ flat_map (λ note. error_line l.number note.instruction note.word) (take l.note-index l.note-items)
