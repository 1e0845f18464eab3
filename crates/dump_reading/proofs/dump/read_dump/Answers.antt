use Rattle.std.proofs.Common.{ℕ, List, Result, Ok, Err, subst}
use Rattle.std.specs.Prelude.{IfOk}
use Rattle.dump_text.specs.declared.fault.LineFault.{LineFault}
use Rattle.dump_text.specs.declared.line.Line.{Line}
use Rattle.dump_text.specs.Reading.{Gives}
use Rattle.dump_reading.specs.Dumps.{dump_in, IsDump}
use Rattle.dump_reading.proofs.DumpLaws.{dump_was, dump_again}
use Rattle.dump_reading.proofs.dump.read_dump.Goals as goal

was_dump : (bytes : List ℕ) (result : Result (List Line) LineFault)
    → Gives (λ (lines : List Line). lines) result (dump_in bytes) → IfOk result (λ lines. IsDump bytes lines)
was_dump bytes (Ok lines) h = dump_was bytes lines h
was_dump bytes (Err fault) h = tt

pub returns-clause-found : goal.returns-clause-found
returns-clause-found c = was_dump c.args.bytes.now c.read_all.result c.read_all.ensures

pub returns-clause-only : goal.returns-clause-only
returns-clause-only c =
    λ lines h. subst (λ read. Gives (λ (lines : List Line). lines) c.read_all.result read)
    (dump_again c.args.bytes.now lines h) c.read_all.ensures
