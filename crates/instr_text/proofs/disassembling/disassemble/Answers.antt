use Rattle.std.proofs.Common.{◌≡◌, ℕ, ◌^◌, ◌<◌, List, length, Result, Ok, Err, subst, arith}
use Rattle.std.specs.Prelude.{IfOk, IfErr}
use Rattle.std.specs.List.{AllByRecursion}
use Rattle.model_lines.specs.Reading.{Entry}
use Rattle.instr_grammar.specs.Texts.{Section, AreSections, asm, text_of}
use Rattle.instr_grammar.specs.Taking.{disassembled}
use Rattle.instr_text.specs.declared.fault.DisFault.{DisFault}
use Rattle.instr_text.specs.declared.fault.DisFault.TheVariants as faults
use Rattle.instr_text.specs.Taken.{IsPairOfBytes, GivesText, Stops}
use Rattle.instr_text.proofs.Takings.{disassembled_was, disassembled_again, first_bad}
use Rattle.instr_text.proofs.FirstBad.{bad_refused}
use Rattle.instr_text.proofs.disassembling.disassemble.Goals as goal

was_text : (pairs : List Entry) (result : Result (List ℕ) DisFault) → AllByRecursion IsPairOfBytes pairs → GivesText result (disassembled pairs)
    → IfOk result (λ text. (sections : List Section) × (AreSections sections × (pairs ≡ asm sections) × (text ≡ text_of sections)))
was_text pairs (Ok text) are h = disassembled_was pairs text are h
was_text pairs (Err fault) are h = tt

pub returns-clause-found : goal.returns-clause-found
returns-clause-found c =
    was_text c.args.pairs.now c.take_all.result
    (subst (λ (p : List Entry). AllByRecursion IsPairOfBytes p) c.as_slice.ensures c.shows_bytes.ensures) c.take_all.ensures

pub returns-clause-only : goal.returns-clause-only
returns-clause-only c = λ sections h e.
    subst (λ read. GivesText c.take_all.result read) (disassembled_again c.args.pairs.now sections (omega arith) h e) c.take_all.ensures

stops_at : (pairs : List Entry) (result : Result (List ℕ) DisFault) → AllByRecursion IsPairOfBytes pairs → length pairs < 2 ^ 63
    → GivesText result (disassembled pairs) → IfErr result (Stops pairs)
stops_at pairs (Ok text) are few h = tt
stops_at pairs (Err (faults.NotInstruction line)) are few h = first_bad pairs line are few h
stops_at pairs (Err faults.NoMemory) are few h = tt

pub returns-clause-stops : goal.returns-clause-stops
returns-clause-stops c =
    stops_at c.args.pairs.now c.take_all.result
    (subst (λ (p : List Entry). AllByRecursion IsPairOfBytes p) c.as_slice.ensures c.shows_bytes.ensures) (omega arith) c.take_all.ensures

pub returns-clause-refused : goal.returns-clause-refused
returns-clause-refused c = λ line first.
    let are = subst (λ (p : List Entry). AllByRecursion IsPairOfBytes p) c.as_slice.ensures c.shows_bytes.ensures in
    subst (λ read. GivesText c.take_all.result read) (bad_refused c.args.pairs.now line are (omega arith) first) c.take_all.ensures
