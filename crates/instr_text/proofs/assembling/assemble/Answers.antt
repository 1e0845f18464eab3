use Rattle.std.proofs.Common.{◌≡◌, List, ℕ, Result, Ok, Err, subst}
use Rattle.std.specs.Prelude.{IfOk}
use Rattle.model_lines.specs.Reading.{Entry}
use Rattle.dump_text.specs.declared.fault.LineFault.{LineFault}
use Rattle.dump_text.specs.Reading.{Gives}
use Rattle.instr_grammar.specs.Texts.{Section, IsTextOf, asm}
use Rattle.instr_grammar.specs.Lines.{assembled}
use Rattle.instr_text.proofs.Texts.{text_was, text_again}
use Rattle.instr_text.proofs.assembling.assemble.Goals as goal

was_text : (text : List ℕ) (result : Result (List Entry) LineFault) → Gives (λ (pairs : List Entry). pairs) result (assembled text)
    → IfOk result (λ pairs. (sections : List Section) × (IsTextOf text sections × (pairs ≡ asm sections)))
was_text text (Ok pairs) h = text_was text pairs h
was_text text (Err fault) h = tt

pub returns-clause-found : goal.returns-clause-found
returns-clause-found c = was_text c.args.text.now c.read_all.result c.read_all.ensures

pub returns-clause-only : goal.returns-clause-only
returns-clause-only c =
    λ sections h. subst (λ read. Gives (λ (pairs : List Entry). pairs) c.read_all.result read)
    (text_again c.args.text.now sections h) c.read_all.ensures
