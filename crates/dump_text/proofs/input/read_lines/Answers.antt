use Rattle.std.proofs.Common.{List, ℕ, Result, Ok, Err, subst, sym}
use Rattle.std.specs.Prelude.{IfOk}
use Rattle.model_input.specs.declared.input.Form.{Form}
use Rattle.model_input.specs.declared.input.Input.{Input}
use Rattle.model_input.specs.Forms.{input_of, IsInputOf}
use Rattle.model_input.proofs.Limits.{more_changes_nothing}
use Rattle.dump_text.specs.declared.fault.LineFault.{LineFault}
use Rattle.dump_text.specs.Reading.{Gives}
use Rattle.dump_text.proofs.Forms.{input_was, input_again}
use Rattle.dump_text.proofs.input.read_lines.Goals as goal

was_input : (its_form : Form) (bytes : List ℕ) (result : Result Input LineFault)
    → Gives (λ (input : Input). input) result (input_of its_form bytes) → IfOk result (λ input. IsInputOf its_form bytes input)
was_input its_form bytes (Ok input) h = input_was its_form bytes input h
was_input its_form bytes (Err fault) h = tt

pub returns-clause-found : goal.returns-clause-found
returns-clause-found c = was_input c.args.form c.args.bytes.now c.read_input.result c.read_input.ensures

pub returns-clause-only : goal.returns-clause-only
returns-clause-only c =
    λ input h. subst (λ read. Gives (λ (input : Input). input) c.read_input.result read)
    (input_again c.args.form c.args.bytes.now input h) c.read_input.ensures

pub returns-clause-past : goal.returns-clause-past
returns-clause-past c =
    λ rest h. subst (λ read. Gives (λ (input : Input). input) c.read_input.result read)
    (sym (more_changes_nothing c.args.form c.args.bytes.now rest h)) c.read_input.ensures
