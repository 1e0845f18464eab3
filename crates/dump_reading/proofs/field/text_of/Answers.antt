use Rattle.std.proofs.Common.{◌∙◌, ap, sym, Err}
use Rattle.dump_reading.proofs.FieldSteps.{text_read, text_bad}
use Rattle.dump_reading.proofs.field.text_of.Goals as goal

pub returns-in-Ok : goal.returns-in-Ok
returns-in-Ok c = text_read c.args.bytes.now c.in-Ok.text c.in-Ok.ensures.found.0 c.in-Ok.ensures.found.1

pub returns-in-Err-Bad : goal.returns-in-Err-Bad
returns-in-Err-Bad c = text_bad c.args.bytes.now c.in-Err-Bad.place (rw c.in-Err-Bad.field-0-is at c.in-Err-Bad.ensures.exact) ∙ ap (λ n. Err n) (sym c.saturating_sub.ensures)
