use Rattle.std.proofs.Common.{◌≡◌, arith, subst}
use Rattle.std.specs.Prelude.{IfOk}
use Rattle.model_lines.specs.Reading.{text_of}
use Rattle.dump_text.specs.Texts.{text_is}
use Rattle.dump_text.proofs.Pieces.{text_parts, done_nothing, done_separator, nothing_at, separator_at}
use Rattle.dump_text.proofs.text.read_text.Goals as goal

pub returns-in-empty-clause-value : goal.returns-in-empty-clause-value
returns-in-empty-clause-value c =
    let s = c.split_run in
    let parts = text_parts c.args.bytes.now s.result.0.now s.result.1.now s.ensures.front s.ensures.rest in
    let e = done_nothing s.result.0.now s.result.1.now (text_of c.args.bytes.now) (nothing_at s.result.1.now c.in-empty.len_below) parts in
    subst (λ read. IfOk c.copy_up_to.result (λ text. text_is text ≡ read)) e c.copy_up_to.ensures.value

pub returns-in-92-clause-value : goal.returns-in-92-clause-value
returns-in-92-clause-value c =
    let s = c.split_run in
    let left = s.result.1.now in
    let parts = text_parts c.args.bytes.now s.result.0.now left s.ensures.front s.ensures.rest in
    let stands = separator_at left c.in-92.len_at_least (omega arith) (omega arith) in
    let e = done_separator s.result.0.now left _ (text_of c.args.bytes.now) stands parts in
    subst (λ read. IfOk c.copy_up_to-in-92.result (λ text. text_is text ≡ read)) e c.copy_up_to-in-92.ensures.value
