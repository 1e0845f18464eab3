use Rattle.std.proofs.Common.{◌<◌, ◌++◌, ℕ, length, refl, subst, List}
use Rattle.std.proofs.lemmas.Result.{err_from_is_err_and}
use Rattle.model_commands.specs.declared.args.Args.TheVariants as args
use Rattle.model_lines.specs.Reading.{input_limit}
use Rattle.text_commands.specs.Texts.{IsDisasmFault}
use Rattle.tester_run.proofs.Reading.{disasm_refused, unread_refused}
use Rattle.tester_run.proofs.answering.disassembled.Goals as goal

pub returns-in_err-bytes-clause-refused : goal.returns-in_err-bytes-clause-refused
returns-in_err-bytes-clause-refused g c =
    let p = err_from_is_err_and c.from_residual.result c.from_residual.ensures.1 in
    rw (p.1, p.2) (unread_refused args.Disasm c.in_err-bytes.field-0.0 _ _ _ _ refl c.in_err-bytes.ensures.refused)

pub returns-in_err-output-clause-refused : goal.returns-in_err-output-clause-refused
returns-in_err-output-clause-refused g c =
    let p = err_from_is_err_and c.from_residual-in_err-output.result c.from_residual-in_err-output.ensures.1 in
    let fault = c.in_err-output.field-0.0 in
    rw (p.1, p.2)
    (disasm_refused fault _ _ c.in_ok-bytes.bytes.items _ _ c.in_ok-bytes.ensures.read
    (subst (λ (bytes : List ℕ). IsDisasmFault bytes fault) c.deref.ensures.value c.in_err-output.ensures.exact)
    (subst (λ (bytes : List ℕ). (rest : List ℕ) → input_limit < length bytes → IsDisasmFault (bytes ++ rest) fault) c.deref.ensures.value
    c.in_err-output.ensures.past))
