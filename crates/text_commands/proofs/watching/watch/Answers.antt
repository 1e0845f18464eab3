use Rattle.std.proofs.Common.{◌≡◌, Ok, refl, sym, subst}
use Rattle.std.proofs.lemmas.Result.{err_from_is_err_and}
use Rattle.dump_text.specs.declared.fault.LineFault.{LineFault}
use Rattle.dump_text.specs.declared.fault.LineFault.TheVariants.{BadLine, TooLong, TooMany, NoMemory}
use Rattle.dump_text.specs.Reading.{Fails}
use Rattle.text_commands.proofs.Limits.{events_past}
use Rattle.text_commands.proofs.watching.watch.Goals as goal

pub returns-in_err-events-clause-past : goal.returns-in_err-events-clause-past
returns-in_err-events-clause-past c = λ rest long.
    let p = err_from_is_err_and c.from_residual.result c.from_residual.ensures.1 in
    let fault = c.in_err-events.field-0.0 in
    rw (p.1, p.2)
    (subst (λ read. Fails fault read) (sym (events_past c.args.bytes.now rest long).same) c.in_err-events.ensures.exact)

-- what is read without a fault can't be refused but for memory
memory_alone : {Y : Type 0} (value : Y) (fault : LineFault) → Fails fault (Ok value) → fault ≡ NoMemory
memory_alone value (BadLine line place) h = absurd cc
memory_alone value (TooLong line) h = absurd cc
memory_alone value (TooMany line) h = absurd cc
memory_alone value NoMemory h = refl

pub returns-in_err-events-clause-only : goal.returns-in_err-events-clause-only
returns-in_err-events-clause-only c = λ events h.
    let p = err_from_is_err_and c.from_residual.result c.from_residual.ensures.1 in
    rw (p.1, p.2) (memory_alone events c.in_err-events.field-0.0 (c.in_err-events.ensures.only events h))
