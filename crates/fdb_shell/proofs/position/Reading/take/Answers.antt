use Rattle.std.proofs.Common.{◌+◌, ◌≤◌, ◌∷◌, [], ◌++◌, ℕ, length, refl, sym, subst, ◌∙◌, arith}
use Rattle.std.proofs.lemmas.Bool.{eqb-true, eqb-false, ne_eqb}
use Rattle.std.proofs.lemmas.Result.{err_from_is_err_and}
use Rattle.model_shell.specs.Sessions.{after_lines, first_session}
use Rattle.fdb_shell.specs.Limits.{line_limit, input_limit}
use Rattle.fdb_shell.specs.Endings.{Goes}
use Rattle.fdb_shell.proofs.Steps.{fed_by, goes_on, stays_short, too_long, too_many}
use Rattle.fdb_shell.proofs.position.Reading.take.Goals as goal

pub returns-then-self-eq-INPUT_LIMIT-clause-goes : goal.returns-then-self-eq-INPUT_LIMIT-clause-goes
returns-then-self-eq-INPUT_LIMIT-clause-goes g c = λ start bytes at.
    too_many start (g.K.Sink.written c.args.out.now) (g.K.Sink.written c.args.out.now) c.args.self.now c.args.self.now bytes at c.args.byte
    c.args.self.now.short c.if-self-eq-INPUT_LIMIT.true refl

pub returns-then-byte-eq10-clause-goes : goal.returns-then-byte-eq10-clause-goes
returns-then-byte-eq10-clause-goes g c = λ start bytes at.
    let few : c.args.self.now.count + 1 ≤ input_limit = omega (arith, c.args.self.now.few, c.if-self-eq-INPUT_LIMIT.false) in
    subst (λ (b : ℕ). Goes c.answer.result start (g.K.Sink.written c.answer.new.out) c.answer.new.self (bytes ++ b ∷ []))
    (sym c.if-byte-eq10.true)
    (fed_by start (g.K.Sink.written c.args.out.now) (g.K.Sink.written c.answer.new.out) c.args.self.now c.answer.new.self bytes at c.answer.result
    c.args.self.now.short few c.answer.ensures.line c.answer.ensures.number c.answer.ensures.count
    (c.answer.ensures.answered (after_lines first_session at.lines) at.session))

pub returns-then-is_full-clause-goes : goal.returns-then-is_full-clause-goes
returns-then-is_full-clause-goes g c = λ start bytes at.
    let few : c.args.self.now.count + 1 ≤ input_limit = omega (arith, c.args.self.now.few, c.if-self-eq-INPUT_LIMIT.false) in
    too_long start (g.K.Sink.written c.args.out.now) (g.K.Sink.written c.args.out.now) c.args.self.now c.args.self.now bytes at c.args.byte
    (ne_eqb c.args.byte 10 c.if-byte-eq10.false)
    (eqb-true (length c.args.self.now.line) line_limit (sym c.is_full.ensures ∙ c.if-is_full.true)) few refl

pub push-requires : goal.push-requires
push-requires g c =
    let full = eqb-false (length c.args.self.now.line) line_limit (sym c.is_full.ensures ∙ c.if-is_full.false) in
    omega (arith, c.args.self.now.short, full)

pub returns-in_err-push-clause-goes : goal.returns-in_err-push-clause-goes
returns-in_err-push-clause-goes g c =
    let p = err_from_is_err_and c.from_residual.result c.from_residual.ensures.1 in
    rw (p.1, p.2) (λ start bytes at.
    stays_short start (g.K.Sink.written c.args.out.now) (g.K.Sink.written c.args.out.now) c.args.self.now c.args.self.now bytes at c.args.byte refl)

pub returns-clause-goes : goal.returns-clause-goes
returns-clause-goes g c = λ start bytes at.
    goes_on start (g.K.Sink.written c.args.out.now) (g.K.Sink.written c.args.out.now) c.args.self.now _ bytes at c.args.byte
    (ne_eqb c.args.byte 10 c.if-byte-eq10.false) refl c.in_ok-push.ensures.pushed refl refl refl

pub invariant_of-self-2 : goal.invariant_of-self-2
invariant_of-self-2 g c =
    let full = eqb-false (length c.args.self.now.line) line_limit (sym c.is_full.ensures ∙ c.if-is_full.false) in
    record {
      short = omega (arith, c.args.self.now.short, full, c.push.ensures.within);
      few = omega (arith, c.args.self.now.few, c.if-self-eq-INPUT_LIMIT.false);
      numbered = omega (arith, c.args.self.now.numbered, c.push.ensures.within);
    }
