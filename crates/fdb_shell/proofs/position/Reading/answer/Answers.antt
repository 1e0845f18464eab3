use Rattle.std.proofs.Common.{List, ℕ, refl, subst, ◌∙◌}
use Rattle.std.specs.Io.KnownBytes.{Appends}
use Rattle.std.proofs.lemmas.Result.{err_from_is_err_and}
use Rattle.outside.specs.Streams.{AppendsFront}
use Rattle.model_shell.specs.Sessions.{answered}
use Rattle.fdb_shell.specs.Doing.{IsAnswered}
use Rattle.fdb_shell.proofs.position.Reading.answer.Goals as goal

pub returns-in_err-answer-clause-answered : goal.returns-in_err-answer-clause-answered
returns-in_err-answer-clause-answered g c =
    let p = err_from_is_err_and c.from_residual.result c.from_residual.ensures.1 in
    rw (p.1, p.2) (λ state is. refl)

pub returns-then-write_all-clause-answered : goal.returns-then-write_all-clause-answered
returns-then-write_all-clause-answered g c = λ state is.
    let its_answer = subst (λ (line : List ℕ). IsAnswered c.answer.new.self (answered state line)) c.as_slice.ensures (c.in_ok-answer.ensures state is) in (
      its_answer.session_is,
      subst (λ (text : List ℕ). Appends (g.K.Sink.written c.args.out.now) (g.K.Sink.written c.write_all.new.sink) text)
          (c.text.ensures ∙ its_answer.text) c.if-write_all.ensures.whole,
    )

pub returns-else-write_all-clause-answered : goal.returns-else-write_all-clause-answered
returns-else-write_all-clause-answered g c = λ state is.
    let its_answer = subst (λ (line : List ℕ). IsAnswered c.answer.new.self (answered state line)) c.as_slice.ensures (c.in_ok-answer.ensures state is) in
    subst (λ (text : List ℕ). AppendsFront (g.K.Sink.written c.args.out.now) (g.K.Sink.written c.write_all.new.sink) text)
    (c.text.ensures ∙ its_answer.text) c.if-write_all.ensures.front
