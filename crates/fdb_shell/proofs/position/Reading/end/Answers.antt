use Rattle.std.proofs.Common.{◌==◌, ℕ, List, length, refl, sym, ap, ◌∙◌, true≢false}
use Rattle.std.proofs.lemmas.Bool.{eqb-true}
use Rattle.std.proofs.lemmas.List.{nil_from_length}
use Rattle.model_shell.specs.Sessions.{after_lines, first_session}
use Rattle.fdb_shell.proofs.Steps.{closes, closes_empty}
use Rattle.fdb_shell.proofs.position.Reading.end.Goals as goal

pub returns-then-is_empty-clause-closes : goal.returns-then-is_empty-clause-closes
returns-then-is_empty-clause-closes g c = λ start bytes at.
    closes_empty start (g.K.Sink.written c.args.out.now) (g.K.Sink.written c.args.out.now) c.args.self.now c.args.self.now bytes at
    (nil_from_length c.args.self.now.line (eqb-true (length c.args.self.now.line) 0 (sym c.is_empty.ensures ∙ c.if-is_empty.true)))
    c.args.self.now.few refl

pub returns-clause-closes : goal.returns-clause-closes
returns-clause-closes g c = λ start bytes at.
    closes start (g.K.Sink.written c.args.out.now) (g.K.Sink.written c.answer.new.out) c.args.self.now c.args.self.now bytes at c.answer.result
    c.answer.new.self.session
    (λ e. true≢false (sym (c.is_empty.ensures ∙ ap (λ (line : List ℕ). length line == 0) e) ∙ c.if-is_empty.false))
    c.args.self.now.short c.args.self.now.few (c.answer.ensures.answered (after_lines first_session at.lines) at.session)
