use Rattle.std.proofs.Common.{ℕ, Option, ap, cond, refl, subst, ◌∙◌}
use Rattle.fdb_calls.specs.declared.Outcome.{Outcome}
use Rattle.fdb_calls.specs.Calling.{called}
use Rattle.model_machine.specs.Worlds.{decide, with_lives}
use Rattle.txn_core.specs.Stands as txn
use Rattle.client_core.specs.Lives.{outcome_by}
use Rattle.client_core.proofs.Calls.{drawing_quiet}
use Rattle.client_core.proofs.Kept.{drawing_keeps}
use Rattle.client_core.proofs.Results.{err_always}
use Rattle.client_core.proofs.contents.call_on.Goals as goal

pub returns-clause-made : goal.returns-clause-made
returns-clause-made c =
    let answer = c.in_ok-answer.answer in let left = c.call.new.txn in
    let longer = with_lives c.args.lives.now (cond answer.drew_life 1 0) in
    record {
      answer = answer;
      reply_is = refl;
      answers = λ transaction setting stood keeps same.
          subst (λ n. txn.Answers answer left c.call.new.store c.call.new.index setting (called setting n transaction c.args.call.now))
          c.next.ensures (c.in_ok-answer.ensures.ok transaction setting stood keeps same);
      lives_are = c.in_ok-go_on.ensures.ok
          ∙ ap (λ (outcome : Option Outcome). decide c.life-life.result outcome longer) c.outcome_after-outcome.ensures
          ∙ ap (λ (life : ℕ). decide life (outcome_by life left.life left.phase) longer) c.life-life.ensures;
    }

pub returns-in_err-answer-clause-kept : goal.returns-in_err-answer-clause-kept
returns-in_err-answer-clause-kept c = err_always c.from_residual.result (λ t setting stood keeps same.
    (c.in_err-answer.ensures.err t setting stood keeps).1)

-- a call that drew a life made no commit
pub returns-in_err-go_on-clause-kept : goal.returns-in_err-go_on-clause-kept
returns-in_err-go_on-clause-kept c = err_always c.from_residual-in_err-go_on.result (λ t setting stood keeps same.
    let life = c.next.result in
    drawing_keeps c.in_ok-answer.answer c.call.new.txn c.call.new.store c.call.new.index setting (called setting life t c.args.call.now)
    (drawing_quiet setting life t c.args.call.now) c.in_err-go_on.ensures.err (c.in_ok-answer.ensures.ok t setting stood keeps same))
