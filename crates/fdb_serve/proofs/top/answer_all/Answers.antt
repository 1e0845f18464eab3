use Rattle.std.proofs.Common.{◌≡◌, ◌∙◌, ℕ, List, Option, Some, Ok, Err, subst, arith}
use Rattle.std.specs.Io.KnownBytes.{Appends}
use Rattle.std.proofs.lemmas.Result.{err_from_is_err_and}
use Rattle.outside.specs.Counts.{Rose-later}
use Rattle.fdb_calls.specs.declared.Request.{Request}
use Rattle.fdb_serve.specs.declared.halt.Halt.TheVariants as halt
use Rattle.fdb_serve.specs.Endings.{IsNext, IsSent}
use Rattle.fdb_serve.proofs.Steps.{Answered, at_first, at_more, ends_all, ends_unread, ends_unanswered, ends_unsent, next_some, next_none, sent_unread}
use Rattle.fdb_serve.proofs.top.answer_all.Goals as goal

pub loop-request-init : goal.loop-request-init
loop-request-init g c = record {
  at = λ api window stands none.
      at_first api window c.args.server.now (g.S.Source.left c.args.source.now) (g.K.Sink.written c.args.out.now) stands none;
  few = λ none. omega arith;
  later_read = omega arith;
  later = omega arith;
}

pub loop-request-preserved : goal.loop-request-preserved
loop-request-preserved g c =
    let before = c.loop-request.invariant in
    let next = next_some c.in_ok-request.field-0 c.in-Some.request (g.S.Source.left c.loop-request.source) (g.S.Source.left c.next_request.new.source)
    c.in-Some.is c.in_ok-request.ensures.next in
    let answered = subst (λ (r : Request). Answered c.loop-request.server c.answer.new.self r c.in_ok-frame.frame.items) c.get.ensures
    c.in_ok-frame.ensures.stands in
    let wrote = subst (Appends (g.K.Sink.written c.loop-request.out) (g.K.Sink.written c.send.new.out)) c.as_slice.ensures.value
    c.in_ok-send.ensures.sent in
    record {
      at = λ api window stands none.
          at_more api window c.loop-request.server c.answer.new.self _ _ _ _ _ _ c.in-Some.request c.in_ok-frame.frame.items
          (before.at api window stands none) next answered c.in_ok-frame.ensures.applied.0 wrote;
      few = λ none. c.answer.ensures.few (before.few none);
      later_read = omega (arith, before.later_read, c.next_request.ensures.later);
      later = omega (arith, before.later, c.send.ensures.later);
    }

pub returns-in_err-request-clause-finishes : goal.returns-in_err-request-clause-finishes
returns-in_err-request-clause-finishes g c = λ api window stands none.
    let p = err_from_is_err_and c.from_residual.result c.from_residual.ensures.1 in
    rw (p.1, p.2) (ends_unread c.in_err-request.field-0.0 api window c.loop-request.server _ _ _ _ _
    (c.loop-request.invariant.at api window stands none) c.in_err-request.ensures.next)

pub returns-in_err-frame-clause-finishes : goal.returns-in_err-frame-clause-finishes
returns-in_err-frame-clause-finishes g c = λ api window stands none.
    let p = err_from_is_err_and c.from_residual-in_err-frame.result c.from_residual-in_err-frame.ensures.1 in
    let next = next_some c.in_ok-request.field-0 c.in-Some.request (g.S.Source.left c.loop-request.source) (g.S.Source.left c.next_request.new.source)
    c.in-Some.is c.in_ok-request.ensures.next in
    rw (p.1, p.2) (ends_unanswered api window c.loop-request.server 0 _ _ _ _ _ c.in-Some.request
    (c.loop-request.invariant.at api window stands none) next)

pub returns-in_err-frame-clause-few : goal.returns-in_err-frame-clause-few
returns-in_err-frame-clause-few g c = λ none. c.answer.ensures.few (c.loop-request.invariant.few none)

pub returns-in_err-send-clause-finishes : goal.returns-in_err-send-clause-finishes
returns-in_err-send-clause-finishes g c = λ api window stands none.
    let p = err_from_is_err_and c.from_residual-in_err-send.result c.from_residual-in_err-send.ensures.1 in
    let next = next_some c.in_ok-request.field-0 c.in-Some.request (g.S.Source.left c.loop-request.source) (g.S.Source.left c.next_request.new.source)
    c.in-Some.is c.in_ok-request.ensures.next in
    let answered = subst (λ (r : Request). Answered c.loop-request.server c.answer.new.self r c.in_ok-frame.frame.items) c.get.ensures
    c.in_ok-frame.ensures.stands in
    let sent = subst (λ (frame : List ℕ). IsSent (Err c.in_err-send.field-0.0) frame (g.K.Sink.written c.loop-request.out) (g.K.Sink.written c.send.new.out))
    c.as_slice.ensures.value c.in_err-send.ensures.sent in
    rw (p.1, p.2) (ends_unsent c.in_err-send.field-0.0 api window c.loop-request.server c.answer.new.self _ _ _ _ _ _ _ c.in-Some.request
    c.in_ok-frame.frame.items (c.loop-request.invariant.at api window stands none) next answered sent)

pub returns-in_err-send-clause-few : goal.returns-in_err-send-clause-few
returns-in_err-send-clause-few g c = λ none. c.answer.ensures.few (c.loop-request.invariant.few none)

pub returns-in_err-send-clause-read : goal.returns-in_err-send-clause-read
returns-in_err-send-clause-read g c = λ e.
    let p = err_from_is_err_and c.from_residual-in_err-send.result c.from_residual-in_err-send.ensures.1 in
    let same : c.in_err-send.field-0.0 ≡ halt.Read = cc (p.1, p.2) in
    absurd (sent_unread c.in_err-send.field-0.0 _ _ _ c.in_err-send.ensures.sent same)

pub returns-clause-finishes : goal.returns-clause-finishes
returns-clause-finishes g c = λ api window stands none.
    ends_all api window c.loop-request.server 0 _ _ _ _ _ (c.loop-request.invariant.at api window stands none)
    (next_none c.in_ok-request.field-0 _ _ c.in_default.not-Some c.in_ok-request.ensures.next)
