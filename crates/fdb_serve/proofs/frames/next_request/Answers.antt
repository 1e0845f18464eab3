use Rattle.std.proofs.Common.{◌∙◌}
use Rattle.std.proofs.lemmas.Result.{err_from_is_err_and}
use Rattle.fdb_serve.proofs.Framing.{next_read, next_unread}
use Rattle.fdb_serve.proofs.frames.next_request.Goals as goal

pub returns-in_ok-request-in-Full-clause-next : goal.returns-in_ok-request-in-Full-clause-next
returns-in_ok-request-in-Full-clause-next g c =
    rw c.new.ensures (next_read c.in_ok-request-in-Full.request c.count_of-count.result (g.S.Source.left c.args.source.now) (g.S.Source.left c.read_all.new.source)
    (g.S.Source.left c.next_body.new.source) c.in-Full.bytes.items c.in-Full.ensures.outcome (c.count_of-count.ensures ∙ c.as_slice.ensures.value)
    c.in_ok-request-in-Full.ensures.rest)

pub returns-in_err-request-in-Full-clause-next : goal.returns-in_err-request-in-Full-clause-next
returns-in_err-request-in-Full-clause-next g c =
    let p = err_from_is_err_and c.from_residual.result c.from_residual.ensures.1 in
    rw (p.1, p.2) (next_unread c.in_err-request-in-Full.field-0.0 c.count_of-count.result (g.S.Source.left c.args.source.now)
    (g.S.Source.left c.read_all.new.source) (g.S.Source.left c.next_body.new.source) c.in-Full.bytes.items c.in-Full.ensures.outcome
    (c.count_of-count.ensures ∙ c.as_slice.ensures.value) c.in_err-request-in-Full.ensures.rest)
