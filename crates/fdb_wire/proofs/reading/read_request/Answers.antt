use Rattle.std.proofs.Common.{◌≡◌, ◌∙◌, sym, ap, subst}
use Rattle.std.proofs.lemmas.Result.{err_from_is_err_and}
use Rattle.fdb_tuple.specs.Listed.{tuple_of}
use Rattle.fdb_wire.specs.Requests.{request_elements}
use Rattle.fdb_wire.proofs.WireFaults.{unread, found_by, refused_by, elements_by, spelled_so}
use Rattle.fdb_wire.proofs.reading.read_request.Goals as goal

pub returns-in_err-tuple-clause-only : goal.returns-in_err-tuple-clause-only
returns-in_err-tuple-clause-only c = λ request is e.
    let p = err_from_is_err_and c.from_residual.result c.from_residual.ensures.1 in
    let tuple = tuple_of (request_elements request) in
    rw (p.1, p.2) (unread c.in_err-tuple.field-0.0 tuple (c.in_err-tuple.ensures.only tuple is.1 (e ∙ spelled_so request)))

pub returns-clause-found : goal.returns-clause-found
returns-clause-found c =
    found_by c.request_in.result c.args.bytes.now c.in_ok-tuple.tuple c.in_ok-tuple.ensures.found.0 c.in_ok-tuple.ensures.found.1 c.request_in.ensures.found

pub returns-clause-only : goal.returns-clause-only
returns-clause-only c = λ request is e.
    let tuple = tuple_of (request_elements request) in
    let read = c.in_ok-tuple.ensures.only tuple is.1 (e ∙ spelled_so request) in
    let same : c.in_ok-tuple.tuple ≡ tuple = cc read in
    c.request_in.ensures.only request is.0 (elements_by request c.in_ok-tuple.tuple same)

pub returns-clause-refused : goal.returns-clause-refused
returns-clause-refused c =
    refused_by c.request_in.result c.args.bytes.now c.in_ok-tuple.tuple c.in_ok-tuple.ensures.found.0 c.in_ok-tuple.ensures.found.1 c.request_in.ensures.refused
