use Rattle.std.proofs.Common.{◌≡◌, ◌∙◌, sym, ap}
use Rattle.fdb_tuple.specs.Listed.{tuple_of}
use Rattle.fdb_tuple.proofs.ReadLaws.{read_tuple_again}
use Rattle.fdb_wire.specs.Requests.{request_elements}
use Rattle.fdb_wire.specs.Reading.{request_of}
use Rattle.fdb_wire.proofs.RowLaws.{request_again}
use Rattle.fdb_wire.proofs.ReplyLaws.{elements_by_bytes, replies_apart}
use Rattle.fdb_wire.proofs.apart.spellings_are_apart.Goals as goal

pub returns-clause-requests : goal.returns-clause-requests
returns-clause-requests c = λ a b is_a is_b e.
    let same = elements_by_bytes (request_elements a) (request_elements b) e
    (read_tuple_again (tuple_of (request_elements a)) is_a.1) (read_tuple_again (tuple_of (request_elements b)) is_b.1) in
    let both = sym (request_again a is_a.0) ∙ ap request_of same ∙ request_again b is_b.0 in
    cc both

pub returns-clause-replies : goal.returns-clause-replies
returns-clause-replies c = replies_apart
