use Rattle.std.proofs.Common.{rules, append_assoc}
use Rattle.fdb_tuple.proofs.Sizes.{int_written}
use Rattle.fdb_tuple.proofs.putting.put_int.Goals as goal

pub returns-clause-ok : goal.returns-clause-ok
returns-clause-ok c =
    let written = int_written c.args.negative c.args.magnitude c.zero_bytes-zeros.result c.signed_bytes-bytes.result c.zero_bytes-zeros.ensures c.signed_bytes-bytes.ensures in
    rw (← written) (search (rules, append_assoc, c.in_ok-put_code.ensures.ok))
