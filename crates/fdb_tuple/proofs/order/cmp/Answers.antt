use Rattle.std.proofs.Common.{sym, ◌∙◌}
use Rattle.fdb_tuple.specs.OrderLaws.{key_cmp-spelling}
use Rattle.fdb_tuple.proofs.order.cmp.Goals as goal

pub returns-clause-bytes : goal.returns-clause-bytes
returns-clause-bytes c = c.tuple_order.ensures
    ∙ sym (key_cmp-spelling c.args.a.now c.args.b.now c.shows_tuple.ensures c.shows_tuple-2.ensures)
