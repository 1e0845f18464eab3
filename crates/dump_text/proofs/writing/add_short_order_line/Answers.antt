use Rattle.dump_text.proofs.Orders.{short_order}
use Rattle.dump_text.proofs.writing.add_short_order_line.Goals as goal

pub returns-clause-ok : goal.returns-clause-ok
returns-clause-ok c =
    rw (
      c.push_reserved-4.ensures.items,
      c.push_reserved-3.ensures.items,
      c.push_reserved-2.ensures.items,
      c.push_reserved.ensures.items,
      c.reserve.ensures.items,
    )
    (short_order c.args.to.now.items c.args.machine c.requires)
