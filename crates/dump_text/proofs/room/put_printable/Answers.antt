use Rattle.std.proofs.Common.{◌∙◌, arith}
use Rattle.dump_text.proofs.room.put_printable.Goals as goal

pub loop-left-preserved : goal.loop-left-preserved
loop-left-preserved c =
    let put = c.put_front-next.ensures in
    record {
      all = put.front ∙ c.loop-left.invariant.all;
      fits = omega (arith, put.end, c.loop-left.invariant.fits);
    }

pub returns-clause-front : goal.returns-clause-front
returns-clause-front c = c.put_forms.ensures.front ∙ c.loop-left.invariant.all
