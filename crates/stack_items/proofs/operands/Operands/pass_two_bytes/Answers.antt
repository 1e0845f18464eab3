use Rattle.std.proofs.Common.{refl, ◌∙◌}
use Rattle.stack_items.proofs.operands.Operands.pass_two_bytes.Goals as goal

pub returns : goal.returns
returns c = (
  c.in_ok-bytes-2.ensures.0 ∙ c.in_ok-bytes.ensures.0,
  ((c.in_ok-bytes.field-0.now, c.in_ok-bytes-2.field-0.now), rw (c.in_ok-bytes.ensures.1, c.in_ok-bytes-2.ensures.1) refl),
)
