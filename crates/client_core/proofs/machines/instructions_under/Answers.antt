use Rattle.client_core.proofs.Prefixes.{last_readable}
use Rattle.client_core.proofs.machines.instructions_under.Goals as goal

pub unreachable-requires : goal.unreachable-requires
unreachable-requires c = last_readable c.args.store.now c.last.result c.in-Err.field-0 c.last.ensures.value c.last.ensures.readable c.in-Err.ensures.err
