use Rattle.std.proofs.Common.{arith}
use Rattle.fdb_tuple.proofs.Sizes.{zeros_and_size}
use Rattle.prefix_allocator.proofs.keys.zero_bytes.Goals as goal

pub returns : goal.returns
returns c = zeros_and_size c.args.number (omega arith)
