use Rattle.std.proofs.Common.{◌≡◌, take}
use Rattle.directory_nodes.proofs.entries.copy_of.Given as goal

abbrev pub invariant-loop-name : goal.invariant-loop-name
invariant-loop-name l = l.copy ≡ take l.name-index l.path
