use Rattle.std.proofs.Common.{◌≡◌, ◌++◌, drop}
use Rattle.machine_registers.specs.Packed.{spelled_names}
use Rattle.machine_registers.proofs.directory_replies.pack_names.Given as goal

-- what was packed, and the bytes of the names that are left, are all
abbrev pub invariant-loop-name : goal.invariant-loop-name
invariant-loop-name l = l.packed.items ++ spelled_names (drop l.name-index l.names) ≡ spelled_names l.names
