use Rattle.std.proofs.Common.{◌≡◌, ◌++◌, take}
use Rattle.stack_directories.proofs.objects.add_names.Given as goal

abbrev pub invariant-loop-name : goal.invariant-loop-name
invariant-loop-name l = l.path ≡ l.initial.path ++ take l.name-index l.names
