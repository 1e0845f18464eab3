use Rattle.std.proofs.Common.{All}
use Rattle.test_files.specs.Names.{HasEnding}
use Rattle.test_files.proofs.names.ending_with.Given as goal

abbrev pub invariant-loop-entry : goal.invariant-loop-entry
invariant-loop-entry g l = All (HasEnding l.ending) l.names.items
