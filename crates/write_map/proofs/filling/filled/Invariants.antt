use Rattle.std.proofs.Common.{◌≡◌, take}
use Rattle.model_database.specs.States.{all_filled}
use Rattle.write_map.specs.Mutations.{mutations_of}
use Rattle.write_map.proofs.filling.filled.Given as goal

-- the mutations so far are added
abbrev pub invariant-loop-mutation : goal.invariant-loop-mutation
invariant-loop-mutation l = l.map.mutations ≡ all_filled l.stamp (mutations_of (take l.mutation-index l.mutations))
