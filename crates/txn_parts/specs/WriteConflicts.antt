-- The write conflict ranges of mutations.
use Rattle.std.specs.Prelude.{Bool, true, false, List, [], ◌∷◌}
use Rattle.key_bytes.specs.declared.range.KeyRange.{KeyRange}
use Rattle.model_database.specs.Databases.{Mutation}
use Rattle.model_database.specs.Histories.{write_range}

-- the write conflict ranges of those of the mutations that have one
abbrev pub write_conflicts_among : List Mutation → List Bool → List KeyRange
write_conflicts_among (mutation ∷ mutations) (true ∷ adds_conflict) = write_range mutation ∷ write_conflicts_among mutations adds_conflict
write_conflicts_among (mutation ∷ mutations) (false ∷ adds_conflict) = write_conflicts_among mutations adds_conflict
write_conflicts_among mutations adds_conflict = []
