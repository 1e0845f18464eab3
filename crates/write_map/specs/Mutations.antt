-- What the code keeps of writes, as mutations.
use Rattle.std.specs.Prelude.{List, map}
use Rattle.model_database.specs.Databases.{Mutation, Set, Clear, ClearRange, Atomic}
use Rattle.write_map.specs.declared.mutation.Mutation.{Mutation as Kept}
use Rattle.write_map.specs.declared.mutation.Mutation.TheVariants as kept

abbrev pub mutation_of : Kept → Mutation
mutation_of (kept.Set key value) = Set key value
mutation_of (kept.Clear key) = Clear key
mutation_of (kept.ClearRange range) = ClearRange range.begin range.end
mutation_of (kept.Atomic op key operand) = Atomic op key operand

abbrev pub mutations_of : List Kept → List Mutation
mutations_of mutations = map mutation_of mutations
