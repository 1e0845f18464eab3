-- The mutations with a versionstamp among the pending ones.
use Rattle.std.specs.Prelude.{◌≡◌, Bool, true, not}
use Rattle.model_database.specs.Atomics.{is_versionstamped, stamp_form}
use Rattle.model_database.specs.Databases.{Mutation, Set, Clear, ClearRange, Atomic}
use Rattle.model_database.specs.KeyByKey.{is_plain}
use Rattle.model_database.specs.States.{has_room, stamped_bytes}

-- it has a versionstamp, which its commit fills in
abbrev pub is_stamped : Mutation → Bool
is_stamped mutation = not (is_plain mutation)

-- where it has a versionstamp, its stamped bytes have room for it
abbrev pub HasRoom : Mutation → Type 0
HasRoom (Set key value) = Unit {0}
HasRoom (Clear key) = Unit {0}
HasRoom (ClearRange begin end) = Unit {0}
HasRoom (Atomic op key operand) = is_versionstamped op ≡ true → has_room (stamp_form op) (stamped_bytes op key operand) ≡ true
