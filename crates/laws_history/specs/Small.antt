-- Keys that are less than FF.
use Rattle.std.specs.Prelude.{◌≡◌, ℕ, Bool, true, ◌&&◌, List, is_some, replicate}
use Rattle.std.specs.List.{list_all}
use Rattle.std.specs.FinMap as finite
use Rattle.key_bytes.specs.Keys.{key_lt, top}
use Rattle.model_database.specs.declared.AtomicOp.TheVariants as atomic
use Rattle.model_database.specs.declared.StampForm.{StampForm}
use Rattle.model_database.specs.declared.StampForm.TheVariants as form
use Rattle.model_database.specs.Databases.{Database, Mutation, Set, Clear, ClearRange, Atomic}
use Rattle.model_database.specs.States.{has_room, stamped}

-- a database has keys less than FF alone
abbrev pub IsBelowTop : Database → Type 0
IsBelowTop database = (key : List ℕ) → is_some (finite.get database key) ≡ true → key_lt key top ≡ true

-- a stamped key has room for the versionstamp, and is less than FF with ten 00 there
abbrev pub is_small_stamped : StampForm → List ℕ → Bool
is_small_stamped form key = has_room form key && key_lt (stamped form (replicate 10 0) key) top

-- A mutation puts a value under keys less than FF alone: a cleared key has none; a stamped value stands under its key.
abbrev pub is_small : Mutation → Bool
is_small (Set key value) = key_lt key top
is_small (Clear key) = true
is_small (ClearRange begin end) = true
is_small (Atomic atomic.SetVersionstampedKey key operand) = is_small_stamped form.Last4 key
is_small (Atomic atomic.OldStampedKey key operand) = is_small_stamped form.Last2 key
is_small (Atomic op key operand) = key_lt key top

abbrev pub are_small : List Mutation → Bool
are_small mutations = list_all is_small mutations
