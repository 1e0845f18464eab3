-- The database: a finite map from keys to byte strings, and what mutations make of it.
use Rattle.std.specs.Prelude.{ℕ, not, List, [], ◌∷◌, Option, Some, None}
use Rattle.std.specs.FinMap as finite
use Rattle.key_bytes.specs.Keys.{key_cmp, within}
use Rattle.model_database.specs.declared.AtomicOp.{AtomicOp}
use Rattle.model_database.specs.Atomics.{atom}

abbrev pub Database : Type 0
Database = finite.FinMap key_cmp (List ℕ)

-- what a write of a transaction does
pub data Mutation : Type 0 where
  Set : (key value : List ℕ) → Mutation
  Clear : (key : List ℕ) → Mutation
  -- clears the keys that are at least begin and less than end
  ClearRange : (begin end : List ℕ) → Mutation
  Atomic : (op : AtomicOp) (key operand : List ℕ) → Mutation

-- the database with a value under a key, or without the key
abbrev pub put : Database → List ℕ → Option (List ℕ) → Database
put database key (Some value) = finite.insert database key value
put database key None = finite.remove database key

-- the database after one mutation
abbrev pub do_one : Mutation → Database → Database
do_one (Set key value) database = finite.insert database key value
do_one (Clear key) database = finite.remove database key
do_one (ClearRange begin end) database = finite.retain_keys database (λ key. not (within begin end key))
do_one (Atomic op key operand) database = put database key (atom op (finite.get database key) operand)

-- the database after mutations, in their order
abbrev pub do_all : List Mutation → Database → Database
do_all [] database = database
do_all (mutation ∷ mutations) database = do_all mutations (do_one mutation database)
