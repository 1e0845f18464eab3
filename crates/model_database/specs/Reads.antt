-- Reads as data, and what each is answered on a database (API reference, "fdb_transaction_get", "fdb_transaction_get_key",
-- "fdb_transaction_get_range").
use Rattle.std.specs.Prelude.{ℕ, Bool, List, Option}
use Rattle.std.specs.FinMap as finite
use Rattle.model_database.specs.declared.selector.Selector.{Selector}
use Rattle.model_database.specs.Databases.{Database}
use Rattle.model_database.specs.Selecting.{select}
use Rattle.model_database.specs.Slices.{Entries, slice}

pub data Read : Type 0 where
  -- the value of a key
  Get : (key : List ℕ) → Read
  -- the key that a selector means
  GetKey : (selector : Selector) → Read
  -- the pairs of a range between two keys, up to a limit, in the order of their keys or in the other order
  GetKeyRange : (begin end : List ℕ) (limit : ℕ) (backward : Bool) → Read
  -- the same between the keys that two selectors mean
  GetRange : (begin end : Selector) (limit : ℕ) (backward : Bool) → Read

pub data Answer : Type 0 where
  ValueIs : (value : Option (List ℕ)) → Answer
  KeyIs : (key : List ℕ) → Answer
  PairsAre : (pairs : Entries) → Answer

unfoldable pub answer : Read → Database → Answer
answer (Get key) database = ValueIs (finite.get database key)
answer (GetKey selector) database = KeyIs (select database selector)
answer (GetKeyRange begin end limit backward) database = PairsAre (slice database begin end limit backward)
answer (GetRange begin end limit backward) database = PairsAre (slice database (select database begin) (select database end) limit backward)
