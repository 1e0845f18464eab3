-- A key that was read, and a write that was made, where the course has another name for them.
use Rattle.std.proofs.Common.{◌≡◌, ℕ, Bool, List, Option, Result, Ok, Err, subst}
use Rattle.std.specs.Prelude.{IsErrAnd}
use Rattle.model_database.specs.Databases.{Mutation}
use Rattle.model_database.specs.Histories.{Setting}
use Rattle.model_database.specs.Transactions.{Transaction}
use Rattle.directory_types.specs.declared.fault.DirFault.{DirFault}
use Rattle.model_directory.specs.Courses.{Course, Done, ◌>>=◌, does, value_of}
use Rattle.directory_nodes.specs.Runs.{Draws}
use Rattle.directory_nodes.proofs.Following.{then_drew}
use Rattle.directory_nodes.proofs.Passing.{ended_so}

-- the read answered with a fault
pub read_failed : {Y : Type 0} (fault : DirFault) (result : Result Y DirFault) (before after : Setting → Transaction → Type 0) (words : ℕ → ℕ)
    (snapshot : Bool) (key named : List ℕ) (next : Option (List ℕ) → Course Y) → IsErrAnd result (λ given. given ≡ fault) → key ≡ named
    → Draws {X = Option (List ℕ)} (Err fault) before after words words (value_of snapshot key)
    → Draws result before after words words (value_of snapshot named >>= next)
read_failed fault result before after words snapshot key named next failed is drew =
    ended_so fault result before after words words (value_of snapshot named) next failed
    (subst (λ key. Draws {X = Option (List ℕ)} (Err fault) before after words words (value_of snapshot key)) is drew)

-- it answered with a value, or with none
pub read_then : {Y : Type 0} (value : Option (List ℕ)) (result : Result Y DirFault) (before middle after : Setting → Transaction → Type 0)
    (words : ℕ → ℕ) (snapshot : Bool) (key named : List ℕ) (next : Option (List ℕ) → Course Y) → key ≡ named
    → Draws (Ok value) before middle words words (value_of snapshot key) → Draws result middle after words words (next value)
    → Draws result before after words words (value_of snapshot named >>= next)
read_then value result before middle after words snapshot key named next is drew later =
    then_drew value result before middle after words words words (value_of snapshot named) next
    (subst (λ key. Draws (Ok value) before middle words words (value_of snapshot key)) is drew) later

-- a write
pub did_so : (result : Result Done DirFault) (before after : Setting → Transaction → Type 0) (words : ℕ → ℕ) (made named : Mutation) → made ≡ named
    → Draws result before after words words (does made) → Draws result before after words words (does named)
did_so result before after words made named is drew =
    subst (λ mutation. Draws result before after words words (does mutation)) is drew
