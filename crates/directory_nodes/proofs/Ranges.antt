-- The pairs of a range that was read, where the course has other names for its bounds, and whether there are any.
use Rattle.std.proofs.Common.{◌≡◌, ℕ, Bool, false, not, List, length, Result, Ok, Err, sym, ap, subst}
use Rattle.std.specs.Prelude.{◌==◌, IsErrAnd}
use Rattle.model_database.specs.Histories.{Setting}
use Rattle.model_database.specs.Slices.{Entries}
use Rattle.model_database.specs.Transactions.{Transaction}
use Rattle.directory_types.specs.declared.fault.DirFault.{DirFault}
use Rattle.model_directory.specs.Courses.{Course, Gives, ◌>>=◌, pairs_of}
use Rattle.directory_nodes.specs.Runs.{Draws}
use Rattle.directory_nodes.proofs.Following.{then_drew}
use Rattle.directory_nodes.proofs.Passing.{ended_so, gave_so}

in_range : (result : Result Entries DirFault) (before after : Setting → Transaction → Type 0) (words : ℕ → ℕ) (snapshot backward : Bool)
    (begin end first last : List ℕ) (limit : ℕ) → begin ≡ first → end ≡ last
    → Draws result before after words words (pairs_of snapshot begin end limit backward)
    → Draws result before after words words (pairs_of snapshot first last limit backward)
in_range result before after words snapshot backward begin end first last limit begins ends drew =
    subst (λ (first : List ℕ). Draws result before after words words (pairs_of snapshot first last limit backward)) begins
    (subst (λ (last : List ℕ). Draws result before after words words (pairs_of snapshot begin last limit backward)) ends drew)

-- the read answered with a fault
pub pairs_failed : {Y : Type 0} (fault : DirFault) (result : Result Y DirFault) (before after : Setting → Transaction → Type 0) (words : ℕ → ℕ)
    (snapshot backward : Bool) (begin end first last : List ℕ) (limit : ℕ) (next : Entries → Course Y)
    → IsErrAnd result (λ given. given ≡ fault) → begin ≡ first → end ≡ last
    → Draws {X = Entries} (Err fault) before after words words (pairs_of snapshot begin end limit backward)
    → Draws result before after words words (pairs_of snapshot first last limit backward >>= next)
pairs_failed fault result before after words snapshot backward begin end first last limit next failed begins ends drew =
    ended_so fault result before after words words (pairs_of snapshot first last limit backward) next failed
    (in_range (Err fault) before after words snapshot backward begin end first last limit begins ends drew)

-- it answered with pairs
pub pairs_then : {Y : Type 0} (pairs : Entries) (result : Result Y DirFault) (before middle after : Setting → Transaction → Type 0) (words : ℕ → ℕ)
    (snapshot backward : Bool) (begin end first last : List ℕ) (limit : ℕ) (next : Entries → Course Y) → begin ≡ first → end ≡ last
    → Draws (Ok pairs) before middle words words (pairs_of snapshot begin end limit backward)
    → Draws result middle after words words (next pairs)
    → Draws result before after words words (pairs_of snapshot first last limit backward >>= next)
pairs_then pairs result before middle after words snapshot backward begin end first last limit next begins ends drew later =
    then_drew pairs result before middle after words words words (pairs_of snapshot first last limit backward) next
    (in_range (Ok pairs) before middle words snapshot backward begin end first last limit begins ends drew) later

-- whether a key was found
abbrev pub found_some : Entries → Course Bool
found_some entries = Gives (not (length entries == 0))

pub some_found : (pairs : Entries) (empty : Bool) (before after : Setting → Transaction → Type 0) (words : ℕ → ℕ) (snapshot : Bool)
    (begin end first last : List ℕ) → empty ≡ (length pairs == 0) → begin ≡ first → end ≡ last
    → Draws (Ok pairs) before after words words (pairs_of snapshot begin end 1 false)
    → Draws (Ok (not empty)) before after words words (pairs_of snapshot first last 1 false >>= found_some)
some_found pairs empty before after words snapshot begin end first last is begins ends drew =
    pairs_then pairs (Ok (not empty)) before after after words snapshot false begin end first last 1 found_some begins ends drew
    (gave_so (not (length pairs == 0)) (not empty) after words (ap not (sym is)))
