-- What a function did that made a list of calls on a transaction, by what it answers.
use Rattle.std.specs.Prelude.{◌≡◌, ℕ, ◌+◌, Bool, true, false, List, [], ◌∷◌, ◌++◌, map, flat_map, Option, Some, None, unwrap_or, Result, Ok, Err, ⊤}
use Rattle.model_database.specs.Databases.{Database}
use Rattle.model_database.specs.Histories.{Setting}
use Rattle.model_database.specs.Slices.{Entries}
use Rattle.model_database.specs.Transactions.{Transaction}
use Rattle.fdb_calls.specs.declared.fault.TrFault.{TrFault}
use Rattle.fdb_calls.specs.declared.fault.TrFault.TheVariants as fault
use Rattle.model_allocator.specs.Acts.{Act, all_acted}
use Rattle.model_allocator.specs.Counters.{window, counter_in, counted, counts_half, is_recent}
use Rattle.model_allocator.specs.Granting.{Candidate, drawn, above, candidates, counting, first_absent, tried, tries, counts, clears_below}
use Rattle.prefix_allocator.specs.Allocates.{StopsIn, Leaves}

-- ---- calls

-- Each of these acts was let through, what is answered is good, and it stands for the transaction after them; or the acts end with
-- this code; or memory ran out, and it stopped among them.
abbrev pub Done : {A : Type 0} → (good : A → Type 0) → Result A TrFault → Setting → (stands : Transaction → Type 0) → List Act → Transaction
    → Type 0
Done good (Ok value) setting stands acts t =
    ((all_acted setting acts t).refused ≡ None) × good value × stands (all_acted setting acts t).transaction
Done good (Err (fault.Code code)) setting stands acts t =
    ((all_acted setting acts t).refused ≡ Some code) × stands (all_acted setting acts t).transaction
Done good (Err fault.NoMemory) setting stands acts t = StopsIn setting stands acts t

-- so many words were drawn, unless memory ran out
abbrev pub Draws : {A : Type 0} → Result A TrFault → (words left : ℕ → ℕ) → (count : ℕ) → Type 0
Draws (Ok value) words left count = Leaves words left count
Draws (Err (fault.Code code)) words left count = Leaves words left count
Draws (Err fault.NoMemory) words left count = ⊤

-- ---- the start

-- the start that the greatest key of counters says: without one, 0
abbrev pub start_in : (space : List ℕ) → Option (List ℕ) → Option ℕ
start_in space None = Some 0
start_in space (Some key) = counter_in space key

-- the key of the first entry
abbrev pub first_key : Entries → Option (List ℕ)
first_key [] = None
first_key (entry ∷ entries) = Some entry.0

-- the greatest counter, with 1 more, counts half of its window or more
unfoldable pub fills_half : (space : List ℕ) → Database → (start : ℕ) → Bool
fills_half space database start = counts_half start (unwrap_or (counted space database start) [])

-- the acts that count on the window of the greatest counter, and open the one behind it where that is half full
abbrev pub opens_behind : (is_half : Bool) → (space : List ℕ) → (first : ℕ) → List Act
opens_behind false space first = []
opens_behind true space first = clears_below space (first + window first) ++ counts space (first + window first)

abbrev pub start_behind : (is_half : Bool) → (first : ℕ) → ℕ
start_behind false first = first
start_behind true first = first + window first

-- ---- the tries

-- so many numbers of the window from start on that random words choose, and so many numbers upward from one, going round
unfoldable pub draws : (start : ℕ) → (words : ℕ → ℕ) → (from count : ℕ) → List Candidate
draws start words from count = map (λ place. record { number = drawn start words place; is_drawn = true }) (counting from count)

unfoldable pub scans : (start number from count : ℕ) → List Candidate
scans start number from count = map (λ distance. record { number = above start number distance; is_drawn = false }) (counting from count)

-- the candidates of a window
unfoldable pub window_candidates : (start : ℕ) → (words : ℕ → ℕ) → List Candidate
window_candidates start words = candidates start words

-- the acts that try candidates up to the first that is absent from what a transaction sees
unfoldable pub tries_of : (space : List ℕ) → Database → List Candidate → List Act
tries_of space database candidates = flat_map (tries space) (tried (is_recent space database) candidates)

-- the first of them that is absent
unfoldable pub found_in : (space : List ℕ) → Database → List Candidate → Option ℕ
found_in space database candidates = first_absent (is_recent space database) candidates

-- The last number that was tried: the first that is absent, where one is, and else the last of all.
abbrev pub IsLast : (found : Option ℕ) → (last number : ℕ) → (is_absent : Bool) → Type 0
IsLast found last number true = found ≡ Some number
IsLast found last number false = (found ≡ None) × (number ≡ last)
