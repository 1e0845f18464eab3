-- What a call of the allocator does: it chooses the number in a list of candidates, by what its transaction sees before the
-- call; and the calls of the transaction that find the number are a list too (directory layer's documentation,
-- "High-contention allocator").
use Rattle.std.specs.Prelude.{ℕ, zero, suc, ◌+◌, ◌-◌, ◌%◌, Bool, true, false, if◌then◌else◌, List, [], ◌∷◌, ◌++◌, length, map, flat_map, Option, Some, None, unwrap_or}
use Rattle.model_database.specs.declared.AtomicOp.TheVariants as atomic
use Rattle.model_database.specs.declared.Code.{Code}
use Rattle.model_database.specs.Databases.{Database, Set, ClearRange, Atomic}
use Rattle.model_database.specs.Histories.{Setting}
use Rattle.model_database.specs.Reads.{Get, GetKeyRange}
use Rattle.model_database.specs.Slices.{Entries}
use Rattle.model_database.specs.Transactions.{Transaction, view, with_granted}
use Rattle.model_allocator.specs.declared.TheConstants.{RANDOM_TRIES}
use Rattle.model_allocator.specs.Acts.{Act, Draws, Reads, Writes, DisablesWriteConflict, AddsWriteConflict, Acted, all_acted}
use Rattle.model_allocator.specs.Counters.{counters_prefix, counter_key, recent_prefix, recent_key, counters_begin, counters_end, window, counter_in, greatest_counter, one_more, counted, counts_half, is_recent}

-- ---- candidates

pub record Candidate : Type 0 where
  pub number : ℕ
  -- a random word chose it
  pub is_drawn : Bool

-- so many numbers from one on
abbrev pub counting : (from count : ℕ) → List ℕ
counting from zero = []
counting from (suc count) = from ∷ counting (from + 1) count

-- the number of the window from start on that the random word at a place chooses
abbrev pub drawn : (start : ℕ) → (words : ℕ → ℕ) → (place : ℕ) → ℕ
drawn start words place = start + words place % window start

-- the number of the window that stands so many above another one, going round inside the window
abbrev pub above : (start number distance : ℕ) → ℕ
above start number distance = start + (number - start + distance) % window start

-- so many random numbers, and then the whole window once, upward from the last of them and going round
abbrev pub candidates : (start : ℕ) → (words : ℕ → ℕ) → List Candidate
candidates start words =
    map (λ place. record { number = drawn start words place; is_drawn = true }) (counting 0 RANDOM_TRIES)
    ++ map (λ distance. record { number = above start (drawn start words (RANDOM_TRIES - 1)) distance; is_drawn = false })
    (counting 1 (window start))

-- the first candidate that isn't present, and the candidates up to that one, itself included, or all
abbrev pub first_absent : (ℕ → Bool) → List Candidate → Option ℕ
first_absent present [] = None
first_absent present (candidate ∷ others) = if present candidate.number then first_absent present others else Some candidate.number

abbrev pub tried : (ℕ → Bool) → List Candidate → List Candidate
tried present [] = []
tried present (candidate ∷ others) = if present candidate.number then candidate ∷ tried present others else candidate ∷ []

-- ---- the acts of a call, in their order

-- the greatest key of counters, read by snapshot
abbrev pub asks_greatest : (space : List ℕ) → Act
asks_greatest space = Reads (GetKeyRange (counters_begin space) (counters_end space) 1 true) true

-- 1 more on the counter of a window, which is then read by snapshot
abbrev pub counts : (space : List ℕ) → (start : ℕ) → List Act
counts space start =
    Writes (Atomic atomic.Add (counter_key space start) one_more) ∷ Reads (Get (counter_key space start)) true ∷ []

-- counters and numbers below a start are cleared, the numbers without a write conflict range
abbrev pub clears_below : (space : List ℕ) → (start : ℕ) → List Act
clears_below space start =
    Writes (ClearRange (counters_prefix space) (counter_key space start))
    ∷ DisablesWriteConflict
    ∷ Writes (ClearRange (recent_prefix space) (recent_key space start))
    ∷ []

-- a window that is half full gives way to the one behind it
abbrev pub opens : (is_half : Bool) → (space : List ℕ) → (first : ℕ) → List Act
opens false space first = asks_greatest space ∷ counts space first
opens true space first =
    asks_greatest space ∷ counts space first ++ clears_below space (first + window first) ++ counts space (first + window first)

-- a number is read, and set without a write conflict range
abbrev pub tries : (space : List ℕ) → Candidate → List Act
tries space candidate =
    (if candidate.is_drawn then Draws ∷ [] else [])
    ++ Reads (Get (recent_key space candidate.number)) false
    ∷ DisablesWriteConflict
    ∷ Writes (Set (recent_key space candidate.number) [])
    ∷ []

-- the number that was absent gets a write conflict range
abbrev pub claims : (space : List ℕ) → Option ℕ → List Act
claims space None = []
claims space (Some number) = AddsWriteConflict (recent_key space number) ∷ []

-- ---- a call

-- how a call ends
pub data Ending : Type 0 where
  -- it grants this number
  Grants : (number : ℕ) → Ending
  -- every number of the window that begins here is present
  IsFull : (start : ℕ) → Ending
  -- the greatest key of counters isn't one of a number
  IsNoCounter : (key : List ℕ) → Ending
  -- a read or a write was refused
  IsRefused : (code : Code) → Ending

-- what a call is to do: its acts, and how it ends where none of them is refused
pub record Plan : Type 0 where
  pub acts : List Act
  pub ending : Ending

abbrev pub granting : (start : ℕ) → Option ℕ → Ending
granting start None = IsFull start
granting start (Some number) = Grants number

-- from this start on, where these acts come before
abbrev pub plan_from : (before : List Act) → (space : List ℕ) → Database → (words : ℕ → ℕ) → (start : ℕ) → Plan
plan_from before space database words start =
    let found = first_absent (is_recent space database) (candidates start words) in
    record {
      acts = before ++ flat_map (tries space) (tried (is_recent space database) (candidates start words)) ++ claims space found;
      ending = granting start found;
    }

-- where the greatest counter, with 1 more, counts half of its window or more, the start is behind that window
abbrev pub plan_by : (is_half : Bool) → (space : List ℕ) → Database → (words : ℕ → ℕ) → (first : ℕ) → Plan
plan_by is_half space database words first =
    plan_from (opens is_half space first) space database words (if is_half then first + window first else first)

abbrev pub plan_at : (space : List ℕ) → Database → (words : ℕ → ℕ) → (first : ℕ) → Plan
plan_at space database words first =
    plan_by (counts_half first (unwrap_or (counted space database first) [])) space database words first

abbrev pub plan_counter : (space : List ℕ) → Database → (words : ℕ → ℕ) → (key : List ℕ) → Option ℕ → Plan
plan_counter space database words key None = record { acts = asks_greatest space ∷ []; ending = IsNoCounter key }
plan_counter space database words key (Some first) = plan_at space database words first

-- by the greatest counter: without one, the start is 0
abbrev pub plan_under : (space : List ℕ) → Database → (words : ℕ → ℕ) → Entries → Plan
plan_under space database words [] = plan_at space database words 0
plan_under space database words (entry ∷ entries) = plan_counter space database words entry.0 (counter_in space entry.0)

-- what a call is to do, by the database that its transaction sees
unfoldable pub plan : (space : List ℕ) → Database → (words : ℕ → ℕ) → Plan
plan space database words = plan_under space database words (greatest_counter space database)

-- what a call leaves: the transaction, how it ended, and how many words it drew
pub record Allocated : Type 0 where
  pub transaction : Transaction
  pub ending : Ending
  pub words : ℕ

-- a number that is granted is noted in the script, with the place at which the call began
abbrev pub noted : Transaction → (space : List ℕ) → (from : ℕ) → Ending → Transaction
noted transaction space from (Grants number) = with_granted transaction space number from
noted transaction space from _ = transaction

abbrev pub ended : (space : List ℕ) → (from : ℕ) → Ending → Acted → Option Code → Allocated
ended space from ending acted (Some code) = record { transaction = acted.transaction; ending = IsRefused code; words = acted.words }
ended space from ending acted None =
    record { transaction = noted acted.transaction space from ending; ending = ending; words = acted.words }

-- a call on the subspace of this prefix by a transaction in its setting, where these are the random words still to come
unfoldable pub allocated : Setting → Transaction → (space : List ℕ) → (words : ℕ → ℕ) → Allocated
allocated setting transaction space words =
    let planned = plan space (view setting transaction) words in
    let acted = all_acted setting planned.acts transaction in
    ended space (length transaction.script) planned.ending acted acted.refused
