-- What a call of a directory layer does to its transaction, step by step, as a tree: a read goes on by its answer, and a call of the
-- allocator by the number that it grants.
use Rattle.std.specs.Prelude.{ℕ, ◌+◌, Bool, List, [], Option, Some, None, Result, Ok, Err}
use Rattle.model_database.specs.declared.Code.{Code}
use Rattle.model_database.specs.Databases.{Mutation}
use Rattle.model_database.specs.Histories.{Setting}
use Rattle.model_database.specs.Reads.{Read, Get, GetKeyRange, Answer, ValueIs, KeyIs, PairsAre, answer}
use Rattle.model_database.specs.Slices.{Entries}
use Rattle.model_database.specs.Transactions.{Transaction, view}
use Rattle.model_allocator.specs.Acts.{Reads, Writes, act_called, refusal}
use Rattle.model_allocator.specs.Granting.{Allocated, Ending, Grants, IsFull, IsNoCounter, IsRefused, allocated}
use Rattle.directory_types.specs.declared.fault.DirFault.{DirFault}
use Rattle.directory_types.specs.declared.fault.DirFault.TheVariants as fault

-- ---- courses

pub data Course (X : Type 0) : Type 0 where
  -- it has come to its end, with this value
  Gives : (value : X) → Course X
  -- it stops: the call is refused
  Refuses : (fault : DirFault) → Course X
  -- a read, by snapshot or not
  Asks : (read : Read) (snapshot : Bool) (next : Answer → Course X) → Course X
  -- a write
  Does : (mutation : Mutation) (next : Course X) → Course X
  -- a call of the allocator on the subspace of this prefix
  Allocates : (space : List ℕ) (next : ℕ → Course X) → Course X

-- a course, and then another by the value of the first
infixl 10 ◌>>=◌
abbrev pub ◌>>=◌ : {X Y : Type 0} → Course X → (X → Course Y) → Course Y
(Gives value) >>= next = next value
(Refuses fault) >>= next = Refuses fault
(Asks read snapshot more) >>= next = Asks read snapshot (λ answer. more answer >>= next)
(Does mutation more) >>= next = Does mutation (more >>= next)
(Allocates space more) >>= next = Allocates space (λ number. more number >>= next)

-- nothing to tell
abbrev pub Done : Type 0
Done = Unit {0}

abbrev pub done : Done
done = tt

-- what was found out without the transaction, or a refusal
abbrev pub given : {X : Type 0} → Result X DirFault → Course X
given (Ok value) = Gives value
given (Err fault) = Refuses fault

unfoldable pub does : Mutation → Course Done
does mutation = Does mutation (Gives done)

abbrev pub value_in : Answer → Option (List ℕ)
value_in (ValueIs value) = value
value_in (KeyIs key) = None
value_in (PairsAre pairs) = None

abbrev pub pairs_in : Answer → Entries
pairs_in (ValueIs value) = []
pairs_in (KeyIs key) = []
pairs_in (PairsAre pairs) = pairs

-- the value of a key
unfoldable pub value_of : (snapshot : Bool) → (key : List ℕ) → Course (Option (List ℕ))
value_of snapshot key = Asks (Get key) snapshot (λ answer. Gives (value_in answer))

-- the pairs of a range, up to a limit, or all where it is 0
unfoldable pub pairs_of : (snapshot : Bool) → (begin end : List ℕ) → (limit : ℕ) → (backward : Bool) → Course Entries
pairs_of snapshot begin end limit backward = Asks (GetKeyRange begin end limit backward) snapshot (λ answer. Gives (pairs_in answer))

-- ---- what a course makes of a transaction

-- the transaction that it leaves, how many random words it drew, and its value or fault
pub record Reached (X : Type 0) : Type 0 where
  pub transaction : Transaction
  pub words : ℕ
  pub end : Result X DirFault

abbrev pub stopped : {X : Type 0} → Transaction → (words : ℕ) → DirFault → Reached X
stopped transaction words fault = record { transaction = transaction; words = words; end = Err fault }

-- a call of the transaction that was refused ends the course; behind any other it goes on
abbrev pub reached_by : {X : Type 0} → Option Code → Transaction → (others : Reached X) → Reached X
reached_by (Some code) transaction others = stopped transaction 0 (fault.Tr code)
reached_by None transaction others = others

-- so many words more
abbrev pub drawing : {X : Type 0} → (words : ℕ) → Reached X → Reached X
drawing words reached = record reached { words = words + reached.words }

-- a call of the allocator that grants no number ends the course
abbrev pub granted_by : {X : Type 0} → Ending → Allocated → (ℕ → Reached X) → Reached X
granted_by (Grants number) allocated others = drawing allocated.words (others number)
granted_by (IsFull start) allocated others = stopped allocated.transaction allocated.words (fault.WindowFull start)
granted_by (IsNoCounter key) allocated others = stopped allocated.transaction allocated.words (fault.BadCounter key)
granted_by (IsRefused code) allocated others = stopped allocated.transaction allocated.words (fault.Tr code)

-- what a course makes of a transaction in its setting, where these are the random words still to come: each step is a call by the
-- calls' own definitions, and each answer is that on what the transaction sees after the steps before
unfoldable pub run : {X : Type 0} → Setting → (words : ℕ → ℕ) → Course X → Transaction → Reached X
run setting words (Gives value) transaction = record { transaction = transaction; words = 0; end = Ok value }
run setting words (Refuses fault) transaction = stopped transaction 0 fault
run setting words (Asks read snapshot next) transaction =
    let called = act_called setting transaction (Reads read snapshot) in
    reached_by (refusal called.reply) called.transaction (run setting words (next (answer read (view setting transaction))) called.transaction)
run setting words (Does mutation next) transaction =
    let called = act_called setting transaction (Writes mutation) in
    reached_by (refusal called.reply) called.transaction (run setting words next called.transaction)
run setting words (Allocates space next) transaction =
    let made = allocated setting transaction space words in
    granted_by made.ending made (λ number. run setting (λ place. words (made.words + place)) (next number) made.transaction)
