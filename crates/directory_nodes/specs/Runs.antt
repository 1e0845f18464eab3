-- What a function did that makes the steps of a course, by what it answers.
use Rattle.std.specs.Prelude.{◌≡◌, ◌⊎◌, ⊤, ℕ, ◌+◌, ◌≤◌, Bool, true, false, length, None, Result, Ok, Err}
use Rattle.std.specs.FinMap as finite
use Rattle.model_database.specs.Histories.{Setting}
use Rattle.model_database.specs.Reads.{answer}
use Rattle.model_database.specs.Transactions.{Transaction, view}
use Rattle.model_allocator.specs.Acts.{Reads, Writes, act_called, refusal}
use Rattle.model_allocator.specs.Granting.{Ending, Grants, allocated, plan}
use Rattle.prefix_allocator.specs.Allocates.{Leaves}
use Rattle.prefix_allocator.specs.Allocates as allocates
use Rattle.directory_types.specs.declared.fault.DirFault.{DirFault}
use Rattle.directory_types.specs.declared.fault.DirFault.TheVariants as fault
use Rattle.model_directory.specs.Courses.{Course, Gives, Refuses, Asks, Does, Allocates, Reached, run}

-- ---- memory ran out

-- behind a call of the allocator, where it granted a number
abbrev pub IsGranted : Ending → (behind : ℕ → Type 0) → Type 0
IsGranted (Grants number) behind = behind number
IsGranted ending behind = ⊥

-- It stands for the transaction after some first of the steps, each of which was let through, along the answers that the
-- definitions give; in a call of the allocator, after some first of that call's acts.
abbrev pub StopsIn : {X : Type 0} → Setting → (stands : Transaction → Type 0) → (words : ℕ → ℕ) → Course X → Transaction → Type 0
StopsIn setting stands words (Gives value) transaction = stands transaction
StopsIn setting stands words (Refuses fault) transaction = stands transaction
StopsIn setting stands words (Asks read snapshot next) transaction =
    let called = act_called setting transaction (Reads read snapshot) in
    stands transaction
    ⊎ ((refusal called.reply ≡ None)
    × StopsIn setting stands words (next (answer read (view setting transaction))) called.transaction)
StopsIn setting stands words (Does mutation next) transaction =
    let called = act_called setting transaction (Writes mutation) in
    stands transaction ⊎ ((refusal called.reply ≡ None) × StopsIn setting stands words next called.transaction)
StopsIn setting stands words (Allocates space next) transaction =
    let made = allocated setting transaction space words in
    allocates.StopsIn setting stands (plan space (view setting transaction) words).acts transaction
    ⊎ IsGranted made.ending
    (λ number. StopsIn setting stands (λ place. words (made.words + place)) (next number) made.transaction)

-- ---- one function

-- the value or fault that is said, the transaction that is said to be left, and the words behind those that were drawn
abbrev pub EndsAt : {X : Type 0} → Result X DirFault → (stands : Transaction → Type 0) → (words left : ℕ → ℕ) → Reached X → Type 0
EndsAt end stands words left reached =
    (reached.end ≡ end) × stands reached.transaction × Leaves words left reached.words

-- memory ran out
abbrev pub is_short : DirFault → Bool
is_short fault.NoMemory = true
is_short fault = false

abbrev pub RunsBy : {X : Type 0} → (is_short : Bool) → Result X DirFault → Setting → (stands : Transaction → Type 0) → (words left : ℕ → ℕ)
    → Course X → Transaction → Type 0
RunsBy true result setting stands words left course transaction = StopsIn setting stands words course transaction
RunsBy false result setting stands words left course transaction = EndsAt result stands words left (run setting words course transaction)

-- what it answered is what the course makes of a transaction, or memory ran out
abbrev pub RunsTo : {X : Type 0} → Result X DirFault → Setting → (stands : Transaction → Type 0) → (words left : ℕ → ℕ) → Course X → Transaction
    → Type 0
RunsTo (Ok value) setting stands words left course transaction = RunsBy false (Ok value) setting stands words left course transaction
RunsTo (Err fault) setting stands words left course transaction = RunsBy (is_short fault) (Err fault) setting stands words left course transaction

-- It made the steps of this course, for every setting and every transaction for which it stood before.
abbrev pub Draws : {X : Type 0} → Result X DirFault → (before after : Setting → Transaction → Type 0) → (words left : ℕ → ℕ) → Course X → Type 0
Draws result before after words left course =
    (setting : Setting) (transaction : Transaction) → before setting transaction
    → RunsTo result setting (after setting) words left course transaction

-- the same of a function that is given no random words
abbrev pub Follows : {X : Type 0} → Result X DirFault → (before after : Setting → Transaction → Type 0) → Course X → Type 0
Follows result before after course = (words : ℕ → ℕ) → Draws result before after words words course

-- The same of a course that is bounded: for each bound that is as great as the number of keys that are seen before, and so many
-- more.
abbrev pub FollowsBelow : {X : Type 0} → Result X DirFault → (before after : Setting → Transaction → Type 0) → (more : ℕ) → (ℕ → Course X) → Type 0
FollowsBelow result before after more courses =
    (words : ℕ → ℕ) (bound : ℕ) (setting : Setting) (transaction : Transaction) → before setting transaction
    → length (finite.entries (view setting transaction)) + more ≤ bound
    → RunsTo result setting (after setting) words words (courses bound) transaction

-- ---- what is found out without the transaction

abbrev pub TellsBy : {X : Type 0} → (is_short : Bool) → Result X DirFault → (said : Result X DirFault) → Type 0
TellsBy true result said = ⊤
TellsBy false result said = said ≡ result

-- what was found out is what is said, unless memory ran out
abbrev pub Tells : {X : Type 0} → Result X DirFault → (said : Result X DirFault) → Type 0
Tells (Ok value) said = said ≡ Ok value
Tells (Err fault) said = TellsBy (is_short fault) (Err fault) said

-- a value, with what else a function leaves
abbrev pub beside : {X Y : Type 0} → Result X DirFault → Y → Result (X × Y) DirFault
beside (Ok value) other = Ok (value, other)
beside (Err fault) other = Err fault
