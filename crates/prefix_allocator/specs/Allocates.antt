-- What a call of the allocator answers, and what stands after it.
use Rattle.std.specs.Prelude.{◌≡◌, ◌⊎◌, ℕ, ◌+◌, List, [], ◌∷◌, None, Result, Ok, Err}
use Rattle.model_database.specs.Histories.{Setting}
use Rattle.model_database.specs.Transactions.{Transaction, view}
use Rattle.model_allocator.specs.Acts.{Act, act_called, refusal}
use Rattle.model_allocator.specs.Granting.{Ending, Grants, IsFull, IsNoCounter, IsRefused, Allocated, allocated, plan}
use Rattle.prefix_allocator.specs.declared.fault.AllocFault.{AllocFault}
use Rattle.prefix_allocator.specs.declared.fault.AllocFault.TheVariants as fault

-- so many words were drawn: those that are left are the others
abbrev pub Leaves : (words left : ℕ → ℕ) → (drawn : ℕ) → Type 0
Leaves words left drawn = (place : ℕ) → left place ≡ words (drawn + place)

-- it ended so, and stands for the transaction that is said to be left; so many words were drawn as is said
abbrev pub EndsIn : Ending → (stands : Transaction → Type 0) → (words left : ℕ → ℕ) → Allocated → Type 0
EndsIn ending stands words left allocated =
    (allocated.ending ≡ ending) × stands allocated.transaction × Leaves words left allocated.words

-- it stands for the transaction after some first of these acts, each of which was let through
abbrev pub StopsIn : Setting → (stands : Transaction → Type 0) → List Act → Transaction → Type 0
StopsIn setting stands [] transaction = stands transaction
StopsIn setting stands (act ∷ acts) transaction =
    stands transaction
    ⊎ ((refusal (act_called setting transaction act).reply ≡ None) × StopsIn setting stands acts (act_called setting transaction act).transaction)

-- A call on the subspace of this prefix, by what it answers: the number that is granted, the window that is full, the key that is
-- none of a counter, or the code of the first read or write that is refused. Where memory ran out, it stopped among its acts.
abbrev pub IsAllocated : Result ℕ AllocFault → Setting → (stands : Transaction → Type 0) → (words left : ℕ → ℕ) → (space : List ℕ) → Transaction
    → Type 0
IsAllocated (Ok number) setting stands words left space transaction =
    EndsIn (Grants number) stands words left (allocated setting transaction space words)
IsAllocated (Err (fault.WindowFull start)) setting stands words left space transaction =
    EndsIn (IsFull start) stands words left (allocated setting transaction space words)
IsAllocated (Err (fault.BadCounter key)) setting stands words left space transaction =
    EndsIn (IsNoCounter key) stands words left (allocated setting transaction space words)
IsAllocated (Err (fault.Tr code)) setting stands words left space transaction =
    EndsIn (IsRefused code) stands words left (allocated setting transaction space words)
IsAllocated (Err fault.NoMemory) setting stands words left space transaction =
    StopsIn setting stands (plan space (view setting transaction) words).acts transaction
