-- What a course that came to its end went through, step by step, and that a course in two parts went through both.
use Rattle.std.proofs.Common.{◌≡◌, ℕ, ◌+◌, Option, Some, None, Ok, refl}
use Rattle.model_database.specs.declared.Code.{Code}
use Rattle.model_database.specs.Histories.{Setting}
use Rattle.model_database.specs.Reads.{answer}
use Rattle.model_database.specs.Transactions.{Transaction, view}
use Rattle.model_allocator.specs.Acts.{Reads, Writes, act_called, refusal}
use Rattle.model_allocator.specs.Granting.{Allocated, Ending, Grants, IsFull, IsNoCounter, IsRefused, allocated}
use Rattle.model_directory.specs.Courses.{Course, Gives, Refuses, Asks, Does, Allocates, ◌>>=◌, Reached, reached_by, granted_by, run}

-- a course leads from a transaction to this value, and leaves this transaction: no step of it was refused
abbrev pub Goes : {X : Type 0} → Setting → Course X → (before : Transaction) → (value : X) → (after : Transaction) → Type 0
Goes setting (Gives given) before value after = (given ≡ value) × (before ≡ after)
Goes setting (Refuses fault) before value after = ⊥
Goes setting (Asks read snapshot next) before value after =
    (refusal (act_called setting before (Reads read snapshot)).reply ≡ None)
    × Goes setting (next (answer read (view setting before))) (act_called setting before (Reads read snapshot)).transaction value after
Goes setting (Does mutation next) before value after =
    (refusal (act_called setting before (Writes mutation)).reply ≡ None)
    × Goes setting next (act_called setting before (Writes mutation)).transaction value after
Goes setting (Allocates space next) before value after =
    (words : ℕ → ℕ) × (number : ℕ) × Goes setting (next number) (allocated setting before space words).transaction value after

-- ---- what was run

passed_by : {X : Type 0} (refused : Option Code) (t : Transaction) (others : Reached X) (value : X) (P : Transaction → Type 0)
    → (reached_by refused t others).end ≡ Ok value → (others.end ≡ Ok value → P others.transaction)
    → (refused ≡ None) × P (reached_by refused t others).transaction
passed_by (Some code) t others value P is on = absurd cc
passed_by None t others value P is on = (refl, on is)

granted_to : {X : Type 0} (ending : Ending) (made : Allocated) (others : ℕ → Reached X) (value : X) (P : ℕ → Transaction → Type 0)
    → (granted_by ending made others).end ≡ Ok value
    → ((number : ℕ) → (others number).end ≡ Ok value → P number (others number).transaction)
    → (number : ℕ) × P number (granted_by ending made others).transaction
granted_to (Grants number) made others value P is on = (number, on number is)
granted_to (IsFull start) made others value P is on = absurd cc
granted_to (IsNoCounter key) made others value P is on = absurd cc
granted_to (IsRefused code) made others value P is on = absurd cc

-- a course that gave a value went to it
pub went : {X : Type 0} (setting : Setting) (words : ℕ → ℕ) (course : Course X) (t : Transaction) (value : X)
    → (run setting words course t).end ≡ Ok value → Goes setting course t value (run setting words course t).transaction
unfolding run
went setting words (Gives given) t value is = (let same : given ≡ value = cc in same, refl)
went setting words (Refuses fault) t value is = absurd cc
went setting words (Asks read snapshot next) t value is =
    let called = act_called setting t (Reads read snapshot) in
    let others = run setting words (next (answer read (view setting t))) called.transaction in
    passed_by (refusal called.reply) called.transaction others value
    (λ after. Goes setting (next (answer read (view setting t))) called.transaction value after) is
    (went setting words (next (answer read (view setting t))) called.transaction value)
went setting words (Does mutation next) t value is =
    let called = act_called setting t (Writes mutation) in
    let others = run setting words next called.transaction in
    passed_by (refusal called.reply) called.transaction others value (λ after. Goes setting next called.transaction value after) is
    (went setting words next called.transaction value)
went setting words (Allocates space next) t value is =
    let made = allocated setting t space words in
    let on = granted_to made.ending made (λ number. run setting (λ place. words (made.words + place)) (next number) made.transaction) value
    (λ number after. Goes setting (next number) made.transaction value after) is
    (λ number. went setting (λ place. words (made.words + place)) (next number) made.transaction value) in
    (words, on.0, on.1)

-- ---- two parts

-- the first part went to some value, and the second from there
abbrev pub GoesOn : {X Y : Type 0} → Setting → Course X → (X → Course Y) → (before : Transaction) → (value : Y) → (after : Transaction)
    → Type 0
GoesOn {X} setting course next before value after =
    (given : X) × (between : Transaction) × Goes setting course before given between × Goes setting (next given) between value after

pub parts : {X Y : Type 0} (setting : Setting) (course : Course X) (next : X → Course Y) (t : Transaction) (value : Y) (after : Transaction)
    → Goes setting (course >>= next) t value after → GoesOn setting course next t value after
parts setting (Gives given) next t value after goes = (given, t, (refl, refl), goes)
parts setting (Refuses fault) next t value after goes = absurd goes
parts setting (Asks read snapshot more) next t value after (passed, goes) =
    let on = parts setting (more (answer read (view setting t))) next (act_called setting t (Reads read snapshot)).transaction value after
    goes in
    (on.0, on.1, (passed, on.2), on.3)
parts setting (Does mutation more) next t value after (passed, goes) =
    let on = parts setting more next (act_called setting t (Writes mutation)).transaction value after goes in
    (on.0, on.1, (passed, on.2), on.3)
parts setting (Allocates space more) next t value after (words, number, goes) =
    let on = parts setting (more number) next (allocated setting t space words).transaction value after goes in
    (on.0, on.1, (words, number, on.2), on.3)
