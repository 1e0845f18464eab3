-- What each read, each write and each call of the allocator keep, a course keeps.
use Rattle.std.proofs.Common.{ℕ, ◌+◌, List, Option, Some, None}
use Rattle.model_database.specs.declared.Code.{Code}
use Rattle.model_database.specs.Histories.{Setting}
use Rattle.model_database.specs.Reads.{answer}
use Rattle.model_database.specs.Transactions.{Transaction, view}
use Rattle.model_allocator.specs.Acts.{Reads, Writes, act_called, refusal}
use Rattle.model_allocator.specs.Granting.{Allocated, Ending, Grants, IsFull, IsNoCounter, IsRefused, allocated}
use Rattle.model_allocator.proofs.Keeping.{EachKeeps}
use Rattle.model_directory.specs.Courses.{Course, Gives, Refuses, Asks, Does, Allocates, Reached, reached_by, granted_by, run}

-- it is kept by each call of the allocator
abbrev pub AllocatorsKeep : Setting → (P : Transaction → Type 0) → Type 0
AllocatorsKeep setting P = (t : Transaction) (space : List ℕ) (words : ℕ → ℕ) → P t → P (allocated setting t space words).transaction

reached_keeps : {X : Type 0} (P : Transaction → Type 0) (refused : Option Code) (t : Transaction) (others : Reached X) → P t → P others.transaction
    → P (reached_by refused t others).transaction
reached_keeps P (Some code) t others p later = p
reached_keeps P None t others p later = later

granted_keeps : {X : Type 0} (P : Transaction → Type 0) (ending : Ending) (made : Allocated) (others : ℕ → Reached X) → P made.transaction
    → ((number : ℕ) → P (others number).transaction) → P (granted_by ending made others).transaction
granted_keeps P (Grants number) made others p later = later number
granted_keeps P (IsFull start) made others p later = p
granted_keeps P (IsNoCounter key) made others p later = p
granted_keeps P (IsRefused code) made others p later = p

pub run_keeps : {X : Type 0} (setting : Setting) (P : Transaction → Type 0) (words : ℕ → ℕ) (course : Course X) (t : Transaction)
    → EachKeeps setting P → AllocatorsKeep setting P → P t → P (run setting words course t).transaction
unfolding run
run_keeps setting P words (Gives value) t each allocators p = p
run_keeps setting P words (Refuses fault) t each allocators p = p
run_keeps setting P words (Asks read snapshot next) t each allocators p =
    let called = act_called setting t (Reads read snapshot) in
    let kept = each t (Reads read snapshot) p in
    reached_keeps P (refusal called.reply) called.transaction (run setting words (next (answer read (view setting t))) called.transaction) kept
    (run_keeps setting P words (next (answer read (view setting t))) called.transaction each allocators kept)
run_keeps setting P words (Does mutation next) t each allocators p =
    let called = act_called setting t (Writes mutation) in
    let kept = each t (Writes mutation) p in
    reached_keeps P (refusal called.reply) called.transaction (run setting words next called.transaction) kept
    (run_keeps setting P words next called.transaction each allocators kept)
run_keeps setting P words (Allocates space next) t each allocators p =
    let made = allocated setting t space words in
    let kept = allocators t space words p in
    granted_keeps P made.ending made (λ number. run setting (λ place. words (made.words + place)) (next number) made.transaction) kept
    (λ number. run_keeps setting P (λ place. words (made.words + place)) (next number) made.transaction each allocators kept)
