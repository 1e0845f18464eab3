-- What a course may write, said of its tree; and that a transaction grows by such writes alone, whatever its end.
use Rattle.std.proofs.Common.{◌≡◌, ℕ, ◌+◌, Bool, true, false, List, [], ◌∷◌, ◌++◌, length, Option, Some, None, refl, sym, ap, ◌∙◌, append_assoc}
use Rattle.std.specs.Prelude.{⊤, not}
use Rattle.std.specs.List.{list_all}
use Rattle.std.proofs.lemmas.Bool.{and_from, and_parts}
use Rattle.std.proofs.lemmas.List.{append-nil}
use Rattle.std.proofs.lemmas.List.Folds.{list_all-append}
use Rattle.key_bytes.specs.declared.range.KeyRange.{KeyRange}
use Rattle.model_database.specs.Databases.{Mutation, Set, Clear, ClearRange, Atomic}
use Rattle.model_database.specs.Histories.{Script, Wrote, HasRead, Granted, Setting, written}
use Rattle.model_database.specs.Intervals.{one}
use Rattle.model_database.specs.Reads.{Read, Answer, answer}
use Rattle.model_database.specs.Transactions.{Transaction, view, version_in, with_version, with_read, first_failing, late_checks, read_code, set_code, clear_code, range_code, op_code, phase_code, with_write_conflict_disabled, with_write_range}
use Rattle.model_database.proofs.AddingConflicts.{written-append}
use Rattle.key_bytes.specs.Keys.{after}
use Rattle.fdb_calls.specs.declared.Reply.{Reply}
use Rattle.fdb_calls.specs.declared.Reply.TheVariants as reply
use Rattle.fdb_calls.specs.Calling.{read_by, read_at_version, write_by, does_by}
use Rattle.model_allocator.specs.Acts.{Act, Draws, Reads, Writes, DisablesWriteConflict, AddsWriteConflict, Acted, act_called, all_acted, acted_by, refusal, words_of}
use Rattle.model_allocator.specs.Granting.{Ending, Grants, IsFull, IsNoCounter, IsRefused, Allocated, allocated, noted, ended, plan}
use Rattle.model_database.specs.declared.Code.{Code}
use Rattle.model_directory.specs.Courses.{Course, Gives, Refuses, Asks, Does, Allocates, ◌>>=◌, Reached, reached_by, granted_by, run}
use Rattle.laws_directory.proofs.Going.{Goes}

-- ---- what a course may write

-- each of its writes may be made, and each subspace may be one that it calls the allocator on, whatever is read
abbrev pub Only : {X : Type 0} → (may : Mutation → Bool) → (spaces : List ℕ → Type 0) → Course X → Type 0
Only may spaces (Gives value) = ⊤
Only may spaces (Refuses fault) = ⊤
Only may spaces (Asks read snapshot next) = (given : Answer) → Only may spaces (next given)
Only may spaces (Does mutation next) = (may mutation ≡ true) × Only may spaces next
Only may spaces (Allocates space next) = spaces space × ((number : ℕ) → Only may spaces (next number))

-- a course in two parts
pub both_only : {X Y : Type 0} (may : Mutation → Bool) (spaces : List ℕ → Type 0) (course : Course X) (next : X → Course Y)
    → Only may spaces course → ((value : X) → Only may spaces (next value)) → Only may spaces (course >>= next)
both_only may spaces (Gives value) next first second = second value
both_only may spaces (Refuses fault) next first second = tt
both_only may spaces (Asks read snapshot more) next first second = λ given. both_only may spaces (more given) next (first given) second
both_only may spaces (Does mutation more) next first second = (first.0, both_only may spaces more next first.1 second)
both_only may spaces (Allocates space more) next first second =
    (first.0, λ number. both_only may spaces (more number) next (first.1 number) second)

-- ---- how a transaction grows

-- it has more entries, whose writes may be made, and reads at the version that it had
pub record Grown (setting : Setting) (may : Mutation → Bool) (before after : Transaction) : Type 0 where
  pub more : Script
  pub is : after.script ≡ before.script ++ more
  pub all : list_all may (written more) ≡ true
  pub version : version_in setting after ≡ version_in setting before

pub same_grown : (setting : Setting) (may : Mutation → Bool) (t : Transaction) → Grown setting may t t
same_grown setting may t = record { more = []; is = sym (append-nil t.script); all = refl; version = refl }

pub twice_grown : (setting : Setting) (may : Mutation → Bool) (t u v : Transaction) → Grown setting may t u → Grown setting may u v
    → Grown setting may t v
twice_grown setting may t u v first second = record {
  more = first.more ++ second.more;
  is = second.is ∙ ap (λ list. list ++ second.more) first.is ∙ append_assoc t.script first.more second.more;
  all = ap (list_all may) (written-append first.more second.more) ∙ list_all-append may (written first.more) (written second.more)
      ∙ and_from (list_all may (written first.more)) (list_all may (written second.more)) first.all second.all;
  version = second.version ∙ first.version;
}

-- ---- one act

-- it writes nothing, or what may be written
abbrev pub act_may : (may : Mutation → Bool) → Act → Bool
act_may may (Writes mutation) = may mutation
act_may may act = true

read_grown : (setting : Setting) (may : Mutation → Bool) (t : Transaction) (snapshot : Bool) (read : Read) (given : Answer)
    (ranges : List KeyRange)
    → Grown setting may t (with_read snapshot read given ranges (with_version setting t))
read_grown setting may t true read given ranges = record { more = []; is = sym (append-nil t.script); all = refl; version = refl }
read_grown setting may t false read given ranges = record { more = HasRead read given ∷ []; is = refl; all = refl; version = refl }

late_grown : (setting : Setting) (may : Mutation → Bool) (t : Transaction) (code : Option ℕ) (snapshot : Bool) (read : Read)
    → Grown setting may t (read_at_version code setting (with_version setting t) snapshot read).transaction
late_grown setting may t (Some code) snapshot read = record { more = []; is = sym (append-nil t.script); all = refl; version = refl }
late_grown setting may t None snapshot read = read_grown setting may t snapshot read _ _

early_grown : (setting : Setting) (may : Mutation → Bool) (t : Transaction) (code : Option ℕ) (snapshot : Bool) (read : Read)
    → Grown setting may t (read_by code setting t snapshot read).transaction
early_grown setting may t (Some code) snapshot read = same_grown setting may t
early_grown setting may t None snapshot read =
    late_grown setting may t (first_failing (late_checks setting (with_version setting t) read)) snapshot read

write_grown : (setting : Setting) (may : Mutation → Bool) (t : Transaction) (code : Option ℕ) (mutation : Mutation) → may mutation ≡ true
    → Grown setting may t (write_by code t mutation).transaction
write_grown setting may t (Some code) mutation allowed = same_grown setting may t
write_grown setting may t None mutation allowed = record {
  more = Wrote mutation (not t.skips_write_conflict) ∷ [];
  is = refl;
  all = and_from (may mutation) true allowed refl;
  version = refl;
}

does_grown : (setting : Setting) (may : Mutation → Bool) (t after : Transaction) (code : Option ℕ) (reply : Reply)
    → Grown setting may t after
    → Grown setting may t (does_by code t after reply).transaction
does_grown setting may t after (Some code) reply grown = same_grown setting may t
does_grown setting may t after None reply grown = grown

pub act_grown : (setting : Setting) (may : Mutation → Bool) (t : Transaction) (act : Act) → act_may may act ≡ true
    → Grown setting may t (act_called setting t act).transaction
act_grown setting may t Draws allowed = same_grown setting may t
act_grown setting may t (Reads read snapshot) allowed = early_grown setting may t (read_code t.phase false read) snapshot read
act_grown setting may t (Writes (Set key value)) allowed = write_grown setting may t (set_code t.phase key value) (Set key value) allowed
act_grown setting may t (Writes (Clear key)) allowed = write_grown setting may t (clear_code t.phase key) (Clear key) allowed
act_grown setting may t (Writes (ClearRange begin end)) allowed =
    write_grown setting may t (range_code t.phase begin end) (ClearRange begin end) allowed
act_grown setting may t (Writes (Atomic op key operand)) allowed =
    write_grown setting may t (op_code t.phase op key operand) (Atomic op key operand) allowed
act_grown setting may t DisablesWriteConflict allowed =
    does_grown setting may t (with_write_conflict_disabled t) (phase_code t.phase) reply.Done
    (record { more = []; is = sym (append-nil t.script); all = refl; version = refl })
act_grown setting may t (AddsWriteConflict key) allowed =
    does_grown setting may t (with_write_range t (one key)) (range_code t.phase key (after key)) reply.Done
    (record { more = []; is = sym (append-nil t.script); all = refl; version = refl })

-- ---- a call of the allocator

pub acts_grown : (setting : Setting) (may : Mutation → Bool) (acts : List Act) (t : Transaction) → list_all (act_may may) acts ≡ true
    → Grown setting may t (all_acted setting acts t).transaction
unfolding all_acted
acts_grown setting may [] t allowed = same_grown setting may t
acts_grown setting may (act ∷ acts) t allowed =
    let each = and_parts (act_may may act) (list_all (act_may may) acts) allowed in
    let called = act_called setting t act in
    let first = act_grown setting may t act each.0 in
    by (refusal called.reply) called.transaction (all_acted setting acts called.transaction) first
    (twice_grown setting may t called.transaction (all_acted setting acts called.transaction).transaction first
    (acts_grown setting may acts called.transaction each.1))
  where
    by : (refused : Option Code) (u : Transaction) (others : Acted) → Grown setting may t u → Grown setting may t others.transaction
        → Grown setting may t (acted_by refused u (words_of act) others).transaction
    by (Some code) u others one all = one
    by None u others one all = all

noted_grown : (setting : Setting) (may : Mutation → Bool) (t : Transaction) (space : List ℕ) (from : ℕ) (ending : Ending)
    → Grown setting may t (noted t space from ending)
noted_grown setting may t space from (Grants number) =
    record { more = Granted space number from ∷ []; is = refl; all = refl; version = refl }
noted_grown setting may t space from (IsFull start) = same_grown setting may t
noted_grown setting may t space from (IsNoCounter key) = same_grown setting may t
noted_grown setting may t space from (IsRefused code) = same_grown setting may t

-- the acts of a call of the allocator on this subspace write what may be written
abbrev pub AllocatorsMay : (may : Mutation → Bool) → (space : List ℕ) → Type 0
AllocatorsMay may space = (setting : Setting) (t : Transaction) (words : ℕ → ℕ)
    → list_all (act_may may) (plan space (view setting t) words).acts ≡ true

pub allocated_grown : (setting : Setting) (may : Mutation → Bool) (t : Transaction) (space : List ℕ) (words : ℕ → ℕ)
    → AllocatorsMay may space
    → Grown setting may t (allocated setting t space words).transaction
unfolding allocated
allocated_grown setting may t space words allowed =
    by (plan space (view setting t) words).ending acted.refused
    (acts_grown setting may (plan space (view setting t) words).acts t (allowed setting t words))
  where
    acted : Acted
    acted = all_acted setting (plan space (view setting t) words).acts t

    by : (ending : Ending) (refused : Option Code) → Grown setting may t acted.transaction
        → Grown setting may t (ended space (length t.script) ending acted refused).transaction
    by ending (Some code) grown = grown
    by ending None grown =
        twice_grown setting may t acted.transaction _ grown (noted_grown setting may acted.transaction space _ ending)

-- ---- a course

by_refusal : {X : Type 0} (P : Transaction → Type 0) (refused : Option Code) (t : Transaction) (others : Reached X) → P t
    → P others.transaction
    → P (reached_by refused t others).transaction
by_refusal P (Some code) t others p later = p
by_refusal P None t others p later = later

by_ending : {X : Type 0} (P : Transaction → Type 0) (ending : Ending) (made : Allocated) (others : ℕ → Reached X) → P made.transaction
    → ((number : ℕ) → P (others number).transaction) → P (granted_by ending made others).transaction
by_ending P (Grants number) made others p later = later number
by_ending P (IsFull start) made others p later = p
by_ending P (IsNoCounter key) made others p later = p
by_ending P (IsRefused code) made others p later = p

-- however it ends
pub run_grown : {X : Type 0} (setting : Setting) (may : Mutation → Bool) (words : ℕ → ℕ) (course : Course X) (t : Transaction)
    → Only may (AllocatorsMay may) course → Grown setting may t (run setting words course t).transaction
unfolding run
run_grown setting may words (Gives value) t only = same_grown setting may t
run_grown setting may words (Refuses fault) t only = same_grown setting may t
run_grown setting may words (Asks read snapshot next) t only =
    let called = act_called setting t (Reads read snapshot) in
    let first = act_grown setting may t (Reads read snapshot) refl in
    let given = answer read (view setting t) in
    by_refusal (Grown setting may t) (refusal called.reply) called.transaction (run setting words (next given) called.transaction) first
    (twice_grown setting may t called.transaction _ first (run_grown setting may words (next given) called.transaction (only given)))
run_grown setting may words (Does mutation next) t only =
    let called = act_called setting t (Writes mutation) in
    let first = act_grown setting may t (Writes mutation) only.0 in
    by_refusal (Grown setting may t) (refusal called.reply) called.transaction (run setting words next called.transaction) first
    (twice_grown setting may t called.transaction _ first (run_grown setting may words next called.transaction only.1))
run_grown setting may words (Allocates space next) t only =
    let made = allocated setting t space words in
    let first = allocated_grown setting may t space words only.0 in
    by_ending (Grown setting may t) made.ending made
    (λ number. run setting (λ place. words (made.words + place)) (next number) made.transaction) first
    (λ number. twice_grown setting may t made.transaction _ first
    (run_grown setting may (λ place. words (made.words + place)) (next number) made.transaction (only.1 number)))

-- where it came to its end
pub goes_grown : {X : Type 0} (setting : Setting) (may : Mutation → Bool) (course : Course X) (t : Transaction) (value : X)
    (after : Transaction)
    → Only may (AllocatorsMay may) course → Goes setting course t value after → Grown setting may t after
goes_grown setting may (Gives given) t value after only (is, left) = rw (sym left) (same_grown setting may t)
goes_grown setting may (Refuses fault) t value after only goes = absurd goes
goes_grown setting may (Asks read snapshot next) t value after only (passed, goes) =
    let called = act_called setting t (Reads read snapshot) in
    let given = answer read (view setting t) in
    twice_grown setting may t called.transaction after (act_grown setting may t (Reads read snapshot) refl)
    (goes_grown setting may (next given) called.transaction value after (only given) goes)
goes_grown setting may (Does mutation next) t value after only (passed, goes) =
    let called = act_called setting t (Writes mutation) in
    twice_grown setting may t called.transaction after (act_grown setting may t (Writes mutation) only.0)
    (goes_grown setting may next called.transaction value after only.1 goes)
goes_grown setting may (Allocates space next) t value after only (words, number, goes) =
    let made = allocated setting t space words in
    twice_grown setting may t made.transaction after (allocated_grown setting may t space words only.0)
    (goes_grown setting may (next number) made.transaction value after (only.1 number) goes)
