-- The single steps: a read, a write, and a call of the allocator, from what the transaction or the allocator answered.
use Rattle.std.proofs.Common.{◌≡◌, ℕ, Bool, List, Option, Some, None, Result, Ok, Err, refl, sym, ap, subst, ◌∙◌, inl, arith}
use Rattle.std.specs.FinMap as finite
use Rattle.model_database.specs.Databases.{Mutation}
use Rattle.model_database.specs.Histories.{Setting}
use Rattle.model_database.specs.Reads.{Get, GetKeyRange, answer}
use Rattle.model_database.specs.Slices.{Entries, slice}
use Rattle.model_database.specs.Transactions.{Transaction, view}
use Rattle.model_database.specs.declared.Code.{Code}
use Rattle.fdb_calls.specs.declared.Reply.TheVariants as reply
use Rattle.fdb_calls.specs.declared.fault.TrFault.{TrFault}
use Rattle.fdb_calls.specs.declared.fault.TrFault.TheVariants as tr
use Rattle.fdb_calls.specs.Answers.{Answered}
use Rattle.model_allocator.specs.Acts.{Reads, Writes, act_called, refusal}
use Rattle.model_allocator.specs.Granting.{Ending, Grants, IsFull, IsNoCounter, IsRefused, Allocated, allocated}
use Rattle.model_allocator.proofs.Reading.{value_read, pairs_read}
use Rattle.prefix_allocator.specs.Allocates.{IsAllocated, Leaves}
use Rattle.prefix_allocator.specs.declared.fault.AllocFault.{AllocFault}
use Rattle.prefix_allocator.specs.declared.fault.AllocFault.TheVariants as allocator
use Rattle.directory_types.specs.declared.fault.DirFault.{DirFault}
use Rattle.directory_types.specs.declared.fault.DirFault.TheVariants as fault
use Rattle.model_directory.specs.Courses.{Gives, Allocates, done, Reached, reached_by, granted_by, run, value_of, pairs_of, does}
use Rattle.directory_nodes.specs.Faults.{from_tr, from_allocator}
use Rattle.directory_nodes.specs.Runs.{EndsAt, RunsTo}

no_words : (words : ℕ → ℕ) → Leaves words words 0
no_words words place = ap words (omega arith)

-- a step that was let through, where the value that is given is the one that was answered
let_through : {X : Type 0} (refused : Option Code) (t : Transaction) (given value : X) (stands : Transaction → Type 0) (words : ℕ → ℕ)
    → refused ≡ None → given ≡ value → stands t
    → EndsAt (Ok value) stands words words (reached_by refused t (record { transaction = t; words = 0; end = Ok given }))
let_through refused t given value stands words passed same is =
    rw (passed, same) (refl, is, no_words words)

-- one that was refused
refused_with : {X : Type 0} (refused : Option Code) (code : Code) (t : Transaction) (others : Reached X) (stands : Transaction → Type 0) (words : ℕ → ℕ)
    → refused ≡ Some code → stands t → EndsAt (Err (fault.Tr code)) stands words words (reached_by refused t others)
refused_with refused code t others stands words is after = rw is (refl, after, no_words words)

-- a value that is read
pub value_ran : (result : Result (Option (List ℕ)) TrFault) (setting : Setting) (stands : Transaction → Type 0) (words : ℕ → ℕ) (snapshot : Bool)
    (key : List ℕ) (t : Transaction) → Answered reply.Value result stands t (act_called setting t (Reads (Get key) snapshot))
    → RunsTo (from_tr result) setting stands words words (value_of snapshot key) t
unfolding run answer value_of
value_ran (Ok value) setting stands words snapshot key t (is, after) =
    let called = act_called setting t (Reads (Get key) snapshot) in
    let_through (refusal called.reply) called.transaction (finite.get (view setting t) key) value stands words (sym (ap refusal is))
    (sym (value_read setting t snapshot key value is)) after
value_ran (Err (tr.Code code)) setting stands words snapshot key t (is, after) =
    let called = act_called setting t (Reads (Get key) snapshot) in
    refused_with (refusal called.reply) code called.transaction _ stands words (sym (ap refusal is)) after
value_ran (Err tr.NoMemory) setting stands words snapshot key t is = inl is

-- the pairs of a range
pub pairs_ran : (result : Result Entries TrFault) (setting : Setting) (stands : Transaction → Type 0) (words : ℕ → ℕ) (snapshot backward : Bool)
    (begin end : List ℕ) (limit : ℕ) (t : Transaction)
    → Answered reply.PairsAre result stands t (act_called setting t (Reads (GetKeyRange begin end limit backward) snapshot))
    → RunsTo (from_tr result) setting stands words words (pairs_of snapshot begin end limit backward) t
unfolding run answer pairs_of
pairs_ran (Ok pairs) setting stands words snapshot backward begin end limit t (is, after) =
    let called = act_called setting t (Reads (GetKeyRange begin end limit backward) snapshot) in
    let_through (refusal called.reply) called.transaction (slice (view setting t) begin end limit backward) pairs stands words (sym (ap refusal is))
    (sym (pairs_read setting t snapshot backward begin end limit pairs is)) after
pairs_ran (Err (tr.Code code)) setting stands words snapshot backward begin end limit t (is, after) =
    let called = act_called setting t (Reads (GetKeyRange begin end limit backward) snapshot) in
    refused_with (refusal called.reply) code called.transaction _ stands words (sym (ap refusal is)) after
pairs_ran (Err tr.NoMemory) setting stands words snapshot backward begin end limit t is = inl is

-- a write
pub write_ran : (result : Result (Unit {0}) TrFault) (setting : Setting) (stands : Transaction → Type 0) (words : ℕ → ℕ) (mutation : Mutation)
    (t : Transaction) → Answered (λ (done : Unit {0}). reply.Done) result stands t (act_called setting t (Writes mutation))
    → RunsTo (from_tr result) setting stands words words (does mutation) t
unfolding run does
write_ran (Ok value) setting stands words mutation t (is, after) =
    let called = act_called setting t (Writes mutation) in
    let_through (refusal called.reply) called.transaction done value stands words (sym (ap refusal is)) refl after
write_ran (Err (tr.Code code)) setting stands words mutation t (is, after) =
    let called = act_called setting t (Writes mutation) in
    refused_with (refusal called.reply) code called.transaction _ stands words (sym (ap refusal is)) after
write_ran (Err tr.NoMemory) setting stands words mutation t is = inl is

-- a call of the allocator, by how it ended
ended_so : (ending : Ending) (made : Allocated) (setting : Setting) (stands : Transaction → Type 0) (words left : ℕ → ℕ) (end : Result ℕ DirFault)
    → made.ending ≡ ending
    → EndsAt end stands words left (granted_by ending made (λ number. record { transaction = made.transaction; words = 0; end = Ok number }))
    → EndsAt end stands words left (granted_by made.ending made (λ number. record { transaction = made.transaction; words = 0; end = Ok number }))
ended_so ending made setting stands words left end is ended =
    subst (λ ending. EndsAt end stands words left (granted_by ending made (λ number. record { transaction = made.transaction; words = 0; end = Ok number })))
    (sym is) ended

pub grant_ran : (result : Result ℕ AllocFault) (setting : Setting) (stands : Transaction → Type 0) (words left : ℕ → ℕ) (space : List ℕ) (t : Transaction)
    → IsAllocated result setting stands words left space t
    → RunsTo (from_allocator result) setting stands words left (Allocates space (λ number. Gives number)) t
unfolding run
grant_ran (Ok number) setting stands words left space t (is, after, are) =
    let made = allocated setting t space words in
    ended_so (Grants number) made setting stands words left (Ok number) is (refl, after, λ place. are place ∙ ap words (omega arith))
grant_ran (Err (allocator.WindowFull start)) setting stands words left space t (is, after, are) =
    ended_so (IsFull start) (allocated setting t space words) setting stands words left (Err (fault.WindowFull start)) is (refl, after, are)
grant_ran (Err (allocator.BadCounter key)) setting stands words left space t (is, after, are) =
    ended_so (IsNoCounter key) (allocated setting t space words) setting stands words left (Err (fault.BadCounter key)) is (refl, after, are)
grant_ran (Err (allocator.Tr code)) setting stands words left space t (is, after, are) =
    ended_so (IsRefused code) (allocated setting t space words) setting stands words left (Err (fault.Tr code)) is (refl, after, are)
grant_ran (Err allocator.NoMemory) setting stands words left space t stops = inl stops
