-- The calls of a layer: each makes no commit, draws no life, and leaves the transaction's life and phase.
use Rattle.std.proofs.Common.{◌≡◌, ℕ, Bool, true, false, List, [], Option, Some, None, refl, ap, ◌∙◌}
use Rattle.key_bytes.specs.Keys.{after}
use Rattle.key_bytes.specs.declared.range.KeyRange.{KeyRange}
use Rattle.model_database.specs.Intervals.{one}
use Rattle.model_database.specs.declared.Api.{Api}
use Rattle.model_database.specs.declared.AtomicOp.{AtomicOp}
use Rattle.model_database.specs.declared.options.RangeOptions.{RangeOptions}
use Rattle.model_database.specs.declared.mode.Mode.TheVariants.{WantAll}
use Rattle.model_database.specs.Atomics.{atomic_named}
use Rattle.model_database.specs.Databases.{Mutation, Set, Clear, ClearRange, Atomic}
use Rattle.model_database.specs.Modes.{lacks_limit}
use Rattle.model_database.specs.Histories.{Setting}
use Rattle.model_database.specs.Reads.{Read}
use Rattle.model_database.specs.Reads as read
use Rattle.model_database.specs.Transactions.{Transaction, first_failing, late_checks, read_code, with_version, op_code, atomic_code, set_code, clear_code, range_code, phase_code, with_write_conflict_disabled, with_write_range}
use Rattle.model_allocator.specs.Acts.{refusal}
use Rattle.fdb_calls.specs.declared.Reply.{Reply}
use Rattle.fdb_calls.specs.declared.Reply.TheVariants as reply
use Rattle.fdb_calls.specs.declared.TxnCall.{TxnCall}
use Rattle.fdb_calls.specs.declared.TxnCall.TheVariants as call
use Rattle.fdb_calls.specs.Calling.{Called, called, read_by, read_at_version, read_called, write_by, atomic_by, does_by, atomic_called, named_atomic_called, set_called, clear_called, clear_range_called, no_write_conflict_called, write_conflict_called}

pub record IsPlain (t : Transaction) (called : Called) : Type 0 where
  pub commits : called.commits ≡ []
  pub lives : called.lives ≡ 0
  pub life : called.transaction.life ≡ t.life
  pub phase : called.transaction.phase ≡ t.phase

abbrev pub all_plain : {t : Transaction} {called : Called} → called.commits ≡ [] → called.lives ≡ 0
    → called.transaction.life ≡ t.life → called.transaction.phase ≡ t.phase → IsPlain t called
all_plain commits lives life phase = record { commits = commits; lives = lives; life = life; phase = phase }

at_version_plain : (code : Option ℕ) (setting : Setting) (t : Transaction) (snapshot : Bool) (read : Read)
    → IsPlain t (read_at_version code setting (with_version setting t) snapshot read)
at_version_plain (Some code) setting t snapshot read = all_plain refl refl refl refl
at_version_plain None setting t true read = all_plain refl refl refl refl
at_version_plain None setting t false read = all_plain refl refl refl refl

read_by_plain : (code : Option ℕ) (setting : Setting) (t : Transaction) (snapshot : Bool) (read : Read)
    → IsPlain t (read_by code setting t snapshot read)
read_by_plain (Some code) setting t snapshot read = all_plain refl refl refl refl
read_by_plain None setting t snapshot read =
    at_version_plain (first_failing (late_checks setting (with_version setting t) read)) setting t snapshot read

pub read_plain : (setting : Setting) (t : Transaction) (lacks snapshot : Bool) (read : Read) → IsPlain t (read_called setting t lacks snapshot read)
read_plain setting t lacks snapshot read = read_by_plain (read_code t.phase lacks read) setting t snapshot read

pub write_plain : (code : Option ℕ) (t : Transaction) (mutation : Mutation) → IsPlain t (write_by code t mutation)
write_plain (Some code) t mutation = all_plain refl refl refl refl
write_plain None t mutation = all_plain refl refl refl refl

pub does_plain : (code : Option ℕ) (t after : Transaction) (given : Reply) → after.life ≡ t.life → after.phase ≡ t.phase
    → IsPlain t (does_by code t after given)
does_plain (Some code) t after given life phase = all_plain refl refl refl refl
does_plain None t after given life phase = all_plain refl refl life phase

-- an operation by a name of its own is that operation
pub named_is : (api : Api) (t : Transaction) (op : AtomicOp) (name key operand : List ℕ) → atomic_named api name ≡ Some op
    → named_atomic_called api t name key operand ≡ atomic_called t op key operand
unfolding atomic_code op_code
named_is api t op name key operand is = rw is refl

-- ---- replies of those that are let through

abbrev pub IsLetThrough : Called → Type 0
IsLetThrough called = refusal called.reply ≡ None

pub write_done : (code : Option ℕ) (t : Transaction) (mutation : Mutation) → IsLetThrough (write_by code t mutation)
    → reply.Done ≡ (write_by code t mutation).reply
write_done (Some code) t mutation through = absurd cc
write_done None t mutation through = refl

pub does_done : (code : Option ℕ) (t after : Transaction) → IsLetThrough (does_by code t after reply.Done)
    → reply.Done ≡ (does_by code t after reply.Done).reply
does_done (Some code) t after through = absurd cc
does_done None t after through = refl

-- ---- each call as the trait names it

pub get_is : (setting : Setting) (t : Transaction) (key given : List ℕ) (snapshot : Bool) → given ≡ key → (life : ℕ)
    → called setting life t (call.Get given snapshot) ≡ read_called setting t false snapshot (read.Get key)
unfolding called
get_is setting t key given snapshot is life = ap (λ (k : List ℕ). read_called setting t false snapshot (read.Get k)) is

pub range_is : (setting : Setting) (t : Transaction) (begin end begin_given end_given : List ℕ) (limit : ℕ) (reverse snapshot : Bool)
    → begin_given ≡ begin → end_given ≡ end → (life : ℕ)
    → called setting life t
    (call.GetKeyRange (record { begin = begin_given; end = end_given }) (record { limit = limit; reverse = reverse; mode = WantAll }) snapshot)
    ≡ read_called setting t false snapshot (read.GetKeyRange begin end limit reverse)
unfolding called
range_is setting t begin end begin_given end_given limit reverse snapshot first last life =
    λ i. read_called setting t false snapshot (read.GetKeyRange (first i) (last i) limit reverse)

pub set_is : (setting : Setting) (t : Transaction) (key value key_given value_given : List ℕ) → key_given ≡ key → value_given ≡ value
    → (life : ℕ) → called setting life t (call.Set key_given value_given) ≡ set_called t key value
unfolding called
set_is setting t key value key_given value_given first second life = λ i. set_called t (first i) (second i)

pub clear_is : (setting : Setting) (t : Transaction) (key given : List ℕ) → given ≡ key → (life : ℕ)
    → called setting life t (call.Clear given) ≡ clear_called t key
unfolding called
clear_is setting t key given is life = ap (clear_called t) is

pub clear_range_is : (setting : Setting) (t : Transaction) (begin end begin_given end_given : List ℕ) → begin_given ≡ begin → end_given ≡ end
    → (life : ℕ) → called setting life t (call.ClearRange (record { begin = begin_given; end = end_given })) ≡ clear_range_called t begin end
unfolding called
clear_range_is setting t begin end begin_given end_given first last life = λ i. clear_range_called t (first i) (last i)

pub atomic_is : (setting : Setting) (t : Transaction) (op : AtomicOp) (name key operand key_given operand_given : List ℕ)
    → atomic_named setting.options.api name ≡ Some op → key_given ≡ key → operand_given ≡ operand → (life : ℕ)
    → called setting life t (call.Atomic name key_given operand_given) ≡ atomic_called t op key operand
unfolding called
atomic_is setting t op name key operand key_given operand_given is first second life =
    named_is setting.options.api t op name key_given operand_given is ∙ (λ i. atomic_called t op (first i) (second i))

pub no_write_conflict_is : (setting : Setting) (t : Transaction) (life : ℕ)
    → called setting life t call.NoWriteConflict ≡ no_write_conflict_called t
unfolding called
no_write_conflict_is setting t life = refl

pub write_conflict_is : (setting : Setting) (t : Transaction) (key : List ℕ) (range : KeyRange) → range.begin ≡ key → range.end ≡ after key
    → (life : ℕ) → called setting life t (call.WriteConflict range) ≡ write_conflict_called t (one key)
unfolding called
write_conflict_is setting t key range first last life =
    λ i. write_conflict_called t (record { begin = first i; end = last i })

-- ---- each of them is plain

abbrev pub IsPlainCall : TxnCall → Type 0
IsPlainCall call = (setting : Setting) (life : ℕ) (t : Transaction) → IsPlain t (called setting life t call)

pub get_plain : (key : List ℕ) (snapshot : Bool) → IsPlainCall (call.Get key snapshot)
unfolding called
get_plain key snapshot setting life t = read_plain setting t false snapshot (read.Get key)

pub range_plain : (range : KeyRange) (options : RangeOptions) (snapshot : Bool) → IsPlainCall (call.GetKeyRange range options snapshot)
unfolding called
range_plain range options snapshot setting life t =
    read_plain setting t (lacks_limit options.mode options.limit) snapshot (read.GetKeyRange range.begin range.end options.limit options.reverse)

pub set_plain : (key value : List ℕ) → IsPlainCall (call.Set key value)
unfolding called
set_plain key value setting life t = write_plain (set_code t.phase key value) t (Set key value)

pub clear_plain : (key : List ℕ) → IsPlainCall (call.Clear key)
unfolding called
clear_plain key setting life t = write_plain (clear_code t.phase key) t (Clear key)

pub clear_range_plain : (range : KeyRange) → IsPlainCall (call.ClearRange range)
unfolding called
clear_range_plain range setting life t = write_plain (range_code t.phase range.begin range.end) t (ClearRange range.begin range.end)

atomic_by_plain : (code : Option ℕ) (op : Option AtomicOp) (t : Transaction) (key operand : List ℕ) → IsPlain t (atomic_by code op t key operand)
atomic_by_plain code None t key operand = all_plain refl refl refl refl
atomic_by_plain code (Some op) t key operand = write_plain code t (Atomic op key operand)

pub atomic_plain : (name key operand : List ℕ) → IsPlainCall (call.Atomic name key operand)
unfolding called
atomic_plain name key operand setting life t =
    atomic_by_plain (atomic_code setting.options.api t.phase name key operand) (atomic_named setting.options.api name) t key operand

pub no_write_conflict_plain : IsPlainCall call.NoWriteConflict
unfolding called
no_write_conflict_plain setting life t = does_plain (phase_code t.phase) t (with_write_conflict_disabled t) _ refl refl

pub write_conflict_plain : (range : KeyRange) → IsPlainCall (call.WriteConflict range)
unfolding called
write_conflict_plain range setting life t = does_plain (range_code t.phase range.begin range.end) t (with_write_range t range) _ refl refl
