-- What one read and one write of a transaction of the code do.
use Rattle.std.specs.Prelude.{◌≡◌, ◌⊎◌, ℕ, Bool, true, false, ◌||◌, List, [], ◌∷◌, Option, Some, None, Result, Ok, Err, max, min, nat_lt, unwrap_or}
use Rattle.key_bytes.specs.declared.range.KeyRange.{KeyRange}
use Rattle.model_database.specs.declared.AtomicOp.{AtomicOp}
use Rattle.model_database.specs.declared.TheConstants.{ACCESSED_UNREADABLE, EXACT_MODE_WITHOUT_LIMITS, FUTURE_VERSION, KEY_OUTSIDE_LEGAL_RANGE, TRANSACTION_TOO_OLD}
use Rattle.model_database.specs.Databases.{Database, Mutation, Atomic}
use Rattle.model_database.specs.States.{covers, seen, unreadable}
use Rattle.model_database.specs.Intervals.{any_meet, decided, without}
use Rattle.model_database.specs.Histories.{Setting}
use Rattle.model_database.specs.Reads.{Read, Answer}
use Rattle.model_database.specs.Transactions.{Transaction, first_failing, after_phase, with_mutation}
use Rattle.fdb_calls.specs.declared.fault.TrFault.{TrFault}
use Rattle.fdb_calls.specs.declared.fault.TrFault.TheVariants as fault
use Rattle.fdb_calls.specs.Answers.{Answered}
use Rattle.fdb_calls.specs.declared.Reply.{Reply}
use Rattle.fdb_calls.specs.Calling.{Called, reply_of, read_called}
use Rattle.version_store.specs.Versions.{Versions, last_of, oldest_of}
use Rattle.version_store.specs.Versions as versions
use Rattle.txn_parts.specs.ReadRanges.{ranges_of}
use Rattle.txn_calls.specs.Stands.{Kept, StandsFor}

-- it stands for each transaction that it stood for
abbrev pub StandsOn : Kept → Kept → Type 0
StandsOn old new = (t : Transaction) → StandsFor old t → StandsFor new t

-- it stands for each transaction that it stood for, with the mutation
abbrev pub StandsWritten : Kept → Kept → Mutation → Type 0
StandsWritten old new mutation = (t : Transaction) → StandsFor old t → StandsFor new (with_mutation t mutation)

-- the version of its reads: the one that was taken, or else the last one
abbrev pub version_of : Kept → Versions → ℕ
version_of kept store = unwrap_or kept.version (last_of store)

-- what it sees of a store; a version above the last one has the last map, and one below the oldest the oldest map
abbrev pub seen_by : Kept → Versions → Database
seen_by kept store = seen kept.mutations (versions.at store (max (oldest_of store) (min (version_of kept store) (last_of store))))

-- A write is accepted where no check fails, this being the code of the first that does; one that is refused, or finds no
-- memory, leaves all as it was.
abbrev pub Writes : {A : Type 0} → Result A TrFault → Kept → Kept → Option ℕ → Mutation → Type 0
Writes (Ok _) old new code mutation = (code ≡ None) × StandsWritten old new mutation
Writes (Err (fault.Code refused)) old new code mutation = (code ≡ Some refused.0) × StandsOn old new
Writes (Err fault.NoMemory) old new code mutation = StandsOn old new

-- it is refused by this code, and all is as it was
abbrev pub IsRefusedBy : {A : Type 0} → Result A TrFault → Kept → Kept → Option ℕ → Type 0
IsRefusedBy (Ok _) old new code = ⊥
IsRefusedBy (Err (fault.Code refused)) old new code = (code ≡ Some refused.0) × StandsOn old new
IsRefusedBy (Err fault.NoMemory) old new code = StandsOn old new

-- its version is below the oldest one of a store
abbrev pub is_behind_of : Kept → Versions → Bool
is_behind_of kept store = nat_lt (version_of kept store) (oldest_of store)

-- its version is above the last one of a store
abbrev pub is_ahead_of : Kept → Versions → Bool
is_ahead_of kept store = nat_lt (last_of store) (version_of kept store)

-- it has taken its version, and its read conflict ranges have the keys of these ranges too but for those that its mutations decide
pub record HasRested (old new : Kept) (version : ℕ) (ranges : List KeyRange) : Type 0 where
  pub rest : new ≡ record old { version = Some version; read_ranges = new.read_ranges }
  pub ranges_are : (key : List ℕ) → covers new.read_ranges key ≡ (covers old.read_ranges key || covers (without (decided old.mutations) ranges) key)

-- A read that is let through adds its interval to the read conflict ranges; one that is refused, since a key of the interval is
-- unreadable, has its version taken; after want of memory the read conflict ranges have the same keys as before.
abbrev pub Rests : {A : Type 0} → Result A TrFault → (old new : Kept) → Versions → (snapshot : Bool) → List KeyRange → Type 0
Rests (Ok _) old new store snapshot interval =
    (any_meet interval (unreadable old.mutations) ≡ false) × HasRested old new (version_of old store) (ranges_of snapshot interval)
Rests (Err (fault.Code code)) old new store snapshot interval =
    (code.0 ≡ ACCESSED_UNREADABLE) × (any_meet interval (unreadable old.mutations) ≡ true) × HasRested old new (version_of old store) []
Rests (Err fault.NoMemory) old new store snapshot interval =
    (new ≡ record old { read_ranges = new.read_ranges }) × ((key : List ℕ) → covers new.read_ranges key ≡ covers old.read_ranges key)

-- A read, which answers a value of this form: for each transaction that it stands for, it is answered as the definitions say.
abbrev pub Reads : {A : Type 0} → (A → Answer) → Result A TrFault → Kept → Kept → Setting → (lacks snapshot : Bool) → Read → Type 0
Reads shown result old new setting lacks snapshot read =
    (t : Transaction) → StandsFor old t
    → Answered (λ value. reply_of (shown value)) result (StandsFor new) t (read_called setting t lacks snapshot read)

-- An atomic operation by its name: where the name is known, a write of it; else it is refused.
abbrev pub WritesNamed : {A : Type 0} → Result A TrFault → Kept → Kept → Option ℕ → Option AtomicOp → (key operand : List ℕ) → Type 0
WritesNamed result old new code None key operand = IsRefusedBy result old new code
WritesNamed result old new code (Some op) key operand = Writes result old new code (Atomic op key operand)

-- the code of the first check of a read that fails before its version is taken, by whether one of its keys is outside, and
-- whether it lacks a limit that its mode wants
abbrev pub early_code : Kept → (outside lacks : Bool) → Option ℕ
early_code kept outside lacks = first_failing (after_phase kept.phase
    ((outside, KEY_OUTSIDE_LEGAL_RANGE) ∷ (lacks, EXACT_MODE_WITHOUT_LIMITS) ∷ []))

-- the code of a version that can't be read, where there is one
abbrev pub version_code : Kept → Versions → Option ℕ
version_code kept store = first_failing ((is_behind_of kept store, TRANSACTION_TOO_OLD) ∷ (is_ahead_of kept store, FUTURE_VERSION) ∷ [])

-- A read is let through to its answer: no earlier check refuses it, and its version can be read. It is refused by an earlier
-- check, and all is as before; or since its version can't be read, and has it taken.
abbrev pub Admits : {A : Type 0} → Result A TrFault → (old new : Kept) → Versions → (outside lacks : Bool) → Type 0
Admits (Ok _) old new store outside lacks =
    (early_code old outside lacks ≡ None) × (version_code old store ≡ None) × (new ≡ old)
Admits (Err (fault.Code code)) old new store outside lacks =
    ((early_code old outside lacks ≡ Some code.0) × (new ≡ old))
    ⊎ ((early_code old outside lacks ≡ None) × (version_code old store ≡ Some code.0)
    × (new ≡ record old { version = Some (version_of old store) }))
Admits (Err fault.NoMemory) old new store outside lacks = ⊥

-- A call that is no read and no commit is answered as the definitions say, for each transaction that it stands for.
abbrev pub Calls : {A : Type 0} → (A → Reply) → Result A TrFault → Kept → Kept → (Transaction → Called) → Type 0
Calls replied result old new called = (t : Transaction) → StandsFor old t → Answered replied result (StandsFor new) t (called t)
