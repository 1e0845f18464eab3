-- What a list of mutations says of one key, whatever the map before it, and what a versionstamp fills in.
use Rattle.std.specs.Prelude.{ℕ, ◌+◌, ◌-◌, Bool, true, false, not, ◌&&◌, if◌then◌else◌, List, [], ◌∷◌, ◌++◌, length, map, take, drop, replicate, flat_map, nat_le, Option, Some, None, bytes_eq}
use Rattle.std.specs.List.{list_any}
use Rattle.std.specs.FinMap as finite
use Rattle.key_bytes.specs.declared.range.KeyRange.{KeyRange}
use Rattle.key_bytes.specs.Keys.{within, after}
use Rattle.model_database.specs.declared.AtomicOp.{AtomicOp}
use Rattle.model_database.specs.declared.AtomicOp.TheVariants as atomic
use Rattle.key_bytes.specs.Numbers.{number_low}
use Rattle.model_database.specs.declared.StampForm.{StampForm}
use Rattle.model_database.specs.declared.StampForm.TheVariants as form
use Rattle.model_database.specs.Atomics.{atom, is_versionstamped, offset_size}
use Rattle.model_database.specs.Databases.{Database, Mutation, Set, Clear, ClearRange, Atomic, do_all}

-- ---- sets of keys

-- a list of ranges is read by which keys it has
abbrev pub covers : List KeyRange → List ℕ → Bool
covers ranges key = list_any (λ range. within range.begin range.end key) ranges

abbrev pub range_from : List ℕ → List ℕ → KeyRange
range_from begin end = record { begin = begin; end = end }

-- ---- the state of a key

-- the key that a mutation is of, or the keys
abbrev pub touches : Mutation → List ℕ → Bool
touches (Set key value) asked = bytes_eq asked key
touches (Clear key) asked = bytes_eq asked key
touches (ClearRange begin end) asked = within begin end asked
touches (Atomic op key operand) asked = bytes_eq asked key

pub data KeyState : Type 0 where
  -- the key has what it had before
  Unmodified : KeyState
  -- the key has this value, or none, whatever it had before
  Decided : (value : Option (List ℕ)) → KeyState
  -- the key has what these atomic operations, each with its operand, make of what it had before, in their order
  Depends : (mutations : List (AtomicOp × List ℕ)) → KeyState

-- an atomic operation on a key in a state
abbrev pub after_atomic : AtomicOp → List ℕ → KeyState → KeyState
after_atomic op operand Unmodified = Depends ((op, operand) ∷ [])
after_atomic op operand (Decided old) = Decided (atom op old operand)
after_atomic op operand (Depends mutations) = Depends (mutations ++ (op, operand) ∷ [])

-- a mutation on a key in a state; one with a versionstamp is left out
abbrev pub state_after : Mutation → List ℕ → KeyState → KeyState
state_after (Set key value) asked state = if bytes_eq asked key then Decided (Some value) else state
state_after (Clear key) asked state = if bytes_eq asked key then Decided None else state
state_after (ClearRange begin end) asked state = if within begin end asked then Decided None else state
state_after (Atomic op key operand) asked state =
    if bytes_eq asked key && not (is_versionstamped op) then after_atomic op operand state else state

-- mutations on a key in a state, in their order
abbrev pub states_after : List Mutation → List ℕ → KeyState → KeyState
states_after [] asked state = state
states_after (mutation ∷ mutations) asked state = states_after mutations asked (state_after mutation asked state)

-- the state of a key under mutations
abbrev pub state_under : List Mutation → List ℕ → KeyState
state_under mutations asked = states_after mutations asked Unmodified

abbrev pub is_unmodified : KeyState → Bool
is_unmodified Unmodified = true
is_unmodified (Decided value) = false
is_unmodified (Depends mutations) = false

-- what atomic operations make of a value, in their order
abbrev pub all_atoms : List (AtomicOp × List ℕ) → Option (List ℕ) → Option (List ℕ)
all_atoms [] old = old
all_atoms (mutation ∷ mutations) old = all_atoms mutations (atom mutation.0 old mutation.1)

-- what a key in a state has, of what it had before
abbrev pub value_in : KeyState → Option (List ℕ) → Option (List ℕ)
value_in Unmodified old = old
value_in (Decided value) old = value
value_in (Depends mutations) old = all_atoms mutations old

-- ---- versionstamps (API reference, "fdb_transaction_atomic_op")

-- the stamped bytes end in an offset, the lowest byte first, of as many bytes as their form has; the template is what stands
-- before. The old stamped value has no offset: the template is the whole operand, and the place is 0
abbrev pub template : StampForm → List ℕ → List ℕ
template form bytes = take (length bytes - offset_size form) bytes

abbrev pub stamp_place : StampForm → List ℕ → ℕ
stamp_place form bytes = number_low (drop (length bytes - offset_size form) bytes)

-- the stamped bytes have all bytes of the offset, and the ten bytes at the place lie within the template
abbrev pub has_room : StampForm → List ℕ → Bool
has_room form bytes =
    nat_le (offset_size form) (length bytes) && nat_le (stamp_place form bytes + 10) (length (template form bytes))

-- the stamped bytes of an operation with a versionstamp: its key, or its operand
abbrev pub stamped_bytes : AtomicOp → List ℕ → List ℕ → List ℕ
stamped_bytes atomic.SetVersionstampedKey key operand = key
stamped_bytes atomic.OldStampedKey key operand = key
stamped_bytes op key operand = operand

-- the template with the ten bytes at its place replaced by a stamp
unfoldable pub stamped : StampForm → List ℕ → List ℕ → List ℕ
stamped form stamp bytes =
    take (stamp_place form bytes) (template form bytes) ++ stamp ++ drop (stamp_place form bytes + 10) (template form bytes)

-- the mutation as a commit with this stamp does it
abbrev pub filled : List ℕ → Mutation → Mutation
filled stamp (Set key value) = Set key value
filled stamp (Clear key) = Clear key
filled stamp (ClearRange begin end) = ClearRange begin end
filled stamp (Atomic atomic.SetVersionstampedKey key operand) = Set (stamped form.Last4 stamp key) operand
filled stamp (Atomic atomic.SetVersionstampedValue key operand) = Set key (stamped form.Last4 stamp operand)
filled stamp (Atomic atomic.OldStampedKey key operand) = Set (stamped form.Last2 stamp key) operand
filled stamp (Atomic atomic.OldStampedValue key operand) = Set key (stamped form.Front stamp operand)
filled stamp (Atomic op key operand) = Atomic op key operand

abbrev pub all_filled : List ℕ → List Mutation → List Mutation
all_filled stamp mutations = map (filled stamp) mutations

-- the keys from the template with ten 00 up to the template with ten FF
abbrev pub stamped_keys : StampForm → List ℕ → KeyRange
stamped_keys form key = range_from (stamped form (replicate 10 0) key) (after (stamped form (replicate 10 255) key))

-- the keys that a mutation makes unreadable until its life ends: that of a stamped value, and each that lies from the
-- template with ten 00 up to the template with ten FF, of a stamped key
abbrev pub unreadable_by : Mutation → List KeyRange
unreadable_by (Atomic atomic.SetVersionstampedKey key operand) = stamped_keys form.Last4 key ∷ []
unreadable_by (Atomic atomic.SetVersionstampedValue key operand) = range_from key (after key) ∷ []
unreadable_by (Atomic atomic.OldStampedKey key operand) = stamped_keys form.Last2 key ∷ []
unreadable_by (Atomic atomic.OldStampedValue key operand) = range_from key (after key) ∷ []
unreadable_by mutation = []

abbrev pub unreadable : List Mutation → List KeyRange
unreadable mutations = flat_map unreadable_by mutations

-- what reads see: the database after mutations, those with a versionstamp left out, without the keys that they make unreadable
unfoldable pub seen : List Mutation → Database → Database
seen mutations database = finite.retain_keys (do_all mutations database) (λ key. not (covers (unreadable mutations) key))
