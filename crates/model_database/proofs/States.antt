-- The state of a key under mutations says what they make of it.
use Rattle.std.proofs.Common.{◌≡◌, ℕ, Bool, true, false, cond, List, [], ◌∷◌, ◌++◌, Option, Some, None, refl, sym, ap, ◌∙◌}
use Rattle.std.specs.Prelude.{not, ◌&&◌, ◌||◌, bytes_eq}
use Rattle.std.specs.FinMap as finite
use Rattle.key_bytes.specs.declared.range.KeyRange.{KeyRange}
use Rattle.key_bytes.specs.Keys.{within}
use Rattle.model_database.specs.declared.AtomicOp.{AtomicOp}
use Rattle.model_database.specs.Atomics.{atom, is_versionstamped}
use Rattle.model_database.specs.Databases.{Database, Mutation, Set, Clear, ClearRange, Atomic, do_all}
use Rattle.model_database.specs.States.{KeyState, Unmodified, Decided, Depends, after_atomic, state_after, states_after, state_under, all_atoms, value_in, covers, filled, all_filled, unreadable_by, unreadable}
use Rattle.model_database.specs.KeyByKey.{at_key, at_keys}
use Rattle.model_database.proofs.KeyByKey.{get-do_all, versionstamped_same}

-- ---- what a state makes of a value

pub all_atoms-append : (mutations : List (AtomicOp × List ℕ)) (op : AtomicOp) (operand : List ℕ) (old : Option (List ℕ))
    → all_atoms (mutations ++ (op, operand) ∷ []) old ≡ atom op (all_atoms mutations old) operand
all_atoms-append [] op operand old = refl
all_atoms-append (mutation ∷ mutations) op operand old = all_atoms-append mutations op operand (atom mutation.0 old mutation.1)

pub value-after_atomic : (op : AtomicOp) (operand : List ℕ) (state : KeyState) (old : Option (List ℕ))
    → value_in (after_atomic op operand state) old ≡ atom op (value_in state old) operand
value-after_atomic op operand Unmodified old = refl
value-after_atomic op operand (Decided value) old = refl
value-after_atomic op operand (Depends mutations) old = all_atoms-append mutations op operand old

pub value-decided : (b : Bool) (value : Option (List ℕ)) (state : KeyState) (old : Option (List ℕ))
    → value_in (cond b (Decided value) state) old ≡ cond b value (value_in state old)
value-decided true value state old = refl
value-decided false value state old = refl

pub value-state_after : (mutation : Mutation) (asked : List ℕ) (state : KeyState) (old : Option (List ℕ))
    → value_in (state_after mutation asked state) old ≡ at_key mutation asked (value_in state old)
value-state_after (Set key value) asked state old = value-decided (bytes_eq asked key) (Some value) state old
value-state_after (Clear key) asked state old = value-decided (bytes_eq asked key) None state old
value-state_after (ClearRange begin end) asked state old = value-decided (within begin end asked) None state old
value-state_after (Atomic op key operand) asked state old = by_stamped (bytes_eq asked key) (is_versionstamped op) refl
  where
    by_stamped : (b stamped : Bool) → is_versionstamped op ≡ stamped
        → value_in (cond (b && not stamped) (after_atomic op operand state) state) old
        ≡ cond b (atom op (value_in state old) operand) (value_in state old)
    by_stamped true true is = sym (versionstamped_same op (value_in state old) operand is)
    by_stamped true false is = value-after_atomic op operand state old
    by_stamped false stamped is = refl

pub value-states_after : (mutations : List Mutation) (asked : List ℕ) (state : KeyState) (old : Option (List ℕ))
    → value_in (states_after mutations asked state) old ≡ at_keys mutations asked (value_in state old)
value-states_after [] asked state old = refl
value-states_after (mutation ∷ mutations) asked state old =
    value-states_after mutations asked (state_after mutation asked state) old
    ∙ ap (at_keys mutations asked) (value-state_after mutation asked state old)

-- a map after mutations has at a key what the state of the key makes of its value there
pub get-under : (mutations : List Mutation) (database : Database) (q : List ℕ)
    → finite.get (do_all mutations database) q ≡ value_in (state_under mutations q) (finite.get database q)
get-under mutations database q =
    get-do_all mutations database q ∙ sym (value-states_after mutations q Unmodified (finite.get database q))

-- ---- one mutation more

pub states_after-append : (first second : List Mutation) (asked : List ℕ) (state : KeyState)
    → states_after (first ++ second) asked state ≡ states_after second asked (states_after first asked state)
states_after-append [] second asked state = refl
states_after-append (mutation ∷ first) second asked state = states_after-append first second asked (state_after mutation asked state)

pub filled-append : (stamp : List ℕ) (first second : List Mutation)
    → all_filled stamp (first ++ second) ≡ all_filled stamp first ++ all_filled stamp second
filled-append stamp [] second = refl
filled-append stamp (mutation ∷ first) second = ap (λ list. filled stamp mutation ∷ list) (filled-append stamp first second)

pub or_assoc : (a b c : Bool) → (a || (b || c)) ≡ ((a || b) || c)
or_assoc true b c = refl
or_assoc false b c = refl

pub covers-append : (first second : List KeyRange) (key : List ℕ) → covers (first ++ second) key ≡ (covers first key || covers second key)
covers-append [] second key = refl
covers-append (range ∷ first) second key =
    ap (λ b. within range.begin range.end key || b) (covers-append first second key)
    ∙ or_assoc (within range.begin range.end key) (covers first key) (covers second key)

pub covers-unreadable-append : (first second : List Mutation) (key : List ℕ)
    → covers (unreadable (first ++ second)) key ≡ (covers (unreadable first) key || covers (unreadable second) key)
covers-unreadable-append [] second key = refl
covers-unreadable-append (mutation ∷ first) second key =
    covers-append (unreadable_by mutation) (unreadable (first ++ second)) key
    ∙ ap (λ b. covers (unreadable_by mutation) key || b) (covers-unreadable-append first second key)
    ∙ or_assoc (covers (unreadable_by mutation) key) (covers (unreadable first) key) (covers (unreadable second) key)
    ∙ ap (λ b. b || covers (unreadable second) key) (sym (covers-append (unreadable_by mutation) (unreadable first) key))
