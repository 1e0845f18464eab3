-- Mutations decide exactly the keys whose state under them is a value or none, whatever the map before them.
use Rattle.std.proofs.Common.{◌≡◌, ℕ, Bool, true, false, cond, List, [], ◌∷◌, ◌++◌, Option, Some, None, refl, sym, ap, ◌∙◌}
use Rattle.std.specs.Prelude.{not, ◌&&◌, ◌||◌, bytes_eq}
use Rattle.std.proofs.Math.Bool.{or-false}
use Rattle.std.proofs.lemmas.List.Concat.{flat_map-append}
use Rattle.key_bytes.specs.Keys.{within}
use Rattle.model_database.specs.declared.AtomicOp.{AtomicOp}
use Rattle.model_database.specs.Atomics.{is_versionstamped}
use Rattle.model_database.specs.Databases.{Mutation, Set, Clear, ClearRange, Atomic}
use Rattle.model_database.specs.States.{KeyState, Unmodified, Decided, Depends, after_atomic, state_after, states_after, state_under, covers}
use Rattle.model_database.specs.Intervals.{decided_by, decided}
use Rattle.model_database.proofs.States.{or_assoc, covers-append}
use Rattle.model_database.proofs.Ranges.{covers_one}

-- a key in this state has a value, or none, whatever it had before
abbrev pub is_decided : KeyState → Bool
is_decided Unmodified = false
is_decided (Decided value) = true
is_decided (Depends mutations) = false

-- ---- one mutation

decided_or : (b : Bool) (value : Option (List ℕ)) (state : KeyState) → is_decided (cond b (Decided value) state) ≡ (is_decided state || b)
decided_or b value Unmodified = by b
  where
    by : (b : Bool) → is_decided (cond b (Decided value) Unmodified) ≡ b
    by true = refl
    by false = refl
decided_or true value (Decided old) = refl
decided_or false value (Decided old) = refl
decided_or true value (Depends mutations) = refl
decided_or false value (Depends mutations) = refl

-- an atomic operation decides no key
pub decided-after_atomic : (op : AtomicOp) (operand : List ℕ) (state : KeyState)
    → is_decided (after_atomic op operand state) ≡ is_decided state
decided-after_atomic op operand Unmodified = refl
decided-after_atomic op operand (Decided value) = refl
decided-after_atomic op operand (Depends mutations) = refl

pub decided-state_after : (mutation : Mutation) (k : List ℕ) (state : KeyState)
    → is_decided (state_after mutation k state) ≡ (is_decided state || covers (decided_by mutation) k)
decided-state_after (Set key value) k state =
    decided_or (bytes_eq k key) (Some value) state ∙ ap (λ b. is_decided state || b) (sym (covers_one key k))
decided-state_after (Clear key) k state = decided_or (bytes_eq k key) None state ∙ ap (λ b. is_decided state || b) (sym (covers_one key k))
decided-state_after (ClearRange begin end) k state =
    decided_or (within begin end k) None state ∙ ap (λ b. is_decided state || b) (sym (or-false (within begin end k)))
decided-state_after (Atomic op key operand) k state = by (bytes_eq k key && not (is_versionstamped op)) ∙ sym (or-false (is_decided state))
  where
    by : (b : Bool) → is_decided (cond b (after_atomic op operand state) state) ≡ is_decided state
    by true = decided-after_atomic op operand state
    by false = refl

-- ---- many

pub decided-states_after : (mutations : List Mutation) (k : List ℕ) (state : KeyState)
    → is_decided (states_after mutations k state) ≡ (is_decided state || covers (decided mutations) k)
decided-states_after [] k state = sym (or-false (is_decided state))
decided-states_after (mutation ∷ mutations) k state =
    decided-states_after mutations k (state_after mutation k state)
    ∙ ap (λ b. b || covers (decided mutations) k) (decided-state_after mutation k state)
    ∙ sym (or_assoc (is_decided state) (covers (decided_by mutation) k) (covers (decided mutations) k))
    ∙ ap (λ b. is_decided state || b) (sym (covers-append (decided_by mutation) (decided mutations) k))

-- a key is decided where its state says so
pub decided_is : (mutations : List Mutation) (k : List ℕ) → covers (decided mutations) k ≡ is_decided (state_under mutations k)
decided_is mutations k = sym (decided-states_after mutations k Unmodified)

pub decided-append : (first second : List Mutation) → decided (first ++ second) ≡ decided first ++ decided second
decided-append first second = flat_map-append decided_by first second

pub covers-decided-append : (first second : List Mutation) (k : List ℕ)
    → covers (decided (first ++ second)) k ≡ (covers (decided first) k || covers (decided second) k)
covers-decided-append first second k =
    ap (λ list. covers list k) (decided-append first second) ∙ covers-append (decided first) (decided second) k
