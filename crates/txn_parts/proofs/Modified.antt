-- A key has another state under mutations exactly where one of them changes it.
use Rattle.std.proofs.Common.{◌≡◌, ℕ, Bool, true, false, cond, List, [], ◌∷◌, Option, Some, None, refl, sym, ap, ◌∙◌, true≢false}
use Rattle.std.specs.Prelude.{not, ◌&&◌, ◌||◌, bytes_eq}
use Rattle.std.specs.List.{All}
use Rattle.std.proofs.lemmas.Bool.{false≢true}
use Rattle.std.proofs.lemmas.List.Elements.{All-weaker}
use Rattle.key_bytes.specs.Keys.{within}
use Rattle.model_database.specs.declared.AtomicOp.{AtomicOp}
use Rattle.model_database.specs.Atomics.{is_versionstamped}
use Rattle.model_database.specs.Databases.{Mutation, Set, Clear, ClearRange, Atomic}
use Rattle.model_database.specs.States.{KeyState, Unmodified, Decided, Depends, after_atomic, state_after, states_after, state_under, is_unmodified}
use Rattle.model_database.specs.KeyByKey.{modifies, is_modified_by}

-- ---- states of changed keys

unmodified_cond : (b : Bool) (value : Option (List ℕ)) (state : KeyState) → (b && true) ≡ true
    → is_unmodified (cond b (Decided value) state) ≡ false
unmodified_cond true value state h = refl
unmodified_cond false value state h = absurd (false≢true h)

still_cond : (b : Bool) (value : Option (List ℕ)) (state : KeyState) → is_unmodified state ≡ false
    → is_unmodified (cond b (Decided value) state) ≡ false
still_cond true value state h = refl
still_cond false value state h = h

modified_atomic : (op : AtomicOp) (operand : List ℕ) (state : KeyState) → is_unmodified (after_atomic op operand state) ≡ false
modified_atomic op operand Unmodified = refl
modified_atomic op operand (Decided old) = refl
modified_atomic op operand (Depends mutations) = refl

-- a mutation that changes a key leaves it in another state
modified_once : (mutation : Mutation) (q : List ℕ) (state : KeyState) → modifies q mutation ≡ true
    → is_unmodified (state_after mutation q state) ≡ false
modified_once (Set key value) q state h = unmodified_cond (bytes_eq q key) (Some value) state h
modified_once (Clear key) q state h = unmodified_cond (bytes_eq q key) None state h
modified_once (ClearRange begin end) q state h = unmodified_cond (within begin end q) None state h
modified_once (Atomic op key operand) q state h = by_touched (bytes_eq q key && not (is_versionstamped op)) h
  where
    by_touched : (b : Bool) → b ≡ true → is_unmodified (cond b (after_atomic op operand state) state) ≡ false
    by_touched true h = modified_atomic op operand state
    by_touched false h = absurd (false≢true h)

-- and no mutation undoes that
modified_still : (mutation : Mutation) (q : List ℕ) (state : KeyState) → is_unmodified state ≡ false
    → is_unmodified (state_after mutation q state) ≡ false
modified_still (Set key value) q state h = still_cond (bytes_eq q key) (Some value) state h
modified_still (Clear key) q state h = still_cond (bytes_eq q key) None state h
modified_still (ClearRange begin end) q state h = still_cond (within begin end q) None state h
modified_still (Atomic op key operand) q state h = by_touched (bytes_eq q key && not (is_versionstamped op))
  where
    by_touched : (b : Bool) → is_unmodified (cond b (after_atomic op operand state) state) ≡ false
    by_touched true = modified_atomic op operand state
    by_touched false = h

modified_after : (mutations : List Mutation) (q : List ℕ) (state : KeyState) → is_unmodified state ≡ false
    → is_unmodified (states_after mutations q state) ≡ false
modified_after [] q state h = h
modified_after (mutation ∷ mutations) q state h =
    modified_after mutations q (state_after mutation q state) (modified_still mutation q state h)

modified_among : (mutations : List Mutation) (q : List ℕ) (state : KeyState) → is_modified_by mutations q ≡ true
    → is_unmodified (states_after mutations q state) ≡ false
modified_among [] q state h = absurd (false≢true h)
modified_among (mutation ∷ mutations) q state h =
    by_modifies (modifies q mutation) refl h (λ later. modified_among mutations q (state_after mutation q state) later)
  where
    by_modifies : (b : Bool) → modifies q mutation ≡ b → (b || is_modified_by mutations q) ≡ true
        → (is_modified_by mutations q ≡ true → is_unmodified (states_after mutations q (state_after mutation q state)) ≡ false)
        → is_unmodified (states_after mutations q (state_after mutation q state)) ≡ false
    by_modifies true is h among = modified_after mutations q (state_after mutation q state) (modified_once mutation q state is)
    by_modifies false is h among = among h

pub modified_state : (mutations : List Mutation) (q : List ℕ) → is_modified_by mutations q ≡ true
    → is_unmodified (state_under mutations q) ≡ false
modified_state mutations q h = modified_among mutations q Unmodified h

-- ---- keys whose state is another

same_cond : (b : Bool) (value : Option (List ℕ)) (state : KeyState) → (b && true) ≡ false → cond b (Decided value) state ≡ state
same_cond true value state h = absurd (true≢false h)
same_cond false value state h = refl

-- a mutation that doesn't change a key leaves its state
same_once : (mutation : Mutation) (q : List ℕ) (state : KeyState) → modifies q mutation ≡ false → state_after mutation q state ≡ state
same_once (Set key value) q state h = same_cond (bytes_eq q key) (Some value) state h
same_once (Clear key) q state h = same_cond (bytes_eq q key) None state h
same_once (ClearRange begin end) q state h = same_cond (within begin end q) None state h
same_once (Atomic op key operand) q state h = ap (λ b. cond b (after_atomic op operand state) state) h

same_among : (mutations : List Mutation) (q : List ℕ) (state : KeyState) → is_modified_by mutations q ≡ false
    → states_after mutations q state ≡ state
same_among [] q state h = refl
same_among (mutation ∷ mutations) q state h =
    by_modifies (modifies q mutation) refl h (λ later. same_among mutations q (state_after mutation q state) later)
  where
    by_modifies : (b : Bool) → modifies q mutation ≡ b → (b || is_modified_by mutations q) ≡ false
        → (is_modified_by mutations q ≡ false → states_after mutations q (state_after mutation q state) ≡ state_after mutation q state)
        → states_after mutations q (state_after mutation q state) ≡ state
    by_modifies true is h among = absurd (true≢false h)
    by_modifies false is h among = among h ∙ same_once mutation q state is

-- where the state of a key is another, some mutation changes it
pub state_modified : (mutations : List Mutation) (q : List ℕ) → is_unmodified (state_under mutations q) ≡ false
    → is_modified_by mutations q ≡ true
state_modified mutations q other = by_modified (is_modified_by mutations q) refl
  where
    by_modified : (b : Bool) → is_modified_by mutations q ≡ b → b ≡ true
    by_modified true is = refl
    by_modified false is = absurd (true≢false (sym (ap is_unmodified (same_among mutations q Unmodified is)) ∙ other))

-- ---- changes

-- each changed key has another state under mutations that the mutations agree with
pub each_modified : (kept : List Mutation) (changes : List (List ℕ × Option (List ℕ))) (mutations : List Mutation)
    → ((key : List ℕ) → state_under kept key ≡ state_under mutations key)
    → All (λ change. is_modified_by kept change.0 ≡ true) changes → All (λ change. is_unmodified (state_under mutations change.0) ≡ false)
    changes
each_modified kept changes mutations same only =
    All-weaker (λ change. is_modified_by kept change.0 ≡ true) (λ change. is_unmodified (state_under mutations change.0) ≡ false)
    (λ change is. ap is_unmodified (sym (same change.0)) ∙ modified_state kept change.0 is) changes only
