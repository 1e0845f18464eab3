-- Keys stay less than FF: through writes, in what reads see, when a stamp is filled in; and the checks of a write ask it.
use Rattle.std.proofs.Common.{◌≡◌, ℕ, ◌<◌, ◌^◌, ◌/◌, ◌%◌, ◌⊎◌, Bool, true, false, cond, List, [], ◌∷◌, ◌++◌, Option, Some, None, ◌+◌, inl, inr, refl, sym, ap, ◌∙◌, arith}
use Rattle.std.specs.Prelude.{not, ◌&&◌, is_some, replicate, drop, take}
use Rattle.std.specs.Cmp.Lexicographic.{same_text}
use Rattle.std.specs.FinMap as finite
use Rattle.std.proofs.lemmas.Bool.{and_from, and_parts, false≢true, not-false}
use Rattle.std.proofs.lemmas.List.Folds.{list_all-append}
use Rattle.key_bytes.specs.Keys.{key_lt, top}
use Rattle.key_bytes.proofs.Orders.{lt_first, below_alone}
use Rattle.model_database.specs.declared.AtomicOp.{AtomicOp}
use Rattle.model_database.specs.declared.AtomicOp.TheVariants as atomic
use Rattle.model_database.specs.declared.Phase.{Phase}
use Rattle.model_database.specs.declared.Phase.TheVariants as phase
use Rattle.model_database.specs.declared.StampForm.{StampForm}
use Rattle.model_database.specs.declared.StampForm.TheVariants as form
use Rattle.model_database.specs.Atomics.{is_versionstamped}
use Rattle.model_database.specs.Databases.{Database, Mutation, Set, Clear, ClearRange, Atomic, do_all}
use Rattle.model_database.specs.Histories.{stamp_of}
use Rattle.model_database.specs.KeyByKey.{made_of, at_key, at_keys}
use Rattle.model_database.specs.States.{covers, filled, all_filled, has_room, seen, stamp_place, stamped, template, touches, unreadable}
use Rattle.model_database.specs.Transactions.{after_phase, first_failing, key_asked, key_checks, lacks_room, op_checks, op_code, set_code}
use Rattle.model_database.proofs.KeyByKey.{get-do_all, versionstamped_same}
use Rattle.model_database.proofs.Stamps.{stamp_is}
use Rattle.laws_history.specs.Small.{IsBelowTop, is_small, is_small_stamped, are_small}
use Rattle.laws_history.proofs.Views.{get-seen}

-- ---- through writes

-- a small atomic operation waits for its versionstamp, or has a key less than FF
atomic_small : (op : AtomicOp) (key operand : List ℕ) → is_small (Atomic op key operand) ≡ true
    → (is_versionstamped op ≡ true) ⊎ (key_lt key top ≡ true)
atomic_small atomic.SetVersionstampedKey key operand small = inl refl
atomic_small atomic.OldStampedKey key operand small = inl refl
atomic_small _ key operand small = inr small

-- a small write leaves a value only at a key less than FF, where a value before it stood only at such a key
at_key_small : (mutation : Mutation) (key : List ℕ) (old : Option (List ℕ)) → is_small mutation ≡ true
    → (is_some old ≡ true → key_lt key top ≡ true) → is_some (at_key mutation key old) ≡ true → key_lt key top ≡ true
at_key_small mutation key old small before = by (touches mutation key) refl
  where
    at_touched : (mutation : Mutation) → is_small mutation ≡ true → touches mutation key ≡ true
        → is_some (made_of mutation old) ≡ true → key_lt key top ≡ true
    at_touched (Set other value) small same some = ap (λ k. key_lt k top) (same_text key other (sym same)) ∙ small
    at_touched (Clear other) small same some = absurd (false≢true some)
    at_touched (ClearRange begin end) small same some = absurd (false≢true some)
    at_touched (Atomic op other operand) small same some = elim (atomic_small op other operand small) [
      | inl is ↦ before (ap is_some (sym (versionstamped_same op old operand is)) ∙ some)
      | inr low ↦ ap (λ k. key_lt k top) (same_text key other (sym same)) ∙ low
    ]

    by : (b : Bool) → touches mutation key ≡ b → is_some (cond b (made_of mutation old) old) ≡ true → key_lt key top ≡ true
    by true same some = at_touched mutation small same some
    by false other some = before some

-- and so do small writes, one after the other
at_keys_small : (writes : List Mutation) (key : List ℕ) (old : Option (List ℕ)) → are_small writes ≡ true
    → (is_some old ≡ true → key_lt key top ≡ true) → is_some (at_keys writes key old) ≡ true → key_lt key top ≡ true
at_keys_small [] key old small before some = before some
at_keys_small (mutation ∷ writes) key old small before some =
    let parts = and_parts (is_small mutation) (are_small writes) small in
    at_keys_small writes key (at_key mutation key old) parts.1 (at_key_small mutation key old parts.0 before) some

-- small writes leave keys less than FF alone
pub do_all_small : (writes : List Mutation) (m : Database) → are_small writes ≡ true → IsBelowTop m → IsBelowTop (do_all writes m)
do_all_small writes m small below key some =
    at_keys_small writes key (finite.get m key) small (below key) (ap is_some (sym (get-do_all writes m key)) ∙ some)

-- and reads see such keys alone
pub seen_small : (writes : List Mutation) (m : Database) → are_small writes ≡ true → IsBelowTop m → IsBelowTop (seen writes m)
seen_small writes m small below key some =
    do_all_small writes m small below key
    (by (not (covers (unreadable writes) key)) (finite.get (do_all writes m) key) (ap is_some (sym (get-seen writes m key)) ∙ some))
  where
    by : (readable : Bool) (value : Option (List ℕ)) → is_some (cond readable value None) ≡ true → is_some value ≡ true
    by true value some = some
    by false value some = absurd (false≢true some)

-- ---- many writes

-- writes one after the other are small where both parts are
pub are_small-append : (first second : List Mutation) → are_small (first ++ second) ≡ (are_small first && are_small second)
are_small-append first second = list_all-append is_small first second

-- ---- when a stamp is filled in

-- other bytes in the middle of a key leave it less than FF, where their first byte is less than FF
middle_small : (front : List ℕ) (a b : ℕ) (x y rest : List ℕ) → a < 255 → key_lt (front ++ (b ∷ y) ++ rest) top ≡ true
    → key_lt (front ++ (a ∷ x) ++ rest) top ≡ true
middle_small [] a b x y rest low small = lt_first a 255 (x ++ rest) [] low
middle_small (c ∷ front) a b x y rest low small =
    lt_first c 255 (front ++ (a ∷ x) ++ rest) [] (below_alone 255 c (front ++ (b ∷ y) ++ rest) small)

-- the first byte of a version's stamp is less than FF
stamp_low : (version : ℕ) → version < 2 ^ 63 → (a : ℕ) × (x : List ℕ) × (a < 255) × (stamp_of version ≡ a ∷ x)
stamp_low version short = (version / 2 ^ 56 % 256, _, omega arith, stamp_is version)

-- a stamped key that is less than FF with ten 00 is so with the stamp of a version
pub stamped_small : (version : ℕ) (form : StampForm) (key : List ℕ) → version < 2 ^ 63 → is_small_stamped form key ≡ true
    → key_lt (stamped form (stamp_of version) key) top ≡ true
unfolding stamped
stamped_small version form key short small =
    let low = stamp_low version short in
    let front = take (stamp_place form key) (template form key) in
    let rest = drop (stamp_place form key + 10) (template form key) in
    ap (λ stamp. key_lt (front ++ stamp ++ rest) top) low.3
    ∙ middle_small front low.0 0 low.1 (replicate 9 0) rest low.2
    (and_parts (has_room form key) (key_lt (stamped form (replicate 10 0) key) top) small).1

-- a small write stays small with the stamp of a version
one_filled_small : (version : ℕ) (mutation : Mutation) → version < 2 ^ 63 → is_small mutation ≡ true
    → is_small (filled (stamp_of version) mutation) ≡ true
one_filled_small version (Set key value) short small = small
one_filled_small version (Clear key) short small = small
one_filled_small version (ClearRange begin end) short small = small
one_filled_small version (Atomic atomic.SetVersionstampedKey key operand) short small = stamped_small version form.Last4 key short small
one_filled_small version (Atomic atomic.OldStampedKey key operand) short small = stamped_small version form.Last2 key short small
one_filled_small version (Atomic atomic.SetVersionstampedValue key operand) short small = small
one_filled_small version (Atomic atomic.OldStampedValue key operand) short small = small
one_filled_small version (Atomic op key operand) short small = small

-- and so do many
pub filled_small : (version : ℕ) (writes : List Mutation) → version < 2 ^ 63 → are_small writes ≡ true
    → are_small (all_filled (stamp_of version) writes) ≡ true
filled_small version [] short small = refl
filled_small version (mutation ∷ writes) short small =
    let parts = and_parts (is_small mutation) (are_small writes) small in
    and_from (is_small (filled (stamp_of version) mutation)) (are_small (all_filled (stamp_of version) writes))
    (one_filled_small version mutation short parts.0) (filled_small version writes short parts.1)

-- ---- the checks of a write

-- where no check fails, the first doesn't, nor one of the others
pub none_fails : (fails : Bool) (code : ℕ) (others : Option ℕ) → cond fails (Some code) others ≡ None
    → (fails ≡ false) × (others ≡ None)
none_fails true code others none = absurd cc
none_fails false code others none = (refl, none)

-- nor one of those that follow the checks of the phase
pub after_phase_none : (phase : Phase) (checks : List (Bool × ℕ)) → first_failing (after_phase phase checks) ≡ None
    → first_failing checks ≡ None
after_phase_none (phase.Tried outcome) checks none = absurd cc
after_phase_none phase.Cancelled checks none = absurd cc
after_phase_none _ checks none = none

-- a key that no check refuses is less than FF
key_none : (key value : List ℕ) → first_failing (key_checks key value) ≡ None → key_lt key top ≡ true
key_none key value none = not-false (key_lt key top) (none_fails _ _ _ none).0

-- a set that no check refuses is small
pub set_small : (phase : Phase) (key value : List ℕ) → set_code phase key value ≡ None → is_small (Set key value) ≡ true
unfolding set_code
set_small phase key value none = key_none key value (after_phase_none phase (key_checks key value) none)

-- and so is an atomic operation
pub op_small : (phase : Phase) (op : AtomicOp) (key operand : List ℕ) → op_code phase op key operand ≡ None
    → is_small (Atomic op key operand) ≡ true
unfolding op_code
op_small phase op key operand none =
    let parts = none_fails _ _ _ (after_phase_none phase (op_checks op key operand) none) in
    by op parts.0 (key_none (key_asked op key) operand parts.1)
  where
    by_form : (form : StampForm) → not (has_room form key) ≡ false → key_lt (stamped form (replicate 10 0) key) top ≡ true
        → is_small_stamped form key ≡ true
    by_form form room low =
        and_from (has_room form key) (key_lt (stamped form (replicate 10 0) key) top) (not-false (has_room form key) room) low

    by : (op : AtomicOp) → lacks_room op key operand ≡ false → key_lt (key_asked op key) top ≡ true → is_small (Atomic op key operand) ≡ true
    by atomic.SetVersionstampedKey room low = by_form form.Last4 room low
    by atomic.OldStampedKey room low = by_form form.Last2 room low
    by _ room low = low
