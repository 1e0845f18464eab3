-- What a transaction sees after an act, key by key.
use Rattle.std.proofs.Common.{◌≡◌, ℕ, Bool, true, false, cond, List, [], ◌∷◌, ◌++◌, Option, Some, None, refl, sym, ap, ◌∙◌}
use Rattle.std.specs.Prelude.{not, ◌&&◌, ◌||◌, is_some, bytes_eq}
use Rattle.std.proofs.lemmas.Bool.{and_parts, not-true}
use Rattle.std.proofs.lemmas.List.{append-nil}
use Rattle.std.proofs.lemmas.Map.Lookups.{exact_bytes}
use Rattle.std.specs.Cmp.Lexicographic.{same_text}
use Rattle.std.specs.FinMap as finite
use Rattle.model_database.specs.Databases.{Database, Mutation, Set, Clear, ClearRange, Atomic, do_all}
use Rattle.model_database.specs.Histories.{Setting, at}
use Rattle.model_database.specs.KeyByKey.{made_of, at_key, is_plain}
use Rattle.model_database.specs.Reads.{Read, answer}
use Rattle.model_database.specs.States.{touches, covers, unreadable, seen}
use Rattle.model_database.specs.Transactions.{Transaction, view, version_in, writes_of, with_version, first_failing, late_checks, read_code, set_code, clear_code, range_code, op_code, phase_code}
use Rattle.model_database.proofs.KeyByKey.{get-do_all, at_keys-append}
use Rattle.model_database.proofs.Filling.{none_unreadable}
use Rattle.model_database.proofs.States.{covers-unreadable-append}
use Rattle.model_database.proofs.AddingConflicts.{written_wrote, written_read}
use Rattle.fdb_calls.specs.Calling.{read_by, read_at_version, write_by, does_by}
use Rattle.model_allocator.specs.Acts.{Act, Draws, Reads, Writes, DisablesWriteConflict, AddsWriteConflict, act_called, all_acted}
use Rattle.model_allocator.proofs.Acting.{all_keep}
use Rattle.std.proofs.Common.{subst}
use Rattle.std.specs.List.{list_all}
use Rattle.std.specs.Ordering.{is_eq}
use Rattle.std.specs.Cmp.Lexicographic.{nat_list_cmp_total, texts_ties}
use Rattle.std.proofs.lemmas.Cmp.{tied_itself}
use Rattle.key_bytes.specs.Keys.{after}
use Rattle.model_database.specs.declared.AtomicOp.{AtomicOp}
use Rattle.model_database.specs.Atomics.{atom, is_versionstamped}
use Rattle.model_database.specs.Intervals.{one}
use Rattle.model_database.specs.Transactions.{with_write_conflict_disabled, with_write_range}
use Rattle.fdb_calls.specs.declared.Reply.{Reply}
use Rattle.fdb_calls.specs.declared.Reply.TheVariants as reply
use Rattle.model_allocator.specs.Acts.{refusal}
use Rattle.model_allocator.proofs.Acting.{Keep}

-- ---- a write

pub itself : (key : List ℕ) → bytes_eq key key ≡ true
itself key = texts_ties key key ∙ ap is_eq (tied_itself nat_list_cmp_total key)

pub get-seen : (writes : List Mutation) (m : Database) (q : List ℕ)
    → finite.get (seen writes m) q ≡ cond (not (covers (unreadable writes) q)) (finite.get (do_all writes m) q) None
unfolding seen
get-seen writes m q =
    finite.get-retain_keys (do_all writes m) (λ key. not (covers (unreadable writes) key)) q
    (λ x same. ap (λ key. not (covers (unreadable writes) key)) (sym (exact_bytes q x same)))

or_false : (b : Bool) → (b || false) ≡ b
or_false true = refl
or_false false = refl

-- a mutation without a versionstamp makes no key unreadable
pub same_unreadable : (writes : List Mutation) (mutation : Mutation) (q : List ℕ) → is_plain mutation ≡ true
    → covers (unreadable (writes ++ mutation ∷ [])) q ≡ covers (unreadable writes) q
same_unreadable writes mutation q plain =
    covers-unreadable-append writes (mutation ∷ []) q
    ∙ ap (λ ranges. covers (unreadable writes) q || covers ranges q) (append-nil _ ∙ none_unreadable mutation plain)
    ∙ or_false (covers (unreadable writes) q)

-- what is seen of a key after one more of them
pub get-seen_more : (writes : List Mutation) (mutation : Mutation) (m : Database) (q : List ℕ) → is_plain mutation ≡ true
    → finite.get (seen (writes ++ mutation ∷ []) m) q
    ≡ cond (not (covers (unreadable writes) q)) (at_key mutation q (finite.get (do_all writes m) q)) None
get-seen_more writes mutation m q plain =
    get-seen (writes ++ mutation ∷ []) m q
    ∙ ap (λ hidden. cond (not hidden) (finite.get (do_all (writes ++ mutation ∷ []) m) q) None) (same_unreadable writes mutation q plain)
    ∙ ap (λ value. cond (not (covers (unreadable writes) q)) value None)
    (get-do_all (writes ++ mutation ∷ []) m q ∙ at_keys-append writes (mutation ∷ []) q (finite.get m q)
    ∙ ap (at_key mutation q) (sym (get-do_all writes m q)))

-- one that doesn't touch a key leaves what is seen of it
same_seen : (writes : List Mutation) (mutation : Mutation) (m : Database) (q : List ℕ) → is_plain mutation ≡ true
    → touches mutation q ≡ false
    → finite.get (seen (writes ++ mutation ∷ []) m) q ≡ finite.get (seen writes m) q
same_seen writes mutation m q plain apart =
    get-seen_more writes mutation m q plain
    ∙ ap (λ (touched : Bool). cond (not (covers (unreadable writes) q))
    (cond touched (made_of mutation (finite.get (do_all writes m) q)) (finite.get (do_all writes m) q)) None) apart
    ∙ sym (get-seen writes m q)

-- one that touches a key makes its value of what is seen, where the key is readable
touched_seen : (writes : List Mutation) (mutation : Mutation) (m : Database) (q : List ℕ) → is_plain mutation ≡ true
    → touches mutation q ≡ true
    → covers (unreadable writes) q ≡ false
    → finite.get (seen (writes ++ mutation ∷ []) m) q ≡ made_of mutation (finite.get (seen writes m) q)
touched_seen writes mutation m q plain touched readable =
    let old = finite.get (do_all writes m) q in
    get-seen_more writes mutation m q plain
    ∙ ap (λ (hidden : Bool). cond (not hidden) (at_key mutation q old) None) readable
    ∙ ap (λ (touched : Bool). cond touched (made_of mutation old) old) touched
    ∙ ap (made_of mutation) (sym (get-seen writes m q ∙ ap (λ (hidden : Bool). cond (not hidden) old None) readable))

-- a key that is seen is readable
seen_readable : (writes : List Mutation) (m : Database) (q : List ℕ) → is_some (finite.get (seen writes m) q) ≡ true
    → covers (unreadable writes) q ≡ false
seen_readable writes m q present = by (covers (unreadable writes) q) (ap is_some (sym (get-seen writes m q)) ∙ present)
  where
    by : (hidden : Bool) → is_some (cond (not hidden) (finite.get (do_all writes m) q) None) ≡ true → hidden ≡ false
    by true is = absurd cc
    by false is = refl

-- ---- an act

-- what is seen of a key after a write that was not refused
abbrev wrote : Setting → Transaction → Mutation → Database
wrote setting t mutation = seen (writes_of t ++ mutation ∷ []) (at setting.history (version_in setting t))

-- either nothing changed, or it was written
write_seen : (setting : Setting) (t : Transaction) (code : Option ℕ) (mutation : Mutation) (P : Database → Type 0)
    → P (view setting t) → P (wrote setting t mutation) → P (view setting (write_by code t mutation).transaction)
write_seen setting t (Some code) mutation P same written = same
write_seen setting t None mutation P same written =
    subst (λ writes. P (seen writes (at setting.history (version_in setting t))))
    (sym (written_wrote t.script mutation (not t.skips_write_conflict))) written

pub after_write : (setting : Setting) (t : Transaction) (mutation : Mutation) (P : Database → Type 0)
    → P (view setting t) → P (wrote setting t mutation) → P (view setting (act_called setting t (Writes mutation)).transaction)
after_write setting t (Set key value) P same written = write_seen setting t (set_code t.phase key value) (Set key value) P same written
after_write setting t (Clear key) P same written = write_seen setting t (clear_code t.phase key) (Clear key) P same written
after_write setting t (ClearRange begin end) P same written =
    write_seen setting t (range_code t.phase begin end) (ClearRange begin end) P same written
after_write setting t (Atomic op key operand) P same written =
    write_seen setting t (op_code t.phase op key operand) (Atomic op key operand) P same written

with_read_view : (setting : Setting) (t : Transaction) (later : Option ℕ) (snapshot : Bool) (read : Read)
    → view setting (read_at_version later setting t snapshot read).transaction ≡ view setting t
with_read_view setting t (Some code) snapshot read = refl
with_read_view setting t None true read = refl
with_read_view setting t None false read =
    ap (λ writes. seen writes (at setting.history (version_in setting t))) (written_read t.script read (answer read (view setting t)))

read_view : (setting : Setting) (t : Transaction) (first : Option ℕ) (snapshot : Bool) (read : Read)
    → view setting (read_by first setting t snapshot read).transaction ≡ view setting t
read_view setting t (Some code) snapshot read = refl
read_view setting t None snapshot read =
    with_read_view setting (with_version setting t) (first_failing (late_checks setting (with_version setting t) read)) snapshot read

-- a read changes nothing that is seen, refused or not
pub after_read : (setting : Setting) (t : Transaction) (read : Read) (snapshot : Bool)
    → view setting (act_called setting t (Reads read snapshot)).transaction ≡ view setting t
after_read setting t read snapshot = read_view setting t (read_code t.phase false read) snapshot read

without_conflict_view : (setting : Setting) (t after : Transaction) (code : Option ℕ) (reply : Reply) → view setting after ≡ view setting t
    → view setting (does_by code t after reply).transaction ≡ view setting t
without_conflict_view setting t after (Some code) reply same = refl
without_conflict_view setting t after None reply same = same

pub after_disabling : (setting : Setting) (t : Transaction) → view setting (act_called setting t DisablesWriteConflict).transaction ≡ view setting t
after_disabling setting t = without_conflict_view setting t (with_write_conflict_disabled t) (phase_code t.phase) reply.Done refl

pub after_adding_conflicts : (setting : Setting) (t : Transaction) (key : List ℕ)
    → view setting (act_called setting t (AddsWriteConflict key)).transaction ≡ view setting t
after_adding_conflicts setting t key =
    without_conflict_view setting t (with_write_range t (one key)) (range_code t.phase key (after key)) reply.Done refl

-- ---- one key

-- the act doesn't touch the key
abbrev pub spares : (q : List ℕ) → Act → Bool
spares q (Writes mutation) = is_plain mutation && not (touches mutation q)
spares q act = true

-- what is seen of a key that an act doesn't touch stays as it is
pub spared : (setting : Setting) (act : Act) (t : Transaction) (q : List ℕ) → spares q act ≡ true
    → finite.get (view setting (act_called setting t act).transaction) q ≡ finite.get (view setting t) q
spared setting Draws t q apart = refl
spared setting (Reads read snapshot) t q apart = ap (λ m. finite.get m q) (after_read setting t read snapshot)
spared setting (Writes mutation) t q apart =
    let parts = and_parts (is_plain mutation) (not (touches mutation q)) apart in
    after_write setting t mutation (λ m. finite.get m q ≡ finite.get (view setting t) q) refl
    (same_seen (writes_of t) mutation (at setting.history (version_in setting t)) q parts.0 (not-true (touches mutation q) parts.1))
spared setting DisablesWriteConflict t q apart = ap (λ m. finite.get m q) (after_disabling setting t)
spared setting (AddsWriteConflict key) t q apart = ap (λ m. finite.get m q) (after_adding_conflicts setting t key)

spare : (setting : Setting) (q : List ℕ) (value : Option (List ℕ)) (acts : List Act) → list_all (spares q) acts ≡ true
    → Keep setting (λ t. finite.get (view setting t) q ≡ value) acts
spare setting q value [] apart = tt
spare setting q value (act ∷ acts) apart =
    let parts = and_parts (spares q act) (list_all (spares q) acts) apart in
    ((λ t is. spared setting act t q parts.0 ∙ is), spare setting q value acts parts.1)

pub all_spared : (setting : Setting) (acts : List Act) (t : Transaction) (q : List ℕ) → list_all (spares q) acts ≡ true
    → finite.get (view setting (all_acted setting acts t).transaction) q ≡ finite.get (view setting t) q
all_spared setting acts t q apart =
    all_keep setting (λ u. finite.get (view setting u) q ≡ finite.get (view setting t) q) acts (spare setting q _ acts apart) t refl

-- a key that is seen, and set, is seen; of every other key the set changes nothing
pub set_seen : (setting : Setting) (t : Transaction) (key value q : List ℕ) → is_some (finite.get (view setting t) key) ≡ true
    → is_some (finite.get (view setting (act_called setting t (Writes (Set key value))).transaction) q)
    ≡ is_some (finite.get (view setting t) q)
set_seen setting t key value q present = by (bytes_eq q key) refl
  where
    by : (same : Bool) → bytes_eq q key ≡ same
        → is_some (finite.get (view setting (act_called setting t (Writes (Set key value))).transaction) q)
        ≡ is_some (finite.get (view setting t) q)
    by false other = ap is_some (spared setting (Writes (Set key value)) t q (ap not other))
    by true same =
        after_write setting t (Set key value) (λ m. is_some (finite.get m q) ≡ is_some (finite.get (view setting t) q)) refl
        (let is : q ≡ key = same_text q key (sym same) in
        let there : is_some (finite.get (view setting t) q) ≡ true = ap (λ k. is_some (finite.get (view setting t) k)) is ∙ present in
        ap is_some (touched_seen (writes_of t) (Set key value) (at setting.history (version_in setting t)) q refl same
        (seen_readable (writes_of t) (at setting.history (version_in setting t)) q there)) ∙ sym there)

-- an atomic operation on a key that is read after it makes its value of what was seen
pub atomic_seen : (setting : Setting) (t : Transaction) (op : AtomicOp) (key operand : List ℕ) → is_versionstamped op ≡ false
    → covers (unreadable (writes_of t)) key ≡ false → refusal (act_called setting t (Writes (Atomic op key operand))).reply ≡ None
    → finite.get (view setting (act_called setting t (Writes (Atomic op key operand))).transaction) key
    ≡ atom op (finite.get (view setting t) key) operand
atomic_seen setting t op key operand plain readable passed = by (op_code t.phase op key operand) passed
  where
    by : (code : Option ℕ) → refusal (write_by code t (Atomic op key operand)).reply ≡ None
        → finite.get (view setting (write_by code t (Atomic op key operand)).transaction) key ≡ atom op (finite.get (view setting t) key)
        operand
    by (Some code) passed = absurd cc
    by None passed =
        ap (λ writes. finite.get (seen writes (at setting.history (version_in setting t))) key)
        (written_wrote t.script (Atomic op key operand) (not t.skips_write_conflict))
        ∙ touched_seen (writes_of t) (Atomic op key operand) (at setting.history (version_in setting t)) key (ap not plain)
        (itself key) readable
