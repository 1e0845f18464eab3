-- What a transaction sees after a read or a write that was let through.
use Rattle.std.proofs.Common.{◌≡◌, ℕ, Bool, true, false, cond, List, [], ◌∷◌, ◌++◌, Option, Some, None, refl, sym, ap, ◌∙◌}
use Rattle.std.specs.Prelude.{not, bytes_eq}
use Rattle.std.specs.FinMap as finite
use Rattle.key_bytes.specs.declared.range.KeyRange.{KeyRange}
use Rattle.model_database.specs.Databases.{Database, Mutation, Set, Clear, ClearRange, Atomic, do_all}
use Rattle.model_database.specs.Histories.{Setting, at}
use Rattle.model_database.specs.Intervals.{any_meet, interval, one}
use Rattle.model_database.specs.KeyByKey.{at_key, is_plain}
use Rattle.model_database.specs.Reads.{Read, Get, answer}
use Rattle.model_database.specs.States.{covers, unreadable, seen, touches}
use Rattle.model_database.specs.declared.TheConstants.{FUTURE_VERSION, TRANSACTION_TOO_OLD, ACCESSED_UNREADABLE}
use Rattle.model_database.specs.Transactions.{Transaction, view, version_in, map_below, writes_of, with_version, is_ahead, is_behind, is_hidden, first_failing, late_checks, read_code, set_code, clear_code, range_code, op_code}
use Rattle.model_database.proofs.AddingConflicts.{written_wrote, written_read}
use Rattle.model_database.proofs.Ranges.{covers_one, any_meet_at}
use Rattle.fdb_calls.specs.Calling.{read_by, read_at_version, write_by}
use Rattle.model_allocator.specs.Acts.{Reads, Writes, act_called, refusal}
use Rattle.model_allocator.proofs.Viewing.{itself, same_unreadable, get-seen_more}

-- ---- a read

late_writes : (setting : Setting) (t : Transaction) (later : Option ℕ) (snapshot : Bool) (read : Read)
    → writes_of (read_at_version later setting t snapshot read).transaction ≡ writes_of t
late_writes setting t (Some code) snapshot read = refl
late_writes setting t None true read = refl
late_writes setting t None false read = written_read t.script read (answer read (view setting t))

read_writes : (setting : Setting) (t : Transaction) (first : Option ℕ) (snapshot : Bool) (read : Read)
    → writes_of (read_by first setting t snapshot read).transaction ≡ writes_of t
read_writes setting t (Some code) snapshot read = refl
read_writes setting t None snapshot read =
    late_writes setting (with_version setting t) (first_failing (late_checks setting (with_version setting t) read)) snapshot read

-- a read writes nothing
pub writes_after_read : (setting : Setting) (t : Transaction) (read : Read) (snapshot : Bool)
    → writes_of (act_called setting t (Reads read snapshot)).transaction ≡ writes_of t
writes_after_read setting t read snapshot = read_writes setting t (read_code t.phase false read) snapshot read

not_hidden : (setting : Setting) (t : Transaction) (snapshot : Bool) (read : Read) (behind ahead hidden : Bool)
    → refusal (read_at_version (first_failing ((behind, TRANSACTION_TOO_OLD) ∷ (ahead, FUTURE_VERSION) ∷ (hidden, ACCESSED_UNREADABLE) ∷ [])) setting t snapshot read).reply ≡ None
    → hidden ≡ false
not_hidden setting t snapshot read true ahead hidden passed = absurd cc
not_hidden setting t snapshot read false true hidden passed = absurd cc
not_hidden setting t snapshot read false false true passed = absurd cc
not_hidden setting t snapshot read false false false passed = refl

not_met : (q : List ℕ) (ranges others : List KeyRange) → any_meet ranges others ≡ false → covers ranges q ≡ true → covers others q ≡ false
not_met q ranges others apart inside = by (covers others q) refl
  where
    by : (covered : Bool) → covers others q ≡ covered → covered ≡ false
    by false is = refl
    by true is = absurd (let meets : any_meet ranges others ≡ true = any_meet_at ranges others q inside is in cc)

readable_by : (setting : Setting) (t : Transaction) (first : Option ℕ) (snapshot : Bool) (read : Read) (q : List ℕ)
    → refusal (read_by first setting t snapshot read).reply ≡ None → covers (interval read (view setting t)) q ≡ true
    → covers (unreadable (writes_of t)) q ≡ false
readable_by setting t (Some code) snapshot read q passed inside = absurd cc
readable_by setting t None snapshot read q passed inside =
    let taken = with_version setting t in
    not_met q (interval read (view setting t)) (unreadable (writes_of t))
    (not_hidden setting taken snapshot read (is_behind setting taken) (is_ahead setting taken) (is_hidden setting taken read) passed) inside

-- no write makes a key unreadable on which a read rests that was let through
pub readable_in : (setting : Setting) (t : Transaction) (snapshot : Bool) (read : Read) (q : List ℕ)
    → refusal (act_called setting t (Reads read snapshot)).reply ≡ None → covers (interval read (view setting t)) q ≡ true
    → covers (unreadable (writes_of t)) q ≡ false
readable_in setting t snapshot read q passed inside = readable_by setting t (read_code t.phase false read) snapshot read q passed inside

-- and so it is behind the read
pub readable_after : (setting : Setting) (t : Transaction) (snapshot : Bool) (read : Read) (q : List ℕ)
    → refusal (act_called setting t (Reads read snapshot)).reply ≡ None → covers (interval read (view setting t)) q ≡ true
    → covers (unreadable (writes_of (act_called setting t (Reads read snapshot)).transaction)) q ≡ false
readable_after setting t snapshot read q passed inside =
    ap (λ writes. covers (unreadable writes) q) (writes_after_read setting t read snapshot)
    ∙ readable_in setting t snapshot read q passed inside

-- ---- a write

writes_by : (setting : Setting) (t : Transaction) (code : Option ℕ) (mutation : Mutation)
    → refusal (write_by code t mutation).reply ≡ None → writes_of (write_by code t mutation).transaction ≡ writes_of t ++ mutation ∷ []
writes_by setting t (Some code) mutation passed = absurd cc
writes_by setting t None mutation passed = written_wrote t.script mutation (not t.skips_write_conflict)

pub writes_after : (setting : Setting) (t : Transaction) (mutation : Mutation)
    → refusal (act_called setting t (Writes mutation)).reply ≡ None
    → writes_of (act_called setting t (Writes mutation)).transaction ≡ writes_of t ++ mutation ∷ []
writes_after setting t (Set key value) passed = writes_by setting t (set_code t.phase key value) (Set key value) passed
writes_after setting t (Clear key) passed = writes_by setting t (clear_code t.phase key) (Clear key) passed
writes_after setting t (ClearRange begin end) passed = writes_by setting t (range_code t.phase begin end) (ClearRange begin end) passed
writes_after setting t (Atomic op key operand) passed = writes_by setting t (op_code t.phase op key operand) (Atomic op key operand) passed

below_by : (setting : Setting) (t : Transaction) (code : Option ℕ) (mutation : Mutation)
    → map_below setting (write_by code t mutation).transaction ≡ map_below setting t
below_by setting t (Some code) mutation = refl
below_by setting t None mutation = refl

below_after : (setting : Setting) (t : Transaction) (mutation : Mutation)
    → map_below setting (act_called setting t (Writes mutation)).transaction ≡ map_below setting t
below_after setting t (Set key value) = below_by setting t (set_code t.phase key value) (Set key value)
below_after setting t (Clear key) = below_by setting t (clear_code t.phase key) (Clear key)
below_after setting t (ClearRange begin end) = below_by setting t (range_code t.phase begin end) (ClearRange begin end)
below_after setting t (Atomic op key operand) = below_by setting t (op_code t.phase op key operand) (Atomic op key operand)

-- what is seen of a key
get_after : (setting : Setting) (t : Transaction) (mutation : Mutation) (q : List ℕ) → is_plain mutation ≡ true
    → refusal (act_called setting t (Writes mutation)).reply ≡ None
    → finite.get (view setting (act_called setting t (Writes mutation)).transaction) q
    ≡ cond (not (covers (unreadable (writes_of t)) q)) (at_key mutation q (finite.get (do_all (writes_of t) (map_below setting t)) q)) None
get_after setting t mutation q plain passed =
    ap (λ writes. finite.get (seen writes (map_below setting (act_called setting t (Writes mutation)).transaction)) q)
    (writes_after setting t mutation passed)
    ∙ ap (λ below. finite.get (seen (writes_of t ++ mutation ∷ []) below) q) (below_after setting t mutation)
    ∙ get-seen_more (writes_of t) mutation (map_below setting t) q plain

-- a key that is readable, and set, has the value
pub set_value : (setting : Setting) (t : Transaction) (key value : List ℕ) → covers (unreadable (writes_of t)) key ≡ false
    → refusal (act_called setting t (Writes (Set key value))).reply ≡ None
    → finite.get (view setting (act_called setting t (Writes (Set key value))).transaction) key ≡ Some value
set_value setting t key value readable passed =
    let old = finite.get (do_all (writes_of t) (map_below setting t)) key in
    get_after setting t (Set key value) key refl passed
    ∙ ap (λ (hidden : Bool). cond (not hidden) (at_key (Set key value) key old) None) readable
    ∙ ap (λ (touched : Bool). cond touched (Some value) old) (itself key)

either_way : {X : Type 0} (b : Bool) (x : X) → cond b x x ≡ x
either_way true x = refl
either_way false x = refl

-- a key that is cleared has none
pub clear_value : (setting : Setting) (t : Transaction) (key : List ℕ)
    → refusal (act_called setting t (Writes (Clear key))).reply ≡ None
    → finite.get (view setting (act_called setting t (Writes (Clear key))).transaction) key ≡ None
clear_value setting t key passed =
    let old = finite.get (do_all (writes_of t) (map_below setting t)) key in
    get_after setting t (Clear key) key refl passed
    ∙ ap (λ (touched : Bool). cond (not (covers (unreadable (writes_of t)) key)) (cond touched None old) None) (itself key)
    ∙ either_way (not (covers (unreadable (writes_of t)) key)) None

-- a write without a versionstamp makes no key unreadable
pub still_readable : (setting : Setting) (t : Transaction) (mutation : Mutation) (q : List ℕ) → is_plain mutation ≡ true
    → refusal (act_called setting t (Writes mutation)).reply ≡ None → covers (unreadable (writes_of t)) q ≡ false
    → covers (unreadable (writes_of (act_called setting t (Writes mutation)).transaction)) q ≡ false
still_readable setting t mutation q plain passed readable =
    ap (λ writes. covers (unreadable writes) q) (writes_after setting t mutation passed)
    ∙ same_unreadable (writes_of t) mutation q plain
    ∙ readable
