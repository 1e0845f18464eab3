-- What acts leave that were all let through, and what each of them tells.
use Rattle.std.proofs.Common.{◌≡◌, ℕ, ◌≤◌, Bool, true, false, List, [], ◌∷◌, ◌++◌, Option, Some, None, refl, sym, ap, ◌∙◌, append_assoc}
use Rattle.std.specs.Prelude.{not}
use Rattle.std.proofs.lemmas.Bool.{ltb-false}
use Rattle.std.proofs.lemmas.List.{append-nil, append_cancel_left}
use Rattle.std.proofs.lemmas.List.Concat.{flat_map-append}
use Rattle.key_bytes.specs.declared.range.KeyRange.{KeyRange}
use Rattle.model_database.specs.declared.Code.{Code}
use Rattle.model_database.specs.declared.TheConstants.{ACCESSED_UNREADABLE, FUTURE_VERSION, TRANSACTION_TOO_OLD}
use Rattle.model_database.specs.Databases.{Mutation, Set, Clear, ClearRange, Atomic}
use Rattle.model_database.specs.Histories.{Setting, last, written}
use Rattle.model_database.specs.Intervals.{added, one}
use Rattle.model_database.specs.Reads.{Answer, Read, answer}
use Rattle.model_database.specs.Transactions.{Transaction, clear_code, first_failing, is_ahead, is_behind, is_hidden, map_below, op_code, phase_code, range_code, read_code, set_code, with_write_conflict_disabled, version_in, view, with_read, with_version, with_write_range, writes_of}
use Rattle.model_database.proofs.AddingConflicts.{written-append, written_read, written_wrote}
use Rattle.fdb_calls.specs.declared.Reply.{Reply}
use Rattle.fdb_calls.specs.declared.Reply.TheVariants as reply
use Rattle.fdb_calls.specs.Calling.{does_by, read_at_version, read_by, read_called, write_by, write_conflict_called}
use Rattle.model_allocator.specs.Acts.{Act, Draws, Reads, Writes, DisablesWriteConflict, AddsWriteConflict, act_called, acted_by, all_acted, refusal, words_of, writing, written_by, write_called}
use Rattle.laws_prefixes.specs.Held.{HasGrown}
use Rattle.laws_prefixes.proofs.Recording.{act_grown, grown_twice, same_grown}

-- ---- one call

-- a read that was made: its version can be read, no key of its read conflict range is unreadable, and so it leaves the
-- transaction
pub record IsReadMade (setting : Setting) (transaction : Transaction) (snapshot : Bool) (read : Read) (after : Transaction) : Type 0 where
  pub reached : version_in setting transaction ≤ last setting.history
  pub seen : is_hidden setting transaction read ≡ false
  pub is : after
      ≡ with_read snapshot read (answer read (view setting transaction))
      (added read (map_below setting transaction) (writes_of transaction)) (with_version setting transaction)

-- by whether its version is too old, or above the last, and whether its read conflict range has an unreadable key
abbrev late_code : (behind ahead hidden : Bool) → Option ℕ
late_code behind ahead hidden = first_failing ((behind, TRANSACTION_TOO_OLD) ∷ (ahead, FUTURE_VERSION) ∷ (hidden, ACCESSED_UNREADABLE) ∷ [])

-- a read that was let through was made
pub read_made : (setting : Setting) (transaction : Transaction) (lacks snapshot : Bool) (read : Read)
    → refusal (read_called setting transaction lacks snapshot read).reply ≡ None
    → IsReadMade setting transaction snapshot read (read_called setting transaction lacks snapshot read).transaction
read_made setting transaction lacks snapshot read passed = early (read_code transaction.phase lacks read) passed
  where
    late : (behind ahead hidden : Bool) → is_ahead setting transaction ≡ ahead → is_hidden setting transaction read ≡ hidden
        → refusal (read_at_version (late_code behind ahead hidden) setting (with_version setting transaction) snapshot read).reply ≡ None
        → IsReadMade setting transaction snapshot read
        (read_at_version (late_code behind ahead hidden) setting (with_version setting transaction) snapshot read).transaction
    late true ahead hidden ahead_is hidden_is passed = absurd cc
    late false true hidden ahead_is hidden_is passed = absurd cc
    late false false true ahead_is hidden_is passed = absurd cc
    late false false false ahead_is hidden_is passed = record {
      reached = ltb-false (last setting.history) (version_in setting transaction) ahead_is;
      seen = hidden_is;
      is = refl;
    }

    early : (code : Option ℕ) → refusal (read_by code setting transaction snapshot read).reply ≡ None
        → IsReadMade setting transaction snapshot read (read_by code setting transaction snapshot read).transaction
    early (Some code) passed = absurd cc
    early None passed = late (is_behind setting transaction) (is_ahead setting transaction) (is_hidden setting transaction read) refl refl passed

-- a read writes nothing
written_with_read : (snapshot : Bool) (read : Read) (answer : Answer) (ranges : List KeyRange) (transaction : Transaction)
    → writes_of (with_read snapshot read answer ranges transaction) ≡ writes_of transaction
written_with_read true read answer ranges transaction = refl
written_with_read false read answer ranges transaction = written_read transaction.script read answer

-- it keeps the version that it took
version_with_read : (snapshot : Bool) (read : Read) (answer : Answer) (ranges : List KeyRange) (transaction : Transaction)
    → (with_read snapshot read answer ranges transaction).version ≡ transaction.version
version_with_read true read answer ranges transaction = refl
version_with_read false read answer ranges transaction = refl

-- a write that was let through is written
write_made : (code : Option ℕ) (transaction : Transaction) (mutation : Mutation)
    → refusal (write_by code transaction mutation).reply ≡ None
    → writes_of (write_by code transaction mutation).transaction ≡ writes_of transaction ++ mutation ∷ []
write_made (Some code) transaction mutation passed = absurd cc
write_made None transaction mutation passed = written_wrote transaction.script mutation (not transaction.skips_write_conflict)

-- whatever mutation it is
write_called_made : (transaction : Transaction) (mutation : Mutation) → refusal (write_called transaction mutation).reply ≡ None
    → writes_of (write_called transaction mutation).transaction ≡ writes_of transaction ++ mutation ∷ []
write_called_made transaction (Set key value) passed = write_made (set_code transaction.phase key value) transaction (Set key value) passed
write_called_made transaction (Clear key) passed = write_made (clear_code transaction.phase key) transaction (Clear key) passed
write_called_made transaction (ClearRange begin end) passed =
    write_made (range_code transaction.phase begin end) transaction (ClearRange begin end) passed
write_called_made transaction (Atomic op key operand) passed =
    write_made (op_code transaction.phase op key operand) transaction (Atomic op key operand) passed

-- a call that leaves this transaction where it is let through, and else the one before
does_made : (code : Option ℕ) (transaction after : Transaction) (answered : Reply)
    → refusal (does_by code transaction after answered).reply ≡ None → (does_by code transaction after answered).transaction ≡ after
does_made (Some code) transaction after answered passed = absurd cc
does_made None transaction after answered passed = refl

-- a key that gets a write conflict range, where that was let through
pub write_conflicts_made : (transaction : Transaction) (key : List ℕ)
    → refusal (write_conflict_called transaction (one key)).reply ≡ None
    → (write_conflict_called transaction (one key)).transaction ≡ with_write_range transaction (one key)
write_conflicts_made transaction key passed =
    does_made (range_code transaction.phase (one key).begin (one key).end) transaction (with_write_range transaction (one key)) _ passed

-- an act that was let through writes its mutation
act_wrote : (setting : Setting) (transaction : Transaction) (act : Act) → refusal (act_called setting transaction act).reply ≡ None
    → writes_of (act_called setting transaction act).transaction ≡ writes_of transaction ++ writing act
act_wrote setting transaction Draws passed = sym (append-nil (writes_of transaction))
act_wrote setting transaction (Reads read snapshot) passed =
    ap writes_of (read_made setting transaction false snapshot read passed).is
    ∙ written_with_read snapshot read (answer read (view setting transaction))
    (added read (map_below setting transaction) (writes_of transaction)) (with_version setting transaction)
    ∙ sym (append-nil (writes_of transaction))
act_wrote setting transaction (Writes mutation) passed = write_called_made transaction mutation passed
act_wrote setting transaction DisablesWriteConflict passed =
    ap writes_of (does_made (phase_code transaction.phase) transaction (with_write_conflict_disabled transaction) reply.Done passed)
    ∙ sym (append-nil (writes_of transaction))
act_wrote setting transaction (AddsWriteConflict key) passed =
    ap writes_of (write_conflicts_made transaction key passed) ∙ sym (append-nil (writes_of transaction))

-- ---- acts in their order

-- none of them was refused
abbrev pub AreLetThrough : Setting → List Act → Transaction → Type 0
AreLetThrough setting acts transaction = (all_acted setting acts transaction).refused ≡ None

-- what they leave
abbrev pub left_by : Setting → List Act → Transaction → Transaction
left_by setting acts transaction = (all_acted setting acts transaction).transaction

-- an act and others: whether any is refused, and what is left, the others say
record IsFirst (setting : Setting) (act : Act) (acts : List Act) (transaction : Transaction) : Type 0 where
  refused : (all_acted setting (act ∷ acts) transaction).refused
      ≡ (all_acted setting acts (act_called setting transaction act).transaction).refused
  left : left_by setting (act ∷ acts) transaction ≡ left_by setting acts (act_called setting transaction act).transaction

-- so it is where the first is let through
first_passed : (setting : Setting) (act : Act) (acts : List Act) (transaction : Transaction)
    → refusal (act_called setting transaction act).reply ≡ None → IsFirst setting act acts transaction
unfolding all_acted
first_passed setting act acts transaction passed = record {
  refused = ap (λ code. (acted_by code (act_called setting transaction act).transaction (words_of act)
      (all_acted setting acts (act_called setting transaction act).transaction)).refused) passed;
  left = ap (λ code. (acted_by code (act_called setting transaction act).transaction (words_of act)
      (all_acted setting acts (act_called setting transaction act).transaction)).transaction) passed;
}

-- where none was refused the first wasn't
pub first_act : (setting : Setting) (act : Act) (acts : List Act) (transaction : Transaction)
    → AreLetThrough setting (act ∷ acts) transaction → refusal (act_called setting transaction act).reply ≡ None
unfolding all_acted
first_act setting act acts transaction passed = by (refusal (act_called setting transaction act).reply) passed
  where
    by : (code : Option Code) → (acted_by code (act_called setting transaction act).transaction (words_of act)
        (all_acted setting acts (act_called setting transaction act).transaction)).refused ≡ None → code ≡ None
    by (Some code) passed = absurd cc
    by None passed = refl

-- and none of the others was
pub other_acts : (setting : Setting) (act : Act) (acts : List Act) (transaction : Transaction)
    → AreLetThrough setting (act ∷ acts) transaction → AreLetThrough setting acts (act_called setting transaction act).transaction
other_acts setting act acts transaction passed =
    sym (first_passed setting act acts transaction (first_act setting act acts transaction passed)).refused ∙ passed

-- so they leave what the others leave behind it
pub left_first : (setting : Setting) (act : Act) (acts : List Act) (transaction : Transaction)
    → AreLetThrough setting (act ∷ acts) transaction
    → left_by setting (act ∷ acts) transaction ≡ left_by setting acts (act_called setting transaction act).transaction
left_first setting act acts transaction passed =
    (first_passed setting act acts transaction (first_act setting act acts transaction passed)).left

-- no act leaves the transaction as it is
pub none_left : (setting : Setting) (transaction : Transaction) → left_by setting [] transaction ≡ transaction
unfolding all_acted
none_left setting transaction = refl

-- and is not refused
none_refused : (setting : Setting) (transaction : Transaction) → AreLetThrough setting [] transaction
unfolding all_acted
none_refused setting transaction = refl

-- acts and acts behind them: those before were let through, those behind on what they left, and so it is left
pub record AreInParts (setting : Setting) (first second : List Act) (transaction : Transaction) : Type 0 where
  pub before : AreLetThrough setting first transaction
  pub behind : AreLetThrough setting second (left_by setting first transaction)
  pub left : left_by setting (first ++ second) transaction ≡ left_by setting second (left_by setting first transaction)

-- acts that were all let through are such parts
pub in_parts : (setting : Setting) (first second : List Act) (transaction : Transaction)
    → AreLetThrough setting (first ++ second) transaction → AreInParts setting first second transaction
in_parts setting [] second transaction passed = record {
  before = none_refused setting transaction;
  behind = ap (λ (t : Transaction). (all_acted setting second t).refused) (none_left setting transaction) ∙ passed;
  left = ap (λ (t : Transaction). left_by setting second t) (sym (none_left setting transaction));
}
in_parts setting (act ∷ first) second transaction passed =
    let allowed = first_act setting act (first ++ second) transaction passed in
    let next = (act_called setting transaction act).transaction in
    let one = first_passed setting act first transaction allowed in
    let rest = in_parts setting first second next (other_acts setting act (first ++ second) transaction passed) in record {
      before = one.refused ∙ rest.before;
      behind = ap (λ (t : Transaction). (all_acted setting second t).refused) one.left ∙ rest.behind;
      left = left_first setting act (first ++ second) transaction passed ∙ rest.left
          ∙ ap (λ (t : Transaction). left_by setting second t) (sym one.left);
    }

-- what they leave of a transaction, refused or not
pub all_grown : (setting : Setting) (acts : List Act) (transaction : Transaction) → HasGrown transaction (left_by setting acts transaction)
unfolding all_acted
all_grown setting [] transaction = same_grown transaction
all_grown setting (act ∷ acts) transaction =
    by (refusal (act_called setting transaction act).reply) (all_grown setting acts (act_called setting transaction act).transaction)
  where
    next : Transaction
    next = (act_called setting transaction act).transaction

    by : (code : Option Code) → HasGrown next (left_by setting acts next)
        → HasGrown transaction (acted_by code next (words_of act) (all_acted setting acts next)).transaction
    by (Some code) later = act_grown setting transaction act
    by None later = grown_twice transaction next (left_by setting acts next) (act_grown setting transaction act) later

-- the mutations of acts, one list after the other
pub written_by-append : (first second : List Act) → written_by (first ++ second) ≡ written_by first ++ written_by second
written_by-append first second = flat_map-append writing first second

-- acts that were all let through wrote their mutations
pub all_wrote : (setting : Setting) (acts : List Act) (transaction : Transaction) → AreLetThrough setting acts transaction
    → writes_of (left_by setting acts transaction) ≡ writes_of transaction ++ written_by acts
all_wrote setting [] transaction passed = ap writes_of (none_left setting transaction) ∙ sym (append-nil (writes_of transaction))
all_wrote setting (act ∷ acts) transaction passed =
    ap writes_of (left_first setting act acts transaction passed)
    ∙ all_wrote setting acts (act_called setting transaction act).transaction (other_acts setting act acts transaction passed)
    ∙ ap (λ list. list ++ written_by acts) (act_wrote setting transaction act (first_act setting act acts transaction passed))
    ∙ append_assoc (writes_of transaction) (writing act) (written_by acts)

-- so these are what their entries wrote
pub entries_wrote : (setting : Setting) (acts : List Act) (transaction : Transaction) → AreLetThrough setting acts transaction
    → written (all_grown setting acts transaction).entries ≡ written_by acts
entries_wrote setting acts transaction passed =
    let grown = all_grown setting acts transaction in
    append_cancel_left (writes_of transaction) (written grown.entries) (written_by acts)
    (sym (written-append transaction.script grown.entries) ∙ ap written (sym grown.more) ∙ all_wrote setting acts transaction passed)

-- the version of a transaction after acts of which the first is a read
pub version_left : (setting : Setting) (read : Read) (snapshot : Bool) (acts : List Act) (transaction : Transaction)
    → AreLetThrough setting (Reads read snapshot ∷ acts) transaction
    → (left_by setting (Reads read snapshot ∷ acts) transaction).version ≡ Some (version_in setting transaction)
version_left setting read snapshot acts transaction passed =
    let next = (read_called setting transaction false snapshot read).transaction in
    let made = read_made setting transaction false snapshot read (first_act setting (Reads read snapshot) acts transaction passed) in
    ap (λ (t : Transaction). t.version) (left_first setting (Reads read snapshot) acts transaction passed)
    ∙ (all_grown setting acts next).taken (version_in setting transaction) (ap (λ (t : Transaction). t.version) made.is
    ∙ version_with_read snapshot read (answer read (view setting transaction))
    (added read (map_below setting transaction) (writes_of transaction)) (with_version setting transaction))
