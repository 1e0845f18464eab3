-- What a read that was let through was answered.
use Rattle.std.proofs.Common.{◌≡◌, ℕ, Bool, true, false, List, [], ◌∷◌, Option, Some, None, refl, ◌∙◌}
use Rattle.std.specs.FinMap as finite
use Rattle.key_bytes.specs.declared.range.KeyRange.{KeyRange}
use Rattle.model_database.specs.Histories.{Setting}
use Rattle.model_database.specs.Intervals.{one, any_meet}
use Rattle.model_database.specs.Reads.{Read, Get, GetKeyRange, answer}
use Rattle.model_database.specs.Slices.{Entries, slice}
use Rattle.model_database.specs.States.{covers, unreadable}
use Rattle.model_database.specs.declared.TheConstants.{FUTURE_VERSION, TRANSACTION_TOO_OLD, ACCESSED_UNREADABLE}
use Rattle.model_database.specs.Transactions.{Transaction, view, writes_of, with_version, is_ahead, is_behind, is_hidden, first_failing, late_checks, read_code}
use Rattle.model_database.proofs.Ranges.{covers_one, any_meet_at}
use Rattle.fdb_calls.specs.declared.Reply.TheVariants as reply
use Rattle.fdb_calls.specs.Calling.{read_by, read_at_version}
use Rattle.model_allocator.specs.Acts.{Reads, act_called, refusal}
use Rattle.model_allocator.proofs.Viewing.{itself}

-- ---- answers

late_value : (setting : Setting) (t : Transaction) (later : Option ℕ) (snapshot : Bool) (key : List ℕ) (value : Option (List ℕ))
    → reply.Value value ≡ (read_at_version later setting t snapshot (Get key)).reply → value ≡ finite.get (view setting t) key
unfolding answer
late_value setting t (Some code) snapshot key value is = absurd cc
late_value setting t None snapshot key value is = cc

value_by : (setting : Setting) (t : Transaction) (first : Option ℕ) (snapshot : Bool) (key : List ℕ) (value : Option (List ℕ))
    → reply.Value value ≡ (read_by first setting t snapshot (Get key)).reply → value ≡ finite.get (view setting t) key
value_by setting t (Some code) snapshot key value is = absurd cc
value_by setting t None snapshot key value is =
    late_value setting (with_version setting t) (first_failing (late_checks setting (with_version setting t) (Get key))) snapshot key
    value is

-- a value that was answered is what is seen
pub value_read : (setting : Setting) (t : Transaction) (snapshot : Bool) (key : List ℕ) (value : Option (List ℕ))
    → reply.Value value ≡ (act_called setting t (Reads (Get key) snapshot)).reply → value ≡ finite.get (view setting t) key
value_read setting t snapshot key value is = value_by setting t (read_code t.phase false (Get key)) snapshot key value is

late_pairs : (setting : Setting) (t : Transaction) (later : Option ℕ) (snapshot backward : Bool) (begin end : List ℕ) (limit : ℕ)
    (pairs : Entries)
    → reply.PairsAre pairs ≡ (read_at_version later setting t snapshot (GetKeyRange begin end limit backward)).reply
    → pairs ≡ slice (view setting t) begin end limit backward
unfolding answer
late_pairs setting t (Some code) snapshot backward begin end limit pairs is = absurd cc
late_pairs setting t None snapshot backward begin end limit pairs is = cc

pairs_by : (setting : Setting) (t : Transaction) (first : Option ℕ) (snapshot backward : Bool) (begin end : List ℕ) (limit : ℕ)
    (pairs : Entries)
    → reply.PairsAre pairs ≡ (read_by first setting t snapshot (GetKeyRange begin end limit backward)).reply
    → pairs ≡ slice (view setting t) begin end limit backward
pairs_by setting t (Some code) snapshot backward begin end limit pairs is = absurd cc
pairs_by setting t None snapshot backward begin end limit pairs is =
    late_pairs setting (with_version setting t)
    (first_failing (late_checks setting (with_version setting t) (GetKeyRange begin end limit backward)))
    snapshot backward begin end limit pairs is

-- and so are the pairs of a range
pub pairs_read : (setting : Setting) (t : Transaction) (snapshot backward : Bool) (begin end : List ℕ) (limit : ℕ) (pairs : Entries)
    → reply.PairsAre pairs ≡ (act_called setting t (Reads (GetKeyRange begin end limit backward) snapshot)).reply
    → pairs ≡ slice (view setting t) begin end limit backward
pairs_read setting t snapshot backward begin end limit pairs is =
    pairs_by setting t (read_code t.phase false (GetKeyRange begin end limit backward)) snapshot backward begin end limit pairs is

-- ---- a key that may be read

not_hidden : (setting : Setting) (t : Transaction) (snapshot : Bool) (read : Read) (behind ahead hidden : Bool)
    → refusal (read_at_version (first_failing ((behind, TRANSACTION_TOO_OLD) ∷ (ahead, FUTURE_VERSION) ∷ (hidden, ACCESSED_UNREADABLE) ∷ [])) setting t snapshot
    read).reply ≡ None
    → hidden ≡ false
not_hidden setting t snapshot read true ahead hidden passed = absurd cc
not_hidden setting t snapshot read false true hidden passed = absurd cc
not_hidden setting t snapshot read false false true passed = absurd cc
not_hidden setting t snapshot read false false false passed = refl

not_met : (key : List ℕ) (ranges : List KeyRange) → any_meet (one key ∷ []) ranges ≡ false → covers ranges key ≡ false
not_met key ranges apart = by (covers ranges key) refl
  where
    by : (covered : Bool) → covers ranges key ≡ covered → covered ≡ false
    by false is = refl
    by true is =
        absurd (let meets : any_meet (one key ∷ []) ranges ≡ true = any_meet_at (one key ∷ []) ranges key (covers_one key key
        ∙ itself key) is in cc)

readable_by : (setting : Setting) (t : Transaction) (first : Option ℕ) (snapshot : Bool) (key : List ℕ)
    → refusal (read_by first setting t snapshot (Get key)).reply ≡ None → covers (unreadable (writes_of t)) key ≡ false
readable_by setting t (Some code) snapshot key passed = absurd cc
readable_by setting t None snapshot key passed =
    let taken = with_version setting t in
    not_met key (unreadable (writes_of t))
    (not_hidden setting taken snapshot (Get key) (is_behind setting taken) (is_ahead setting taken) (is_hidden setting taken (Get key)) passed)

-- a key whose read was let through is one that no write makes unreadable
pub readable : (setting : Setting) (t : Transaction) (snapshot : Bool) (key : List ℕ)
    → refusal (act_called setting t (Reads (Get key) snapshot)).reply ≡ None → covers (unreadable (writes_of t)) key ≡ false
readable setting t snapshot key passed = readable_by setting t (read_code t.phase false (Get key)) snapshot key passed
