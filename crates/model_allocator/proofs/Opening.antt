-- The acts that open a window: what they count, and which numbers they leave as they are.
use Rattle.std.proofs.Common.{◌≡◌, ℕ, zero, suc, ◌+◌, ◌^◌, ◌<◌, ◌≤◌, Bool, true, false, List, [], length, Option, Some, None, refl, sym, ap, ◌∙◌, arith}
use Rattle.std.specs.Prelude.{◌/◌, ◌&&◌, if◌then◌else◌, not, is_some, unwrap_or}
use Rattle.std.specs.FinMap as finite
use Rattle.std.specs.List.{list_all}
use Rattle.std.proofs.lemmas.Bool.{le-ltb}
use Rattle.key_bytes.specs.Keys.{within}
use Rattle.model_database.specs.declared.AtomicOp.TheVariants as atomic
use Rattle.model_database.specs.Atomics.{atom, little_bytes, little_sum}
use Rattle.model_database.specs.Databases.{Database, Mutation, Atomic}
use Rattle.model_database.specs.Histories.{Setting}
use Rattle.model_database.specs.KeyByKey.{is_plain}
use Rattle.model_database.specs.Reads.{Get}
use Rattle.model_database.specs.States.{covers, unreadable}
use Rattle.model_database.specs.Transactions.{Transaction, view, writes_of, op_code}
use Rattle.model_database.proofs.AddingConflicts.{written_wrote}
use Rattle.fdb_calls.specs.declared.Reply.TheVariants as reply
use Rattle.fdb_calls.specs.Calling.{write_by}
use Rattle.model_allocator.specs.declared.TheConstants.{GREATEST_COUNTER}
use Rattle.model_allocator.specs.Acts.{Reads, Writes, act_called, all_acted, refusal}
use Rattle.model_allocator.specs.Counters.{counter_key, recent_prefix, recent_key, window, one_more, counted, is_recent}
use Rattle.model_allocator.specs.Granting.{opens}
use Rattle.model_allocator.proofs.Keys.{kinds_differ_back, recent_kept, recent_cleared}
use Rattle.model_allocator.proofs.Reading.{value_read, readable}
use Rattle.model_allocator.proofs.Viewing.{spares, all_spared, same_unreadable, atomic_seen}
use Rattle.model_allocator.proofs.Windows.{window_bounds}

-- ---- numbers that were tried

-- where the start is behind a window that is half full
abbrev pub opened_start : (is_half : Bool) → (first : ℕ) → ℕ
opened_start is_half first = if is_half then first + window first else first

spares_opens : (is_half : Bool) (space : List ℕ) (first number : ℕ) → first ≤ GREATEST_COUNTER → opened_start is_half first ≤ number
    → number < 2 ^ 63
    → list_all (spares (recent_key space number)) (opens is_half space first) ≡ true
spares_opens false space first number small above below = rw (kinds_differ_back space number first) refl
spares_opens true space first number small above below =
    let start = first + window first in
    let bound : window first ≤ 8192 = (window_bounds first).1 in
    let start_small : start < 2 ^ 63 = omega arith in
    let kept : within (recent_prefix space) (recent_key space start) (recent_key space number) ≡ false =
    recent_cleared space start number start_small below ∙ le-ltb number start above in
    let first_apart = kinds_differ_back space number first in
    let start_apart = kinds_differ_back space number start in
    let others = recent_kept space start number in
    by _ _ _ _ first_apart others kept start_apart
  where
    by : (one two three four : Bool) → one ≡ false → two ≡ false → three ≡ false → four ≡ false
        → (true && ((not one) && (true && ((not two) && (true && ((not three) && ((not four) && (true && true)))))))) ≡ true
    by one two three four p q r s = rw (p, q, r, s) refl

-- opening a window leaves its numbers as they are
pub recent_opened : (setting : Setting) (t : Transaction) (is_half : Bool) (space : List ℕ) (first number : ℕ) → first ≤ GREATEST_COUNTER
    → opened_start is_half first ≤ number → number < 2 ^ 63
    → is_recent space (view setting (all_acted setting (opens is_half space first) t).transaction) number ≡ is_recent space
    (view setting t) number
recent_opened setting t is_half space first number small above below =
    ap is_some (all_spared setting (opens is_half space first) t (recent_key space number)
    (spares_opens is_half space first number small above below))

-- ---- the count

readable_before : (t : Transaction) (code : Option ℕ) (mutation : Mutation) (q : List ℕ) → is_plain mutation ≡ true
    → covers (unreadable (writes_of (write_by code t mutation).transaction)) q ≡ false → covers (unreadable (writes_of t)) q ≡ false
readable_before t (Some code) mutation q plain is = is
readable_before t None mutation q plain is =
    sym (same_unreadable (writes_of t) mutation q plain)
    ∙ sym (ap (λ writes. covers (unreadable writes) q) (written_wrote t.script mutation (not t.skips_write_conflict))) ∙ is

-- what is read of a counter that 1 was added to
pub count_read : (setting : Setting) (t : Transaction) (space : List ℕ) (start : ℕ) (value : Option (List ℕ))
    → refusal (act_called setting t (Writes (Atomic atomic.Add (counter_key space start) one_more))).reply ≡ None
    → reply.Value value ≡
    (act_called setting (act_called setting t (Writes (Atomic atomic.Add (counter_key space start) one_more))).transaction
    (Reads (Get (counter_key space start)) true)).reply
    → value ≡ counted space (view setting t) start
count_read setting t space start value passed is =
    let key = counter_key space start in
    let after = (act_called setting t (Writes (Atomic atomic.Add key one_more))).transaction in
    let let_through : refusal (act_called setting after (Reads (Get key) true)).reply ≡ None = ap refusal (sym is) in
    let free = readable_before t (op_code t.phase atomic.Add key one_more) (Atomic atomic.Add key one_more) key refl
    (readable setting after true key let_through) in
    value_read setting after true key value is ∙ atomic_seen setting t atomic.Add key one_more refl free passed

length-little_bytes : (size number : ℕ) → length (little_bytes size number) ≡ size
unfolding little_bytes
length-little_bytes zero number = refl
length-little_bytes (suc size) number = let others = length-little_bytes size (number / 256) in omega arith

-- a counter that 1 was added to has 8 bytes
pub counted_length : (space : List ℕ) (m : Database) (start : ℕ) → length (unwrap_or (counted space m start) []) ≡ 8
unfolding atom little_sum
counted_length space m start = by (finite.get m (counter_key space start))
  where
    by : (old : Option (List ℕ)) → length (unwrap_or (atom atomic.Add old one_more) []) ≡ 8
    by None = length-little_bytes 8 1
    by (Some old) = length-little_bytes (length one_more) _ ∙ length-little_bytes 8 1
