-- Where the reads of a call were let through, a number that the call saw absent is not spent under the mutations before: neither its own
-- key nor a counter above it is hidden.
use Rattle.std.proofs.Common.{◌≡◌, ℕ, ◌<◌, ◌≤◌, true, false, cond, List, [], ◌∷◌, None, inl, inr, sym, ap, ◌∙◌, arith}
use Rattle.std.specs.Prelude.{is_some, not, take}
use Rattle.std.specs.FinMap as finite
use Rattle.std.proofs.lemmas.Bool.{and_from, and_parts, both_ways, false_from_ne_true, lt-ltb}
use Rattle.std.proofs.lemmas.Map.Lookups.{exact_bytes}
use Rattle.key_bytes.specs.declared.range.KeyRange.{KeyRange}
use Rattle.key_bytes.specs.Keys.{key_le, key_lt, within}
use Rattle.key_bytes.proofs.Orders.{above_not_below}
use Rattle.model_database.specs.Databases.{Database, Mutation, do_all}
use Rattle.model_database.specs.Intervals.{any_meet, interval, slice_interval}
use Rattle.model_database.specs.Reads.{GetKeyRange}
use Rattle.model_database.specs.Slices.{Entries}
use Rattle.model_database.specs.States.{covers, range_from, seen, unreadable}
use Rattle.model_database.proofs.Ranges.{any_meet_at, covers_single}
use Rattle.model_allocator.specs.Counters.{counter_key, counters_begin, counters_end, greatest_counter, is_recent, recent_key}
use Rattle.model_allocator.proofs.Codes.{counter_in_is, counter_inside}
use Rattle.model_allocator.proofs.Keys.{counter_order}
use Rattle.laws_prefixes.specs.Held.{IsBelowCounter, IsSpent}
use Rattle.laws_prefixes.proofs.Finding.{IsGreatest}
use Rattle.laws_prefixes.proofs.Greatest.{absent_above, absent_all}

-- ---- keys that can be read

-- where ranges don't meet some others, none of their keys is in the others
pub unmet : (ranges others : List KeyRange) (key : List ℕ) → any_meet ranges others ≡ false → covers ranges key ≡ true
    → covers others key ≡ false
unmet ranges others key apart is_in =
    false_from_ne_true (covers others key) (λ is_there.
    both_ways (any_meet ranges others) apart (any_meet_at ranges others key is_in is_there))

-- at a key that can be read, reads see what the mutations leave
seen_there : (writes : List Mutation) (database : Database) (key : List ℕ) → covers (unreadable writes) key ≡ false
    → finite.get (seen writes database) key ≡ finite.get (do_all writes database) key
unfolding seen
seen_there writes database key readable =
    finite.get-retain_keys (do_all writes database) (λ k. not (covers (unreadable writes) k)) key
    (λ k same. ap (λ k. not (covers (unreadable writes) k)) (sym (exact_bytes key k same)))
    ∙ ap (λ b. cond (not b) (finite.get (do_all writes database) key) None) readable

-- ---- no counter above

-- of one entry none are behind it
none_behind : (entries : Entries) (entry : List ℕ × List ℕ) (others : Entries) → take 1 entries ≡ entry ∷ others → [] ≡ others
none_behind [] entry others is = absurd cc
none_behind (first ∷ entries) entry others is = cc

-- no key of counters in the read conflict range of a reverse read of one pair is unreadable
abbrev pub CanReadCounters : (space : List ℕ) → List Mutation → Database → Type 0
CanReadCounters space writes database =
    any_meet (interval (GetKeyRange (counters_begin space) (counters_end space) 1 true) (seen writes database)) (unreadable writes) ≡ false

module _ (space : List ℕ) (writes : List Mutation) (database : Database) (number : ℕ)
    (below : IsBelowCounter space number (do_all writes database)) where
  abbrev key : List ℕ
  key = counter_key space below.counter

  -- a counter that is present, at a key that can be read, is seen
  unseen : covers (unreadable writes) key ≡ false → finite.get (seen writes database) key ≡ None → ⊥
  unseen readable none =
      both_ways (is_some (finite.get (do_all writes database) key))
      (ap is_some (sym (seen_there writes database key readable) ∙ none)) below.present

  -- no counter is greater than the greatest one that was read, and there is none where none was read
  pub no_counter : (first : ℕ) → IsGreatest space (seen writes database) first → first ≤ number
      → CanReadCounters space writes database → ⊥
  no_counter first (inl none) from apart =
      let begin = counters_begin space in
      let end = counters_end space in
      let inside : within begin end key ≡ true = counter_inside space below.counter below.small in
      unseen
      (unmet (range_from begin end ∷ []) (unreadable writes) key
      (ap (λ pairs. any_meet (slice_interval begin end 1 true pairs ∷ []) (unreadable writes)) (sym none) ∙ apart)
      (covers_single (range_from begin end) key ∙ inside))
      (absent_all (seen writes database) begin end none key inside)
  no_counter first (inr (entry, others, is, found)) from apart =
      let begin = counters_begin space in
      let end = counters_end space in
      let inside : within begin end key ≡ true = counter_inside space below.counter below.small in
      let alone : greatest_counter space (seen writes database) ≡ entry ∷ [] =
      is ∙ ap (λ list. entry ∷ list) (sym (none_behind _ entry others is)) in
      let below_counter : first < below.counter = omega (arith, below.above) in
      let before : key_lt entry.0 key ≡ true =
      ap (λ k. key_lt k key) (counter_in_is space entry.0 first found).0
      ∙ counter_order space first below.counter (omega (arith, below.small)) below.small
      ∙ lt-ltb first below.counter below_counter in
      unseen
      (unmet (range_from entry.0 end ∷ []) (unreadable writes) key
      (ap (λ pairs. any_meet (slice_interval begin end 1 true pairs ∷ []) (unreadable writes)) (sym alone) ∙ apart)
      (covers_single (range_from entry.0 end) key
      ∙ and_from (key_le entry.0 key) (key_lt key end) (ap not (above_not_below entry.0 key before))
      (and_parts (key_le begin key) (key_lt key end) inside).1))
      (absent_above (seen writes database) begin end entry others is key inside before)

-- ---- a number that is free

-- a number is not spent whose key can be read and was seen absent, and which is not below the greatest counter that was read
pub is_free : (space : List ℕ) (writes : List Mutation) (database : Database) (first number : ℕ)
    → is_recent space (seen writes database) number ≡ false → covers (unreadable writes) (recent_key space number) ≡ false
    → IsGreatest space (seen writes database) first → first ≤ number
    → CanReadCounters space writes database → IsSpent space number (do_all writes database) → ⊥
is_free space writes database first number absent readable greatest from apart (inl recent) =
    both_ways (is_recent space (do_all writes database) number)
    (ap is_some (sym (seen_there writes database (recent_key space number) readable)) ∙ absent) recent
is_free space writes database first number absent readable greatest from apart (inr below) =
    no_counter space writes database number below first greatest from apart
