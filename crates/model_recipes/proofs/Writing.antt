-- What the byte string is after a write.
use Rattle.std.proofs.Common.{◌≡◌, ℕ, zero, suc, ◌+◌, ◌-◌, ◌*◌, ◌/◌, ◌<◌, ◌≤◌, ◌^◌, ◌⊎◌, Bool, true, false, cond, not, ◌&&◌, List, [], ◌∷◌, ◌++◌, length, take, drop, map, Option, Some, None, Result, Ok, Err, refl, sym, ap, ◌∙◌, inl, inr, subst, arith}
use Rattle.std.specs.Prelude.{◌==◌, nat_lt, bytes_eq, max, OnOk, IfOk}
use Rattle.std.specs.FinMap as finite
use Rattle.std.specs.FinMap.Entries.{by_order, put}
use Rattle.std.specs.List.{list_all}
use Rattle.std.specs.declared.cmp.Ordering.{Ordering}
use Rattle.std.specs.declared.cmp.Ordering.TheVariants.{Less, Equal, Greater}
use Rattle.std.proofs.lemmas.Bool.{and_from, ltb-false, eqb-false, cases_eq, cases_lt, eq-eqb, ne_eqb}
use Rattle.key_bytes.specs.Keys.{key_cmp}
use Rattle.key_bytes.proofs.Orders.{nat_cmp-equal, nat_cmp-greater}
use Rattle.model_database.specs.Databases.{Database, Mutation, Set}
use Rattle.model_database.specs.Histories.{Setting}
use Rattle.model_database.specs.Reads.{GetKeyRange}
use Rattle.model_database.specs.Slices.{Entries, slice}
use Rattle.model_database.specs.States.{covers, unreadable, range_from}
use Rattle.model_database.specs.Transactions.{Transaction, view, writes_of}
use Rattle.model_database.proofs.Ranges.{covers_single}
use Rattle.model_allocator.specs.Acts.{Act, Reads, Writes, act_called, all_acted, refusal}
use Rattle.model_allocator.specs.Granting.{counting}
use Rattle.model_allocator.proofs.Viewing.{after_read, spared, spares}
use Rattle.model_recipes.specs.declared.fault.RecipeFault.{RecipeFault}
use Rattle.model_recipes.specs.declared.fault.RecipeFault.TheVariants as fault
use Rattle.model_recipes.specs.declared.TheConstants.{CHUNK_BYTES, CHUNK_LIMIT, SIZE_LIMIT}
use Rattle.model_recipes.specs.Turns.{Turn, Call, replying, turned_by, written, acts, acts_behind, ending, view_after, is_inside, space_begin, space_end, pairs_of, IsAnswered, KeepsAll}
use Rattle.model_recipes.specs.Queues.{index_key}
use Rattle.model_recipes.specs.Blobs.{joined, blob_of, spoiled_from, AreChunks, told_bytes, bytes_in, bytes_seen, reads_all, size_call, part, read_call, IsSized, ArePart, overwritten, put_over, put_in, chunk, first_chunk, chunk_end, sets_chunks, sets_piece, write_call, IsOverwritten}
use Rattle.model_recipes.proofs.Seeing.{readable_after, set_value, still_readable}
use Rattle.model_recipes.proofs.Pairs.{pairs_set}
use Rattle.model_recipes.proofs.Calling.{each_through, none_acted, SpareOutside, others_kept, apart, all_kept}
use Rattle.model_recipes.proofs.Indexes.{index_cmp, index_inside}
use Rattle.model_recipes.proofs.Pieces.{AreFilled, chunks_of, chunks_same, all_joined, chunks_formed, cut, chunk_apart, over_filled}

-- ---- one chunk

put_later : (space : List ℕ) (value new : ℕ → List ℕ) (place count here left : ℕ) → place < here → place + suc count < 2 ^ 62
    → value place ≡ new place
    → ((left : ℕ) → suc left ≡ max count (suc here - (place + 1))
    → put key_cmp (index_key space here) (new here) (chunks_of space value (place + 1) count) ≡ chunks_of space new (place + 1) (suc left))
    → suc left ≡ max (suc count) (suc here - place) → here ≤ place + suc count
    → put key_cmp (index_key space here) (new here) (chunks_of space value place (suc count)) ≡ chunks_of space new place (suc left)
put_later space value new place count here zero later few first others size high = absurd (omega (arith, size, later))
put_later space value new place count here (suc left) later few first others size high =
    ap (λ o. by_order o ((index_key space here, new here) ∷ chunks_of space value place (suc count)) ((index_key space place, new here) ∷ chunks_of space value (place + 1) count) ((index_key space place, value place) ∷ put key_cmp (index_key space here) (new here) (chunks_of space value (place + 1) count)))
    (index_cmp space here place (omega (arith, few, high)) (omega (arith, few)) ∙ nat_cmp-greater here place later)
    ∙ ap (λ v. (index_key space place, v) ∷ put key_cmp (index_key space here) (new here) (chunks_of space value (place + 1) count)) first
    ∙ ap (λ behind. (index_key space place, new place) ∷ behind) (others left (omega (arith, size, later)))

-- a chunk is put in its place, or behind the last
put_chunk : (space : List ℕ) (value new : ℕ → List ℕ) (place count here left : ℕ) → place ≤ here → here ≤ place + count
    → place + count < 2 ^ 62 → suc left ≡ max count (suc here - place)
    → ((k : ℕ) → (k ≡ here → ⊥) → value k ≡ new k)
    → put key_cmp (index_key space here) (new here) (chunks_of space value place count) ≡ chunks_of space new place (suc left)
put_chunk space value new place zero here left low high few size others =
    let same : here ≡ place = omega (arith, low, high) in
    let none : left ≡ 0 = omega (arith, size, low, high) in
    ap (λ k. (index_key space k, new k) ∷ []) same ∙ ap (λ left. chunks_of space new place (suc left)) (sym none)
put_chunk space value new place (suc count) here left low high few size others = elim (cases_eq here place) [
  | inl same ↦
      let size_is : left ≡ count = omega (arith, size, same) in
      ap (λ o. by_order o ((index_key space here, new here) ∷ chunks_of space value place (suc count)) ((index_key space place, new here) ∷ chunks_of space value (place + 1) count) ((index_key space place, value place) ∷ put key_cmp (index_key space here) (new here) (chunks_of space value (place + 1) count)))
      (index_cmp space here place (omega (arith, same, few)) (omega (arith, few)) ∙ nat_cmp-equal here place same)
      ∙ ap (λ k. (index_key space place, new k) ∷ chunks_of space value (place + 1) count) same
      ∙ ap (λ others. (index_key space place, new place) ∷ others) (chunks_same space value new (place + 1) count (λ k above. others k (λ is. omega (arith, above, is, same))))
      ∙ ap (λ left. chunks_of space new place (suc left)) (sym size_is)
  | inr differ ↦
      put_later space value new place count here left (omega (arith, low, differ)) few (others place (λ is. differ (sym is)))
      (λ left size. put_chunk space value new (place + 1) count here left (omega (arith, low, differ)) (omega (arith, high)) (omega (arith, few)) size others) size high
]

-- ---- the sets

-- no write makes a key of the subspace unreadable
abbrev IsReadable : (space : List ℕ) → Transaction → Type 0
IsReadable space t = (key : List ℕ) → is_inside space key ≡ true → covers (unreadable (writes_of t)) key ≡ false

-- the values with one of them changed
abbrev changed : (value new : ℕ → List ℕ) → (here : ℕ) → ℕ → List ℕ
changed value new here k = cond (k == here) (new k) (value k)

changed_is : (value new : ℕ → List ℕ) (here k : ℕ) → (k ≡ here → ⊥) → value k ≡ changed value new here k
changed_is value new here k differ = ap (λ b. cond b (new k) (value k)) (sym (ne_eqb k here differ))

changed_here : (value new : ℕ → List ℕ) (here : ℕ) → changed value new here here ≡ new here
changed_here value new here = ap (λ b. cond b (new here) (value here)) (eq-eqb here here refl)

-- so many sets that are let through, one behind the other
sets_through : (space : List ℕ) (setting : Setting) (value : ℕ → List ℕ) (bytes : List ℕ) (count : ℕ) (from sets all : ℕ) (t : Transaction)
    → IsReadable space t → pairs_of space (view setting t) ≡ chunks_of space value 0 count
    → from ≤ count → count < 2 ^ 61 → from + sets < 2 ^ 61 → all ≡ max count (from + sets)
    → ((k : ℕ) → (k < from) ⊎ (from + sets ≤ k) → value k ≡ chunk bytes k)
    → (all_acted setting (written (sets_chunks space bytes from sets)) t).refused ≡ None
    → pairs_of space (view setting (all_acted setting (written (sets_chunks space bytes from sets)) t).transaction)
    ≡ chunks_of space (chunk bytes) 0 all
sets_through space setting value bytes count from zero all t readable are within few small all_is same none =
    let count_is : count ≡ all = omega (arith, all_is, within) in
    ap (λ u. pairs_of space (view setting u)) (none_acted setting t).1 ∙ are
    ∙ chunks_same space value (chunk bytes) 0 count (λ k low. either k (cases_lt k from))
    ∙ ap (chunks_of space (chunk bytes) 0) count_is
  where
    either : (k : ℕ) → (k < from) ⊎ (from ≤ k) → value k ≡ chunk bytes k
    either k (inl below) = same k (inl below)
    either k (inr above) = same k (inr (omega (arith, above)))
sets_through space setting value bytes count from (suc sets) all t readable are within few small all_is same none =
    let key = index_key space from in
    let set = Set key (chunk bytes from) in
    let first = each_through setting (Writes set) (written (sets_chunks space bytes (from + 1) sets)) t none in
    let u = (act_called setting t (Writes set)).transaction in
    let inside = index_inside space from (omega (arith, small)) in
    let value' = changed value (chunk bytes) from in
    let left = max count (suc from) - 1 in
    let put_is = put_chunk space value value' 0 count from left (omega arith) (omega (arith, within)) (omega (arith, few)) (omega (arith, within))
    (λ k differ. changed_is value (chunk bytes) from k differ) in
    let seen : pairs_of space (view setting u) ≡ chunks_of space value' 0 (suc left) =
    pairs_set space (view setting t) (view setting u) key (chunk bytes from) inside
    (set_value setting t key (chunk bytes from) (readable key inside) first.passed) (λ q other. spared setting (Writes set) t q (ap not other))
    ∙ ap (put key_cmp key (chunk bytes from)) are
    ∙ ap (λ v. put key_cmp key v (chunks_of space value 0 count)) (sym (changed_here value (chunk bytes) from))
    ∙ put_is in
    ap (λ v. pairs_of space (view setting v)) first.left
    ∙ sets_through space setting value' bytes (suc left) (from + 1) sets all u
    (λ q in_it. still_readable setting t set q refl first.passed (readable q in_it)) seen
    (omega arith) (omega (arith, few, small)) (omega (arith, small)) (omega (arith, all_is))
    (λ k where_is. by k where_is (cases_eq k from)) first.others
  where
    by : (k : ℕ) → (k < from + 1) ⊎ (from + 1 + sets ≤ k) → (k ≡ from) ⊎ (k ≡ from → ⊥) → changed value (chunk bytes) from k ≡ chunk bytes k
    by k where_is (inl is) = ap (λ b. cond b (chunk bytes k) (value k)) (eq-eqb k from is)
    by k (inl below) (inr differ) = sym (changed_is value (chunk bytes) from k differ) ∙ same k (inl (omega (arith, below, differ)))
    by k (inr above) (inr differ) = sym (changed_is value (chunk bytes) from k differ) ∙ same k (inr (omega (arith, above)))

-- ---- a write

-- what is put over the bytes that are seen
record IsPut (space : List ℕ) (at : ℕ) (piece : List ℕ) (database : Database) (new : List ℕ) : Type 0 where
  formed : AreChunks space database
  within : at ≤ length (blob_of space database)
  fits : at + length piece ≤ SIZE_LIMIT
  is : overwritten (blob_of space database) at piece ≡ new

same_bytes : (found : Result (List ℕ) RecipeFault) (x y : List ℕ) → found ≡ Ok x → found ≡ Ok y → x ≡ y
same_bytes found x y one other = cc

put_is : (space : List ℕ) (at : ℕ) (piece : List ℕ) (database : Database) (new : List ℕ)
    → put_in at piece (bytes_seen space database) ≡ Ok new → IsPut space at piece database new
put_is space at piece database new is = by (spoiled_from space 0 (pairs_of space database)) refl is
  where
    by_limit : (behind past : Bool) → nat_lt (length (blob_of space database)) at ≡ behind → nat_lt SIZE_LIMIT (at + length piece) ≡ past
        → spoiled_from space 0 (pairs_of space database) ≡ None
        → cond behind (Err (fault.PastEnd (length (blob_of space database))))
        (cond past (Err fault.IndexEnd) (Ok (overwritten (blob_of space database) at piece))) ≡ Ok new
        → IsPut space at piece database new
    by_limit true past behind_is past_is none is = absurd cc
    by_limit false true behind_is past_is none is = absurd cc
    by_limit false false behind_is past_is none is = record {
      formed = none;
      within = ltb-false (length (blob_of space database)) at behind_is;
      fits = ltb-false SIZE_LIMIT (at + length piece) past_is;
      is = same_bytes (Ok (overwritten (blob_of space database) at piece)) (overwritten (blob_of space database) at piece) new refl is;
    }

    by : (spoiled : Option (List ℕ)) → spoiled_from space 0 (pairs_of space database) ≡ spoiled
        → put_in at piece (told_bytes (blob_of space database) spoiled) ≡ Ok new → IsPut space at piece database new
    by (Some key) spoiled is = absurd cc
    by None none is =
        by_limit (nat_lt (length (blob_of space database)) at) (nat_lt SIZE_LIMIT (at + length piece)) refl refl none is

-- the chunks that are set lie within the limit
pub end_above : (at size : ℕ) → first_chunk at ≤ chunk_end at size
unfolding first_chunk chunk_end
end_above at size = by (size == 0) refl
  where
    by : (none : Bool) → (size == 0) ≡ none → at / CHUNK_BYTES ≤ cond none (at / CHUNK_BYTES) ((at + size - 1) / CHUNK_BYTES + 1)
    by true is = omega arith
    by false is = let some = eqb-false size 0 is in omega (arith, some)

end_within : (at size : ℕ) → at + size ≤ SIZE_LIMIT → chunk_end at size ≤ CHUNK_LIMIT
unfolding chunk_end
end_within at size fits = by (size == 0) refl
  where
    by : (none : Bool) → (size == 0) ≡ none → cond none (at / CHUNK_BYTES) ((at + size - 1) / CHUNK_BYTES + 1) ≤ CHUNK_LIMIT
    by true is = omega arith
    by false is = let some = eqb-false size 0 is in omega (arith, some)

first_within : (at count size : ℕ) → at ≤ size → AreFilled count size → first_chunk at ≤ count
unfolding first_chunk
first_within at count size within filled = omega (arith, filled.held)

chunk_values : (bytes : List ℕ) (k : ℕ) → chunk bytes (0 + k) ≡ take CHUNK_BYTES (drop (CHUNK_BYTES * k) bytes)
unfolding chunk
chunk_values bytes k = let same : 0 + k ≡ k = omega arith in ap (λ k. take CHUNK_BYTES (drop (CHUNK_BYTES * k) bytes)) same

few_chunks : (count : ℕ) → (count ≡ 0) ⊎ (0 + count ≤ CHUNK_LIMIT) → count ≤ CHUNK_LIMIT
few_chunks count (inl none) = omega arith
few_chunks count (inr few) = omega (arith, few)

-- the greater of two is one of them
one_of : (a b : ℕ) → (max a b ≡ a) ⊎ (max a b ≡ b)
one_of a b = elim (cases_lt a b) [ inl below ↦ inr (omega (arith, below)) | inr above ↦ inl (omega (arith, above)) ]

abbrev read_all : (space : List ℕ) → Act
read_all space = Reads (reads_all space) false

-- the pairs behind the sets are the chunks of the new bytes
record AreWritten (space : List ℕ) (new : List ℕ) (database : Database) : Type 0 where
  count : ℕ
  filled : AreFilled count (length new)
  few : count ≤ CHUNK_LIMIT
  are : pairs_of space database ≡ chunks_of space (chunk new) 0 count

sets_written : (space : List ℕ) (at : ℕ) (piece new : List ℕ) (setting : Setting) (t : Transaction) → IsPut space at piece (view setting t) new
    → (all_acted setting (read_all space ∷ written (sets_piece space at (length piece) new).writes) t).refused ≡ None
    → AreWritten space new (view setting (all_acted setting (read_all space ∷ written (sets_piece space at (length piece) new).writes) t).transaction)
sets_written space at piece new setting t over none =
    let old = blob_of space (view setting t) in
    let pairs = pairs_of space (view setting t) in
    let first = each_through setting (read_all space) (written (sets_piece space at (length piece) new).writes) t none in
    let t1 = (act_called setting t (read_all space)).transaction in
    let was = cut space (chunk old) 0 pairs over.formed (chunk_values old) in
    let n = length pairs in
    let few = few_chunks n was.few in
    let from = first_chunk at in
    let end = chunk_end at (length piece) in
    let up = end_above at (length piece) in
    let low = end_within at (length piece) over.fits in
    let all = max n (from + (end - from)) in
    let all_is : all ≡ max n end = omega (arith, up) in
    let seen : pairs_of space (view setting t1) ≡ chunks_of space (chunk old) 0 n = ap (pairs_of space) (after_read setting t (reads_all space) false) ∙ was.are in
    let readable : IsReadable space t1 = λ key inside. readable_after setting t false (reads_all space) key first.passed
    (covers_single (range_from (space_begin space) (space_end space)) key ∙ inside) in
    let same = λ (k : ℕ) (where_is : (k < from) ⊎ (from + (end - from) ≤ k)). chunk_apart old at piece k over.within (as_end k from end up where_is)
    ∙ ap (λ bytes. chunk bytes k) over.is in
    let done = sets_through space setting (chunk old) new n from (end - from) all t1 readable seen
    (first_within at n (length old) over.within was.filled) (omega (arith, few)) (omega (arith, up, low)) refl same first.others in
    let filled = over_filled old at piece n (max n end) over.within was.filled (omega arith) (omega arith) (one_of n end) in
    record {
      count = all;
      filled = subst (λ (bytes : List ℕ). AreFilled all (length bytes)) over.is
          (subst (λ (count : ℕ). AreFilled count (length (overwritten old at piece))) (sym all_is) filled);
      few = omega (arith, few, low, up);
      are = ap (λ u. pairs_of space (view setting u)) first.left ∙ done;
    }
  where
    as_end : (k from end : ℕ) → from ≤ end → (k < from) ⊎ (from + (end - from) ≤ k) → (k < from) ⊎ (end ≤ k)
    as_end k from end up (inl below) = inl below
    as_end k from end up (inr above) = inr (omega (arith, above, up))

written_bytes : (space new : List ℕ) (database : Database) → AreWritten space new database → blob_of space database ≡ new
written_bytes space new database done = ap joined done.are ∙ all_joined space new done.count done.filled

written_chunks : (space new : List ℕ) (database : Database) → AreWritten space new database → AreChunks space database
written_chunks space new database done =
    ap (spoiled_from space 0) done.are
    ∙ chunks_formed space new 0 done.count (record { held = omega (arith, done.filled.held); filled = omega (arith, done.filled.filled) })
    (omega (arith, done.few))

-- a write by what is put
abbrev writing_over : (space : List ℕ) → (at : ℕ) → (piece : List ℕ) → Result (List ℕ) RecipeFault → Call (Unit {0})
writing_over space at piece found = record { read = reads_all space; turn = turned_by (sets_piece space at (length piece)) found }

-- after a write that was let through
record HasWritten (space : List ℕ) (at : ℕ) (piece : List ℕ) (before after : Database) : Type 0 where
  bytes : blob_of space after ≡ overwritten (blob_of space before) at piece
  chunks : AreChunks space after

write_blob : (space : List ℕ) (at : ℕ) (piece : List ℕ) (setting : Setting) (t : Transaction) (done : Unit {0})
    → (all_acted setting (acts (write_call space at piece (view setting t))) t).refused ≡ None
    → ending (write_call space at piece (view setting t)).turn ≡ Ok done
    → HasWritten space at piece (view setting t) (view_after setting (write_call space at piece (view setting t)) t)
unfolding write_call
write_blob space at piece setting t done none ends = by (put_in at piece (bytes_seen space (view setting t))) refl none ends
  where
    by : (found : Result (List ℕ) RecipeFault) → put_in at piece (bytes_seen space (view setting t)) ≡ found
        → (all_acted setting (acts (writing_over space at piece found)) t).refused ≡ None
        → ending (writing_over space at piece found).turn ≡ Ok done
        → HasWritten space at piece (view setting t) (view_after setting (writing_over space at piece found) t)
    by (Err fault) is none ends = absurd cc
    by (Ok new) is none ends =
        let over = put_is space at piece (view setting t) new is in
        let all = sets_written space at piece new setting t over none in
        let after = view_after setting (writing_over space at piece (Ok new)) t in
        record { bytes = written_bytes space new after all ∙ sym over.is; chunks = written_chunks space new after all }

-- sets of chunks spare each key outside
sets_spare : (space : List ℕ) (bytes : List ℕ) (from count : ℕ) (q : List ℕ) → from + count < 2 ^ 62 → is_inside space q ≡ false
    → list_all (spares q) (written (sets_chunks space bytes from count)) ≡ true
sets_spare space bytes from zero q small outside = refl
sets_spare space bytes from (suc count) q small outside =
    and_from _ _ (ap not (apart space q (index_key space from) outside (index_inside space from (omega (arith, small)))))
    (sets_spare space bytes (from + 1) count q (omega (arith, small)) outside)

write_spares : (space : List ℕ) (at : ℕ) (piece : List ℕ) (setting : Setting) (t : Transaction)
    → SpareOutside space (acts (write_call space at piece (view setting t)))
unfolding write_call
write_spares space at piece setting t q outside = by (put_in at piece (bytes_seen space (view setting t))) refl
  where
    by : (found : Result (List ℕ) RecipeFault) → put_in at piece (bytes_seen space (view setting t)) ≡ found
        → list_all (spares q) (acts_behind (turned_by (sets_piece space at (length piece)) found)) ≡ true
    by (Err fault) is = refl
    by (Ok new) is =
        let over = put_is space at piece (view setting t) new is in
        let low = end_within at (length piece) over.fits in
        let up = end_above at (length piece) in
        sets_spare space new (first_chunk at) (chunk_end at (length piece) - first_chunk at) q (omega (arith, low, up)) outside

bytes_written : (result : Result (Unit {0}) RecipeFault) (setting : Setting) (stands : Transaction → Type 0) (space : List ℕ) (at : ℕ)
    (piece : List ℕ) (t : Transaction) → IsAnswered result setting stands (write_call space at piece (view setting t)) t
    → OnOk result (HasWritten space at piece (view setting t) (view_after setting (write_call space at piece (view setting t)) t))
bytes_written (Ok done) setting stands space at piece t answered = write_blob space at piece setting t done answered.0 answered.1
bytes_written (Err fault) setting stands space at piece t answered = tt

on_ok : (result : Result (Unit {0}) RecipeFault) (P Q : Type 0) → (P → Q) → OnOk result P → OnOk result Q
on_ok (Ok done) P Q then p = then p
on_ok (Err fault) P Q then p = tt

-- a write by what it answers
pub overwrote : (result : Result (Unit {0}) RecipeFault) (setting : Setting) (stands : Transaction → Type 0) (space : List ℕ) (at : ℕ)
    (piece : List ℕ) (t : Transaction) → IsAnswered result setting stands (write_call space at piece (view setting t)) t
    → IsOverwritten result setting stands space at piece t
overwrote result setting stands space at piece t answered =
    let after = view_after setting (write_call space at piece (view setting t)) t in
    let done = bytes_written result setting stands space at piece t answered in
    record {
      answered = answered;
      bytes = on_ok result (HasWritten space at piece (view setting t) after)
          (blob_of space after ≡ overwritten (blob_of space (view setting t)) at piece) (λ has. has.bytes) done;
      chunks = on_ok result (HasWritten space at piece (view setting t) after) (AreChunks space after) (λ has. has.chunks) done;
      others = others_kept space setting _ t (write_spares space at piece setting t);
    }

-- ---- size and read

-- what is replied is of the bytes that are seen
replied_of : {X : Type 0} (reply_of : List ℕ → X) (space : List ℕ) (database : Database) (reply : X)
    → ending (turned_by (λ bytes. replying (reply_of bytes)) (bytes_seen space database)) ≡ Ok reply → reply ≡ reply_of (blob_of space database)
replied_of reply_of space database reply is = by (spoiled_from space 0 (pairs_of space database)) is
  where
    by : (spoiled : Option (List ℕ))
        → ending (turned_by (λ bytes. replying (reply_of bytes)) (told_bytes (blob_of space database) spoiled)) ≡ Ok reply
        → reply ≡ reply_of (blob_of space database)
    by (Some key) is = absurd cc
    by None is = cc

reading_kept : {X : Type 0} (reply_of : List ℕ → X) (space : List ℕ) (setting : Setting) (found : Result (List ℕ) RecipeFault) (t : Transaction)
    → KeepsAll setting (read_all space ∷ acts_behind (turned_by (λ bytes. replying (reply_of bytes)) found)) t
reading_kept reply_of space setting (Ok bytes) t = all_kept setting (reads_all space) t
reading_kept reply_of space setting (Err fault) t = all_kept setting (reads_all space) t

size_is : (result : Result ℕ RecipeFault) (setting : Setting) (stands : Transaction → Type 0) (space : List ℕ) (t : Transaction)
    → IsAnswered result setting stands (size_call space (view setting t)) t
    → IfOk result (λ size. size ≡ length (blob_of space (view setting t)))
unfolding size_call
size_is (Ok size) setting stands space t answered = replied_of length space (view setting t) size answered.1
size_is (Err fault) setting stands space t answered = tt

size_kept : (space : List ℕ) (setting : Setting) (t : Transaction) → KeepsAll setting (acts (size_call space (view setting t))) t
unfolding size_call
size_kept space setting t = reading_kept length space setting (bytes_seen space (view setting t)) t

pub sized : (result : Result ℕ RecipeFault) (setting : Setting) (stands : Transaction → Type 0) (space : List ℕ) (t : Transaction)
    → IsAnswered result setting stands (size_call space (view setting t)) t → IsSized result setting stands space t
sized result setting stands space t answered = record {
  answered = answered;
  size = size_is result setting stands space t answered;
  same = size_kept space setting t;
}

part_is : (result : Result (List ℕ) RecipeFault) (setting : Setting) (stands : Transaction → Type 0) (space : List ℕ) (from most : ℕ) (t : Transaction)
    → IsAnswered result setting stands (read_call space from most (view setting t)) t
    → IfOk result (λ bytes. bytes ≡ part from most (blob_of space (view setting t)))
unfolding read_call
part_is (Ok bytes) setting stands space from most t answered = replied_of (part from most) space (view setting t) bytes answered.1
part_is (Err fault) setting stands space from most t answered = tt

part_kept : (space : List ℕ) (from most : ℕ) (setting : Setting) (t : Transaction)
    → KeepsAll setting (acts (read_call space from most (view setting t))) t
unfolding read_call
part_kept space from most setting t = reading_kept (part from most) space setting (bytes_seen space (view setting t)) t

pub read_part : (result : Result (List ℕ) RecipeFault) (setting : Setting) (stands : Transaction → Type 0) (space : List ℕ) (from most : ℕ)
    (t : Transaction) → IsAnswered result setting stands (read_call space from most (view setting t)) t
    → ArePart result setting stands space from most t
read_part result setting stands space from most t answered = record {
  answered = answered;
  bytes = part_is result setting stands space from most t answered;
  same = part_kept space from most setting t;
}
