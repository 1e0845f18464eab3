-- Bytes cut into chunks, and joined again.
use Rattle.std.proofs.Common.{◌≡◌, ℕ, zero, suc, ◌+◌, ◌-◌, ◌*◌, ◌/◌, ◌<◌, ◌≤◌, ◌⊎◌, Bool, true, false, cond, ◌&&◌, List, [], ◌∷◌, ◌++◌, length, take, drop, map, Option, Some, None, refl, sym, ap, ◌∙◌, inl, inr, arith, append_assoc}
use Rattle.std.specs.Prelude.{◌==◌, nat_lt, nat_le, min, flat_map, bytes_eq}
use Rattle.std.specs.Cmp.Lexicographic.{same_text}
use Rattle.std.proofs.Math.Seq.{drop-append-add}
use Rattle.std.proofs.lemmas.Bool.{and_parts, and_from, eqb-true, eqb-false, eq-eqb, leb-true, ltb-true, lt-ltb, le-leb, cases_lt}
use Rattle.std.proofs.lemmas.List.{append-nil, length-append, length-drop, length-take, take-append-drop, take-append-le, drop-append-le, drop-drop, drop-take, take_all, drop_all}
use Rattle.model_allocator.specs.Granting.{counting}
use Rattle.model_allocator.proofs.Viewing.{itself}
use Rattle.model_database.specs.Slices.{Entries}
use Rattle.model_recipes.specs.declared.TheConstants.{CHUNK_BYTES, CHUNK_LIMIT}
use Rattle.model_recipes.specs.Queues.{index_key}
use Rattle.model_recipes.specs.Blobs.{joined, has_size, is_none_left, is_chunk, spoiled_from, overwritten, chunk, first_chunk, chunk_end}

-- ---- parts of lists

none_taken : {X : Type 0} (n : ℕ) (xs : List X) → length xs ≡ 0 → take n xs ≡ xs
none_taken zero [] none = refl
none_taken (suc n) [] none = refl
none_taken n (x ∷ xs) none = absurd (omega arith)

-- so many, and so many more
pub take_more : {X : Type 0} (a b : ℕ) (xs : List X) → take a xs ++ take b (drop a xs) ≡ take (a + b) xs
take_more zero b xs = let same : zero + b ≡ b = omega arith in ap (λ n. take n xs) (sym same)
take_more (suc a) b [] = none_taken b [] refl ∙ sym (none_taken (suc a + b) [] refl)
take_more (suc a) b (x ∷ xs) =
    let next : suc a + b ≡ suc (a + b) = omega arith in
    ap (λ others. x ∷ others) (take_more a b xs) ∙ ap (λ n. take n (x ∷ xs)) (sym next)

-- a part of a list that is taken behind a place
part_of : (m : ℕ) (xs : List ℕ) → take CHUNK_BYTES (drop m xs) ≡ drop m (take (m + CHUNK_BYTES) xs)
part_of m xs = sym (drop-take m CHUNK_BYTES xs)

-- ---- a piece over bytes

over_length : (bytes : List ℕ) (at : ℕ) (piece : List ℕ) → at ≤ length bytes
    → length (overwritten bytes at piece) ≡ at + (length piece + (length bytes - (at + length piece)))
over_length bytes at piece within =
    length-append (take at bytes) (piece ++ drop (at + length piece) bytes)
    ∙ (let front = length-take at bytes in
    let behind = length-append piece (drop (at + length piece) bytes) in
    let left = length-drop (at + length piece) bytes in
    omega (arith, front, behind, left))

-- what lies before the piece
before_piece : (bytes : List ℕ) (at : ℕ) (piece : List ℕ) (m : ℕ) → at ≤ length bytes → m ≤ at → take m (overwritten bytes at piece) ≡ take m bytes
before_piece bytes at piece m within below =
    take-append-le m (take at bytes) (piece ++ drop (at + length piece) bytes) (omega (arith, length-take at bytes))
    ∙ (let whole = take-append-drop at bytes in
    sym (take-append-le m (take at bytes) (drop at bytes) (omega (arith, length-take at bytes))) ∙ ap (take m) whole)

-- what lies behind it
behind_piece : (bytes : List ℕ) (at : ℕ) (piece : List ℕ) (m : ℕ) → at ≤ length bytes → at + length piece ≤ m
    → drop m (overwritten bytes at piece) ≡ drop m bytes
behind_piece bytes at piece m within above =
    let front = take at bytes ++ piece in
    let long : length front ≡ at + length piece = omega (arith, length-append (take at bytes) piece, length-take at bytes) in
    let more : m ≡ length front + (m - length front) = omega (arith, long) in
    ap (drop m) (sym (append_assoc (take at bytes) piece (drop (at + length piece) bytes)))
    ∙ ap (λ n. drop n (front ++ drop (at + length piece) bytes)) more
    ∙ drop-append-add front (drop (at + length piece) bytes) (m - length front)
    ∙ drop-drop (m - length front) (at + length piece) bytes
    ∙ (let same : at + length piece + (m - length front) ≡ m = omega (arith, long) in ap (λ n. drop n bytes) same)

-- no piece changes nothing
nothing_over : (bytes : List ℕ) (at : ℕ) (piece : List ℕ) → length piece ≡ 0 → overwritten bytes at piece ≡ bytes
nothing_over bytes at [] none =
    let same : at + 0 ≡ at = omega arith in
    ap (λ n. take at bytes ++ drop n bytes) same ∙ take-append-drop at bytes
nothing_over bytes at (x ∷ piece) none = absurd (omega arith)

-- a chunk that has no byte of the piece stays as it was
pub chunk_apart : (bytes : List ℕ) (at : ℕ) (piece : List ℕ) (k : ℕ) → at ≤ length bytes
    → (k < first_chunk at) ⊎ (chunk_end at (length piece) ≤ k) → chunk bytes k ≡ chunk (overwritten bytes at piece) k
unfolding chunk first_chunk chunk_end
chunk_apart bytes at piece k within (inl below) =
    let m = CHUNK_BYTES * k in
    let room : m + CHUNK_BYTES ≤ at = omega (arith, below) in
    part_of m bytes ∙ ap (drop m) (sym (before_piece bytes at piece (m + CHUNK_BYTES) within room)) ∙ sym (part_of m (overwritten bytes at piece))
chunk_apart bytes at piece k within (inr above) = by (length piece == 0) refl above
  where
    by : (none : Bool) → (length piece == 0) ≡ none
        → cond none (at / CHUNK_BYTES) ((at + length piece - 1) / CHUNK_BYTES + 1) ≤ k
        → take CHUNK_BYTES (drop (CHUNK_BYTES * k) bytes) ≡ take CHUNK_BYTES (drop (CHUNK_BYTES * k) (overwritten bytes at piece))
    by true is above =
        let empty = eqb-true (length piece) 0 is in
        ap (λ bytes. take CHUNK_BYTES (drop (CHUNK_BYTES * k) bytes)) (sym (nothing_over bytes at piece empty))
    by false is above =
        let some = eqb-false (length piece) 0 is in
        let behind : at + length piece ≤ CHUNK_BYTES * k = omega (arith, above, some) in
        ap (take CHUNK_BYTES) (sym (behind_piece bytes at piece (CHUNK_BYTES * k) within behind))

-- ---- how many chunks

-- so many chunks hold so many bytes, and none of them is empty
pub record AreFilled (count size : ℕ) : Type 0 where
  pub held : size ≤ CHUNK_BYTES * count
  pub filled : CHUNK_BYTES * count < size + CHUNK_BYTES

-- the last chunk that a write sets, and those that were there, are as many as the new bytes fill
pub over_filled : (bytes : List ℕ) (at : ℕ) (piece : List ℕ) (count all : ℕ) → at ≤ length bytes → AreFilled count (length bytes)
    → (count ≤ all) → (chunk_end at (length piece) ≤ all) → (all ≡ count) ⊎ (all ≡ chunk_end at (length piece))
    → AreFilled all (length (overwritten bytes at piece))
unfolding chunk_end
over_filled bytes at piece count all within filled more end is = by (length piece == 0) refl end is
  where
    by : (none : Bool) → (length piece == 0) ≡ none
        → cond none (at / CHUNK_BYTES) ((at + length piece - 1) / CHUNK_BYTES + 1) ≤ all
        → (all ≡ count) ⊎ (all ≡ cond none (at / CHUNK_BYTES) ((at + length piece - 1) / CHUNK_BYTES + 1))
        → AreFilled all (length (overwritten bytes at piece))
    by true empty end (inl is) =
        let none = eqb-true (length piece) 0 empty in
        let long = ap length (nothing_over bytes at piece none) in
        record { held = omega (arith, long, filled.held, is); filled = omega (arith, long, filled.filled, is) }
    by true empty end (inr is) =
        let none = eqb-true (length piece) 0 empty in
        let long = ap length (nothing_over bytes at piece none) in
        record { held = omega (arith, long, filled.held, more); filled = omega (arith, long, filled.filled, is, within) }
    by false some end (inl is) =
        let piece_some = eqb-false (length piece) 0 some in
        let long = over_length bytes at piece within in
        record { held = omega (arith, long, filled.held, is, end, piece_some); filled = omega (arith, long, filled.filled, is, within) }
    by false some end (inr is) =
        let piece_some = eqb-false (length piece) 0 some in
        let long = over_length bytes at piece within in
        record { held = omega (arith, long, filled.held, is, more, piece_some); filled = omega (arith, long, is, within, piece_some) }

-- ---- chunks as pairs

-- so many chunks from a place on
abbrev pub chunks_of : (space : List ℕ) → (value : ℕ → List ℕ) → (place count : ℕ) → Entries
chunks_of space value place zero = []
chunks_of space value place (suc count) = (index_key space place, value place) ∷ chunks_of space value (place + 1) count

-- of the same values
pub chunks_same : (space : List ℕ) (value other : ℕ → List ℕ) (place count : ℕ) → ((k : ℕ) → place ≤ k → value k ≡ other k)
    → chunks_of space value place count ≡ chunks_of space other place count
chunks_same space value other place zero same = refl
chunks_same space value other place (suc count) same =
    let head = same place (omega arith) in
    let others = chunks_same space value other (place + 1) count (λ k above. same k (omega (arith, above))) in
    λ i. (index_key space place, head i) ∷ others i

-- joined they are the bytes
joined_chunks : (space bytes : List ℕ) (place count : ℕ)
    → joined (chunks_of space (chunk bytes) place count) ≡ take (CHUNK_BYTES * count) (drop (CHUNK_BYTES * place) bytes)
unfolding chunk
joined_chunks space bytes place zero = refl
joined_chunks space bytes place (suc count) =
    let behind : CHUNK_BYTES * place + CHUNK_BYTES ≡ CHUNK_BYTES * (place + 1) = omega arith in
    let whole : CHUNK_BYTES + CHUNK_BYTES * count ≡ CHUNK_BYTES * suc count = omega arith in
    ap (λ others. take CHUNK_BYTES (drop (CHUNK_BYTES * place) bytes) ++ others)
    (joined_chunks space bytes (place + 1) count
    ∙ ap (λ n. take (CHUNK_BYTES * count) (drop n bytes)) (sym behind)
    ∙ ap (take (CHUNK_BYTES * count)) (sym (drop-drop CHUNK_BYTES (CHUNK_BYTES * place) bytes)))
    ∙ take_more CHUNK_BYTES (CHUNK_BYTES * count) (drop (CHUNK_BYTES * place) bytes)
    ∙ ap (λ n. take n (drop (CHUNK_BYTES * place) bytes)) whole

pub all_joined : (space bytes : List ℕ) (count : ℕ) → AreFilled count (length bytes) → joined (chunks_of space (chunk bytes) 0 count) ≡ bytes
all_joined space bytes count filled =
    joined_chunks space bytes 0 count ∙ take_all (CHUNK_BYTES * count) bytes filled.held

-- ---- the form

chunk_length : (bytes : List ℕ) (k : ℕ) → length (take CHUNK_BYTES (drop (CHUNK_BYTES * k) bytes)) ≡ min CHUNK_BYTES (length bytes - CHUNK_BYTES * k)
chunk_length bytes k =
    length-take CHUNK_BYTES (drop (CHUNK_BYTES * k) bytes) ∙ ap (min CHUNK_BYTES) (length-drop (CHUNK_BYTES * k) bytes)

-- chunks of bytes have their form
pub chunks_formed : (space bytes : List ℕ) (place count : ℕ) → AreFilled (place + count) (length bytes) → place + count ≤ CHUNK_LIMIT
    → spoiled_from space place (chunks_of space (chunk bytes) place count) ≡ None
unfolding spoiled_from chunk
chunks_formed space bytes place zero filled few = refl
chunks_formed space bytes place (suc zero) filled few =
    let size = chunk_length bytes place in
    ap (λ b. cond b None (Some (index_key space place)))
    (and_from _ _ (and_from _ _ (lt-ltb place CHUNK_LIMIT (omega arith)) (itself (index_key space place)))
    (and_from _ _ (lt-ltb 0 (length (take CHUNK_BYTES (drop (CHUNK_BYTES * place) bytes))) (omega (arith, size, filled.filled, filled.held))) (le-leb (length (take CHUNK_BYTES (drop (CHUNK_BYTES * place) bytes))) CHUNK_BYTES (omega (arith, size)))))
chunks_formed space bytes place (suc (suc count)) filled few =
    let size = chunk_length bytes place in
    let same : place + suc (suc count) ≡ (place + 1) + suc count = omega arith in
    ap (λ b. cond b (spoiled_from space (place + 1) (chunks_of space (chunk bytes) (place + 1) (suc count))) (Some (index_key space place)))
    (and_from _ _ (and_from _ _ (lt-ltb place CHUNK_LIMIT (omega arith)) (itself (index_key space place)))
    (eq-eqb (length (take CHUNK_BYTES (drop (CHUNK_BYTES * place) bytes))) CHUNK_BYTES (omega (arith, size, filled.filled, filled.held))))
    ∙ chunks_formed space bytes (place + 1) (suc count) (record { held = omega (arith, filled.held); filled = omega (arith, filled.filled) }) (omega (arith, few))

-- and pairs that have it are the chunks of what they are joined
pub record AreCut (space : List ℕ) (value : ℕ → List ℕ) (place : ℕ) (pairs : Entries) : Type 0 where
  pub are : pairs ≡ chunks_of space value place (length pairs)
  pub filled : AreFilled (length pairs) (length (joined pairs))
  pub few : (length pairs ≡ 0) ⊎ (place + length pairs ≤ CHUNK_LIMIT)

some_chunk : (space : List ℕ) (place : ℕ) (pair : List ℕ × List ℕ) (pairs : Entries) → spoiled_from space place (pair ∷ pairs) ≡ None
    → (is_chunk space place pair pairs ≡ true) × (spoiled_from space (place + 1) pairs ≡ None)
unfolding spoiled_from
some_chunk space place pair pairs none = by (is_chunk space place pair pairs) refl none
  where
    by : (b : Bool) → is_chunk space place pair pairs ≡ b → cond b (spoiled_from space (place + 1) pairs) (Some pair.0) ≡ None
        → (is_chunk space place pair pairs ≡ true) × (spoiled_from space (place + 1) pairs ≡ None)
    by true is none = (is, none)
    by false is none = absurd cc

pub cut : (space : List ℕ) (value : ℕ → List ℕ) (place : ℕ) (pairs : Entries) → spoiled_from space place pairs ≡ None
    → ((k : ℕ) → value (place + k) ≡ take CHUNK_BYTES (drop (CHUNK_BYTES * k) (joined pairs))) → AreCut space value place pairs
cut space value place [] none values = record { are = refl; filled = record { held = omega arith; filled = omega arith }; few = inl refl }
cut space value place (pair ∷ []) none values =
    let parts = and_parts _ _ (some_chunk space place pair [] none).0 in
    let firsts = and_parts (nat_lt place CHUNK_LIMIT) _ parts.0 in
    let sizes = and_parts (nat_lt 0 (length pair.1)) _ parts.1 in
    let low = ltb-true 0 (length pair.1) sizes.0 in
    let high = leb-true (length pair.1) CHUNK_BYTES sizes.1 in
    let key = same_text pair.0 (index_key space place) (sym firsts.1) in
    let here : place + 0 ≡ place = omega arith in
    let its = ap value (sym here) ∙ values 0 ∙ ap (take CHUNK_BYTES) (append-nil pair.1) ∙ take_all CHUNK_BYTES pair.1 high in
    let long = ap length (append-nil pair.1) in
    record {
      are = λ i. (key i, sym its i) ∷ [];
      filled = record { held = omega (arith, long, high); filled = omega (arith, long, low) };
      few = inr (omega (arith, ltb-true place CHUNK_LIMIT firsts.0));
    }
cut space value place (pair ∷ next ∷ pairs) none values =
    let found = some_chunk space place pair (next ∷ pairs) none in
    let parts = and_parts _ _ found.0 in
    let firsts = and_parts (nat_lt place CHUNK_LIMIT) _ parts.0 in
    let size = eqb-true (length pair.1) CHUNK_BYTES parts.1 in
    let key = same_text pair.0 (index_key space place) (sym firsts.1) in
    let here : place + 0 ≡ place = omega arith in
    let rest = joined (next ∷ pairs) in
    let its = ap value (sym here) ∙ values 0 ∙ take-append-le CHUNK_BYTES pair.1 rest (omega (arith, size)) ∙ take_all CHUNK_BYTES pair.1 (omega (arith, size)) in
    let others = cut space value (place + 1) (next ∷ pairs) found.1 (λ k.
    let on : place + 1 + k ≡ place + suc k = omega arith in
    let behind : CHUNK_BYTES * suc k ≡ length pair.1 + CHUNK_BYTES * k = omega (arith, size) in
    ap value on ∙ values (suc k) ∙ ap (λ n. take CHUNK_BYTES (drop n (pair.1 ++ rest))) behind
    ∙ ap (take CHUNK_BYTES) (drop-append-add pair.1 rest (CHUNK_BYTES * k))) in
    let long = length-append pair.1 rest in
    record {
      are = λ i. (key i, sym its i) ∷ others.are i;
      filled = record { held = omega (arith, long, size, others.filled.held); filled = omega (arith, long, size, others.filled.filled) };
      few = more_few place (length pairs) others.few;
    }
  where
    more_few : (place count : ℕ) → (suc count ≡ 0) ⊎ (place + 1 + suc count ≤ CHUNK_LIMIT) → (suc (suc count) ≡ 0) ⊎ (place + suc (suc count) ≤ CHUNK_LIMIT)
    more_few place count (inl none) = absurd (omega arith)
    more_few place count (inr few) = inr (omega (arith, few))
