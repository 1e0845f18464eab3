-- Pairs read as chunks one after the other, and chunks set one after the other.
use Rattle.std.proofs.Common.{◌≡◌, ℕ, zero, suc, ◌+◌, ◌-◌, ◌<◌, ◌≤◌, Bool, true, false, cond, not, ◌&&◌, List, [], ◌∷◌, ◌++◌, length, get_or, drop, map, Option, Some, None, Result, Ok, Err, refl, sym, ap, ◌∙◌, inl, inr, arith, append_assoc, append-nil}
use Rattle.std.specs.Prelude.{◌==◌, nat_lt, bytes_eq}
use Rattle.std.proofs.lemmas.Bool.{cases_eq, eq-eqb, ne_eqb, eqb-true, eqb-false, ltb-false}
use Rattle.std.proofs.lemmas.List.{at_drop_more, at_drop_all, map-append, length-drop, length-map}
use Rattle.key_bytes.specs.declared.pairs.Pair.{Pair}
use Rattle.key_bytes.specs.Entries.{entry_of, entries_of}
use Rattle.model_database.specs.Databases.{Mutation, Set}
use Rattle.model_database.specs.Slices.{Entries}
use Rattle.model_allocator.specs.Granting.{counting}
use Rattle.model_allocator.proofs.Windows.{counting-append}
use Rattle.model_recipes.specs.declared.fault.RecipeFault.{RecipeFault}
use Rattle.model_recipes.specs.declared.fault.RecipeFault.TheVariants as fault
use Rattle.model_recipes.specs.declared.TheConstants.{CHUNK_LIMIT, SIZE_LIMIT}
use Rattle.model_recipes.specs.Queues.{index_key}
use Rattle.model_recipes.specs.Blobs.{joined, has_size, is_none_left, is_chunk, spoiled_from, told_bytes, bytes_in, put_over, overwritten, chunk, sets_chunks}

-- ---- pairs as chunks

-- what is left of pairs from a place on
abbrev pub left_of : List Pair → (place : ℕ) → Entries
left_of pairs place = entries_of (drop place pairs)

-- how far it was read
pub record IsReadTo (space : List ℕ) (pairs : List Pair) (place : ℕ) (bytes : List ℕ) : Type 0 where
  pub bytes_so : bytes ++ joined (left_of pairs place) ≡ joined (entries_of pairs)
  pub sound : spoiled_from space place (left_of pairs place) ≡ spoiled_from space 0 (entries_of pairs)

pub starts : (space : List ℕ) (pairs : List Pair) → IsReadTo space pairs 0 []
starts space pairs = record { bytes_so = refl; sound = refl }

-- the last pair is the one behind which none is left
is_end : (pairs : List Pair) (place : ℕ) → place < length pairs → (place + 1 == length pairs) ≡ is_none_left (left_of pairs (place + 1))
is_end (pair ∷ []) zero inside = refl
is_end (pair ∷ next ∷ pairs) zero inside = ne_eqb (0 + 1) (length (pair ∷ next ∷ pairs)) (λ same. omega (arith, same))
is_end [] place inside = absurd (omega (arith, inside))
is_end (pair ∷ pairs) (suc place) inside = same_end place (length pairs) ∙ is_end pairs place (omega (arith, inside)) ∙ one_behind pair pairs place
  where
    same_end : (a b : ℕ) → (suc a + 1 == suc b) ≡ (a + 1 == b)
    same_end a b = elim (cases_eq (a + 1) b) [
      | inl same ↦ eq-eqb (suc a + 1) (suc b) (omega (arith, same)) ∙ sym (eq-eqb (a + 1) b same)
      | inr differ ↦ ne_eqb (suc a + 1) (suc b) (λ same. differ (omega (arith, same))) ∙ sym (ne_eqb (a + 1) b differ)
    ]

    one_behind : (pair : Pair) (pairs : List Pair) (place : ℕ) → is_none_left (left_of pairs (place + 1)) ≡ is_none_left (left_of (pair ∷ pairs) (suc place + 1))
    one_behind pair pairs place =
        let next : suc place + 1 ≡ suc (place + 1) = omega arith in
        ap (λ n. is_none_left (left_of (pair ∷ pairs) n)) (sym next)

-- the pair at a place, and those behind it
next_left : {X : Type 0} (f : Entries → X) (pairs : List Pair) (place : ℕ) (pair : Pair) → place < length pairs → pair ≡ get_or pairs place pair
    → f (left_of pairs place) ≡ f (entry_of pair ∷ left_of pairs (place + 1))
next_left f pairs place pair inside is =
    at_drop_more (λ (pairs : List Pair). f (entries_of pairs)) pairs place pair inside
    ∙ ap (λ (pair : Pair). f (entry_of pair ∷ left_of pairs (place + 1))) (sym is)

-- whether it is the chunk of its place
abbrev pub chunk_at : (space : List ℕ) → (pairs : List Pair) → (place : ℕ) → Pair → Bool
chunk_at space pairs place pair =
    nat_lt place CHUNK_LIMIT && bytes_eq pair.key (index_key space place) && has_size (place + 1 == length pairs) (length pair.value)

is_chunk_at : (space : List ℕ) (pairs : List Pair) (place : ℕ) (pair : Pair) → place < length pairs
    → chunk_at space pairs place pair ≡ is_chunk space place (entry_of pair) (left_of pairs (place + 1))
is_chunk_at space pairs place pair inside =
    ap (λ is_last. nat_lt place CHUNK_LIMIT && bytes_eq pair.key (index_key space place) && has_size is_last (length pair.value)) (is_end pairs place inside)

spoiled_next : (space : List ℕ) (pairs : List Pair) (place : ℕ) (pair : Pair) → place < length pairs → pair ≡ get_or pairs place pair
    → spoiled_from space place (left_of pairs place)
    ≡ cond (chunk_at space pairs place pair) (spoiled_from space (place + 1) (left_of pairs (place + 1))) (Some pair.key)
unfolding spoiled_from
spoiled_next space pairs place pair inside is =
    next_left (spoiled_from space place) pairs place pair inside is
    ∙ ap (λ b. cond b (spoiled_from space (place + 1) (left_of pairs (place + 1))) (Some pair.key)) (sym (is_chunk_at space pairs place pair inside))

-- one chunk more
pub reads_more : (space : List ℕ) (pairs : List Pair) (place : ℕ) (pair : Pair) (bytes more : List ℕ) → place < length pairs
    → pair ≡ get_or pairs place pair → chunk_at space pairs place pair ≡ true → more ≡ bytes ++ pair.value
    → IsReadTo space pairs place bytes → IsReadTo space pairs (place + 1) more
reads_more space pairs place pair bytes more inside is chunk more_is before = record {
  bytes_so =
      ap (λ bytes. bytes ++ joined (left_of pairs (place + 1))) more_is
      ∙ append_assoc bytes pair.value (joined (left_of pairs (place + 1)))
      ∙ ap (λ rest. bytes ++ rest) (sym (next_left joined pairs place pair inside is))
      ∙ before.bytes_so;
  sound =
      sym (spoiled_next space pairs place pair inside is
      ∙ ap (λ b. cond b (spoiled_from space (place + 1) (left_of pairs (place + 1))) (Some pair.key)) chunk)
      ∙ before.sound;
}

-- one that isn't is told
pub reads_spoiled : (space : List ℕ) (pairs : List Pair) (place : ℕ) (pair : Pair) (bytes : List ℕ) (all : Entries) → place < length pairs
    → pair ≡ get_or pairs place pair → chunk_at space pairs place pair ≡ false → entries_of pairs ≡ all
    → IsReadTo space pairs place bytes → bytes_in space all ≡ Err (fault.BadKey pair.key)
reads_spoiled space pairs place pair bytes all inside is spoiled all_are before =
    ap (bytes_in space) (sym all_are)
    ∙ ap (told_bytes (joined (entries_of pairs)))
    (sym before.sound ∙ spoiled_next space pairs place pair inside is
    ∙ ap (λ b. cond b (spoiled_from space (place + 1) (left_of pairs (place + 1))) (Some pair.key)) spoiled)

-- all are read
pub reads_all_bytes : (space : List ℕ) (pairs : List Pair) (place : ℕ) (bytes : List ℕ) (all : Entries) → length pairs ≤ place
    → entries_of pairs ≡ all → IsReadTo space pairs place bytes → bytes_in space all ≡ Ok bytes
unfolding spoiled_from
reads_all_bytes space pairs place bytes all past all_are before =
    let none : None ≡ spoiled_from space 0 (entries_of pairs) =
    sym (at_drop_all (λ (pairs : List Pair). spoiled_from space place (entries_of pairs)) pairs place past) ∙ before.sound in
    let whole : joined (entries_of pairs) ≡ bytes =
    sym before.bytes_so ∙ ap (λ rest. bytes ++ rest) (at_drop_all (λ (pairs : List Pair). joined (entries_of pairs)) pairs place past)
    ∙ append-nil bytes in
    ap (bytes_in space) (sym all_are) ∙ ap (told_bytes (joined (entries_of pairs))) (sym none) ∙ ap (λ (bytes : List ℕ). Ok bytes) whole

-- ---- a piece

-- what is put ends within the limit
pub put_fits : (at : ℕ) (piece bytes new : List ℕ) → put_over at piece bytes ≡ Ok new → at + length piece ≤ SIZE_LIMIT
put_fits at piece bytes new is = by (nat_lt (length bytes) at) (nat_lt SIZE_LIMIT (at + length piece)) refl is
  where
    by : (behind past : Bool) → nat_lt SIZE_LIMIT (at + length piece) ≡ past
        → cond behind (Err (fault.PastEnd (length bytes))) (cond past (Err fault.IndexEnd) (Ok (overwritten bytes at piece))) ≡ Ok new
        → at + length piece ≤ SIZE_LIMIT
    by true past past_is is = absurd cc
    by false true past_is is = absurd cc
    by false false past_is is = ltb-false SIZE_LIMIT (at + length piece) past_is

-- ---- sets

-- sets in two parts
pub sets_split : (space bytes : List ℕ) (from count more : ℕ)
    → sets_chunks space bytes from (count + more) ≡ sets_chunks space bytes from count ++ sets_chunks space bytes (from + count) more
sets_split space bytes from count more =
    ap (map (λ place. Set (index_key space place) (chunk bytes place))) (counting-append from count more)
    ∙ map-append (λ place. Set (index_key space place) (chunk bytes place)) (counting from count) (counting (from + count) more)

-- those up to a place, that of the place, and those behind it
pub sets_at : (space bytes : List ℕ) (from place end : ℕ) → from ≤ place → place < end
    → sets_chunks space bytes from (end - from)
    ≡ sets_chunks space bytes from (place - from) ++ Set (index_key space place) (chunk bytes place) ∷ sets_chunks space bytes (place + 1) (end - (place + 1))
sets_at space bytes from place end low high =
    let whole : end - from ≡ place - from + suc (end - (place + 1)) = omega (arith, low, high) in
    let here : from + (place - from) ≡ place = omega (arith, low) in
    ap (sets_chunks space bytes from) whole ∙ sets_split space bytes from (place - from) (suc (end - (place + 1)))
    ∙ ap (λ place'. sets_chunks space bytes from (place - from) ++ sets_chunks space bytes place' (suc (end - (place + 1)))) here

-- and those up to the next place
pub sets_next : (space bytes : List ℕ) (from place : ℕ) → from ≤ place
    → sets_chunks space bytes from (place + 1 - from)
    ≡ sets_chunks space bytes from (place - from) ++ Set (index_key space place) (chunk bytes place) ∷ []
sets_next space bytes from place low =
    let whole : place + 1 - from ≡ place - from + 1 = omega (arith, low) in
    let here : from + (place - from) ≡ place = omega (arith, low) in
    ap (sets_chunks space bytes from) whole ∙ sets_split space bytes from (place - from) 1
    ∙ ap (λ place'. sets_chunks space bytes from (place - from) ++ sets_chunks space bytes place' 1) here
