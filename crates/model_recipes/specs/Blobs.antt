-- A byte string in a subspace, in chunks: each stands at the packed tuple of its place, and has so many bytes, but the last, which may
-- have less.
use Rattle.std.specs.Prelude.{◌≡◌, ℕ, ◌+◌, ◌-◌, ◌*◌, ◌/◌, Bool, true, false, ◌&&◌, ◌==◌, if◌then◌else◌, List, [], ◌∷◌, ◌++◌, length, map, take, drop, flat_map, nat_lt, nat_le, Option, Some, None, Result, Ok, Err, OnOk, IfOk, bytes_eq}
use Rattle.model_database.specs.Databases.{Database, Mutation, Set}
use Rattle.model_database.specs.Histories.{Setting}
use Rattle.model_database.specs.Reads.{Read, GetKeyRange}
use Rattle.model_database.specs.Slices.{Entries, slice}
use Rattle.model_database.specs.Transactions.{Transaction, view}
use Rattle.model_allocator.specs.Granting.{counting}
use Rattle.model_recipes.specs.declared.fault.RecipeFault.{RecipeFault}
use Rattle.model_recipes.specs.declared.fault.RecipeFault.TheVariants as fault
use Rattle.model_recipes.specs.declared.TheConstants.{CHUNK_BYTES, CHUNK_LIMIT, SIZE_LIMIT}
use Rattle.model_recipes.specs.Turns.{Turn, Call, replying, turned_by, acts, view_after, IsAnswered, space_begin, space_end, pairs_of, KeepsOthers, KeepsAll}
use Rattle.model_recipes.specs.Queues.{index_key}

-- ---- the bytes

-- the values of pairs joined
abbrev pub joined : Entries → List ℕ
joined pairs = flat_map (λ pair. pair.1) pairs

-- the byte string: the values of the subspace, in the order of their keys, joined
abbrev pub blob_of : (space : List ℕ) → Database → List ℕ
blob_of space database = joined (pairs_of space database)

-- ---- the form

abbrev pub has_size : (is_last : Bool) → (size : ℕ) → Bool
has_size true size = nat_lt 0 size && nat_le size CHUNK_BYTES
has_size false size = size == CHUNK_BYTES

abbrev pub is_none_left : Entries → Bool
is_none_left [] = true
is_none_left (pair ∷ pairs) = false

-- a pair is the chunk of its place, where these stand behind it
abbrev pub is_chunk : (space : List ℕ) → (place : ℕ) → (pair : List ℕ × List ℕ) → (behind : Entries) → Bool
is_chunk space place pair behind =
    nat_lt place CHUNK_LIMIT && bytes_eq pair.0 (index_key space place) && has_size (is_none_left behind) (length pair.1)

-- the first key of pairs from a place on that hasn't its form
unfoldable pub spoiled_from : (space : List ℕ) → (place : ℕ) → Entries → Option (List ℕ)
spoiled_from space place [] = None
spoiled_from space place (pair ∷ pairs) =
    if is_chunk space place pair pairs then spoiled_from space (place + 1) pairs else Some pair.0

-- all pairs of the subspace have their form
abbrev pub AreChunks : (space : List ℕ) → Database → Type 0
AreChunks space database = spoiled_from space 0 (pairs_of space database) ≡ None

abbrev pub told_bytes : (bytes : List ℕ) → Option (List ℕ) → Result (List ℕ) RecipeFault
told_bytes bytes None = Ok bytes
told_bytes bytes (Some key) = Err (fault.BadKey key)

-- the bytes of pairs, or the first key that hasn't its form
abbrev pub bytes_in : (space : List ℕ) → Entries → Result (List ℕ) RecipeFault
bytes_in space pairs = told_bytes (joined pairs) (spoiled_from space 0 pairs)

-- ---- calls that read

-- each call reads all chunks
abbrev pub reads_all : (space : List ℕ) → Read
reads_all space = GetKeyRange (space_begin space) (space_end space) 0 false

abbrev pub bytes_seen : (space : List ℕ) → Database → Result (List ℕ) RecipeFault
bytes_seen space database = bytes_in space (slice database (space_begin space) (space_end space) 0 false)

unfoldable pub size_call : (space : List ℕ) → Database → Call ℕ
size_call space database = record {
  read = reads_all space;
  turn = turned_by (λ bytes. replying (length bytes)) (bytes_seen space database);
}

-- the bytes from a place on, so many at most
abbrev pub part : (from most : ℕ) → List ℕ → List ℕ
part from most bytes = take most (drop from bytes)

unfoldable pub read_call : (space : List ℕ) → (from most : ℕ) → Database → Call (List ℕ)
read_call space from most database = record {
  read = reads_all space;
  turn = turned_by (λ bytes. replying (part from most bytes)) (bytes_seen space database);
}

-- it answers the length, and every key is seen as before
pub record IsSized (result : Result ℕ RecipeFault) (setting : Setting) (stands : Transaction → Type 0) (space : List ℕ)
    (before : Transaction) : Type 0 where
  pub answered : IsAnswered result setting stands (size_call space (view setting before)) before
  pub size : IfOk result (λ size. size ≡ length (blob_of space (view setting before)))
  pub same : KeepsAll setting (acts (size_call space (view setting before))) before

-- it answers the bytes from a place on, so many at most, and every key is seen as before
pub record ArePart (result : Result (List ℕ) RecipeFault) (setting : Setting) (stands : Transaction → Type 0) (space : List ℕ) (from most : ℕ)
    (before : Transaction) : Type 0 where
  pub answered : IsAnswered result setting stands (read_call space from most (view setting before)) before
  pub bytes : IfOk result (λ bytes. bytes ≡ part from most (blob_of space (view setting before)))
  pub same : KeepsAll setting (acts (read_call space from most (view setting before))) before

-- ---- write

-- the bytes with a piece from a place on
abbrev pub overwritten : (bytes : List ℕ) → (at : ℕ) → (piece : List ℕ) → List ℕ
overwritten bytes at piece = take at bytes ++ (piece ++ drop (at + length piece) bytes)

-- where the place isn't behind the end, and the piece ends within the limit
abbrev pub put_over : (at : ℕ) → (piece : List ℕ) → (bytes : List ℕ) → Result (List ℕ) RecipeFault
put_over at piece bytes =
    if nat_lt (length bytes) at then Err (fault.PastEnd (length bytes))
    else if nat_lt SIZE_LIMIT (at + length piece) then Err fault.IndexEnd
    else Ok (overwritten bytes at piece)

abbrev pub put_in : (at : ℕ) → (piece : List ℕ) → Result (List ℕ) RecipeFault → Result (List ℕ) RecipeFault
put_in at piece (Ok bytes) = put_over at piece bytes
put_in at piece (Err fault) = Err fault

-- the chunk of a place
unfoldable pub chunk : (bytes : List ℕ) → (place : ℕ) → List ℕ
chunk bytes place = take CHUNK_BYTES (drop (CHUNK_BYTES * place) bytes)

-- the first chunk that has a byte of a piece, and the one behind the last
unfoldable pub first_chunk : (at : ℕ) → ℕ
first_chunk at = at / CHUNK_BYTES

unfoldable pub chunk_end : (at size : ℕ) → ℕ
chunk_end at size = if size == 0 then at / CHUNK_BYTES else (at + size - 1) / CHUNK_BYTES + 1

-- sets of so many chunks of bytes from a place on
abbrev pub sets_chunks : (space bytes : List ℕ) → (from count : ℕ) → List Mutation
sets_chunks space bytes from count = map (λ place. Set (index_key space place) (chunk bytes place)) (counting from count)

-- each chunk that has a byte of the piece is set
abbrev pub sets_piece : (space : List ℕ) → (at size : ℕ) → (bytes : List ℕ) → Turn (Unit {0})
sets_piece space at size bytes = record {
  writes = sets_chunks space bytes (first_chunk at) (chunk_end at size - first_chunk at);
  reply = tt;
}

unfoldable pub write_call : (space : List ℕ) → (at : ℕ) → (piece : List ℕ) → Database → Call (Unit {0})
write_call space at piece database = record {
  read = reads_all space;
  turn = turned_by (sets_piece space at (length piece)) (put_in at piece (bytes_seen space database));
}

-- a write does so; where it is let through, the byte string has the piece from its place on, and all chunks have their form
pub record IsOverwritten (result : Result (Unit {0}) RecipeFault) (setting : Setting) (stands : Transaction → Type 0) (space : List ℕ) (at : ℕ)
    (piece : List ℕ) (before : Transaction) : Type 0 where
  pub answered : IsAnswered result setting stands (write_call space at piece (view setting before)) before
  pub bytes : OnOk result
      (blob_of space (view_after setting (write_call space at piece (view setting before)) before)
      ≡ overwritten (blob_of space (view setting before)) at piece)
  pub chunks : OnOk result (AreChunks space (view_after setting (write_call space at piece (view setting before)) before))
  pub others : KeepsOthers space setting (acts (write_call space at piece (view setting before))) before
