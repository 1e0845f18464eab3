-- The turn of each call, by what its read was answered.
use Rattle.std.proofs.Common.{◌≡◌, ℕ, zero, suc, ◌-◌, Bool, true, false, cond, List, length, Option, Result, Ok, Err, refl, sym, ap, ◌∙◌, subst, arith}
use Rattle.std.specs.Prelude.{◌==◌}
use Rattle.std.specs.FinMap as finite
use Rattle.std.proofs.lemmas.Bool.{ne_eqb}
use Rattle.model_database.specs.Databases.{Database, Set, Clear}
use Rattle.model_database.specs.Histories.{Setting}
use Rattle.model_database.specs.Reads.{Get, GetKeyRange}
use Rattle.model_database.specs.Transactions.{Transaction}
use Rattle.model_recipes.specs.declared.fault.RecipeFault.{RecipeFault}
use Rattle.model_database.specs.Slices.{Entries, slice}
use Rattle.model_recipes.specs.Turns.{Turn, writing, replying, turned_by, space_begin, space_end, first_pair}
use Rattle.model_recipes.specs.Queues.{next_key, push_call, popping, pop_call}
use Rattle.model_recipes.specs.Multimaps.{pair_key, count_at, one_more, sets_count, add_call, there, lowers, subtract_call, key_space, counts_in, values_call}
use Rattle.model_recipes.specs.Blobs.{bytes_in, bytes_seen, size_call, part, read_call, sets_piece, put_in, write_call}
use Rattle.recipe_layers.specs.Steps.{IsRead}

-- what a push does with the key that was found
abbrev pub sets_next : (value key : List ℕ) → Turn (Unit {0})
sets_next value key = writing (Set key value) tt

pub push_turn : (space value : List ℕ) (database : Database) (pairs : Entries) (last : Option (List ℕ × List ℕ))
    → pairs ≡ slice database (space_begin space) (space_end space) 1 true → last ≡ first_pair pairs
    → (push_call space value database).turn ≡ turned_by (sets_next value) (next_key space last)
unfolding push_call
push_turn space value database pairs last read is =
    ap (λ last. turned_by (sets_next value) (next_key space last)) (ap first_pair (sym read) ∙ sym is)

pub pop_turn : (space : List ℕ) (database : Database) (pairs : Entries) (first : Option (List ℕ × List ℕ))
    → pairs ≡ slice database (space_begin space) (space_end space) 1 false → first ≡ first_pair pairs
    → (pop_call space database).turn ≡ Ok (popping first)
unfolding pop_call
pop_turn space database pairs first read is = ap (λ first. Ok (popping first)) (ap first_pair (sym read) ∙ sym is)

-- ---- counts

pub add_turn : (space key value : List ℕ) (database : Database) (at : List ℕ) (read : Option (List ℕ)) (count : Option ℕ)
    → at ≡ pair_key space key value → read ≡ finite.get database at → count ≡ count_at read
    → (add_call space key value database).turn ≡ turned_by (sets_count at) (one_more at count)
unfolding add_call
add_turn space key value database at read count at_is read_is is =
    ap (λ at. turned_by (sets_count at) (one_more at (count_at (finite.get database at)))) (sym at_is)
    ∙ ap (λ read. turned_by (sets_count at) (one_more at (count_at read))) (sym read_is)
    ∙ ap (λ count. turned_by (sets_count at) (one_more at count)) (sym is)

pub subtract_turn : (space key value : List ℕ) (database : Database) (at : List ℕ) (read : Option (List ℕ)) (count : Option ℕ)
    → at ≡ pair_key space key value → read ≡ finite.get database at → count ≡ count_at read
    → (subtract_call space key value database).turn ≡ turned_by (lowers at) (there at count)
unfolding subtract_call
subtract_turn space key value database at read count at_is read_is is =
    ap (λ at. turned_by (lowers at) (there at (count_at (finite.get database at)))) (sym at_is)
    ∙ ap (λ read. turned_by (lowers at) (there at (count_at read))) (sym read_is)
    ∙ ap (λ count. turned_by (lowers at) (there at count)) (sym is)

-- the turn of a count of 0, of 1, and of each other
pub lowers_none : (at : List ℕ) (count : ℕ) → count ≡ 0 → lowers at count ≡ replying tt
lowers_none at count is = ap (lowers at) is

pub lowers_last : (at : List ℕ) (count : ℕ) → count ≡ 1 → lowers at count ≡ writing (Clear at) tt
lowers_last at count is = ap (lowers at) is

pub lowers_more : (at : List ℕ) (count : ℕ) → (count ≡ 0 → ⊥) → (count ≡ 1 → ⊥) → lowers at count ≡ sets_count at (count - 1)
lowers_more at zero some more = absurd (some refl)
lowers_more at (suc left) some more =
    let differ : left ≡ 0 → ⊥ = λ is. more (omega (arith, is)) in
    let left_is : left ≡ suc left - 1 = omega arith in
    ap (λ (b : Bool). cond b (writing (Clear at) tt) (sets_count at left)) (ne_eqb left 0 differ) ∙ ap (sets_count at) left_is

pub values_turn : (space key : List ℕ) (database : Database) (front : List ℕ) (pairs : Entries) → front ≡ key_space space key
    → pairs ≡ slice database (space_begin front) (space_end front) 0 false
    → (values_call space key database).turn ≡ turned_by (λ counts. replying counts) (counts_in front pairs)
unfolding values_call
values_turn space key database front pairs front_is read =
    ap (λ front. turned_by (λ counts. replying counts) (counts_in front (slice database (space_begin front) (space_end front) 0 false))) (sym front_is)
    ∙ ap (λ pairs. turned_by (λ counts. replying counts) (counts_in front pairs)) (sym read)

-- ---- the read, by its key

-- of the same key the same was read
pub same_key : {A : Type 0} (good : A → Type 0) (result : Result A RecipeFault) (setting : Setting) (stands : Transaction → Type 0) (at key : List ℕ)
    (t : Transaction) → at ≡ key → IsRead good result setting stands (Get at) t → IsRead good result setting stands (Get key) t
same_key good result setting stands at key t is read = subst (λ key. IsRead good result setting stands (Get key) t) is read

-- and of the same subspace
pub same_space : {A : Type 0} (good : A → Type 0) (result : Result A RecipeFault) (setting : Setting) (stands : Transaction → Type 0)
    (front space : List ℕ) (limit : ℕ) (backward : Bool) (t : Transaction) → front ≡ space
    → IsRead good result setting stands (GetKeyRange (space_begin front) (space_end front) limit backward) t
    → IsRead good result setting stands (GetKeyRange (space_begin space) (space_end space) limit backward) t
same_space good result setting stands front space limit backward t is read =
    subst (λ space. IsRead good result setting stands (GetKeyRange (space_begin space) (space_end space) limit backward) t) is read

-- ---- bytes

pub seen_bytes : (space : List ℕ) (database : Database) (pairs : Entries) → pairs ≡ slice database (space_begin space) (space_end space) 0 false
    → bytes_seen space database ≡ bytes_in space pairs
seen_bytes space database pairs read = ap (bytes_in space) (sym read)

pub size_turn : (space : List ℕ) (database : Database) (pairs : Entries) → pairs ≡ slice database (space_begin space) (space_end space) 0 false
    → (size_call space database).turn ≡ turned_by (λ bytes. replying (length bytes)) (bytes_in space pairs)
unfolding size_call
size_turn space database pairs read = ap (turned_by (λ bytes. replying (length bytes))) (seen_bytes space database pairs read)

pub read_turn : (space : List ℕ) (from most : ℕ) (database : Database) (pairs : Entries)
    → pairs ≡ slice database (space_begin space) (space_end space) 0 false
    → (read_call space from most database).turn ≡ turned_by (λ bytes. replying (part from most bytes)) (bytes_in space pairs)
unfolding read_call
read_turn space from most database pairs read = ap (turned_by (λ bytes. replying (part from most bytes))) (seen_bytes space database pairs read)

pub write_turn : (space : List ℕ) (at : ℕ) (piece : List ℕ) (database : Database) (pairs : Entries)
    → pairs ≡ slice database (space_begin space) (space_end space) 0 false
    → (write_call space at piece database).turn ≡ turned_by (sets_piece space at (length piece)) (put_in at piece (bytes_in space pairs))
unfolding write_call
write_turn space at piece database pairs read =
    ap (λ found. turned_by (sets_piece space at (length piece)) (put_in at piece found)) (seen_bytes space database pairs read)
