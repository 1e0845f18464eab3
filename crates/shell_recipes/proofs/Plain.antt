-- The writes of each call of a layer are sets and clears of keys.
use Rattle.std.proofs.Common.{ℕ, zero, suc, ◌==◌, Bool, true, false, cond, List, [], ◌∷◌, length, map, Option, Some, None, Result, Ok, Err}
use Rattle.std.specs.List.{AllByRecursion}
use Rattle.std.specs.FinMap as finite
use Rattle.model_database.specs.Databases.{Database, Mutation, Set, Clear}
use Rattle.model_recipes.specs.declared.Count.{Count}
use Rattle.model_recipes.specs.declared.fault.RecipeFault.{RecipeFault}
use Rattle.model_recipes.specs.Turns.{Turn, writing, replying, turned_by}
use Rattle.model_recipes.specs.Queues.{index_key, push_call, pop_call, popping}
use Rattle.model_recipes.specs.Multimaps.{pair_key, there, count_at, add_call, subtract_call, values_call, sets_count, lowers}
use Rattle.model_recipes.specs.Blobs.{size_call, read_call, write_call, part, chunk, sets_piece}
use Rattle.shell_recipes.proofs.Folding.{IsPlainWrite}

abbrev pub AllPlain : List Mutation → Type 0
AllPlain mutations = AllByRecursion IsPlainWrite mutations

abbrev pub ArePlain : {X : Type 0} → Result (Turn X) RecipeFault → Type 0
ArePlain (Ok turn) = AllPlain turn.writes
ArePlain (Err fault) = Unit {0}

turned_plain : {A X : Type 0} (turn : A → Turn X) → ((found : A) → AllPlain (turn found).writes) → (found : Result A RecipeFault)
    → ArePlain (turned_by turn found)
turned_plain turn plain (Ok found) = plain found
turned_plain turn plain (Err fault) = tt

pub push_plain : (space value : List ℕ) (database : Database) → ArePlain (push_call space value database).turn
unfolding push_call
push_plain space value database = turned_plain (λ key. writing (Set key value) tt) (λ key. (tt, tt)) _

popping_plain : (first : Option (List ℕ × List ℕ)) → AllPlain (popping first).writes
popping_plain None = tt
popping_plain (Some pair) = (tt, tt)

pub pop_plain : (space : List ℕ) (database : Database) → ArePlain (pop_call space database).turn
unfolding pop_call
pop_plain space database = popping_plain _

pub add_plain : (space key value : List ℕ) (database : Database) → ArePlain (add_call space key value database).turn
unfolding add_call
add_plain space key value database = turned_plain (sets_count _) (λ count. (tt, tt)) _

either_plain : (b : Bool) (one other : Turn (Unit {0})) → AllPlain one.writes → AllPlain other.writes → AllPlain (cond b one other).writes
either_plain true one other first second = first
either_plain false one other first second = second

lowers_plain : (at : List ℕ) (count : ℕ) → AllPlain (lowers at count).writes
lowers_plain at zero = tt
lowers_plain at (suc count) = either_plain (count == 0) (writing (Clear at) tt) (sets_count at count) (tt, tt) (tt, tt)

pub subtract_plain : (space key value : List ℕ) (database : Database) → ArePlain (subtract_call space key value database).turn
unfolding subtract_call
subtract_plain space key value database =
    turned_plain (lowers (pair_key space key value)) (lowers_plain (pair_key space key value))
    (there (pair_key space key value) (count_at (finite.get database (pair_key space key value))))

pub values_plain : (space key : List ℕ) (database : Database) → ArePlain (values_call space key database).turn
unfolding values_call
values_plain space key database = turned_plain (λ (counts : List Count). replying counts) (λ counts. tt) _

sets_plain : (space bytes : List ℕ) (places : List ℕ) → AllPlain (map (λ (place : ℕ). Set (index_key space place) (chunk bytes place)) places)
sets_plain space bytes [] = tt
sets_plain space bytes (place ∷ places) = (tt, sets_plain space bytes places)

pub write_plain : (space : List ℕ) (at : ℕ) (piece : List ℕ) (database : Database) → ArePlain (write_call space at piece database).turn
unfolding write_call
write_plain space at piece database = turned_plain (sets_piece space at _) (λ bytes. sets_plain space bytes _) _

pub read_plain : (space : List ℕ) (from most : ℕ) (database : Database) → ArePlain (read_call space from most database).turn
unfolding read_call
read_plain space from most database = turned_plain (λ (bytes : List ℕ). replying (part from most bytes)) (λ bytes. tt) _

pub size_plain : (space : List ℕ) (database : Database) → ArePlain (size_call space database).turn
unfolding size_call
size_plain space database = turned_plain (λ (bytes : List ℕ). replying (length bytes)) (λ bytes. tt) _
