-- A queue in a subspace: each item stands at the packed tuple of its index, and the next one's index is one more than the last.
use Rattle.std.specs.Prelude.{◌≡◌, ℕ, pos, ◌+◌, Bool, true, false, ◌&&◌, ◌==◌, if◌then◌else◌, List, [], ◌∷◌, ◌++◌, length, map, drop, reverse, nat_le, Option, Some, None, Result, Ok, Err, OnOk, IfOk, bytes_eq}
use Rattle.key_bytes.specs.Numbers.{number_low}
use Rattle.fdb_tuple.specs.Tuples.{Empty, Single, Int}
use Rattle.fdb_tuple.specs.Spelling.{spelling}
use Rattle.model_database.specs.Databases.{Database, Set, Clear}
use Rattle.model_database.specs.Histories.{Setting}
use Rattle.model_database.specs.Reads.{GetKeyRange}
use Rattle.model_database.specs.Slices.{Entries, slice}
use Rattle.model_database.specs.Transactions.{Transaction, view}
use Rattle.model_recipes.specs.declared.fault.RecipeFault.{RecipeFault}
use Rattle.model_recipes.specs.declared.fault.RecipeFault.TheVariants as fault
use Rattle.model_recipes.specs.declared.TheConstants.{GREATEST_INDEX}
use Rattle.model_recipes.specs.Turns.{Turn, Call, writing, replying, turned_by, acts, view_after, IsAnswered, space_begin, space_end, pairs_of, first_pair, KeepsOthers}

-- the queue: the values of the subspace, in the order of their keys
abbrev pub queue_of : (space : List ℕ) → Database → List (List ℕ)
queue_of space database = map (λ pair. pair.1) (pairs_of space database)

-- ---- indexes

-- the key of an index
abbrev pub index_key : (space : List ℕ) → (index : ℕ) → List ℕ
index_key space index = space ++ spelling (Single (Int (pos index)) Empty)

-- the index whose key this is: that of the bytes behind the code, where the key is that index's own, up to the greatest
unfoldable pub index_in : (space key : List ℕ) → Option ℕ
index_in space key =
    let number = number_low (reverse (drop (length space + 1) key)) in
    if bytes_eq key (index_key space number) && nat_le number GREATEST_INDEX then Some number else None

-- ---- push

abbrev pub key_behind : (space key : List ℕ) → Option ℕ → Result (List ℕ) RecipeFault
key_behind space key None = Err (fault.BadKey key)
key_behind space key (Some index) = if index == GREATEST_INDEX then Err fault.IndexEnd else Ok (index_key space (index + 1))

-- the key of the next item, by the last pair, where there is one
abbrev pub next_key : (space : List ℕ) → (last : Option (List ℕ × List ℕ)) → Result (List ℕ) RecipeFault
next_key space None = Ok (index_key space 0)
next_key space (Some pair) = key_behind space pair.0 (index_in space pair.0)

-- reads the last pair, and sets the key of the next item
unfoldable pub push_call : (space value : List ℕ) → Database → Call (Unit {0})
push_call space value database = record {
  read = GetKeyRange (space_begin space) (space_end space) 1 true;
  turn = turned_by (λ key. writing (Set key value) tt)
      (next_key space (first_pair (slice database (space_begin space) (space_end space) 1 true)));
}

-- a push does so; where it is let through, the queue has one item more, at its end
pub record IsPushed (result : Result (Unit {0}) RecipeFault) (setting : Setting) (stands : Transaction → Type 0) (space value : List ℕ)
    (before : Transaction) : Type 0 where
  pub answered : IsAnswered result setting stands (push_call space value (view setting before)) before
  pub queue : OnOk result
      (queue_of space (view_after setting (push_call space value (view setting before)) before)
      ≡ queue_of space (view setting before) ++ value ∷ [])
  pub others : KeepsOthers space setting (acts (push_call space value (view setting before))) before

-- ---- pop

-- the first pair is cleared, and its value is the reply; without one there is none
abbrev pub popping : (first : Option (List ℕ × List ℕ)) → Turn (Option (List ℕ))
popping None = replying None
popping (Some pair) = writing (Clear pair.0) (Some pair.1)

-- reads the first pair, and clears its key
unfoldable pub pop_call : (space : List ℕ) → Database → Call (Option (List ℕ))
pop_call space database = record {
  read = GetKeyRange (space_begin space) (space_end space) 1 false;
  turn = Ok (popping (first_pair (slice database (space_begin space) (space_end space) 1 false)));
}

-- the first item, and the queue without it; or no item, of an empty queue
abbrev pub IsFirst : Option (List ℕ) → (before after : List (List ℕ)) → Type 0
IsFirst None before after = (before ≡ []) × (after ≡ [])
IsFirst (Some value) before after = before ≡ value ∷ after

-- a pop does so; where it is let through, it answers the first item, and the queue has the others
pub record IsPopped (result : Result (Option (List ℕ)) RecipeFault) (setting : Setting) (stands : Transaction → Type 0) (space : List ℕ)
    (before : Transaction) : Type 0 where
  pub answered : IsAnswered result setting stands (pop_call space (view setting before)) before
  pub queue : IfOk result (λ value. IsFirst value (queue_of space (view setting before))
      (queue_of space (view_after setting (pop_call space (view setting before)) before)))
  pub others : KeepsOthers space setting (acts (pop_call space (view setting before))) before
