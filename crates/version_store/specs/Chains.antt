-- How chains lie in slots: each key has a place, whose slot has all that the key was given.
use Rattle.std.specs.Prelude.{◌≡◌, ◌≢◌, ℕ, ◌-◌, ◌^◌, ◌<◌, List, [], ◌∷◌, Bool, true, false, Option, Some, None, slice_index_or, is_some, map, if◌then◌else◌, nat_lt, ⊤}
use Rattle.std.specs.List.{AllZip, sum_by}
use Rattle.std.specs.List.Sorted.{IsStrictlySortedBy}
use Rattle.std.specs.Map.{keys_of, values_of}
use Rattle.std.specs.Option.{IfSome}
use Rattle.model_database.specs.Databases.{Database}
use Rattle.key_bytes.specs.Keys.{key_cmp}
use Rattle.slab.specs.Slab.{Slab, slab_len}
use Rattle.version_store.specs.declared.values.Values.{Values}
use Rattle.version_store.specs.Values.{chain_of_values, has_room}
use Rattle.version_store.specs.Versions.{Chain, database_at, place_of, IsReadyAt}

-- what a key was given, or nothing, at each place
abbrev pub Slots : Type 0
Slots = List (Option Values)

-- the keys, each with its place
abbrev pub Places : Type 0
Places = List (List ℕ × ℕ)

-- how many keys may come in: where 32 bits hold each place of the slab, as many as there is room for
abbrev pub room_of : Slab Values → ℕ
room_of nodes = if nat_lt nodes.capacity (2 ^ 32) then nodes.capacity - slab_len nodes else 0

abbrev pub chain_in : Option Values → Chain
chain_in None = []
chain_in (Some values) = chain_of_values values

-- the chain of the key that has this place
abbrev pub chain_of : Slots → ℕ → Chain
chain_of slots place = chain_in (slice_index_or slots place None)

-- the chain of each key
abbrev pub chains_of : Slots → Places → List (List ℕ × Chain)
chains_of slots places = map (λ e. (e.0, chain_of slots e.1)) places

-- the weights of all chains together
abbrev pub total : (weight : Chain → ℕ) → Slots → Places → ℕ
total weight slots places = sum_by weight (values_of (chains_of slots places))

-- a place has a slot
abbrev pub IsThere : Slots → ℕ → Type 0
IsThere slots place = is_some (slice_index_or slots place None) ≡ true

-- one more value takes no memory
abbrev pub has_room_in : Option Values → Bool
has_room_in None = false
has_room_in (Some values) = has_room values

abbrev pub rooms_of : Slots → List Bool
rooms_of slots = map has_room_in slots

abbrev pub has_room_at : Slots → ℕ → Bool
has_room_at slots place = slice_index_or (rooms_of slots) place false

-- each is earlier than the one before it, and all are earlier than a version
abbrev pub IsFalling : (before : ℕ) → Chain → Type 0
IsFalling before [] = ⊤
IsFalling before (given ∷ chain) = (given.0 < before) × IsFalling given.0 chain

-- a place of a key has a slot, whose versions fall and are earlier than the next one
abbrev pub IsSoundPlace : Slots → ℕ → ℕ → Type 0
IsSoundPlace slots next place = IsThere slots place × IsFalling next (chain_of slots place)

-- the keys rise, each has a place, and no two have the same place
pub record Sound (slots : Slots) (next : ℕ) (places : Places) : Type 0 where
  pub rising : IsStrictlySortedBy key_cmp (keys_of places)
  pub places_sound : (key : List ℕ) → IfSome (place_of places key) (IsSoundPlace slots next)
  pub apart : (a b : List ℕ) (place : ℕ) → place_of places a ≡ Some place → place_of places b ≡ Some place → a ≡ b

-- the database at a version
abbrev pub database_of : ℕ → Slots → Places → Database
database_of version slots places = database_at version (chains_of slots places)

-- a value came before those of a place, and every other slot stays
pub record Puts (slots slots' : Slots) (place : ℕ) (given : ℕ × Option (List ℕ)) : Type 0 where
  pub there : IsThere slots' place
  pub chain : chain_of slots' place ≡ given ∷ chain_of slots place
  pub others : (at : ℕ) → at ≢ place → slice_index_or slots' at None ≡ slice_index_or slots at None

-- each slot that is there stays, with its chain, and with its room where it has room
pub record KeepsChains (slots slots' : Slots) : Type 0 where
  pub chains : (at : ℕ) → IsThere slots at → (IsThere slots' at) × (chain_of slots' at ≡ chain_of slots at)
  pub rooms : (at : ℕ) → has_room_at slots at ≡ true → has_room_at slots' at ≡ true

-- the keys that had places keep them
abbrev pub KeepsPlaces : Places → Places → Type 0
KeepsPlaces old new = (key : List ℕ) (place : ℕ) → place_of old key ≡ Some place → place_of new key ≡ Some place

-- these are the places of the changes' keys, in their order, and one more value at each takes no memory
abbrev pub AreReady : Slots → Places → List (List ℕ × Option (List ℕ)) → List ℕ → Type 0
AreReady slots places = AllZip (IsReadyAt places (rooms_of slots))
