-- What became old, or will: a note of each change that leaves something behind it.
use Rattle.std.specs.Prelude.{◌≡◌, ◌≢◌, ◌⊎◌, ◌≤◌, ◌<◌, ℕ, ◌+◌, ◌++◌, List, [], ◌∷◌, true, false, Option, Some, None, is_none, if◌then◌else◌, slice_index_or, ⊤}
use Rattle.std.specs.Option.{IfSome}
use Rattle.std.specs.VecDeque.{deque_len, deque_capacity}
use Rattle.version_store.specs.declared.pruning.Due.{Due}
use Rattle.version_store.specs.declared.pruning.Dues.{Dues}
use Rattle.version_store.specs.Chains.{Slots, Places, chain_of, IsThere}
use Rattle.version_store.specs.Values.{is_needless}
use Rattle.version_store.specs.Versions.{Chain, holding, place_of}

-- noting so many more takes no memory
abbrev pub HasRoomFor : ℕ → Dues → Type 0
HasRoomFor count dues = dues.noting ≡ true → count + deque_len dues.queue ≤ deque_capacity dues.queue

-- how many are noted and how many can be, where they are
abbrev pub room_in : Dues → Option (ℕ × ℕ)
room_in dues = if dues.noting then Some (deque_len dues.queue, deque_capacity dues.queue) else None

-- dues of versions that don't fall, from a low one up to a high one
abbrev pub AreDues : (low high : ℕ) → List Due → Type 0
AreDues low high [] = ⊤
AreDues low high (due ∷ dues) = (low ≤ due.version) × (due.version ≤ high) × AreDues due.version high dues

-- the first is later than a version
abbrev pub IsAfter : ℕ → List Due → Type 0
IsAfter oldest [] = ⊤
IsAfter oldest (due ∷ dues) = oldest < due.version

-- a change of this version at this place was noted
abbrev pub IsDue : List Due → (place version : ℕ) → Type 0
IsDue [] place version = ⊥
IsDue (due ∷ dues) place version = ((due.place ≡ place) × (due.version ≡ version)) ⊎ IsDue dues place version

-- each change of a chain was noted that stands before another, and the last where it is an absence
abbrev pub IsNoted : List Due → (place : ℕ) → Chain → Type 0
IsNoted dues place [] = ⊤
IsNoted dues place (given ∷ []) = is_none given.1 ≡ true → IsDue dues place given.0
IsNoted dues place (given ∷ next ∷ rest) = IsDue dues place given.0 × IsNoted dues place (next ∷ rest)

-- so it is of each key
abbrev pub AreNoted : List Due → Slots → Places → Type 0
AreNoted dues slots places = (key : List ℕ) → IfSome (place_of places key) (λ place. IsNoted dues place (chain_of slots place))

-- where changes are noted, all are that have to be, and those that are noted have versions from a low one up to a high one
abbrev pub IsComplete : (low high : ℕ) → Dues → Slots → Places → Type 0
IsComplete low high dues slots places = dues.noting ≡ true → AreDues low high dues.queue.items × AreNoted dues.queue.items slots places

-- a change came before a chain, and was noted where something is old behind it
pub record Notes (version place : ℕ) (old new : Dues) (chain chain' : Chain) : Type 0 where
  pub noting : new.noting ≡ old.noting
  pub order : (low : ℕ) → low ≤ version → AreDues low version old.queue.items → AreDues low version new.queue.items
  pub others : (other : ℕ) (chain : Chain) → IsNoted old.queue.items other chain → IsNoted new.queue.items other chain
  pub here : old.noting ≡ true → IsNoted old.queue.items place chain → IsNoted new.queue.items place chain'

-- the chain of a place lost its end, which no version from an oldest one on needs, and every other slot stays
pub record Trims (oldest place : ℕ) (slots slots' : Slots) : Type 0 where
  pub held : (version : ℕ) → oldest ≤ version → holding version (chain_of slots' place) ≡ holding version (chain_of slots place)
  pub trimmed : is_needless oldest (chain_of slots' place) ≡ false
  pub begins : (gone : Chain) × (chain_of slots place ≡ chain_of slots' place ++ gone)
  pub there : IsThere slots place → IsThere slots' place
  pub others : (at : ℕ) → at ≢ place → slice_index_or slots' at None ≡ slice_index_or slots at None
