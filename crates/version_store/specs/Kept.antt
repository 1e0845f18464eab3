-- What a change of the keys, or a prune, leaves as it was.
use Rattle.std.specs.Prelude.{◌≡◌, ℕ, ◌+◌, ◌≤◌, ◌++◌, false, length, List, []}
use Rattle.std.specs.FinMap.{entries}
use Rattle.std.specs.List.{AllByRecursion}
use Rattle.version_store.specs.declared.pruning.Due.{Due}
use Rattle.version_store.specs.Chains.{Slots, Places, chain_of, database_of, total, KeepsChains, KeepsPlaces, Sound}
use Rattle.version_store.specs.Dues.{AreNoted}
use Rattle.version_store.specs.Values.{is_needless}
use Rattle.version_store.specs.Versions.{Chain, later}

-- what adding keys leaves: a sound store, whose databases are as they were, with the values that it had
pub record Adds (slots slots' : Slots) (next : ℕ) (old new : Places) : Type 0 where
  pub sound : Sound slots' next new
  pub reads : (version : ℕ) → database_of version slots' new ≡ database_of version slots old
  pub keeps : KeepsPlaces old new
  pub chains : KeepsChains slots slots'
  pub totals : (weight : Chain → ℕ) → weight [] ≡ 0 → total weight slots' new ≡ total weight slots old
  pub noted : (dues : List Due) → AreNoted dues slots old → AreNoted dues slots' new

-- a chain that goes on weighs no less
abbrev pub IsWeight : (Chain → ℕ) → Type 0
IsWeight weight = (chain gone : Chain) → weight chain ≤ weight (chain ++ gone)

-- what a prune leaves: a sound store, which from a version on reads as before, and has no more values
pub record Keeps (oldest next : ℕ) (slots : Slots) (places : Places) (slots' : Slots) (places' : Places) : Type 0 where
  pub sound : Sound slots' next places'
  pub reads : (version : ℕ) → oldest ≤ version → database_of version slots' places' ≡ database_of version slots places
  pub totals : (weight : Chain → ℕ) → IsWeight weight → total weight slots' places' ≤ total weight slots places

-- so it is where the store was sound
abbrev pub KeepsFrom : (oldest : ℕ) → Slots → Places → Slots → Places → Type 0
KeepsFrom oldest slots places slots' places' = (next : ℕ) → Sound slots next places → Keeps oldest next slots places slots' places'

-- the last of no chain can go
abbrev pub AreTrimmed : (oldest : ℕ) → Slots → Places → Type 0
AreTrimmed oldest slots places = AllByRecursion (λ e. is_needless oldest (chain_of slots e.1) ≡ false) places

-- no more values than there are pairs at an oldest version and changes that came later
abbrev pub AreFew : (oldest : ℕ) → Slots → Places → Type 0
AreFew oldest slots places = total length slots places ≤ length (entries (database_of oldest slots places)) + total (later oldest) slots places
