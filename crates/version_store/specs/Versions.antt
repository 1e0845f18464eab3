-- What contracts see of a store: the database at each version.
use Rattle.std.specs.Prelude.{◌≡◌, ℕ, ◌+◌, ◌^◌, ◌<◌, ◌≤◌, Bool, true, false, List, [], ◌∷◌, length, Option, Some, None, slice_index_or, if◌then◌else◌, nat_lt}
use Rattle.std.specs.BTreeMap.{is_at}
use Rattle.std.specs.FinMap as finite
use Rattle.std.specs.List.{AllZip, filter_map, sum_by}
use Rattle.std.specs.Map.{lookup, values_of}
use Rattle.std.specs.Option.{IfSome, option_map}
use Rattle.key_bytes.specs.Keys.{key_cmp}
use Rattle.model_database.specs.Databases.{Database}
use Rattle.version_store.specs.declared.fault.VersionFault.{VersionFault}
use Rattle.version_store.specs.declared.fault.VersionFault.TheVariants.{TooOld, Future}

-- what one key was given, each with its version, the newest first; no value where the key was removed
abbrev pub Chain : Type 0
Chain = List (ℕ × Option (List ℕ))

-- The last version, the oldest one that can be read, the chain of each key in the order of the keys, the place of each key, at which
-- places there is room for one more value, how many changes are noted as old and how many can be, where they are noted, how many
-- values were given at all, and the places that were reserved. Contracts cite the words below, and no field.
pub record Versions : Type 0 where
  pub last : ℕ
  pub oldest : ℕ
  pub chains : List (List ℕ × Chain)
  pub places : List (List ℕ × ℕ)
  pub rooms : List Bool
  pub dues : Option (ℕ × ℕ)
  pub given : ℕ
  pub reserved : List ℕ

-- what a chain holds at a version: what was given last up to this version
unfoldable pub holding : ℕ → Chain → Option (List ℕ)
holding version [] = None
holding version (given ∷ older) = if nat_lt version given.0 then holding version older else given.1

-- the keys that hold something at a version, with what they hold
unfoldable pub present : ℕ → List (List ℕ × Chain) → List (List ℕ × List ℕ)
present version chains = filter_map (λ e. option_map (λ value. (e.0, value)) (holding version e.1)) chains

-- the database that chains make at a version
unfoldable pub database_at : ℕ → List (List ℕ × Chain) → Database
database_at version chains = finite.from_entries (present version chains)

-- the database at a version
unfoldable pub at : Versions → ℕ → Database
at versions version = database_at version versions.chains

-- the last version
unfoldable pub last_of : Versions → ℕ
last_of versions = versions.last

-- the oldest version that can be read
unfoldable pub oldest_of : Versions → ℕ
oldest_of versions = versions.oldest

-- how many values a store holds, all versions together, and removals among them
unfoldable pub nodes_of : Versions → ℕ
nodes_of versions = sum_by length (values_of versions.chains)

-- how many values of a chain are later than a version
abbrev pub later : ℕ → Chain → ℕ
later version [] = 0
later version (given ∷ older) = (if nat_lt version given.0 then 1 else 0) + later version older

-- how many values the store holds that are later than a version
unfoldable pub later_of : Versions → ℕ → ℕ
later_of versions version = sum_by (later version) (values_of versions.chains)

-- a store holds no more values than there are pairs at its oldest version and changes that came later
unfoldable pub HasFew : Versions → Type 0
HasFew versions = nodes_of versions ≤ length (finite.entries (at versions (oldest_of versions))) + later_of versions (oldest_of versions)

-- the place of a key, if it has one
abbrev pub place_of : List (List ℕ × ℕ) → List ℕ → Option ℕ
place_of places key = lookup (is_at (key_cmp key)) places

-- a change's key has a place, with room there for one more value
abbrev pub IsReadyAt : List (List ℕ × ℕ) → List Bool → List ℕ × Option (List ℕ) → ℕ → Type 0
IsReadyAt places rooms change place = (place_of places change.0 ≡ Some place) × (slice_index_or rooms place false ≡ true)

-- these changes can be installed without memory and with no search: what was reserved are the places of their keys, with room at
-- each, and as many can be noted as old, and counted
unfoldable pub IsReadyFor : Versions → List (List ℕ × Option (List ℕ)) → Type 0
IsReadyFor versions changes =
    AllZip (IsReadyAt versions.places versions.rooms) changes versions.reserved
    × IfSome versions.dues (λ dues. length changes + dues.0 ≤ dues.1)
    × (length changes + versions.given < 2 ^ 64)

-- why a version can't be read: the fault says which version can
abbrev pub IsFaultAt : Versions → ℕ → VersionFault → Type 0
IsFaultAt versions version (TooOld oldest) = (version < oldest_of versions) × (oldest ≡ oldest_of versions)
IsFaultAt versions version (Future last) = (oldest_of versions ≤ version) × (last_of versions < version) × (last ≡ last_of versions)

-- a version that can be read
abbrev pub IsReadable : Versions → ℕ → Type 0
IsReadable versions version = (oldest_of versions ≤ version) × (version ≤ last_of versions)
