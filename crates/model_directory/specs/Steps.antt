-- The steps that the calls of a directory layer share (directory layer's documentation).
use Rattle.std.specs.Prelude.{ℕ, zero, suc, Bool, ◌&&◌, true, false, not, ◌||◌, ◌==◌, if◌then◌else◌, List, [], ◌∷◌, ◌++◌, length, Option, Some, None, unwrap_or, Result, Ok, Err}
use Rattle.key_bytes.specs.Keys.{begins_with}
use Rattle.key_bytes.specs.Successors.{strinc}
use Rattle.model_database.specs.Databases.{Set, Clear}
use Rattle.model_database.specs.Slices.{Entries}
use Rattle.directory_types.specs.declared.Layer.{Layer}
use Rattle.directory_types.specs.declared.fault.DirFault.{DirFault}
use Rattle.directory_types.specs.declared.fault.DirFault.TheVariants as fault
use Rattle.model_directory.specs.declared.Child.{Child}
use Rattle.model_directory.specs.declared.Directory.{Directory}
use Rattle.model_directory.specs.declared.Lookup.{Lookup}
use Rattle.model_directory.specs.Courses.{Course, Gives, Refuses, ◌>>=◌, Done, done, given, does, value_of, pairs_of}
use Rattle.model_directory.specs.Nodes.{node_of, entries_of, entry_of, layer_key, version_key, version_now, version_numbers, is_newer, name_in, prefix_in, is_partition}

abbrev pub refuse_where : Bool → DirFault → Course Done
refuse_where true fault = Refuses fault
refuse_where false fault = Gives done

-- what is there, or a refusal
abbrev pub there : {X : Type 0} → DirFault → Option X → Course X
there fault None = Refuses fault
there fault (Some value) = Gives value

-- ---- the version

-- a version that was read at this key is one that is read here, or written
unfoldable pub version_read : (key : List ℕ) → (writes : Bool) → (value : List ℕ) → Result Done DirFault
version_read key writes value =
    if not (length value == 12) then Err (fault.BadNode key)
    else if is_newer writes value then Err (fault.VersionNewer (version_numbers value))
    else Ok done

unfoldable pub version_checked : Layer → (writes : Bool) → Option (List ℕ) → Course Done
version_checked layer true None = does (Set (version_key layer) version_now)
version_checked layer false None = Gives done
version_checked layer writes (Some value) = given (version_read (version_key layer) writes value)

-- whether directories may be read, or written; the first that writes notes the version
unfoldable pub check : (writes snapshot : Bool) → Layer → Course Done
check writes snapshot layer = do
  value ← value_of snapshot (version_key layer)
  version_checked layer writes value

-- ---- finding a directory

abbrev pub directory : (prefix layer : List ℕ) → Directory
directory prefix layer = record { prefix = prefix; layer = layer }

-- the root is the directory of the nodes themselves
abbrev pub root : Layer → Directory
root layer = directory layer.node []

abbrev pub below : {X Y : Type 0} → Option X → (X → Course (Option Y)) → Course (Option Y)
below None next = Gives None
below (Some value) next = next value

-- the directory of a prefix
unfoldable pub directory_at : (snapshot : Bool) → Layer → (prefix : List ℕ) → Course (Option Directory)
directory_at snapshot layer prefix = do
  layer_name ← value_of snapshot (layer_key (node_of layer prefix))
  Gives (Some (directory prefix (unwrap_or layer_name [])))

-- the directory that an entry of another one names
unfoldable pub child_of : (snapshot : Bool) → Layer → Directory → (name : List ℕ) → Course (Option Directory)
child_of snapshot layer found name = do
  entry ← value_of snapshot (entry_of (node_of layer found.prefix) name)
  below entry (directory_at snapshot layer)

-- what a path leads to: a directory, and the names that remain, where that is a partition
pub record Found : Type 0 where
  pub directory : Directory
  pub rest : List (List ℕ)

abbrev pub found_at : Directory → (rest : List (List ℕ)) → Found
found_at directory rest = record { directory = directory; rest = rest }

-- from a directory on, one entry for each name; the names behind a partition remain
unfoldable pub find_from : (snapshot : Bool) → Layer → Directory → (names : List (List ℕ)) → Course (Option Found)
find_from snapshot layer found [] = Gives (Some (found_at found []))
find_from snapshot layer found (name ∷ names) =
    if is_partition found.layer then Gives (Some (found_at found (name ∷ names)))
    else (do
      child ← child_of snapshot layer found name
      below child (λ next. find_from snapshot layer next names))

unfoldable pub find : (snapshot : Bool) → Layer → (path : List (List ℕ)) → Course (Option Found)
find snapshot layer path = find_from snapshot layer (root layer) path

-- ---- partitions

-- the layer of what lies in the partition with a prefix
abbrev pub inside : (prefix : List ℕ) → Layer
inside prefix = record { node = prefix ++ 254 ∷ []; content = prefix; manual = false }

-- what a call asks of a layer before it looks for a path there
unfoldable pub admits : Lookup → Layer → (path : List (List ℕ)) → Course Done
admits lookup layer path = do
  checked ← check lookup.writes lookup.snapshot layer
  allowed ← refuse_where (lookup.has_prefix && not layer.manual) fault.ManualNotAllowed
  refuse_where (not lookup.may_be_root && length path == 0) fault.EmptyPath

-- where a path ends: a layer, the path in it, and the directory of that path, where there is one
pub record Place : Type 0 where
  pub layer : Layer
  pub path : List (List ℕ)
  pub found : Option Directory

abbrev pub place : Layer → (path : List (List ℕ)) → Option Directory → Place
place layer path found = record { layer = layer; path = path; found = found }

-- names that remain are looked for in the partition's layer
abbrev pub or_inside : Layer → (path : List (List ℕ)) → Option Found → (again : Layer → List (List ℕ) → Course Place) → Course Place
or_inside layer path None again = Gives (place layer path None)
or_inside layer path (Some found) again = by found.rest
  where
    by : (rest : List (List ℕ)) → Course Place
    by [] = Gives (place layer path (Some found.directory))
    by (name ∷ names) = again (inside found.directory.prefix) (name ∷ names)

-- Where names remain, the call begins again on the partition's layer with these. The number bounds how often, and one more than
-- that of the names is enough, since each time one name or more is left behind.
unfoldable pub arrives : (bound : ℕ) → Lookup → Layer → (path : List (List ℕ)) → Course Place
arrives zero lookup layer path = Gives (place layer path None)
arrives (suc bound) lookup layer path = do
  may ← admits lookup layer path
  found ← find lookup.snapshot layer path
  or_inside layer path found (λ layer names. arrives bound lookup layer names)

-- a path without its last name, and that name
abbrev pub front : List (List ℕ) → List (List ℕ)
front [] = []
front (name ∷ []) = []
front (name ∷ names) = name ∷ front names

abbrev pub last_name : List (List ℕ) → List ℕ
last_name [] = []
last_name (name ∷ []) = name
last_name (name ∷ names) = last_name names

-- ---- the directories right below

-- the directory of an entry: its name and its prefix
abbrev pub named : (entry : List ℕ × List ℕ) → (name : Option (List ℕ)) → Result Child DirFault
named entry None = Err (fault.BadNode entry.0)
named entry (Some name) = Ok (record { name = name; prefix = entry.1 })

unfoldable pub child_in : (node : List ℕ) → (entry : List ℕ × List ℕ) → Result Child DirFault
child_in node entry = named entry (name_in node entry.0)

abbrev pub before_others : Result Child DirFault → Result (List Child) DirFault → Result (List Child) DirFault
before_others (Ok child) (Ok others) = Ok (child ∷ others)
before_others (Ok child) (Err fault) = Err fault
before_others (Err fault) others = Err fault

-- those of entries, in the order of their keys; the first key that is none of a name is told
unfoldable pub children_in : (node : List ℕ) → Entries → Result (List Child) DirFault
children_in node [] = Ok []
children_in node (entry ∷ entries) = before_others (child_in node entry) (children_in node entries)

unfoldable pub children : (snapshot : Bool) → Layer → (prefix : List ℕ) → Course (List Child)
children snapshot layer prefix = do
  entries ← pairs_of snapshot (entries_of (node_of layer prefix) ++ 0 ∷ []) (entries_of (node_of layer prefix) ++ 255 ∷ []) 0 false
  given (children_in (node_of layer prefix) entries)

-- ---- prefixes in use

abbrev pub begins_so : (prefix key : List ℕ) → (other : Option (List ℕ)) → Result Bool DirFault
begins_so prefix key None = Err (fault.BadNode key)
begins_so prefix key (Some other) = Ok (begins_with prefix other)

-- whether the first of these keys is of a node whose prefix this one begins with
unfoldable pub is_inside : Layer → (prefix : List ℕ) → Entries → Result Bool DirFault
is_inside layer prefix [] = Ok false
is_inside layer prefix (entry ∷ entries) = begins_so prefix entry.0 (prefix_in layer entry.0)

-- a node stands here whose prefix begins with this one
unfoldable pub has_inside : (snapshot : Bool) → Layer → (prefix : List ℕ) → Course Bool
has_inside snapshot layer prefix = do
  next ← there fault.NoSuccessor (strinc prefix)
  entries ← pairs_of snapshot (node_of layer prefix) (node_of layer next) 1 false
  Gives (not (length entries == 0))

-- these questions in their order, up to the first that is answered yes
unfoldable pub is_node_inside : (snapshot : Bool) → Layer → (prefix : List ℕ) → Course Bool
is_node_inside snapshot layer prefix = do
  entries ← pairs_of snapshot (layer.node ++ 0 ∷ []) (node_of layer prefix ++ 0 ∷ []) 1 true
  inside ← given (is_inside layer prefix entries)
  if inside then Gives true else has_inside snapshot layer prefix

-- whether the contents of a directory begin with a prefix, or it with theirs
unfoldable pub is_in_use : (snapshot : Bool) → Layer → (prefix : List ℕ) → Course Bool
is_in_use snapshot layer prefix =
    if length prefix == 0 || begins_with prefix layer.node then Gives true else is_node_inside snapshot layer prefix

-- ---- entries

unfoldable pub sets_entry : Layer → (parent name prefix : List ℕ) → Course Done
sets_entry layer parent name prefix = does (Set (entry_of (node_of layer parent) name) prefix)

-- of a directory that is still there
unfoldable pub clears_entry : Layer → Option Found → (name : List ℕ) → Course Done
clears_entry layer None name = Gives done
clears_entry layer (Some parent) name = does (Clear (entry_of (node_of layer parent.directory.prefix) name))
