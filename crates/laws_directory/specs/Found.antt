-- Which directory a path is found at in a database, and what calls of a directory layer leave of that (directory layer's documentation).
use Rattle.std.specs.Prelude.{◌≡◌, ⊤, ℕ, Bool, true, false, List, [], ◌∷◌, length, drop, Option, Some, None, option_map, unwrap_or, Ok}
use Rattle.std.specs.FinMap as finite
use Rattle.std.specs.List.{list_any}
use Rattle.model_database.specs.Databases.{Database, Mutation}
use Rattle.model_database.specs.Histories.{Setting, written}
use Rattle.model_database.specs.States.{touches}
use Rattle.model_database.specs.Transactions.{Transaction, view}
use Rattle.directory_types.specs.declared.Layer.{Layer}
use Rattle.directory_types.specs.declared.DirArgs.{DirArgs}
use Rattle.directory_types.specs.declared.DirKind.{DirKind}
use Rattle.directory_types.specs.declared.DirKind.TheVariants as kind
use Rattle.directory_types.specs.declared.DirReply.TheVariants as reply
use Rattle.model_directory.specs.declared.Directory.{Directory}
use Rattle.model_directory.specs.Courses.{run}
use Rattle.model_directory.specs.Nodes.{node_of, entry_of, layer_key, is_partition}
use Rattle.model_directory.specs.Steps.{directory, root, Found, found_at, find, front}
use Rattle.model_directory.specs.Calls.{effect}

-- ---- where a path is found

-- the directory of a prefix, where there is one
abbrev pub directory_in : Database → Layer → (prefix : Option (List ℕ)) → Option Directory
directory_in database layer None = None
directory_in database layer (Some prefix) =
    Some (directory prefix (unwrap_or (finite.get database (layer_key (node_of layer prefix))) []))

-- the one that a name is entered for in another one
abbrev pub child_in : Database → Layer → Option Directory → (name : List ℕ) → Option Directory
child_in database layer None name = None
child_in database layer (Some found) name =
    directory_in database layer (finite.get database (entry_of (node_of layer found.prefix) name))

-- from a directory on, one entry for each name
abbrev pub found_from : Database → Layer → Option Directory → (names : List (List ℕ)) → Option Directory
found_from database layer found [] = found
found_from database layer found (name ∷ names) = found_from database layer (child_in database layer found name) names

-- the directory of a path, from the root of the layer on
abbrev pub found_in : Database → Layer → (path : List (List ℕ)) → Option Directory
found_in database layer path = found_from database layer (Some (root layer)) path

-- Find goes so far in one layer: none at which a name is left is a partition. The directory of the last name may be one.
abbrev pub StaysFrom : Database → Layer → Option Directory → (names : List (List ℕ)) → Type 0
StaysFrom database layer found [] = ⊤
StaysFrom database layer None (name ∷ names) = ⊤
StaysFrom database layer (Some found) (name ∷ names) =
    (is_partition found.layer ≡ false) × StaysFrom database layer (child_in database layer (Some found) name) names

abbrev pub StaysInLayer : Database → Layer → (path : List (List ℕ)) → Type 0
StaysInLayer database layer path = StaysFrom database layer (Some (root layer)) path

-- what Find gives where no name remains
abbrev pub whole : Option Directory → Option Found
whole found = option_map (λ found. found_at found []) found

-- ---- calls

-- it answers with the directory that it opened or created
abbrev pub is_opening : DirKind → Bool
is_opening kind.Create = true
is_opening kind.CreateOrOpen = true
is_opening kind.Open = true
is_opening _ = false

abbrev pub is_removal : DirKind → Bool
is_removal kind.Remove = true
is_removal kind.RemoveIfExists = true
is_removal _ = false

-- what a call wrote: the mutations of the entries behind those that the transaction had before
abbrev pub written_since : (before after : Transaction) → List Mutation
written_since before after = written (drop (length before.script) after.script)

-- ---- what a user relies on

-- in one layer Find gives the directory of the path
abbrev pub AreFoundInLayer : Type 0
AreFoundInLayer = (snapshot : Bool) (layer : Layer) (path : List (List ℕ)) (setting : Setting) (words : ℕ → ℕ) (transaction : Transaction)
    (found : Option Found) → (run setting words (find snapshot layer path) transaction).end ≡ Ok found
    → StaysInLayer (view setting transaction) layer path → found ≡ whole (found_in (view setting transaction) layer path)

-- Where the parent was there, and the path stays in one layer, a directory that was opened or created is found by its path then, with
-- the prefix and the layer name that were answered. For what lies in a partition the layer is the partition's.
abbrev pub AreOpenedFound : Type 0
AreOpenedFound = (kind : DirKind) (layer : Layer) (args : DirArgs) (setting : Setting) (words : ℕ → ℕ) (transaction : Transaction)
    (parent : Directory) (prefix : List ℕ) (path : List (List ℕ)) (layer_name : List ℕ) → is_opening kind ≡ true
    → (effect kind layer args setting words transaction).end ≡ Ok (reply.Opened prefix path layer_name)
    → StaysInLayer (view setting transaction) layer args.path
    → found_in (view setting transaction) layer (front args.path) ≡ Some parent
    → (path ≡ args.path)
    × (found_in (view setting (effect kind layer args setting words transaction).transaction) layer args.path
    ≡ Some (directory prefix layer_name))

-- one that was removed is found no more, where the path stays in one layer
abbrev pub AreRemovedGone : Type 0
AreRemovedGone = (kind : DirKind) (layer : Layer) (args : DirArgs) (setting : Setting) (words : ℕ → ℕ) (transaction : Transaction)
    → is_removal kind ≡ true → (effect kind layer args setting words transaction).end ≡ Ok reply.Done
    → StaysInLayer (view setting transaction) layer args.path
    → found_in (view setting (effect kind layer args setting words transaction).transaction) layer args.path ≡ None

-- whatever a call is and however it ends, a key that nothing touches of what it wrote is seen as before
abbrev pub DoesAllElseStay : Type 0
DoesAllElseStay = (kind : DirKind) (layer : Layer) (args : DirArgs) (setting : Setting) (words : ℕ → ℕ) (transaction : Transaction)
    (key : List ℕ)
    → list_any (λ mutation. touches mutation key) (written_since transaction (effect kind layer args setting words transaction).transaction)
    ≡ false
    → finite.get (view setting (effect kind layer args setting words transaction).transaction) key
    ≡ finite.get (view setting transaction) key
