-- What each call of a directory layer does and answers (directory layer's documentation).
use Rattle.std.specs.Prelude.{ℕ, zero, suc, ◌+◌, Bool, true, false, not, ◌&&◌, ◌==◌, if◌then◌else◌, List, [], ◌∷◌, ◌++◌, length, map, Option, Some, None, Result, Ok, Err, unwrap_or, is_some, bytes_eq, codes}
use Rattle.std.specs.List.{starts_with}
use Rattle.std.specs.FinMap as finite
use Rattle.key_bytes.specs.Successors.{strinc}
use Rattle.fdb_tuple.specs.Tuples.{Elements, Empty, Single, Text}
use Rattle.fdb_tuple.specs.Spelling.{spelling}
use Rattle.model_database.specs.Databases.{Set, ClearRange}
use Rattle.model_database.specs.Histories.{Setting}
use Rattle.model_database.specs.Transactions.{Transaction, view}
use Rattle.directory_types.specs.declared.Layer.{Layer}
use Rattle.directory_types.specs.declared.DirArgs.{DirArgs}
use Rattle.directory_types.specs.declared.DirKind.{DirKind}
use Rattle.directory_types.specs.declared.DirKind.TheVariants as kind
use Rattle.directory_types.specs.declared.DirReply.{DirReply}
use Rattle.directory_types.specs.declared.DirReply.TheVariants as reply
use Rattle.directory_types.specs.declared.fault.DirFault.{DirFault}
use Rattle.directory_types.specs.declared.fault.DirFault.TheVariants as fault
use Rattle.model_directory.specs.Courses.{Course, Gives, Refuses, Allocates, ◌>>=◌, Done, done, given, does, pairs_of, Reached, run}
use Rattle.model_directory.specs.Nodes.{packed_bytes, packed_number, packed_text, node_of, layer_key, allocator_of, is_partition}
use Rattle.model_directory.specs.declared.Child.{Child}
use Rattle.model_directory.specs.declared.Directory.{Directory}
use Rattle.model_directory.specs.declared.Lookup.{Lookup}
use Rattle.model_directory.specs.declared.OpenOptions.{OpenOptions}
use Rattle.model_directory.specs.Steps.{refuse_where, there, check, root, Found, find, inside, Place, place, arrives, front, last_name, children, directory, is_in_use, sets_entry, clears_entry}

abbrev pub opened : (path : List (List ℕ)) → Directory → DirReply
opened path found = reply.Opened found.prefix path found.layer

-- ---- create, create_or_open, open

abbrev pub to_create : OpenOptions
to_create = record { may_create = true; may_open = false; snapshot = false }

abbrev pub to_create_or_open : OpenOptions
to_create_or_open = record { may_create = true; may_open = true; snapshot = false }

abbrev pub to_open : (snapshot : Bool) → OpenOptions
to_open snapshot = record { may_create = false; may_open = true; snapshot = snapshot }

-- a directory that is there is opened, where that may be and where its layer name is the one that is asked for, if one is
unfoldable pub found_opened : OpenOptions → (layer_name : Option (List ℕ)) → Directory → Result (Option Directory) DirFault
found_opened options layer_name found =
    if not options.may_open then Err fault.Exists
    else if not (length (unwrap_or layer_name []) == 0) && not (bytes_eq (unwrap_or layer_name []) found.layer) then Err fault.LayerDiffers
    else Ok (Some found)

-- one that isn't there may have to be created
abbrev pub judged : OpenOptions → (layer_name : Option (List ℕ)) → Option Directory → Result (Option Directory) DirFault
judged options layer_name (Some found) = found_opened options layer_name found
judged options layer_name None = if options.may_create then Ok None else Err fault.Missing

abbrev pub to_look : OpenOptions → (prefix : Option (List ℕ)) → Lookup
to_look options prefix = record { writes = false; snapshot = options.snapshot; has_prefix = is_some prefix; may_be_root = false }

-- where the path ends, with the directory that is there, or none where it is to be created
unfoldable pub looks : OpenOptions → Layer → (path : List (List ℕ)) → (layer_name prefix : Option (List ℕ)) → Course Place
looks options layer path layer_name prefix = do
  at ← arrives (length path + 1) (to_look options prefix) layer path
  found ← given (judged options layer_name at.found)
  Gives (place at.layer at.path found)

-- whether there are keys that begin with a prefix
unfoldable pub has_keys : (prefix : List ℕ) → Course Bool
has_keys prefix = do
  end ← there fault.NoSuccessor (strinc prefix)
  keys ← pairs_of false prefix end 1 false
  Gives (not (length keys == 0))

-- a prefix where no key and no directory stands
unfoldable pub free_prefix : Layer → (prefix : List ℕ) → Course (List ℕ)
free_prefix layer prefix = do
  keys ← has_keys prefix
  empty ← refuse_where keys fault.KeysAtPrefix
  used ← is_in_use true layer prefix
  free ← refuse_where used fault.PrefixInUse
  Gives prefix

-- the content's prefix and a number that the allocator grants
unfoldable pub new_prefix : Layer → Course (List ℕ)
new_prefix layer = Allocates (allocator_of layer) (λ number. free_prefix layer (layer.content ++ packed_number number))

unfoldable pub given_prefix : Layer → (prefix : List ℕ) → Course (List ℕ)
given_prefix layer prefix = do
  used ← is_in_use false layer prefix
  free ← refuse_where used fault.PrefixInUse
  Gives prefix

abbrev pub prefix_for : Layer → Option (List ℕ) → Course (List ℕ)
prefix_for layer None = new_prefix layer
prefix_for layer (Some prefix) = given_prefix layer prefix

-- the prefix of a directory that is to be created
unfoldable pub takes_prefix : Layer → (prefix : Option (List ℕ)) → Course (List ℕ)
takes_prefix layer prefix = do
  written ← check true false layer
  prefix_for layer prefix

-- a directory is entered in its parent's node, and its layer name in its own
unfoldable pub enters : Layer → (parent : Directory) → (name prefix : List ℕ) → (layer_name : List ℕ) → Course Directory
enters layer parent name prefix layer_name = do
  entry ← sets_entry layer parent.prefix name prefix
  noted ← does (Set (layer_key (node_of layer prefix)) layer_name)
  Gives (directory prefix layer_name)

-- a directory that was found, or else another course
abbrev pub or_else : Option Directory → Course Directory → Course Directory
or_else (Some found) others = Gives found
or_else None others = others

-- the directory of the empty path is the root
abbrev pub or_root : Layer → (path : List (List ℕ)) → Course Directory → Course Directory
or_root layer [] others = Gives (root layer)
or_root layer (name ∷ names) others = others

-- The parent is made before its child is entered, by the same steps: the number bounds how often, and that of the names of the
-- path is enough, since each time one name is left out. Of a path with one name the parent is the root.
unfoldable pub makes : (bound : ℕ) → OpenOptions → Layer → (path : List (List ℕ)) → (layer_name prefix : Option (List ℕ)) → Course Directory
makes zero options layer path layer_name prefix = Gives (root layer)
makes (suc bound) options layer path layer_name prefix = do
  at ← looks options layer path layer_name prefix
  or_else at.found (do
    own ← takes_prefix at.layer prefix
    parent ← or_root at.layer (front at.path) (makes bound to_create_or_open at.layer (front at.path) None None)
    enters at.layer parent (last_name at.path) own (unwrap_or layer_name []))

unfoldable pub opening : OpenOptions → Layer → DirArgs → Course DirReply
opening options layer args = do
  found ← makes (length args.path + 1) options layer args.path args.layer args.prefix
  Gives (opened args.path found)

-- ---- move_to

-- what is moved, and where: a layer, and both paths in it
pub record Move : Type 0 where
  pub layer : Layer
  pub path : List (List ℕ)
  pub new_path : List (List ℕ)
  pub moved : Directory

-- Where a move goes on, by what both paths lead to: in this layer, where nothing is found at the new path; or in the partition that both
-- lead into, with the names that remain of the new path.
abbrev pub moves_on : Found → Option Found → Result (Option (List (List ℕ))) DirFault
moves_on old None = by old.rest
  where
    by : (rest : List (List ℕ)) → Result (Option (List (List ℕ))) DirFault
    by [] = Ok None
    by (name ∷ names) = Err fault.AcrossPartitions
moves_on old (Some new) = by old.rest new.rest
  where
    by : (rest new_rest : List (List ℕ)) → Result (Option (List (List ℕ))) DirFault
    by [] [] = Err fault.Exists
    by [] (name ∷ names) = Err fault.AcrossPartitions
    by (name ∷ names) [] = Err fault.AcrossPartitions
    by (name ∷ names) (new_name ∷ new_names) =
        if bytes_eq old.directory.prefix new.directory.prefix then Ok (Some (new_name ∷ new_names)) else Err fault.AcrossPartitions

-- in this layer, or begun again in the partition
abbrev pub moves_in : Layer → (path new_path : List (List ℕ)) → Found → Option (List (List ℕ))
    → (again : Layer → (path new_path : List (List ℕ)) → Course Move) → Course Move
moves_in layer path new_path old None again = Gives (record { layer = layer; path = path; new_path = new_path; moved = old.directory })
moves_in layer path new_path old (Some names) again = again (inside old.directory.prefix) old.rest names

-- What is moved: both paths are looked for before either is judged. Where names of both remain at one partition, the call begins
-- again on its layer with these; one more than the number of the names of the path bounds how often.
unfoldable pub finds_moved : (bound : ℕ) → Layer → (path new_path : List (List ℕ)) → Course Move
finds_moved zero layer path new_path = Refuses fault.Missing
finds_moved (suc bound) layer path new_path = do
  written ← check true false layer
  apart ← refuse_where (starts_with bytes_eq new_path path) fault.IntoItself
  old ← find false layer path
  new ← find false layer new_path
  found ← there fault.Missing old
  further ← given (moves_on found new)
  moves_in layer path new_path found further (λ layer path new_path. finds_moved bound layer path new_path)

-- a directory is entered under another name of its own
unfoldable pub enters_moved : Layer → (above : List (List ℕ)) → (name : List ℕ) → Directory → Course Done
enters_moved layer above name moved = do
  found ← find false layer above
  parent ← there fault.ParentMissing found
  sets_entry layer parent.directory.prefix name moved.prefix

-- the entry of a name is cleared in the directory of a path, where that is still there
unfoldable pub leaves : Layer → (above : List (List ℕ)) → (name : List ℕ) → Course Done
leaves layer above name = do
  parent ← find false layer above
  clears_entry layer parent name

unfoldable pub moving : Layer → (path new_path : List (List ℕ)) → Course DirReply
moving layer path new_path = do
  at ← finds_moved (length path + 1) layer path new_path
  entry ← enters_moved at.layer (front at.new_path) (last_name at.new_path) at.moved
  cleared ← leaves at.layer (front at.path) (last_name at.path)
  Gives (opened new_path at.moved)

-- ---- remove, remove_if_exists

-- the contents and the node of the directory with a prefix are cleared: the directories right below it, which it had
unfoldable pub clears_one : Layer → (prefix : List ℕ) → Course (List Child)
clears_one layer prefix = do
  found ← children false layer prefix
  end ← there fault.NoSuccessor (strinc prefix)
  contents ← does (ClearRange prefix end)
  node ← does (ClearRange (node_of layer prefix ++ 0 ∷ []) (node_of layer prefix ++ 255 ∷ []))
  Gives found

-- The directories of these prefixes and all below them, the nearest first. The number bounds how many are met. As many as there
-- are prefixes and keys that the transaction sees are enough: each other directory is met by an entry of one that was met before,
-- and that one's entries were cleared then.
unfoldable pub clears_all : (bound : ℕ) → Layer → (prefixes : List (List ℕ)) → Course Done
clears_all bound layer [] = Gives done
clears_all zero layer (prefix ∷ prefixes) = Gives done
clears_all (suc bound) layer (prefix ∷ prefixes) = do
  found ← clears_one layer prefix
  clears_all bound layer (prefixes ++ map (λ child. child.prefix) found)

-- a directory and all below it, under this name in the directory of a path
unfoldable pub removes_one : (bound : ℕ) → Layer → (above : List (List ℕ)) → (name : List ℕ) → Directory → Course DirReply
removes_one bound layer above name found = do
  cleared ← clears_all bound layer (found.prefix ∷ [])
  entry ← leaves layer above name
  Gives reply.Done

abbrev pub removes_found : (bound : ℕ) → (must_exist : Bool) → Layer → (path : List (List ℕ)) → Option Directory → Course DirReply
removes_found bound true layer path None = Refuses fault.Missing
removes_found bound false layer path None = Gives reply.Done
removes_found bound must_exist layer path (Some found) = removes_one bound layer (front path) (last_name path) found

abbrev pub to_remove : Lookup
to_remove = record { writes = true; snapshot = false; has_prefix = false; may_be_root = false }

unfoldable pub removing : (bound : ℕ) → (must_exist : Bool) → Layer → (path : List (List ℕ)) → Course DirReply
removing bound must_exist layer path = do
  at ← arrives (length path + 1) to_remove layer path
  removes_found bound must_exist at.layer at.path at.found

-- ---- list, exists

abbrev pub to_see : (snapshot : Bool) → Lookup
to_see snapshot = record { writes = false; snapshot = snapshot; has_prefix = false; may_be_root = true }

-- those right below a directory; below a partition, those of the root of its own layer
unfoldable pub lists : (snapshot : Bool) → Layer → Directory → Course (List Child)
lists snapshot layer found =
    if is_partition found.layer then (do
      read ← check false snapshot (inside found.prefix)
      children snapshot (inside found.prefix) (inside found.prefix).node)
    else children snapshot layer found.prefix

unfoldable pub names_below : (snapshot : Bool) → Layer → (path : List (List ℕ)) → Course (List (List ℕ))
names_below snapshot layer path = do
  at ← arrives (length path + 1) (to_see snapshot) layer path
  one ← there fault.Missing at.found
  below ← lists snapshot at.layer one
  Gives (map (λ child. child.name) below)

unfoldable pub is_there : (snapshot : Bool) → Layer → (path : List (List ℕ)) → Course Bool
is_there snapshot layer path = do
  at ← arrives (length path + 1) (to_see snapshot) layer path
  Gives (is_some at.found)

-- ---- log

-- Unicode strings as a tuple
abbrev pub texts : List (List ℕ) → Elements
texts [] = Empty
texts (text ∷ others) = Single (Text text) (texts others)

abbrev pub truth : Bool → ℕ
truth true = 1
truth false = 0

-- the names right below a directory that is there
abbrev pub names_where : (is : Bool) → Layer → (path : List (List ℕ)) → Course (List (List ℕ))
names_where true layer path = names_below false layer path
names_where false layer path = Gives []

-- what is noted under the prefix of the log: the path, the layer name, whether the directory is there, and the names below it
unfoldable pub notes : (log : List ℕ) → (path : List (List ℕ)) → (layer_name : List ℕ) → (is : Bool) → (names : List (List ℕ)) → Course Done
notes log path layer_name is names = do
  path ← does (Set (log ++ packed_text (codes "path")) (spelling (texts path)))
  layer_name ← does (Set (log ++ packed_text (codes "layer")) (packed_bytes layer_name))
  exists ← does (Set (log ++ packed_text (codes "exists")) (packed_number (truth is)))
  does (Set (log ++ packed_text (codes "children")) (spelling (texts names)))

unfoldable pub logging : Layer → DirArgs → Course DirReply
logging layer args = do
  is ← is_there false layer args.path
  names ← names_where is layer args.path
  noted ← notes (args.raw ++ packed_number args.index) args.path (unwrap_or args.layer []) is names
  Gives reply.Done

-- ---- each call

-- Where this many keys are seen at first: a removal meets one directory by its path, and notes the version in each layer that it
-- comes to, of which there are at most one more than names.
abbrev pub course : DirKind → (keys : ℕ) → Layer → DirArgs → Course DirReply
course kind.Create keys layer args = opening to_create layer args
course kind.CreateOrOpen keys layer args = opening to_create_or_open layer args
course kind.Open keys layer args = opening (to_open args.snapshot) layer args
course kind.MoveTo keys layer args = moving layer args.path args.new_path
course kind.Remove keys layer args = removing (keys + length args.path + 2) true layer args.path
course kind.RemoveIfExists keys layer args = removing (keys + length args.path + 2) false layer args.path
course kind.List keys layer args = do
  names ← names_below args.snapshot layer args.path
  Gives (reply.Names names)
course kind.Exists keys layer args = do
  is ← is_there args.snapshot layer args.path
  Gives (reply.Is is)
course kind.Log keys layer args = logging layer args

-- what a call makes of a transaction in its setting, and what it answers, where these are the random words still to come
unfoldable pub effect : DirKind → Layer → DirArgs → Setting → (words : ℕ → ℕ) → Transaction → Reached DirReply
effect kind layer args setting words transaction =
    run setting words (course kind (length (finite.entries (view setting transaction))) layer args) transaction
