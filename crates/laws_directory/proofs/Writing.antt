-- What the steps of a directory layer may write, course by course.
use Rattle.std.proofs.Common.{◌≡◌, ℕ, zero, suc, ◌+◌, Bool, true, false, List, [], ◌∷◌, ◌++◌, length, Option, Some, None, Result, Ok, Err, refl}
use Rattle.std.specs.Prelude.{not, ◌&&◌, ◌==◌, ◌||◌, if◌then◌else◌, unwrap_or, bytes_eq}
use Rattle.std.specs.List.{starts_with}
use Rattle.key_bytes.specs.Successors.{strinc}
use Rattle.key_bytes.specs.Keys.{begins_with}
use Rattle.model_database.specs.Databases.{Mutation, Set}
use Rattle.model_database.specs.KeyByKey.{is_plain}
use Rattle.directory_types.specs.declared.Layer.{Layer}
use Rattle.directory_types.specs.declared.DirArgs.{DirArgs}
use Rattle.directory_types.specs.declared.DirKind.{DirKind}
use Rattle.directory_types.specs.declared.DirKind.TheVariants as kind
use Rattle.directory_types.specs.declared.fault.DirFault.{DirFault}
use Rattle.directory_types.specs.declared.fault.DirFault.TheVariants as fault
use Rattle.model_directory.specs.declared.Directory.{Directory}
use Rattle.model_directory.specs.declared.Lookup.{Lookup}
use Rattle.model_directory.specs.declared.OpenOptions.{OpenOptions}
use Rattle.model_directory.specs.Courses.{Course, Gives, ◌>>=◌, given, does, value_of, pairs_of}
use Rattle.model_directory.specs.Nodes.{node_of, entry_of, layer_key, version_key, version_now, allocator_of, is_partition, packed_number}
use Rattle.model_directory.specs.Steps.{refuse_where, there, version_checked, check, root, below, directory_at, child_of, Found, found_at, find_from, find, inside, admits, Place, or_inside, arrives, front, last_name, children, is_inside, has_inside, is_node_inside, is_in_use, sets_entry, clears_entry}
use Rattle.model_directory.specs.Calls.{judged, to_look, looks, has_keys, free_prefix, new_prefix, given_prefix, prefix_for, takes_prefix, enters, or_else, or_root, makes, opening, to_create, to_create_or_open, to_open, Move, moves_on, moves_in, finds_moved, enters_moved, leaves, moving, clears_one, clears_all, removes_one, removes_found, to_remove, removing, to_see, lists, names_below, is_there, names_where, notes, logging, course}
use Rattle.laws_directory.proofs.Growing.{Only, both_only, AllocatorsMay}
use Rattle.laws_directory.proofs.Planning.{planned}

-- ---- steps that write nothing

pub refuses_none : (may : Mutation → Bool) (spaces : List ℕ → Type 0) (refuses : Bool) (fault : DirFault)
    → Only may spaces (refuse_where refuses fault)
refuses_none may spaces true fault = tt
refuses_none may spaces false fault = tt

pub there_none : {X : Type 0} (may : Mutation → Bool) (spaces : List ℕ → Type 0) (fault : DirFault) (value : Option X)
    → Only may spaces (there fault value)
there_none may spaces fault None = tt
there_none may spaces fault (Some value) = tt

pub given_none : {X : Type 0} (may : Mutation → Bool) (spaces : List ℕ → Type 0) (result : Result X DirFault)
    → Only may spaces (given result)
given_none may spaces (Ok value) = tt
given_none may spaces (Err fault) = tt

value_none : (may : Mutation → Bool) (spaces : List ℕ → Type 0) (snapshot : Bool) (key : List ℕ) → Only may spaces (value_of snapshot key)
unfolding value_of
value_none may spaces snapshot key = λ given. tt

pub pairs_none : (may : Mutation → Bool) (spaces : List ℕ → Type 0) (snapshot : Bool) (begin end : List ℕ) (limit : ℕ) (backward : Bool)
    → Only may spaces (pairs_of snapshot begin end limit backward)
unfolding pairs_of
pairs_none may spaces snapshot begin end limit backward = λ given. tt

below_none : {X Y : Type 0} (may : Mutation → Bool) (spaces : List ℕ → Type 0) (value : Option X) (next : X → Course (Option Y))
    → ((value : X) → Only may spaces (next value)) → Only may spaces (below value next)
below_none may spaces None next each = tt
below_none may spaces (Some value) next each = each value

pub directory_at_none : (may : Mutation → Bool) (spaces : List ℕ → Type 0) (snapshot : Bool) (layer : Layer) (prefix : List ℕ)
    → Only may spaces (directory_at snapshot layer prefix)
unfolding directory_at
directory_at_none may spaces snapshot layer prefix =
    both_only may spaces (value_of snapshot (layer_key (node_of layer prefix))) _ (value_none may spaces snapshot _)
    (λ value. tt)

pub child_of_none : (may : Mutation → Bool) (spaces : List ℕ → Type 0) (snapshot : Bool) (layer : Layer) (found : Directory) (name : List ℕ)
    → Only may spaces (child_of snapshot layer found name)
unfolding child_of
child_of_none may spaces snapshot layer found name =
    both_only may spaces (value_of snapshot (entry_of (node_of layer found.prefix) name)) _ (value_none may spaces snapshot _)
    (λ entry. below_none may spaces entry (directory_at snapshot layer) (directory_at_none may spaces snapshot layer))

pub find_from_none : (may : Mutation → Bool) (spaces : List ℕ → Type 0) (snapshot : Bool) (layer : Layer) (found : Directory)
    (names : List (List ℕ))
    → Only may spaces (find_from snapshot layer found names)
unfolding find_from
find_from_none may spaces snapshot layer found [] = tt
find_from_none may spaces snapshot layer found (name ∷ names) =
    by (is_partition found.layer) (λ next. find_from_none may spaces snapshot layer next names)
  where
    by : (stops : Bool) → ((next : Directory) → Only may spaces (find_from snapshot layer next names))
        → Only may spaces (if stops then Gives (Some (found_at found (name ∷ names)))
        else child_of snapshot layer found name >>= (λ child. below child (λ next. find_from snapshot layer next names)))
    by true more = tt
    by false more =
        both_only may spaces (child_of snapshot layer found name) _ (child_of_none may spaces snapshot layer found name)
        (λ child. below_none may spaces child (λ next. find_from snapshot layer next names) more)

pub find_none : (may : Mutation → Bool) (spaces : List ℕ → Type 0) (snapshot : Bool) (layer : Layer) (path : List (List ℕ))
    → Only may spaces (find snapshot layer path)
unfolding find
find_none may spaces snapshot layer path = find_from_none may spaces snapshot layer (root layer) path

pub children_none : (may : Mutation → Bool) (spaces : List ℕ → Type 0) (snapshot : Bool) (layer : Layer) (prefix : List ℕ)
    → Only may spaces (children snapshot layer prefix)
unfolding children
children_none may spaces snapshot layer prefix =
    both_only may spaces (pairs_of snapshot _ _ 0 false) _ (pairs_none may spaces snapshot _ _ 0 false) (λ entries. given_none may spaces _)

has_inside_none : (may : Mutation → Bool) (spaces : List ℕ → Type 0) (snapshot : Bool) (layer : Layer) (prefix : List ℕ)
    → Only may spaces (has_inside snapshot layer prefix)
unfolding has_inside
has_inside_none may spaces snapshot layer prefix =
    both_only may spaces (there _ (strinc prefix)) _ (there_none may spaces _ (strinc prefix))
    (λ next. both_only may spaces (pairs_of snapshot _ _ 1 false) _ (pairs_none may spaces snapshot _ _ 1 false) (λ entries. tt))

node_inside_none : (may : Mutation → Bool) (spaces : List ℕ → Type 0) (snapshot : Bool) (layer : Layer) (prefix : List ℕ)
    → Only may spaces (is_node_inside snapshot layer prefix)
unfolding is_node_inside
node_inside_none may spaces snapshot layer prefix =
    both_only may spaces (pairs_of snapshot _ _ 1 true) _ (pairs_none may spaces snapshot _ _ 1 true)
    (λ entries. both_only may spaces (given (is_inside layer prefix entries)) _ (given_none may spaces (is_inside layer prefix entries)) by)
  where
    by : (inside : Bool) → Only may spaces (if inside then Gives true else has_inside snapshot layer prefix)
    by true = tt
    by false = has_inside_none may spaces snapshot layer prefix

pub in_use_none : (may : Mutation → Bool) (spaces : List ℕ → Type 0) (snapshot : Bool) (layer : Layer) (prefix : List ℕ)
    → Only may spaces (is_in_use snapshot layer prefix)
unfolding is_in_use
in_use_none may spaces snapshot layer prefix = by (length prefix == 0 || begins_with prefix layer.node)
  where
    by : (known : Bool) → Only may spaces (if known then Gives true else is_node_inside snapshot layer prefix)
    by true = tt
    by false = node_inside_none may spaces snapshot layer prefix

-- ---- the version

version_only : (may : Mutation → Bool) (spaces : List ℕ → Type 0) (layer : Layer) (writes : Bool) (value : Option (List ℕ))
    → may (Set (version_key layer) version_now) ≡ true → Only may spaces (version_checked layer writes value)
unfolding version_checked does
version_only may spaces layer true None allowed = (allowed, tt)
version_only may spaces layer false None allowed = tt
version_only may spaces layer true (Some value) allowed = given_none may spaces _
version_only may spaces layer false (Some value) allowed = given_none may spaces _

pub check_only : (may : Mutation → Bool) (spaces : List ℕ → Type 0) (writes snapshot : Bool) (layer : Layer)
    → may (Set (version_key layer) version_now) ≡ true → Only may spaces (check writes snapshot layer)
unfolding check
check_only may spaces writes snapshot layer allowed =
    both_only may spaces (value_of snapshot (version_key layer)) _ (value_none may spaces snapshot _)
    (λ value. version_only may spaces layer writes value allowed)

-- where nothing is to be written, nothing is
read_version_none : (may : Mutation → Bool) (spaces : List ℕ → Type 0) (layer : Layer) (value : Option (List ℕ))
    → Only may spaces (version_checked layer false value)
unfolding version_checked
read_version_none may spaces layer None = tt
read_version_none may spaces layer (Some value) = given_none may spaces _

pub check_none : (may : Mutation → Bool) (spaces : List ℕ → Type 0) (snapshot : Bool) (layer : Layer)
    → Only may spaces (check false snapshot layer)
unfolding check
check_none may spaces snapshot layer =
    both_only may spaces (value_of snapshot (version_key layer)) _ (value_none may spaces snapshot _)
    (λ value. read_version_none may spaces layer value)

-- ---- the prefix of a new directory

-- what is checked before a path is looked for, where the check of the version may be made
admits_only : (may : Mutation → Bool) (spaces : List ℕ → Type 0) (lookup : Lookup) (layer : Layer) (path : List (List ℕ))
    → Only may spaces (check lookup.writes lookup.snapshot layer) → Only may spaces (admits lookup layer path)
unfolding admits
admits_only may spaces lookup layer path checked =
    both_only may spaces (check lookup.writes lookup.snapshot layer) _ checked
    (λ checked. both_only may spaces (refuse_where (lookup.has_prefix && not layer.manual) fault.ManualNotAllowed) _
    (refuses_none may spaces (lookup.has_prefix && not layer.manual) fault.ManualNotAllowed)
    (λ allowed. refuses_none may spaces (not lookup.may_be_root && length path == 0) fault.EmptyPath))

inside_only : (may : Mutation → Bool) (spaces : List ℕ → Type 0) (layer : Layer) (path : List (List ℕ)) (found : Option Found)
    (again : Layer → List (List ℕ) → Course Place) → ((layer : Layer) (path : List (List ℕ)) → Only may spaces (again layer path))
    → Only may spaces (or_inside layer path found again)
inside_only may spaces layer path None again each = tt
inside_only may spaces layer path (Some found) again each = by found.rest
  where
    by : (rest : List (List ℕ)) → Only may spaces (or_inside layer path (Some (found_at found.directory rest)) again)
    by [] = tt
    by (name ∷ names) = each (inside found.directory.prefix) (name ∷ names)

-- up to where a path ends, where the check of the version may be made in each layer
arrives_only : (may : Mutation → Bool) (spaces : List ℕ → Type 0) (bound : ℕ) (lookup : Lookup) (layer : Layer) (path : List (List ℕ))
    → ((layer : Layer) → Only may spaces (check lookup.writes lookup.snapshot layer)) → Only may spaces (arrives bound lookup layer path)
unfolding arrives
arrives_only may spaces zero lookup layer path checked = tt
arrives_only may spaces (suc bound) lookup layer path checked =
    both_only may spaces (admits lookup layer path) _ (admits_only may spaces lookup layer path (checked layer))
    (λ may_be. both_only may spaces (find lookup.snapshot layer path) _ (find_none may spaces lookup.snapshot layer path)
    (λ found. inside_only may spaces layer path found (λ layer names. arrives bound lookup layer names)
    (λ layer path. arrives_only may spaces bound lookup layer path checked)))

pub looks_none : (may : Mutation → Bool) (spaces : List ℕ → Type 0) (options : OpenOptions) (layer : Layer) (path : List (List ℕ))
    (layer_name prefix : Option (List ℕ)) → Only may spaces (looks options layer path layer_name prefix)
unfolding looks
looks_none may spaces options layer path layer_name prefix =
    both_only may spaces (arrives (length path + 1) (to_look options prefix) layer path) _
    (arrives_only may spaces (length path + 1) (to_look options prefix) layer path (λ layer. check_none may spaces options.snapshot layer))
    (λ at. both_only may spaces (given (judged options layer_name at.found)) _ (given_none may spaces (judged options layer_name at.found))
    (λ found. tt))

pub has_keys_none : (may : Mutation → Bool) (spaces : List ℕ → Type 0) (prefix : List ℕ) → Only may spaces (has_keys prefix)
unfolding has_keys
has_keys_none may spaces prefix =
    both_only may spaces (there _ (strinc prefix)) _ (there_none may spaces _ (strinc prefix))
    (λ end. both_only may spaces (pairs_of false _ _ 1 false) _ (pairs_none may spaces false _ _ 1 false) (λ keys. tt))

pub free_prefix_none : (may : Mutation → Bool) (spaces : List ℕ → Type 0) (layer : Layer) (prefix : List ℕ)
    → Only may spaces (free_prefix layer prefix)
unfolding free_prefix
free_prefix_none may spaces layer prefix =
    both_only may spaces (has_keys prefix) _ (has_keys_none may spaces prefix)
    (λ keys. both_only may spaces (refuse_where keys fault.KeysAtPrefix) _ (refuses_none may spaces keys fault.KeysAtPrefix)
    (λ empty. both_only may spaces (is_in_use true layer prefix) _ (in_use_none may spaces true layer prefix)
    (λ used. both_only may spaces (refuse_where used fault.PrefixInUse) _ (refuses_none may spaces used fault.PrefixInUse) (λ free. tt))))

prefix_only : (may : Mutation → Bool) (spaces : List ℕ → Type 0) (layer : Layer) (prefix : Option (List ℕ)) → spaces (allocator_of layer)
    → Only may spaces (prefix_for layer prefix)
unfolding new_prefix given_prefix
prefix_only may spaces layer None allowed = (allowed, λ number. free_prefix_none may spaces layer _)
prefix_only may spaces layer (Some prefix) allowed =
    both_only may spaces (is_in_use false layer prefix) _ (in_use_none may spaces false layer prefix)
    (λ used. both_only may spaces (refuse_where used fault.PrefixInUse) _ (refuses_none may spaces used fault.PrefixInUse) (λ free. tt))

pub takes_only : (may : Mutation → Bool) (spaces : List ℕ → Type 0) (layer : Layer) (prefix : Option (List ℕ))
    → may (Set (version_key layer) version_now) ≡ true → spaces (allocator_of layer)
    → Only may spaces (takes_prefix layer prefix)
unfolding takes_prefix
takes_only may spaces layer prefix version allocator =
    both_only may spaces (check true false layer) _ (check_only may spaces true false layer version)
    (λ written. prefix_only may spaces layer prefix allocator)

-- ---- no call writes a versionstamp

abbrev pub IsPlain : {X : Type 0} → Course X → Type 0
IsPlain course = Only is_plain (AllocatorsMay is_plain) course

pub allocators_plain : (space : List ℕ) → AllocatorsMay is_plain space
allocators_plain space = planned is_plain space (record {
  counted = λ start. refl;
  counters_cleared = λ start. refl;
  numbers_cleared = λ start. refl;
  tried = λ number. refl;
})

enters_plain : (layer : Layer) (parent : Directory) (name prefix layer_name : List ℕ) → IsPlain (enters layer parent name prefix layer_name)
unfolding enters sets_entry does
enters_plain layer parent name prefix layer_name = (refl, (refl, tt))

or_plain : (found : Option Directory) (others : Course Directory) → IsPlain others → IsPlain (or_else found others)
or_plain (Some found) others plain = tt
or_plain None others plain = plain

pub root_plain : (layer : Layer) (path : List (List ℕ)) (others : Course Directory) → IsPlain others → IsPlain (or_root layer path others)
root_plain layer [] others plain = tt
root_plain layer (name ∷ names) others plain = plain

pub makes_plain : (bound : ℕ) (options : OpenOptions) (layer : Layer) (path : List (List ℕ)) (layer_name prefix : Option (List ℕ))
    → IsPlain (makes bound options layer path layer_name prefix)
unfolding makes
makes_plain zero options layer path layer_name prefix = tt
makes_plain (suc bound) options layer path layer_name prefix =
    both_only is_plain (AllocatorsMay is_plain) (looks options layer path layer_name prefix) _
    (looks_none is_plain (AllocatorsMay is_plain) options layer path layer_name prefix)
    (λ at. or_plain at.found _ (both_only is_plain (AllocatorsMay is_plain) (takes_prefix at.layer prefix) _
    (takes_only is_plain (AllocatorsMay is_plain) at.layer prefix refl (allocators_plain (allocator_of at.layer)))
    (λ own. both_only is_plain (AllocatorsMay is_plain)
    (or_root at.layer (front at.path) (makes bound to_create_or_open at.layer (front at.path) None None)) _
    (root_plain at.layer (front at.path) (makes bound to_create_or_open at.layer (front at.path) None None)
    (makes_plain bound to_create_or_open at.layer (front at.path) None None))
    (λ parent. enters_plain at.layer parent (last_name at.path) own (unwrap_or layer_name [])))))

then_plain : {X Y : Type 0} (course : Course X) (next : X → Course Y) → IsPlain course → ((value : X) → IsPlain (next value))
    → IsPlain (course >>= next)
then_plain course next first second = both_only is_plain (AllocatorsMay is_plain) course next first second

check_plain : (writes snapshot : Bool) (layer : Layer) → IsPlain (check writes snapshot layer)
check_plain writes snapshot layer = check_only is_plain (AllocatorsMay is_plain) writes snapshot layer refl

find_plain : (snapshot : Bool) (layer : Layer) (path : List (List ℕ)) → IsPlain (find snapshot layer path)
find_plain snapshot layer path = find_none is_plain (AllocatorsMay is_plain) snapshot layer path

arrives_plain : (bound : ℕ) (lookup : Lookup) (layer : Layer) (path : List (List ℕ)) → IsPlain (arrives bound lookup layer path)
arrives_plain bound lookup layer path =
    arrives_only is_plain (AllocatorsMay is_plain) bound lookup layer path (check_plain lookup.writes lookup.snapshot)

refuses_plain : (refuses : Bool) (fault : DirFault) → IsPlain (refuse_where refuses fault)
refuses_plain refuses fault = refuses_none is_plain (AllocatorsMay is_plain) refuses fault

there_plain : {X : Type 0} (fault : DirFault) (value : Option X) → IsPlain (there fault value)
there_plain fault value = there_none is_plain (AllocatorsMay is_plain) fault value

children_plain : (snapshot : Bool) (layer : Layer) (prefix : List ℕ) → IsPlain (children snapshot layer prefix)
children_plain snapshot layer prefix = children_none is_plain (AllocatorsMay is_plain) snapshot layer prefix

opening_plain : (options : OpenOptions) (layer : Layer) (args : DirArgs) → IsPlain (opening options layer args)
unfolding opening
opening_plain options layer args =
    then_plain (makes (length args.path + 1) options layer args.path args.layer args.prefix) _
    (makes_plain (length args.path + 1) options layer args.path args.layer args.prefix) (λ found. tt)

-- ---- move_to

moves_in_plain : (layer : Layer) (path new_path : List (List ℕ)) (old : Found) (further : Option (List (List ℕ)))
    (again : Layer → (path new_path : List (List ℕ)) → Course Move)
    → ((layer : Layer) (path new_path : List (List ℕ)) → IsPlain (again layer path new_path))
    → IsPlain (moves_in layer path new_path old further again)
moves_in_plain layer path new_path old None again each = tt
moves_in_plain layer path new_path old (Some names) again each = each (inside old.directory.prefix) old.rest names

finds_moved_plain : (bound : ℕ) (layer : Layer) (path new_path : List (List ℕ)) → IsPlain (finds_moved bound layer path new_path)
unfolding finds_moved
finds_moved_plain zero layer path new_path = tt
finds_moved_plain (suc bound) layer path new_path =
    then_plain (check true false layer) _ (check_plain true false layer)
    (λ written. then_plain (refuse_where (starts_with bytes_eq new_path path) fault.IntoItself) _
    (refuses_plain (starts_with bytes_eq new_path path) fault.IntoItself)
    (λ apart. then_plain (find false layer path) _ (find_plain false layer path)
    (λ old. then_plain (find false layer new_path) _ (find_plain false layer new_path)
    (λ new. then_plain (there fault.Missing old) _ (there_plain fault.Missing old)
    (λ found. then_plain (given (moves_on found new)) _ (given_none is_plain (AllocatorsMay is_plain) (moves_on found new))
    (λ further. moves_in_plain layer path new_path found further (λ layer path new_path. finds_moved bound layer path new_path)
    (λ layer path new_path. finds_moved_plain bound layer path new_path)))))))

enters_moved_plain : (layer : Layer) (above : List (List ℕ)) (name : List ℕ) (moved : Directory)
    → IsPlain (enters_moved layer above name moved)
unfolding enters_moved sets_entry does
enters_moved_plain layer above name moved =
    then_plain (find false layer above) _ (find_plain false layer above)
    (λ found. then_plain (there fault.ParentMissing found) _ (there_plain fault.ParentMissing found) (λ parent. (refl, tt)))

clears_entry_plain : (layer : Layer) (parent : Option Found) (name : List ℕ) → IsPlain (clears_entry layer parent name)
unfolding clears_entry does
clears_entry_plain layer None name = tt
clears_entry_plain layer (Some parent) name = (refl, tt)

leaves_plain : (layer : Layer) (above : List (List ℕ)) (name : List ℕ) → IsPlain (leaves layer above name)
unfolding leaves
leaves_plain layer above name =
    then_plain (find false layer above) _ (find_plain false layer above) (λ parent. clears_entry_plain layer parent name)

moving_plain : (layer : Layer) (path new_path : List (List ℕ)) → IsPlain (moving layer path new_path)
unfolding moving
moving_plain layer path new_path =
    then_plain (finds_moved (length path + 1) layer path new_path) _ (finds_moved_plain (length path + 1) layer path new_path)
    (λ at. then_plain (enters_moved at.layer (front at.new_path) (last_name at.new_path) at.moved) _
    (enters_moved_plain at.layer (front at.new_path) (last_name at.new_path) at.moved)
    (λ entry. then_plain (leaves at.layer (front at.path) (last_name at.path)) _ (leaves_plain at.layer (front at.path) (last_name at.path))
    (λ cleared. tt)))

-- ---- remove

clears_one_plain : (layer : Layer) (prefix : List ℕ) → IsPlain (clears_one layer prefix)
unfolding clears_one does
clears_one_plain layer prefix =
    then_plain (children false layer prefix) _ (children_plain false layer prefix)
    (λ found. then_plain (there fault.NoSuccessor (strinc prefix)) _ (there_plain fault.NoSuccessor (strinc prefix))
    (λ end. (refl, (refl, tt))))

clears_all_plain : (bound : ℕ) (layer : Layer) (prefixes : List (List ℕ)) → IsPlain (clears_all bound layer prefixes)
unfolding clears_all
clears_all_plain zero layer [] = tt
clears_all_plain (suc bound) layer [] = tt
clears_all_plain zero layer (prefix ∷ prefixes) = tt
clears_all_plain (suc bound) layer (prefix ∷ prefixes) =
    then_plain (clears_one layer prefix) _ (clears_one_plain layer prefix) (λ found. clears_all_plain bound layer _)

removes_one_plain : (bound : ℕ) (layer : Layer) (above : List (List ℕ)) (name : List ℕ) (found : Directory)
    → IsPlain (removes_one bound layer above name found)
unfolding removes_one
removes_one_plain bound layer above name found =
    then_plain (clears_all bound layer (found.prefix ∷ [])) _ (clears_all_plain bound layer (found.prefix ∷ []))
    (λ cleared. then_plain (leaves layer above name) _ (leaves_plain layer above name) (λ entry. tt))

removes_found_plain : (bound : ℕ) (must_exist : Bool) (layer : Layer) (path : List (List ℕ)) (found : Option Directory)
    → IsPlain (removes_found bound must_exist layer path found)
removes_found_plain bound true layer path None = tt
removes_found_plain bound false layer path None = tt
removes_found_plain bound true layer path (Some found) = removes_one_plain bound layer (front path) (last_name path) found
removes_found_plain bound false layer path (Some found) = removes_one_plain bound layer (front path) (last_name path) found

removing_plain : (bound : ℕ) (must_exist : Bool) (layer : Layer) (path : List (List ℕ)) → IsPlain (removing bound must_exist layer path)
unfolding removing
removing_plain bound must_exist layer path =
    then_plain (arrives (length path + 1) to_remove layer path) _ (arrives_plain (length path + 1) to_remove layer path)
    (λ at. removes_found_plain bound must_exist at.layer at.path at.found)

-- ---- list, exists, log

lists_plain : (snapshot : Bool) (layer : Layer) (found : Directory) → IsPlain (lists snapshot layer found)
unfolding lists
lists_plain snapshot layer found = by (is_partition found.layer)
  where
    by : (is : Bool)
        → IsPlain (if is then check false snapshot (inside found.prefix) >>= (λ read. children snapshot (inside found.prefix) (inside found.prefix).node)
        else children snapshot layer found.prefix)
    by true =
        then_plain (check false snapshot (inside found.prefix)) _ (check_plain false snapshot (inside found.prefix))
        (λ read. children_plain snapshot (inside found.prefix) (inside found.prefix).node)
    by false = children_plain snapshot layer found.prefix

names_plain : (snapshot : Bool) (layer : Layer) (path : List (List ℕ)) → IsPlain (names_below snapshot layer path)
unfolding names_below
names_plain snapshot layer path =
    then_plain (arrives (length path + 1) (to_see snapshot) layer path) _ (arrives_plain (length path + 1) (to_see snapshot) layer path)
    (λ at. then_plain (there fault.Missing at.found) _ (there_plain fault.Missing at.found)
    (λ one. then_plain (lists snapshot at.layer one) _ (lists_plain snapshot at.layer one) (λ below. tt)))

is_there_plain : (snapshot : Bool) (layer : Layer) (path : List (List ℕ)) → IsPlain (is_there snapshot layer path)
unfolding is_there
is_there_plain snapshot layer path =
    then_plain (arrives (length path + 1) (to_see snapshot) layer path) _ (arrives_plain (length path + 1) (to_see snapshot) layer path)
    (λ at. tt)

names_where_plain : (is : Bool) (layer : Layer) (path : List (List ℕ)) → IsPlain (names_where is layer path)
names_where_plain true layer path = names_plain false layer path
names_where_plain false layer path = tt

notes_plain : (log : List ℕ) (path : List (List ℕ)) (layer_name : List ℕ) (is : Bool) (names : List (List ℕ))
    → IsPlain (notes log path layer_name is names)
unfolding notes does
notes_plain log path layer_name is names = (refl, (refl, (refl, (refl, tt))))

logging_plain : (layer : Layer) (args : DirArgs) → IsPlain (logging layer args)
unfolding logging
logging_plain layer args =
    then_plain (is_there false layer args.path) _ (is_there_plain false layer args.path)
    (λ is. then_plain (names_where is layer args.path) _ (names_where_plain is layer args.path)
    (λ names. then_plain (notes (args.raw ++ packed_number args.index) args.path (unwrap_or args.layer []) is names) _
    (notes_plain (args.raw ++ packed_number args.index) args.path (unwrap_or args.layer []) is names) (λ noted. tt)))

-- whatever call it is
pub course_plain : (kind : DirKind) (keys : ℕ) (layer : Layer) (args : DirArgs) → IsPlain (course kind keys layer args)
course_plain kind.Create keys layer args = opening_plain to_create layer args
course_plain kind.CreateOrOpen keys layer args = opening_plain to_create_or_open layer args
course_plain kind.Open keys layer args = opening_plain (to_open args.snapshot) layer args
course_plain kind.MoveTo keys layer args = moving_plain layer args.path args.new_path
course_plain kind.Remove keys layer args = removing_plain (keys + length args.path + 2) true layer args.path
course_plain kind.RemoveIfExists keys layer args = removing_plain (keys + length args.path + 2) false layer args.path
course_plain kind.List keys layer args =
    then_plain (names_below args.snapshot layer args.path) _ (names_plain args.snapshot layer args.path) (λ names. tt)
course_plain kind.Exists keys layer args =
    then_plain (is_there args.snapshot layer args.path) _ (is_there_plain args.snapshot layer args.path) (λ is. tt)
course_plain kind.Log keys layer args = logging_plain layer args
