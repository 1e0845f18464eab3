-- Small cases of the calls, computed: each course is made on a list of pairs, and the nth call of the allocator on a subspace grants n, as
-- it does where all random words are 0.
use Rattle.std.proofs.Common.{◌≡◌, ℕ, zero, suc, ◌+◌, Bool, true, false, cond, List, [], ◌∷◌, ◌++◌, Option, Some, None, Result, Ok, Err, refl}
use Rattle.std.specs.Prelude.{nat_lt, nat_le, ◌&&◌, ◌||◌, ◌==◌, not, if◌then◌else◌, bytes_eq, codes, length, reverse, take, unwrap_or}
use Rattle.std.specs.List.{starts_with}
use Rattle.model_database.specs.Atomics.{little_bytes}
use Rattle.model_database.specs.Databases.{Mutation, Set, Clear, ClearRange, Atomic}
use Rattle.model_database.specs.Reads.{Read, Get, GetKey, GetRange, GetKeyRange, Answer, ValueIs, PairsAre}
use Rattle.key_bytes.specs.Numbers.{number_low}
use Rattle.key_bytes.specs.Successors.{strinc}
use Rattle.fdb_tuple.specs.Spelling.{spelling, signed_spelled, least_bytes, low_first}
use Rattle.fdb_tuple.specs.Reading.{read_tuple, elements_at, piece_at, coded_at, bytes_at, string_at, text_at}
use Rattle.std.specs.Str.{is_utf8, chars}
use lib.Utf8.{encode}
use Rattle.fdb_tuple.specs.Kinds.{kind_of}
use Rattle.directory_types.specs.declared.Layer.{Layer}
use Rattle.directory_types.specs.declared.DirReply.{DirReply}
use Rattle.directory_types.specs.declared.DirReply.TheVariants as reply
use Rattle.directory_types.specs.declared.fault.DirFault.{DirFault}
use Rattle.directory_types.specs.declared.fault.DirFault.TheVariants as fault
use Rattle.directory_types.specs.declared.DirArgs.{DirArgs}
use Rattle.directory_types.specs.declared.DirKind.{DirKind}
use Rattle.directory_types.specs.declared.DirKind.TheVariants as kind
use Rattle.model_directory.specs.Courses.{Course, Gives, Refuses, Asks, Does, Allocates, value_of, pairs_of, does}
use Rattle.model_directory.specs.Steps.{version_read, version_checked, check, directory_at, child_of, find_from, find, admits, arrives, child_in, children_in, children, is_inside, has_inside, is_node_inside, is_in_use, sets_entry, clears_entry}
use Rattle.model_directory.specs.Calls.{course, found_opened, looks, has_keys, free_prefix, new_prefix, given_prefix, takes_prefix, enters, makes, opening, finds_moved, enters_moved, leaves, moving, clears_one, clears_all, removes_one, removing, lists, names_below, is_there, notes, logging}

abbrev Pairs : Type 0
Pairs = List (List ℕ × List ℕ)

abbrev is_below : (key other : List ℕ) → Bool
is_below key [] = false
is_below [] (byte ∷ bytes) = true
is_below (one ∷ key) (byte ∷ bytes) = nat_lt one byte || ((one == byte) && is_below key bytes)

abbrev value_at : Pairs → (key : List ℕ) → Option (List ℕ)
value_at [] key = None
value_at ((other, value) ∷ pairs) key = if bytes_eq other key then Some value else value_at pairs key

abbrev is_in : (begin end key : List ℕ) → Bool
is_in begin end key = not (is_below key begin) && is_below key end

abbrev between : Pairs → (begin end : List ℕ) → Pairs
between [] begin end = []
between ((key, value) ∷ pairs) begin end = if is_in begin end key then (key, value) ∷ between pairs begin end else between pairs begin end

abbrev outside : Pairs → (begin end : List ℕ) → Pairs
outside [] begin end = []
outside ((key, value) ∷ pairs) begin end = if is_in begin end key then outside pairs begin end else (key, value) ∷ outside pairs begin end

abbrev with_pair : Pairs → (key value : List ℕ) → Pairs
with_pair [] key value = (key, value) ∷ []
with_pair ((other, old) ∷ pairs) key value =
    if bytes_eq other key then (key, value) ∷ pairs
    else if is_below key other then (key, value) ∷ (other, old) ∷ pairs
    else (other, old) ∷ with_pair pairs key value

abbrev limited : (limit : ℕ) → (backward : Bool) → Pairs → Pairs
limited zero backward pairs = pairs
limited (suc limit) false pairs = take (suc limit) pairs
limited (suc limit) true pairs = take (suc limit) (reverse pairs)

abbrev answered : Pairs → Read → Answer
answered pairs (Get key) = ValueIs (value_at pairs key)
answered pairs (GetKeyRange begin end limit backward) = PairsAre (limited limit backward (between pairs begin end))
answered pairs _ = ValueIs None

abbrev changed : Pairs → Mutation → Pairs
changed pairs (Set key value) = with_pair pairs key value
changed pairs (Clear key) = outside pairs key (key ++ 0 ∷ [])
changed pairs (ClearRange begin end) = outside pairs begin end
changed pairs (Atomic op key operand) = pairs

-- how often a subspace stands there
abbrev times : List (List ℕ) → (space : List ℕ) → ℕ
times [] space = 0
times (other ∷ others) space = if bytes_eq other space then suc (times others space) else times others space

-- the pairs that stand there, and the subspaces on which the allocator granted
abbrev State : Type 0
State = Pairs × List (List ℕ)

abbrev played : {X : Type 0} → Course X → State → State × Result X DirFault
played (Gives value) state = (state, Ok value)
played (Refuses fault) state = (state, Err fault)
played (Asks read snapshot next) state = played (next (answered state.0 read)) state
played (Does mutation next) state = played next (changed state.0 mutation, state.1)
played (Allocates space next) state = played (next (times state.1 space)) (state.0, space ∷ state.1)

abbrev layer : Layer
layer = record { node = 254 ∷ []; content = []; manual = false }

abbrev args : (path new_path : List (List ℕ)) → Option (List ℕ) → DirArgs
args path new_path layer_name =
    record { path = path; new_path = new_path; layer = layer_name; prefix = None; snapshot = false; raw = []; index = 0 }

abbrev call : DirKind → DirArgs → State → State × Result DirReply DirFault
call kind args state = played (course kind 20 layer args) state

abbrev a : List ℕ
a = 97 ∷ []

abbrev b : List ℕ
b = 98 ∷ []

abbrev c : List ℕ
c = 99 ∷ []

abbrev d : List ℕ
d = 100 ∷ []

abbrev e : List ℕ
e = 101 ∷ []

-- the state behind these calls
abbrev calls : State → List (DirKind × DirArgs) → State
calls state [] = state
calls state (next ∷ others) = calls (call next.0 next.1 state).0 others

abbrev to_make : (path : List (List ℕ)) → (layer_name : Option (List ℕ)) → DirKind × DirArgs
to_make path layer_name = (kind.Create, args path [] layer_name)

abbrev partition : List ℕ
partition = codes "partition"

abbrev empty : State
empty = ([], [])

abbrev with_three : State
with_three = calls empty (to_make (a ∷ []) (Some partition) ∷ to_make (a ∷ b ∷ []) None ∷ to_make (c ∷ []) None ∷ [])

abbrev end_of : DirKind × DirArgs → State → Result DirReply DirFault
end_of made state = (call made.0 made.1 state).1

abbrev end : DirKind → (path new_path : List (List ℕ)) → State → Result DirReply DirFault
end kind path new_path state = end_of (kind, args path new_path None) state

-- a partition, a directory in it with a prefix behind its own, and one beside it
made_as_said : (end_of (to_make (a ∷ []) (Some partition)) empty
    ∷ end kind.Create (a ∷ b ∷ []) [] (calls empty (to_make (a ∷ []) (Some partition) ∷ []))
    ∷ end kind.Create (c ∷ []) [] (calls empty (to_make (a ∷ []) (Some partition) ∷ to_make (a ∷ b ∷ []) None ∷ [])) ∷ [])
    ≡ (Ok (reply.Opened (20 ∷ []) (a ∷ []) partition)
    ∷ Ok (reply.Opened (20 ∷ 20 ∷ []) (a ∷ b ∷ []) [])
    ∷ Ok (reply.Opened (21 ∷ 1 ∷ []) (c ∷ []) []) ∷ [])
unfolding opening makes looks arrives admits check version_checked version_read value_of pairs_of does find find_from child_of directory_at takes_prefix new_prefix given_prefix free_prefix has_keys is_in_use is_node_inside is_inside has_inside enters sets_entry clears_entry found_opened moving finds_moved enters_moved leaves removing removes_one clears_all clears_one lists names_below is_there children children_in child_in read_tuple elements_at piece_at coded_at kind_of bytes_at string_at text_at is_utf8 chars encode signed_spelled least_bytes low_first little_bytes number_low
made_as_said = refl

-- a partition in a partition, the parents that are made inside, and a prefix that is not taken there, whatever the outer layer takes
made_deeper : (end kind.CreateOrOpen (a ∷ b ∷ c ∷ d ∷ []) [] (calls empty (to_make (a ∷ []) (Some partition) ∷ to_make (a ∷ b ∷ []) (Some partition) ∷ []))
    ∷ (played (course kind.Create 20 (record layer { manual = true }) (record (args (a ∷ d ∷ []) [] None) { prefix = Some (100 ∷ []) })) with_three).1 ∷ [])
    ≡ (Ok (reply.Opened (20 ∷ 20 ∷ 20 ∷ []) (a ∷ b ∷ c ∷ d ∷ []) []) ∷ Err fault.ManualNotAllowed ∷ [])
unfolding opening makes looks arrives admits check version_checked version_read value_of pairs_of does find find_from child_of directory_at takes_prefix new_prefix given_prefix free_prefix has_keys is_in_use is_node_inside is_inside has_inside enters sets_entry clears_entry found_opened moving finds_moved enters_moved leaves removing removes_one clears_all clears_one lists names_below is_there children children_in child_in read_tuple elements_at piece_at coded_at kind_of bytes_at string_at text_at is_utf8 chars encode signed_spelled least_bytes low_first little_bytes number_low
made_deeper = refl

-- A list of a partition goes into it. A move stays in one partition: what is missing is told before what lies across, and that before
-- what exists; a partition itself may be moved, but not into another one.
listed_and_moved : (end kind.List (a ∷ []) [] with_three ∷ end kind.List [] [] with_three
    ∷ end kind.MoveTo (a ∷ b ∷ []) (d ∷ []) with_three ∷ end kind.MoveTo (a ∷ b ∷ []) (a ∷ e ∷ []) with_three
    ∷ end kind.MoveTo (d ∷ []) (a ∷ c ∷ []) with_three ∷ end kind.MoveTo (a ∷ b ∷ []) (c ∷ []) with_three
    ∷ end kind.MoveTo (a ∷ []) (c ∷ a ∷ []) with_three ∷ end kind.MoveTo (c ∷ []) (a ∷ c ∷ []) with_three
    ∷ end kind.MoveTo (a ∷ b ∷ []) (a ∷ b ∷ c ∷ []) with_three ∷ end kind.MoveTo (a ∷ b ∷ []) (a ∷ []) with_three ∷ [])
    ≡ (Ok (reply.Names (b ∷ [])) ∷ Ok (reply.Names (a ∷ c ∷ []))
    ∷ Err fault.AcrossPartitions ∷ Ok (reply.Opened (20 ∷ 20 ∷ []) (a ∷ e ∷ []) [])
    ∷ Err fault.Missing ∷ Err fault.AcrossPartitions
    ∷ Ok (reply.Opened (20 ∷ []) (c ∷ a ∷ []) partition) ∷ Err fault.AcrossPartitions
    ∷ Err fault.IntoItself ∷ Err fault.AcrossPartitions ∷ [])
unfolding opening makes looks arrives admits check version_checked version_read value_of pairs_of does find find_from child_of directory_at takes_prefix new_prefix given_prefix free_prefix has_keys is_in_use is_node_inside is_inside has_inside enters sets_entry clears_entry found_opened moving finds_moved enters_moved leaves removing removes_one clears_all clears_one lists names_below is_there children children_in child_in read_tuple elements_at piece_at coded_at kind_of bytes_at string_at text_at is_utf8 chars encode signed_spelled least_bytes low_first little_bytes number_low
listed_and_moved = refl

abbrev moved : State
moved = (call kind.MoveTo (args (a ∷ b ∷ []) (a ∷ e ∷ []) None) with_three).0

abbrev removed : State
removed = (call kind.Remove (args (a ∷ []) [] None) moved).0

-- with a partition all that lies in it is removed, and no key is left with its prefix
removed_whole : ((end kind.Exists (a ∷ e ∷ []) [] moved ∷ end kind.Exists (a ∷ b ∷ []) [] moved ∷ end kind.Remove (a ∷ []) [] moved
    ∷ end kind.Exists (a ∷ e ∷ []) [] removed ∷ [])
    ≡ (Ok (reply.Is true) ∷ Ok (reply.Is false) ∷ Ok reply.Done ∷ Ok (reply.Is false) ∷ []))
    × (between removed.0 (20 ∷ []) (21 ∷ []) ≡ [])
unfolding opening makes looks arrives admits check version_checked version_read value_of pairs_of does find find_from child_of directory_at takes_prefix new_prefix given_prefix free_prefix has_keys is_in_use is_node_inside is_inside has_inside enters sets_entry clears_entry found_opened moving finds_moved enters_moved leaves removing removes_one clears_all clears_one lists names_below is_there children children_in child_in read_tuple elements_at piece_at coded_at kind_of bytes_at string_at text_at is_utf8 chars encode signed_spelled least_bytes low_first little_bytes number_low
removed_whole = (refl, refl)
