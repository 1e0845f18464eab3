-- A reply is known by the elements that it is spelled by, and by their bytes.
use Rattle.std.proofs.Common.{◌≡◌, ◌∙◌, ℕ, Bool, true, false, List, [], ◌∷◌, ◌++◌, ℤ, pos, negsuc, unsigned_abs, Option, Some, None, Ok, refl, sym, ap, if◌then◌else◌}
use Rattle.std.specs.Prelude.{codes, map}
use Rattle.std.specs.Str.{bytes_eq}
use Rattle.fdb_tuple.specs.declared.tuple.Elem.{Elem}
use Rattle.fdb_tuple.specs.declared.tuple.Elem.TheVariants as elem
use Rattle.fdb_tuple.specs.Tuples.{Elements}
use Rattle.fdb_tuple.specs.Listed.{tuple_of, elements_of, elements_of-tuple_of}
use Rattle.fdb_tuple.specs.Spelling.{spelling}
use Rattle.fdb_tuple.specs.Reading.{read_tuple}
use Rattle.fdb_tuple.proofs.ReadLaws.{read_tuple_again}
use Rattle.directory_types.specs.declared.DirReply.{DirReply}
use Rattle.directory_types.specs.declared.DirReply.TheVariants as dir
use Rattle.directory_types.specs.declared.fault.DirFault.{DirFault}
use Rattle.directory_types.specs.declared.fault.DirFault.TheVariants as fault
use Rattle.fdb_calls.specs.declared.Reply.{Reply}
use Rattle.fdb_calls.specs.declared.Reply.TheVariants as reply
use Rattle.fdb_wire.specs.Elements.{packed, count, pair_elements, path_elements}
use Rattle.fdb_wire.specs.Requests.{spelled_by}
use Rattle.fdb_wire.specs.Replies.{directory_row, fault_row, reply_row, reply_elements, reply_bytes, IsReply}

-- ---- what is told at a place of elements

abbrev bytes_of : Elem → List ℕ
bytes_of (elem.Bytes bytes) = bytes
bytes_of (elem.Text text) = text
bytes_of _ = []

abbrev flag_of : Elem → Bool
flag_of (elem.Bool flag) = flag
flag_of _ = false

abbrev int_of : Elem → ℤ
int_of (elem.Int number) = number
int_of _ = pos 0

abbrev count_of : Elem → ℕ
count_of element = unsigned_abs (int_of element)

abbrev first : List Elem → Elem
first [] = elem.Null
first (element ∷ rest) = element

abbrev behind : List Elem → List Elem
behind [] = []
behind (element ∷ rest) = rest

-- the names that elements are, and the pairs that they are in turn
abbrev names_of : List Elem → List (List ℕ)
names_of elements = map bytes_of elements

abbrev pairs_of : List Elem → List (List ℕ × List ℕ)
pairs_of [] = []
pairs_of (key ∷ []) = []
pairs_of (key ∷ value ∷ rest) = (bytes_of key, bytes_of value) ∷ pairs_of rest

names_again : (names : List (List ℕ)) → names_of (path_elements names) ≡ names
names_again [] = refl
names_again (name ∷ names) = ap (λ (others : List (List ℕ)). name ∷ others) (names_again names)

pairs_again : (pairs : List (List ℕ × List ℕ)) → pairs_of (pair_elements pairs) ≡ pairs
pairs_again [] = refl
pairs_again (pair ∷ pairs) = ap (λ (others : List (List ℕ × List ℕ)). pair ∷ others) (pairs_again pairs)

counts_again : (numbers : List ℕ) → map count_of (map count numbers) ≡ numbers
counts_again [] = refl
counts_again (number ∷ numbers) = ap (λ (others : List ℕ). number ∷ others) (counts_again numbers)

-- ---- the fault of a name

abbrev plain_fault : (name : List ℕ) → DirFault
plain_fault name =
    if bytes_eq name (codes "EMPTY_PATH") then fault.EmptyPath
    else if bytes_eq name (codes "EXISTS") then fault.Exists
    else if bytes_eq name (codes "MISSING") then fault.Missing
    else if bytes_eq name (codes "LAYER_DIFFERS") then fault.LayerDiffers
    else if bytes_eq name (codes "PARENT_MISSING") then fault.ParentMissing
    else if bytes_eq name (codes "INTO_ITSELF") then fault.IntoItself
    else if bytes_eq name (codes "MANUAL_NOT_ALLOWED") then fault.ManualNotAllowed
    else if bytes_eq name (codes "PREFIX_IN_USE") then fault.PrefixInUse
    else if bytes_eq name (codes "KEYS_AT_PREFIX") then fault.KeysAtPrefix
    else if bytes_eq name (codes "NO_SUCCESSOR") then fault.NoSuccessor
    else if bytes_eq name (codes "ACROSS_PARTITIONS") then fault.AcrossPartitions
    else fault.NoMemory

unfoldable fault_in : (name : List ℕ) → (rest : List Elem) → DirFault
fault_in name rest =
    if bytes_eq name (codes "VERSION_NEWER") then fault.VersionNewer (map count_of rest)
    else if bytes_eq name (codes "BAD_NODE") then fault.BadNode (bytes_of (first rest))
    else if bytes_eq name (codes "BAD_COUNTER") then fault.BadCounter (bytes_of (first rest))
    else if bytes_eq name (codes "WINDOW_FULL") then fault.WindowFull (count_of (first rest))
    else if bytes_eq name (codes "CODE") then fault.Tr (record { 0 = count_of (first rest) })
    else plain_fault name

fault_again : (given : DirFault) → fault_in (fault_row given).0 (fault_row given).1 ≡ given
unfolding fault_in fault_row
fault_again fault.EmptyPath = refl
fault_again fault.Exists = refl
fault_again fault.Missing = refl
fault_again fault.LayerDiffers = refl
fault_again fault.ParentMissing = refl
fault_again fault.IntoItself = refl
fault_again fault.ManualNotAllowed = refl
fault_again fault.PrefixInUse = refl
fault_again fault.KeysAtPrefix = refl
fault_again (fault.VersionNewer version) = ap fault.VersionNewer (counts_again version)
fault_again fault.NoSuccessor = refl
fault_again (fault.BadNode key) = refl
fault_again (fault.BadCounter key) = refl
fault_again (fault.WindowFull start) = refl
fault_again fault.AcrossPartitions = refl
fault_again (fault.Tr code) = refl
fault_again fault.NoMemory = refl

-- ---- the reply of a name

abbrev plain_reply : (name : List ℕ) → Reply
plain_reply name =
    if bytes_eq name (codes "DONE") then reply.Done
    else if bytes_eq name (codes "NOT_PRESENT") then reply.Value None
    else if bytes_eq name (codes "NOT_YET") then reply.NotYet
    else if bytes_eq name (codes "EMPTY") then reply.Empty
    else if bytes_eq name (codes "NO_MACHINE") then reply.NoMachine
    else if bytes_eq name (codes "DIRECTORY_DONE") then reply.Dir dir.Done
    else reply.NoMemory

abbrev directory_in : (name : List ℕ) → (rest : List Elem) → Reply
directory_in name rest =
    if bytes_eq name (codes "DIRECTORY")
    then reply.Dir (dir.Opened (bytes_of (first rest)) (names_of (behind (behind rest))) (bytes_of (first (behind rest))))
    else if bytes_eq name (codes "DIRECTORY_NAMES") then reply.Dir (dir.Names (names_of rest))
    else if bytes_eq name (codes "DIRECTORY_IS") then reply.Dir (dir.Is (flag_of (first rest)))
    else if bytes_eq name (codes "DIRECTORY_FAULT") then reply.DirFault (fault_in (bytes_of (first rest)) (behind rest))
    else plain_reply name

unfoldable reply_in : (name : List ℕ) → (rest : List Elem) → Reply
reply_in name rest =
    if bytes_eq name (codes "VALUE") then reply.Value (Some (bytes_of (first rest)))
    else if bytes_eq name (codes "KEY") then reply.KeyIs (bytes_of (first rest))
    else if bytes_eq name (codes "PAIRS") then reply.PairsAre (pairs_of rest)
    else if bytes_eq name (codes "VERSION") then reply.Version (int_of (first rest))
    else if bytes_eq name (codes "LIFE") then reply.Life (count_of (first rest))
    else if bytes_eq name (codes "STAMP") then reply.Stamp (bytes_of (first rest))
    else if bytes_eq name (codes "STARTED") then reply.Started (count_of (first rest)) (pairs_of (behind rest))
    else if bytes_eq name (codes "FAULT") then reply.Fault (record { 0 = count_of (first rest) })
    else directory_in name rest

reply_again : (given : Reply) → reply_in (reply_row given).0 (reply_row given).1 ≡ given
unfolding reply_in reply_row directory_row
reply_again reply.Done = refl
reply_again (reply.Value None) = refl
reply_again (reply.Value (Some value)) = refl
reply_again (reply.KeyIs key) = refl
reply_again (reply.PairsAre pairs) = ap reply.PairsAre (pairs_again pairs)
reply_again (reply.Version version) = refl
reply_again (reply.Life life) = refl
reply_again (reply.Stamp stamp) = refl
reply_again reply.NotYet = refl
reply_again reply.Empty = refl
reply_again (reply.Started machine instructions) = ap (λ (pairs : List (List ℕ × List ℕ)). reply.Started machine pairs) (pairs_again instructions)
reply_again reply.NoMachine = refl
reply_again (reply.Dir (dir.Opened prefix path layer)) = ap (λ (names : List (List ℕ)). reply.Dir (dir.Opened prefix names layer)) (names_again path)
reply_again (reply.Dir (dir.Names names)) = ap (λ (its : List (List ℕ)). reply.Dir (dir.Names its)) (names_again names)
reply_again (reply.Dir (dir.Is exists)) = refl
reply_again (reply.Dir dir.Done) = refl
reply_again (reply.DirFault given) = ap reply.DirFault (fault_again given)
reply_again (reply.Fault code) = refl
reply_again reply.NoMemory = refl

-- ---- replies by their elements, and by their bytes

abbrev reply_of : List Elem → Reply
reply_of elements = reply_in (bytes_of (first elements)) (behind elements)

reply_of-elements : (a b : Reply) → reply_elements a ≡ reply_elements b → a ≡ b
reply_of-elements a b e = sym (reply_again a) ∙ ap reply_of e ∙ reply_again b

-- elements that make tuples are known by their bytes
pub elements_by_bytes : (a b : List Elem) → packed a ≡ packed b → read_tuple (spelling (tuple_of a)) ≡ Ok (tuple_of a)
    → read_tuple (spelling (tuple_of b)) ≡ Ok (tuple_of b) → a ≡ b
unfolding packed
elements_by_bytes a b e reads_a reads_b =
    let both = sym reads_a ∙ ap read_tuple e ∙ reads_b in
    let same : tuple_of a ≡ tuple_of b = cc both in
    sym (elements_of-tuple_of a) ∙ ap elements_of same ∙ elements_of-tuple_of b

pub replies_apart : (a b : Reply) → IsReply a → IsReply b → reply_bytes a ≡ reply_bytes b → a ≡ b
replies_apart a b is_a is_b e =
    reply_of-elements a b (elements_by_bytes (reply_elements a) (reply_elements b) e
    (read_tuple_again (tuple_of (reply_elements a)) is_a) (read_tuple_again (tuple_of (reply_elements b)) is_b))
