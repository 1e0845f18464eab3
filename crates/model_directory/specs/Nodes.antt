-- The keys of the nodes of a directory layer, and what they say (directory layer's documentation). The node of the directory with a
-- prefix is the subspace node[prefix]; the root's is node[node prefix].
use Rattle.std.specs.Prelude.{ℕ, pos, Bool, ◌&&◌, ◌||◌, List, [], ◌∷◌, ◌++◌, length, take, drop, nat_lt, Option, Some, None, Result, Ok, bytes_eq, codes}
use Rattle.key_bytes.specs.Numbers.{number_low}
use Rattle.fdb_tuple.specs.declared.fault.UnpackFault.{UnpackFault}
use Rattle.fdb_tuple.specs.Tuples.{Elements, Empty, Single, Bytes, Text, Int}
use Rattle.fdb_tuple.specs.Reading.{read_tuple}
use Rattle.fdb_tuple.specs.Spelling.{spelling}
use Rattle.model_database.specs.Atomics.{little_bytes}
use Rattle.directory_types.specs.declared.Layer.{Layer}

-- ---- keys

abbrev pub packed_bytes : List ℕ → List ℕ
packed_bytes bytes = spelling (Single (Bytes bytes) Empty)

abbrev pub packed_text : List ℕ → List ℕ
packed_text text = spelling (Single (Text text) Empty)

abbrev pub packed_number : ℕ → List ℕ
packed_number number = spelling (Single (Int (pos number)) Empty)

-- the prefix of the node of a directory, by the prefix of its contents
abbrev pub node_of : Layer → (prefix : List ℕ) → List ℕ
node_of layer prefix = layer.node ++ packed_bytes prefix

abbrev pub root_of : Layer → List ℕ
root_of layer = node_of layer layer.node

-- what the entries of a node begin with, and the entry of a name, whose value is the prefix of that directory
abbrev pub entries_of : (node : List ℕ) → List ℕ
entries_of node = node ++ packed_number 0

abbrev pub entry_of : (node name : List ℕ) → List ℕ
entry_of node name = node ++ spelling (Single (Int (pos 0)) (Single (Text name) Empty))

-- where a node's layer name stands
abbrev pub layer_key : (node : List ℕ) → List ℕ
layer_key node = node ++ packed_bytes (codes "layer")

-- where the version stands, and the allocator's subspace
abbrev pub version_key : Layer → List ℕ
version_key layer = root_of layer ++ packed_bytes (codes "version")

abbrev pub allocator_of : Layer → List ℕ
allocator_of layer = root_of layer ++ packed_bytes (codes "hca")

-- ---- the version: three numbers of 4 bytes, the lowest first

abbrev pub version_now : List ℕ
version_now = little_bytes 4 1 ++ little_bytes 4 0 ++ little_bytes 4 0

abbrev pub version_numbers : List ℕ → List ℕ
version_numbers value = number_low (take 4 value) ∷ number_low (take 4 (drop 4 value)) ∷ number_low (take 4 (drop 8 value)) ∷ []

-- it was written by a version that is not read here, or, where something is to be written, not written
abbrev pub is_newer : (writes : Bool) → List ℕ → Bool
is_newer writes value = nat_lt 1 (number_low (take 4 value)) || (writes && nat_lt 0 (number_low (take 4 (drop 4 value))))

-- ---- entries

abbrev pub one_text : Result Elements UnpackFault → Option (List ℕ)
one_text (Ok (Single (Text text) Empty)) = Some text
one_text read = None

-- the name of an entry's key: what stands behind is one Unicode string
abbrev pub name_in : (node key : List ℕ) → Option (List ℕ)
name_in node key = one_text (read_tuple (drop (length (entries_of node)) key))

abbrev pub first_bytes : Result Elements UnpackFault → Option (List ℕ)
first_bytes (Ok (Single (Bytes bytes) rest)) = Some bytes
first_bytes read = None

-- the prefix whose node a key stands in: what stands behind the prefix of the nodes is a tuple that begins with a byte string
abbrev pub prefix_in : Layer → (key : List ℕ) → Option (List ℕ)
prefix_in layer key = first_bytes (read_tuple (drop (length layer.node) key))

abbrev pub is_partition : (layer : List ℕ) → Bool
is_partition layer = bytes_eq layer (codes "partition")
