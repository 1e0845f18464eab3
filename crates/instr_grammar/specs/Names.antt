-- The names of operations (bindingApiTester.md), with their endings.
use Rattle.std.specs.Prelude.{ℕ, ◌+◌, Bool, false, ◌||◌, if◌then◌else◌, List, [], ◌∷◌, ◌++◌, ◌==◌, max, codes, bytes_eq, flat_map}

-- an operation that has one form alone
abbrev pub alone : List ℕ → List (List ℕ)
alone name = name ∷ []

-- one that may be a call on the database
abbrev pub on_database : List ℕ → List (List ℕ)
on_database name = name ∷ (name ++ codes "_DATABASE") ∷ []

-- one that may be a snapshot read
abbrev pub by_snapshot : List ℕ → List (List ℕ)
by_snapshot name = name ∷ (name ++ codes "_SNAPSHOT") ∷ []

abbrev pub in_each_form : List ℕ → List (List ℕ)
in_each_form name = name ∷ (name ++ codes "_SNAPSHOT") ∷ (name ++ codes "_DATABASE") ∷ []

abbrev pub stack_names : List (List ℕ)
stack_names = codes "DUP" ∷ codes "EMPTY_STACK" ∷ codes "SWAP" ∷ codes "POP" ∷ codes "SUB" ∷ codes "CONCAT" ∷ codes "WAIT_FUTURE"
    ∷ codes "TUPLE_PACK" ∷ codes "TUPLE_PACK_WITH_VERSIONSTAMP" ∷ codes "TUPLE_UNPACK" ∷ codes "TUPLE_RANGE" ∷ codes "TUPLE_SORT"
    ∷ codes "GET_APPROXIMATE_SIZE" ∷ codes "GET_ESTIMATED_RANGE_SIZE" ∷ codes "UNIT_TESTS"
    ∷ codes "USE_TRANSACTION" ∷ codes "LOG_STACK" ∷ codes "START_THREAD" ∷ codes "WAIT_EMPTY" ∷ []

abbrev pub transaction_names : List (List ℕ)
transaction_names = codes "NEW_TRANSACTION" ∷ codes "ON_ERROR" ∷ codes "RESET" ∷ codes "CANCEL" ∷ codes "COMMIT"
    ∷ codes "GET_READ_VERSION" ∷ codes "GET_READ_VERSION_SNAPSHOT" ∷ codes "SET_READ_VERSION" ∷ codes "GET_COMMITTED_VERSION"
    ∷ codes "GET_VERSIONSTAMP" ∷ codes "READ_CONFLICT_RANGE" ∷ codes "WRITE_CONFLICT_RANGE" ∷ codes "READ_CONFLICT_KEY"
    ∷ codes "WRITE_CONFLICT_KEY" ∷ codes "DISABLE_WRITE_CONFLICT" ∷ []

abbrev pub reading_names : List (List ℕ)
reading_names = flat_map in_each_form
    (codes "GET" ∷ codes "GET_KEY" ∷ codes "GET_RANGE" ∷ codes "GET_RANGE_STARTS_WITH" ∷ codes "GET_RANGE_SELECTOR"
    ∷ codes "DIRECTORY_OPEN" ∷ codes "DIRECTORY_LIST" ∷ codes "DIRECTORY_EXISTS" ∷ [])

abbrev pub writing_names : List (List ℕ)
writing_names = flat_map on_database
    (codes "SET" ∷ codes "CLEAR" ∷ codes "CLEAR_RANGE" ∷ codes "CLEAR_RANGE_STARTS_WITH" ∷ codes "ATOMIC_OP"
    ∷ codes "DIRECTORY_CREATE_OR_OPEN" ∷ codes "DIRECTORY_CREATE" ∷ codes "DIRECTORY_MOVE" ∷ codes "DIRECTORY_MOVE_TO"
    ∷ codes "DIRECTORY_REMOVE" ∷ codes "DIRECTORY_REMOVE_IF_EXISTS" ∷ [])

abbrev pub directory_names : List (List ℕ)
directory_names = codes "DIRECTORY_CREATE_SUBSPACE" ∷ codes "DIRECTORY_CREATE_LAYER" ∷ codes "DIRECTORY_CHANGE"
    ∷ codes "DIRECTORY_SET_ERROR_INDEX" ∷ codes "DIRECTORY_PACK_KEY" ∷ codes "DIRECTORY_UNPACK_KEY" ∷ codes "DIRECTORY_RANGE"
    ∷ codes "DIRECTORY_CONTAINS" ∷ codes "DIRECTORY_OPEN_SUBSPACE" ∷ codes "DIRECTORY_LOG_SUBSPACE" ∷ codes "DIRECTORY_LOG_DIRECTORY"
    ∷ codes "DIRECTORY_STRIP_PREFIX" ∷ []

-- every operation but PUSH
unfoldable pub names : List (List ℕ)
names = stack_names ++ transaction_names ++ reading_names ++ writing_names ++ directory_names

abbrev pub push : List ℕ
push = codes "PUSH"

-- whether a text stands in a list
abbrev pub is_among : List ℕ → List (List ℕ) → Bool
is_among text [] = false
is_among text (other ∷ others) = bytes_eq other text || is_among text others

-- how many bytes two texts begin with alike
abbrev pub alike : List ℕ → List ℕ → ℕ
alike [] bytes = 0
alike (letter ∷ name) [] = 0
alike (letter ∷ name) (byte ∷ bytes) = if letter == byte then 1 + alike name bytes else 0

-- the longest walk through texts
abbrev pub longest : List (List ℕ) → List ℕ → ℕ
longest [] bytes = 0
longest (name ∷ others) bytes = max (alike name bytes) (longest others bytes)
