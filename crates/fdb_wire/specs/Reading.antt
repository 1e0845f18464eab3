-- How the reader goes over elements, from the first on. A list holds those that are left; where one is wrong or missing, how many are
-- left from its place on is told. What a request is spelled by is said in Requests.antt.
use Rattle.std.specs.Prelude.{◌≡◌, ℕ, suc, ◌+◌, ◌^◌, ◌==◌, nat_lt, ⊤, Bool, if◌then◌else◌, List, [], ◌∷◌, length, ℤ, pos, negsuc, Option, Some, None, Result, Ok, Err, codes, bytes_eq}
use Rattle.key_bytes.specs.declared.range.KeyRange.{KeyRange}
use Rattle.model_database.specs.declared.selector.Selector.{Selector}
use Rattle.model_database.specs.declared.options.RangeOptions.{RangeOptions}
use Rattle.model_database.specs.declared.mode.Mode.{Mode}
use Rattle.model_database.specs.declared.mode.Mode.TheVariants as mode
use Rattle.fdb_tuple.specs.declared.tuple.Elem.{Elem}
use Rattle.fdb_tuple.specs.declared.tuple.Elem.TheVariants as elem
use Rattle.fdb_calls.specs.declared.TxnCall.{TxnCall}
use Rattle.fdb_calls.specs.declared.TxnCall.TheVariants as call
use Rattle.fdb_calls.specs.declared.Request.{Request}
use Rattle.fdb_calls.specs.declared.Request.TheVariants as request
use Rattle.fdb_wire.specs.declared.fault.Unread.{Unread}
use Rattle.fdb_wire.specs.declared.fault.Unread.TheVariants as unread

infixl 10 ◌>>=◌
abbrev pub ◌>>=◌ : {A B : Type 0} → Result A ℕ → (A → Result B ℕ) → Result B ℕ
(Ok x) >>= f = f x
(Err left) >>= f = Err left

-- what was returned, seen by view, is what is read, unless memory ran out
abbrev pub Fails : {B : Type 0} → Unread → Result B ℕ → Type 0
Fails (unread.Stray left) read = read ≡ Err left
Fails unread.NoMemory read = ⊤

abbrev pub Gives : {A B : Type 0} → (A → B) → Result A Unread → Result B ℕ → Type 0
Gives view (Ok value) read = read ≡ Ok (view value)
Gives view (Err fault) read = Fails fault read

-- ---- kinds

abbrev pub bytes_in : Elem → Option (List ℕ)
bytes_in (elem.Bytes bytes) = Some bytes
bytes_in _ = None

abbrev pub flag_in : Elem → Option Bool
flag_in (elem.Bool flag) = Some flag
flag_in _ = None

-- an integer from 0 up to a bound
abbrev pub count_below : ℕ → ℤ → Option ℕ
count_below bound (pos number) = if nat_lt number bound then Some number else None
count_below bound (negsuc number) = None

-- an integer with a sign, whose magnitude stays within a bound
abbrev pub signed_below : ℕ → ℤ → Option ℤ
signed_below bound (pos number) = if nat_lt number bound then Some (pos number) else None
signed_below bound (negsuc number) = if nat_lt number bound then Some (negsuc number) else None

abbrev pub mode_by : ℤ → Option Mode
mode_by (pos number) =
    if number == 0 then Some mode.Exact
    else if number == 1 then Some mode.Small
    else if number == 2 then Some mode.Medium
    else if number == 3 then Some mode.Large
    else if number == 4 then Some mode.Serial
    else None
mode_by (negsuc number) = if number == 0 then Some mode.Iterator else if number == 1 then Some mode.WantAll else None

-- an integer that is one of a kind
abbrev pub number_by : {A : Type 0} → (ℤ → Option A) → Elem → Option A
number_by kind (elem.Int number) = kind number
number_by kind _ = None

abbrev pub code_in : Elem → Option ℕ
code_in element = number_by (count_below (2 ^ 16)) element

abbrev pub limit_in : Elem → Option ℕ
limit_in element = number_by (count_below (2 ^ 32)) element

abbrev pub life_in : Elem → Option ℕ
life_in element = number_by (count_below (2 ^ 64)) element

abbrev pub offset_in : Elem → Option ℤ
offset_in element = number_by (signed_below (2 ^ 31)) element

abbrev pub version_in : Elem → Option ℤ
version_in element = number_by (signed_below (2 ^ 63)) element

abbrev pub mode_in : Elem → Option Mode
mode_in element = number_by mode_by element

-- ---- the next element

-- what was read, and the elements behind it
abbrev pub Read : Type 0 → Type 0
Read A = Result (A × List Elem) ℕ

abbrev pub fitting : {A : Type 0} → Option A → (rest : List Elem) → Read A
fitting (Some value) rest = Ok (value, rest)
fitting None rest = Err (length rest + 1)

-- the next element, which is to be of a kind
abbrev pub next_by : {A : Type 0} → (Elem → Option A) → (elements : List Elem) → Read A
next_by kind [] = Err 0
next_by kind (element ∷ rest) = fitting (kind element) rest

-- two, one behind the other
abbrev pub both : {A B : Type 0} → (List Elem → Read A) → (List Elem → Read B) → (elements : List Elem) → Read (A × B)
both first second elements = do
  a ← first elements
  b ← second a.1
  Ok ((a.0, b.0), b.1)

-- what is made of what was read
abbrev pub made_by : {A B : Type 0} → (A → B) → (List Elem → Read A) → (elements : List Elem) → Read B
made_by make first elements = do
  a ← first elements
  Ok (make a.0, a.1)

abbrev pub next_bytes : (elements : List Elem) → Read (List ℕ)
next_bytes elements = next_by bytes_in elements

abbrev pub next_flag : (elements : List Elem) → Read Bool
next_flag elements = next_by flag_in elements

unfoldable pub next_range : (elements : List Elem) → Read KeyRange
next_range elements = made_by (λ read. record { begin = read.0; end = read.1 }) (both next_bytes next_bytes) elements

unfoldable pub next_selector : (elements : List Elem) → Read Selector
next_selector elements =
    made_by (λ read. record { key = read.0; or_equal = read.1.0; offset = read.1.1 })
    (both next_bytes (both next_flag (next_by offset_in))) elements

unfoldable pub next_options : (elements : List Elem) → Read RangeOptions
next_options elements =
    made_by (λ read. record { limit = read.0; reverse = read.1.0; mode = read.1.1 })
    (both (next_by limit_in) (both next_flag (next_by mode_in))) elements

-- nothing
abbrev pub next_nothing : (elements : List Elem) → Read (Unit {0})
next_nothing elements = Ok (tt, elements)

-- ---- rows

-- a request behind which no element is left
abbrev pub lone : (elements : List Elem) → Request → Result Request ℕ
lone [] request = Ok request
lone (element ∷ rest) request = Err (length rest + 1)

abbrev pub alone_by : {A : Type 0} → (A → Request) → (List Elem → Read A) → (elements : List Elem) → Result Request ℕ
alone_by make operands elements = do
  read ← operands elements
  lone read.1 (make read.0)

-- a call on the transaction of a name
abbrev pub called_by : {A : Type 0} → (A → TxnCall) → (List Elem → Read A) → (elements : List Elem) → Result Request ℕ
called_by make operands elements = alone_by (λ read. request.On read.0 (make read.1)) (both next_bytes operands) elements

-- what the elements behind a name are read as
abbrev pub ReadRow : Type 0
ReadRow = List ℕ × (List Elem → Result Request ℕ)

abbrev pub bare_row : (name : List ℕ) → TxnCall → ReadRow
bare_row name call = (name, called_by (λ read. call) next_nothing)

unfoldable pub get_of : (elements : List Elem) → Result Request ℕ
get_of elements = called_by (λ read. call.Get read.0 read.1) (both next_bytes next_flag) elements

unfoldable pub get_key_of : (elements : List Elem) → Result Request ℕ
get_key_of elements = called_by (λ read. call.GetKey read.0 read.1) (both next_selector next_flag) elements

unfoldable pub get_range_of : (elements : List Elem) → Result Request ℕ
get_range_of elements =
    called_by (λ read. call.GetKeyRange read.0 read.1.0 read.1.1) (both next_range (both next_options next_flag)) elements

unfoldable pub get_range_selector_of : (elements : List Elem) → Result Request ℕ
get_range_selector_of elements =
    called_by (λ read. call.GetRange read.0 read.1.0 read.1.1.0 read.1.1.1)
    (both next_selector (both next_selector (both next_options next_flag))) elements

unfoldable pub set_of : (elements : List Elem) → Result Request ℕ
set_of elements = called_by (λ read. call.Set read.0 read.1) (both next_bytes next_bytes) elements

unfoldable pub clear_of : (elements : List Elem) → Result Request ℕ
clear_of elements = called_by (λ read. call.Clear read) next_bytes elements

unfoldable pub clear_range_of : (elements : List Elem) → Result Request ℕ
clear_range_of elements = called_by (λ read. call.ClearRange read) next_range elements

unfoldable pub atomic_of : (elements : List Elem) → Result Request ℕ
atomic_of elements =
    called_by (λ read. call.Atomic read.0 read.1.0 read.1.1) (both next_bytes (both next_bytes next_bytes)) elements

unfoldable pub read_conflict_of : (elements : List Elem) → Result Request ℕ
read_conflict_of elements = called_by (λ read. call.ReadConflict read) next_range elements

unfoldable pub write_conflict_of : (elements : List Elem) → Result Request ℕ
write_conflict_of elements = called_by (λ read. call.WriteConflict read) next_range elements

unfoldable pub set_read_version_of : (elements : List Elem) → Result Request ℕ
set_read_version_of elements = called_by (λ read. call.SetReadVersion read) (next_by version_in) elements

unfoldable pub on_error_of : (elements : List Elem) → Result Request ℕ
on_error_of elements = called_by (λ read. call.OnError (record { 0 = read })) (next_by code_in) elements

unfoldable pub bare_of : TxnCall → (elements : List Elem) → Result Request ℕ
bare_of call elements = called_by (λ read. call) next_nothing elements

unfoldable pub new_of : (elements : List Elem) → Result Request ℕ
new_of elements = alone_by (λ read. request.New read) next_bytes elements

unfoldable pub poll_of : (elements : List Elem) → Result Request ℕ
poll_of elements = alone_by (λ read. request.PollStamp read) (next_by life_in) elements

abbrev pub reading_rows : List ReadRow
reading_rows =
    (codes "GET", get_of)
    ∷ (codes "GET_KEY", get_key_of)
    ∷ (codes "GET_RANGE", get_range_of)
    ∷ (codes "GET_RANGE_SELECTOR", get_range_selector_of)
    ∷ (codes "GET_READ_VERSION", bare_of call.ReadVersion)
    ∷ (codes "GET_COMMITTED_VERSION", bare_of call.CommittedVersion)
    ∷ (codes "GET_VERSIONSTAMP", bare_of call.Versionstamp)
    ∷ (codes "POLL_STAMP", poll_of)
    ∷ []

abbrev pub writing_rows : List ReadRow
writing_rows =
    (codes "SET", set_of)
    ∷ (codes "CLEAR", clear_of)
    ∷ (codes "CLEAR_RANGE", clear_range_of)
    ∷ (codes "ATOMIC_OP", atomic_of)
    ∷ (codes "READ_CONFLICT_RANGE", read_conflict_of)
    ∷ (codes "WRITE_CONFLICT_RANGE", write_conflict_of)
    ∷ (codes "DISABLE_WRITE_CONFLICT", bare_of call.NoWriteConflict)
    ∷ []

abbrev pub ruling_rows : List ReadRow
ruling_rows =
    (codes "COMMIT", bare_of call.Commit)
    ∷ (codes "RESET", bare_of call.Reset)
    ∷ (codes "NEW_TRANSACTION", new_of)
    ∷ (codes "ON_ERROR", on_error_of)
    ∷ (codes "CANCEL", bare_of call.Cancel)
    ∷ (codes "SET_READ_VERSION", set_read_version_of)
    ∷ []

-- the row of a name among these, and otherwise this
abbrev pub row_in : List ReadRow → (name : List ℕ) → (elements : List Elem) → (otherwise : Result Request ℕ) → Result Request ℕ
row_in [] name elements otherwise = otherwise
row_in (row ∷ rows) name elements otherwise = if bytes_eq name row.0 then row.1 elements else row_in rows name elements otherwise

-- a name that no row has is wrong
unfoldable pub ruling_of : (name : List ℕ) → (elements : List Elem) → Result Request ℕ
ruling_of name elements = row_in ruling_rows name elements (Err (length elements + 1))

unfoldable pub writing_of : (name : List ℕ) → (elements : List Elem) → Result Request ℕ
writing_of name elements = row_in writing_rows name elements (ruling_of name elements)

unfoldable pub request_named : (name : List ℕ) → (elements : List Elem) → Result Request ℕ
request_named name elements = row_in reading_rows name elements (writing_of name elements)

unfoldable pub request_of : (elements : List Elem) → Result Request ℕ
request_of elements = do
  name ← next_bytes elements
  request_named name.0 name.1
