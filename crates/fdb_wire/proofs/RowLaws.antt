-- Each row of the reader, against the row of the request that it reads.
use Rattle.std.proofs.Common.{◌≡◌, ◌∙◌, ◌≢◌, ◌+◌, ◌-◌, ◌<◌, ◌≤◌, ◌^◌, ℕ, suc, Bool, true, false, Option, Some, None, List, [], ◌∷◌, ◌++◌, length, take, arith, lit<, pos, ℤ, Result, Ok, Err, refl, sym, ap, subst, if◌then◌else◌}
use Rattle.std.specs.Prelude.{codes}
use Rattle.std.specs.Str.{bytes_eq}
use Rattle.std.proofs.lemmas.Slice.Eq.{bytes_eq-Decides}
use Rattle.fdb_tuple.specs.declared.tuple.Elem.{Elem}
use Rattle.fdb_tuple.specs.declared.tuple.Elem.TheVariants as elem
use Rattle.fdb_calls.specs.declared.TxnCall.{TxnCall}
use Rattle.fdb_calls.specs.declared.TxnCall.TheVariants as call
use Rattle.fdb_calls.specs.declared.Request.{Request}
use Rattle.fdb_calls.specs.declared.Request.TheVariants as asked
use Rattle.fdb_wire.specs.Requests.{Row, call_row, request_row, request_elements, HasBits, IsClients}
use Rattle.fdb_wire.specs.Refusals.{IsStray}
use Rattle.fdb_wire.specs.Reading.{◌>>=◌, Read, ReadRow, bytes_in, fitting, both, next_by, next_bytes, called_by, alone_by, row_in, reading_rows, writing_rows, ruling_rows, request_of, request_named, writing_of, ruling_of}
use Rattle.fdb_wire.specs.Reading.{get_of, get_key_of, get_range_of, get_range_selector_of, set_of, clear_of, clear_range_of, atomic_of, read_conflict_of, write_conflict_of, set_read_version_of, on_error_of, bare_of, new_of, poll_of}
use Rattle.fdb_wire.proofs.Readers.{alone_found, alone_again, parts}
use Rattle.fdb_wire.proofs.Strays.{IsStrict, IsStrict-next, IsStrict-both, IsStrict-nothing, alone_stray, next_missing, next_wrong}
use Rattle.fdb_wire.proofs.ElementKinds.{Anything, IsKind-count, IsKind-signed, bytes_kind, bytes_reader, flag_reader, range_reader, selector_reader, options_reader}

-- a request of a client, spelled by a name and what is behind it
abbrev Says : (name : List ℕ) → (elements : List Elem) → Request → Type 0
Says name elements request = IsClients request × (elem.Bytes name ∷ elements ≡ request_elements request)

abbrev FindsRow : (name : List ℕ) → (List Elem → Result Request ℕ) → Type 0
FindsRow name read = (elements : List Elem) (request : Request) → read elements ≡ Ok request → Says name elements request

-- so many elements are left from a place on: some request of a client begins with the name and the elements before it, and no elements
-- that are the same up to it are read
pub record RowStray (name : List ℕ) (read : List Elem → Result Request ℕ) (elements : List Elem) (left : ℕ) : Type 0 where
  pub place : ℕ
  pub is_place : length elements ≡ place + left
  pub request : Request
  pub is_clients : IsClients request
  pub before : take (suc place) (request_elements request) ≡ take (suc place) (elem.Bytes name ∷ elements)
  pub none : (others : List Elem) (other : Request) → read others ≡ Ok other → take (suc place) others ≢ take (suc place) elements

abbrev StraysRow : (name : List ℕ) → (List Elem → Result Request ℕ) → Type 0
StraysRow name read = (elements : List Elem) (left : ℕ) → read elements ≡ Err left → RowStray name read elements left

abbrev IsRow : (name : List ℕ) → (List Elem → Result Request ℕ) → Type 0
IsRow name read = FindsRow name read × StraysRow name read

alone_finds : {A : Type 0} {read : List Elem → Read A} {w : A → List Elem} {V : A → Type 0} → IsStrict A read w V
    → (name : List ℕ) (make : A → Request) → ((value : A) → V value → Says name (w value) (make value)) → IsRow name (alone_by make read)
alone_finds {A = A} {read = read} {w = w} {V = V} reader name make is = (
  λ elements request e.
      let got = alone_found reader.reader make elements request e in
      let row = is got.0 got.2 in
      subst (Says name elements) got.3 (row.0, ap (λ (t : List Elem). elem.Bytes name ∷ t) got.1 ∙ row.1),
  λ elements left e.
      let stray = alone_stray reader make elements left e in
      let row = is stray.value stray.valid in
      record {
        place = stray.place;
        is_place = stray.is_place;
        request = make stray.value;
        is_clients = row.0;
        before = ap (take (suc stray.place)) (sym row.1) ∙ ap (λ (t : List Elem). elem.Bytes name ∷ t) stray.before;
        none = stray.none;
      },
)

-- ---- calls

call_finds : {A : Type 0} {operands : List Elem → Read A} {w : A → List Elem} {V : A → Type 0} → IsStrict A operands w V
    → (name : List ℕ) (make : A → TxnCall) → ((value : A) → V value → (call_row (make value) ≡ (name, w value)) × HasBits (make value))
    → IsRow name (called_by make operands)
unfolding request_row
call_finds {A = A} {operands = operands} {w = w} {V = V} reader name make is =
    alone_finds (IsStrict-both bytes_reader reader) name (λ (read : List ℕ × A). asked.On read.0 (make read.1)) (λ value valid.
    let row = is value.1 valid.1 in
    (row.1, ap (λ (r : Row). elem.Bytes r.0 ∷ elem.Bytes value.0 ∷ r.1) (sym row.0)))

call_again : {A : Type 0} {operands : List Elem → Read A} {w : A → List Elem} {V : A → Type 0} → IsStrict A operands w V
    → (make : A → TxnCall) (name : List ℕ) (value : A) → V value
    → called_by make operands (elem.Bytes name ∷ w value) ≡ Ok (asked.On name (make value))
call_again {A = A} {operands = operands} {w = w} {V = V} reader make name value valid =
    alone_again (IsStrict-both bytes_reader reader).reader (λ (read : List ℕ × A). asked.On read.0 (make read.1)) (name, value) (tt, valid)

get_finds : IsRow (codes "GET") get_of
unfolding get_of call_row
get_finds = call_finds (IsStrict-both bytes_reader flag_reader) (codes "GET") (λ read. call.Get read.0 read.1) (λ value valid. (refl, tt))

get_key_finds : IsRow (codes "GET_KEY") get_key_of
unfolding get_key_of call_row
get_key_finds =
    call_finds (IsStrict-both selector_reader flag_reader) (codes "GET_KEY") (λ read. call.GetKey read.0 read.1)
    (λ value valid. (refl, valid.0))

get_range_finds : IsRow (codes "GET_RANGE") get_range_of
unfolding get_range_of call_row
get_range_finds =
    call_finds (IsStrict-both range_reader (IsStrict-both options_reader flag_reader)) (codes "GET_RANGE")
    (λ read. call.GetKeyRange read.0 read.1.0 read.1.1) (λ value valid. (refl, valid.1.0))

get_range_selector_finds : IsRow (codes "GET_RANGE_SELECTOR") get_range_selector_of
unfolding get_range_selector_of call_row
get_range_selector_finds =
    call_finds (IsStrict-both selector_reader (IsStrict-both selector_reader (IsStrict-both options_reader flag_reader))) (codes "GET_RANGE_SELECTOR")
    (λ read. call.GetRange read.0 read.1.0 read.1.1.0 read.1.1.1) (λ value valid. (refl, (valid.0, valid.1.0, valid.1.1.0)))

set_finds : IsRow (codes "SET") set_of
unfolding set_of call_row
set_finds = call_finds (IsStrict-both bytes_reader bytes_reader) (codes "SET") (λ read. call.Set read.0 read.1) (λ value valid. (refl, tt))

clear_finds : IsRow (codes "CLEAR") clear_of
unfolding clear_of call_row
clear_finds = call_finds bytes_reader (codes "CLEAR") (λ read. call.Clear read) (λ value valid. (refl, tt))

clear_range_finds : IsRow (codes "CLEAR_RANGE") clear_range_of
unfolding clear_range_of call_row
clear_range_finds = call_finds range_reader (codes "CLEAR_RANGE") (λ read. call.ClearRange read) (λ value valid. (refl, tt))

atomic_finds : IsRow (codes "ATOMIC_OP") atomic_of
unfolding atomic_of call_row
atomic_finds =
    call_finds (IsStrict-both bytes_reader (IsStrict-both bytes_reader bytes_reader)) (codes "ATOMIC_OP")
    (λ read. call.Atomic read.0 read.1.0 read.1.1) (λ value valid. (refl, tt))

read_conflict_finds : IsRow (codes "READ_CONFLICT_RANGE") read_conflict_of
unfolding read_conflict_of call_row
read_conflict_finds = call_finds range_reader (codes "READ_CONFLICT_RANGE") (λ read. call.ReadConflict read) (λ value valid. (refl, tt))

write_conflict_finds : IsRow (codes "WRITE_CONFLICT_RANGE") write_conflict_of
unfolding write_conflict_of call_row
write_conflict_finds = call_finds range_reader (codes "WRITE_CONFLICT_RANGE") (λ read. call.WriteConflict read) (λ value valid. (refl, tt))

set_read_version_finds : IsRow (codes "SET_READ_VERSION") set_read_version_of
unfolding set_read_version_of call_row
set_read_version_finds =
    call_finds (IsStrict-next (IsKind-signed (2 ^ 63)) (pos 0) (lit< tt)) (codes "SET_READ_VERSION") (λ read. call.SetReadVersion read) (λ value valid. (refl, valid))

on_error_finds : IsRow (codes "ON_ERROR") on_error_of
unfolding on_error_of call_row
on_error_finds =
    call_finds (IsStrict-next (IsKind-count (2 ^ 16)) 0 (lit< tt)) (codes "ON_ERROR") (λ read. call.OnError (record { 0 = read })) (λ value valid. (refl, valid))

bare_finds : (name : List ℕ) (its : TxnCall) → call_row its ≡ (name, []) → HasBits its → IsRow name (bare_of its)
unfolding bare_of
bare_finds name its row has = call_finds IsStrict-nothing name (λ read. its) (λ value valid. (row, has))

new_finds : IsRow (codes "NEW_TRANSACTION") new_of
unfolding new_of request_row
new_finds = alone_finds bytes_reader (codes "NEW_TRANSACTION") (λ (read : List ℕ). asked.New read) (λ value valid. (tt, refl))

poll_finds : IsRow (codes "POLL_STAMP") poll_of
unfolding poll_of request_row
poll_finds =
    alone_finds (IsStrict-next (IsKind-count (2 ^ 64)) 0 (lit< tt)) (codes "POLL_STAMP") (λ (read : ℕ). asked.PollStamp read)
    (λ value valid. (valid, refl))

-- ---- tables

abbrev FindAll : List ReadRow → Type 0
FindAll [] = Unit {0}
FindAll (row ∷ rows) = IsRow row.0 row.1 × FindAll rows

reading_find : FindAll reading_rows
unfolding call_row
reading_find = (
  get_finds,
  (
    get_key_finds,
    (
      get_range_finds,
      (
        get_range_selector_finds,
        (
          bare_finds (codes "GET_READ_VERSION") call.ReadVersion refl tt,
          (
            bare_finds (codes "GET_COMMITTED_VERSION") call.CommittedVersion refl tt,
            (
              bare_finds (codes "GET_VERSIONSTAMP") call.Versionstamp refl tt,
              (poll_finds, tt),
            ),
          ),
        ),
      ),
    ),
  ),
)

writing_find : FindAll writing_rows
unfolding call_row
writing_find = (
  set_finds,
  (
    clear_finds,
    (
      clear_range_finds,
      (
        atomic_finds,
        (
          read_conflict_finds,
          (
            write_conflict_finds,
            (bare_finds (codes "DISABLE_WRITE_CONFLICT") call.NoWriteConflict refl tt, tt),
          ),
        ),
      ),
    ),
  ),
)

ruling_find : FindAll ruling_rows
unfolding call_row
ruling_find = (
  bare_finds (codes "COMMIT") call.Commit refl tt,
  (
    bare_finds (codes "RESET") call.Reset refl tt,
    (
      new_finds,
      (
        on_error_finds,
        (bare_finds (codes "CANCEL") call.Cancel refl tt, (set_read_version_finds, tt)),
      ),
    ),
  ),
)

tested : (test : Bool) (row_name name : List ℕ) (read : List Elem → Result Request ℕ) (elements : List Elem) (request : Request)
    (more : Result Request ℕ) → (test ≡ true → name ≡ row_name) → FindsRow row_name read → (more ≡ Ok request → Says name elements request)
    → (if test then read elements else more) ≡ Ok request → Says name elements request
tested true row_name name read elements request more same finds later e =
    subst (λ (n : List ℕ). Says n elements request) (sym (same refl)) (finds elements request e)
tested false row_name name read elements request more same finds later e = later e

row_found : (rows : List ReadRow) → FindAll rows → (name : List ℕ) (elements : List Elem) (otherwise : Result Request ℕ) (request : Request)
    → (otherwise ≡ Ok request → Says name elements request) → row_in rows name elements otherwise ≡ Ok request → Says name elements request
row_found [] all name elements otherwise request later e = later e
row_found (row ∷ rows) all name elements otherwise request later e =
    tested (bytes_eq name row.0) row.0 name row.1 elements request (row_in rows name elements otherwise)
    (bytes_eq-Decides name row.0).0 all.0.0 (row_found rows all.1 name elements otherwise request later) e

named_found : (name : List ℕ) (elements : List Elem) (request : Request) → request_named name elements ≡ Ok request → Says name elements request
unfolding request_named writing_of ruling_of
named_found name elements request e =
    row_found reading_rows reading_find name elements (writing_of name elements) request
    (row_found writing_rows writing_find name elements (ruling_of name elements) request
    (row_found ruling_rows ruling_find name elements (Err (length elements + 1)) request (λ none. absurd cc))) e

-- ---- what is wrong

-- the same, with the name among the elements
pub record NamedStray (name : List ℕ) (read : List Elem → Result Request ℕ) (elements : List Elem) (left : ℕ) : Type 0 where
  pub place : ℕ
  pub is_place : suc (length elements) ≡ place + left
  pub request : Request
  pub is_clients : IsClients request
  pub before : take place (request_elements request) ≡ take place (elem.Bytes name ∷ elements)
  pub none : (others : List Elem) (other : Request) → read others ≡ Ok other
      → take (suc place) (elem.Bytes name ∷ others) ≢ take (suc place) (elem.Bytes name ∷ elements)

abbrev StraysNamed : (name : List ℕ) → (List Elem → Result Request ℕ) → Type 0
StraysNamed name read = (elements : List Elem) (left : ℕ) → read elements ≡ Err left → NamedStray name read elements left

strays_named : (name : List ℕ) (read : List Elem → Result Request ℕ) → StraysRow name read → StraysNamed name read
strays_named name read strays elements left e =
    let stray = strays elements left e in
    record {
      place = suc stray.place;
      is_place = let is = stray.is_place in omega arith;
      request = stray.request;
      is_clients = stray.is_clients;
      before = stray.before;
      none = λ others other h same. stray.none others other h cc;
    }

strays_tested : (test : Bool) (row_name name : List ℕ) (read more : List Elem → Result Request ℕ) → (test ≡ true → name ≡ row_name)
    → StraysRow row_name read → StraysNamed name more → StraysNamed name (λ elements. if test then read elements else more elements)
strays_tested true row_name name read more same strays later =
    strays_named name read (subst (λ (n : List ℕ). StraysRow n read) (sym (same refl)) strays)
strays_tested false row_name name read more same strays later = later

row_strays : (rows : List ReadRow) → FindAll rows → (name : List ℕ) (otherwise : List Elem → Result Request ℕ) → StraysNamed name otherwise
    → StraysNamed name (λ elements. row_in rows name elements (otherwise elements))
row_strays [] all name otherwise strays = strays
row_strays (row ∷ rows) all name otherwise strays =
    strays_tested (bytes_eq name row.0) row.0 name row.1 (λ elements. row_in rows name elements (otherwise elements))
    (bytes_eq-Decides name row.0).0 all.0.1 (row_strays rows all.1 name otherwise strays)

-- a name that no row has
unknown : (name : List ℕ) → StraysNamed name (λ elements. Err (length elements + 1))
unknown name elements left e = record {
  place = 0;
  is_place = let is : length elements + 1 ≡ left = cc in omega arith;
  request = asked.New [];
  is_clients = tt;
  before = refl;
  none = λ others other h. absurd cc;
}

named_strays : (name : List ℕ) → StraysNamed name (request_named name)
unfolding request_named writing_of ruling_of
named_strays name =
    row_strays reading_rows reading_find name (writing_of name)
    (row_strays writing_rows writing_find name (ruling_of name)
    (row_strays ruling_rows ruling_find name (λ elements. Err (length elements + 1)) (unknown name)))

-- what is read was spelled so
pub request_found : (elements : List Elem) (request : Request) → request_of elements ≡ Ok request
    → IsClients request × (elements ≡ request_elements request)
unfolding request_of
request_found elements request e =
    let one = parts (next_bytes elements) (λ (name : List ℕ × List Elem). request_named name.0 name.1) request e in
    let front = bytes_reader.reader.found elements one.0 one.1 in
    let said = named_found one.0.0 one.0.1 request one.2 in
    (said.0, front.0 ∙ said.1)

-- what is spelled so is read
pub request_again : (request : Request) → IsClients request → request_of (request_elements request) ≡ Ok request
unfolding request_of request_named writing_of ruling_of request_row call_row get_of get_key_of get_range_of get_range_selector_of set_of clear_of clear_range_of atomic_of read_conflict_of write_conflict_of set_read_version_of on_error_of bare_of new_of poll_of
request_again (asked.New name) is = alone_again bytes_reader.reader (λ (read : List ℕ). asked.New read) name tt
request_again (asked.PollStamp life) is = alone_again (IsStrict-next (IsKind-count (2 ^ 64)) 0 (lit< tt)).reader (λ (read : ℕ). asked.PollStamp read) life is
request_again (asked.On name (call.Get key snapshot)) is =
    call_again (IsStrict-both bytes_reader flag_reader) (λ read. call.Get read.0 read.1) name (key, snapshot) (tt, tt)
request_again (asked.On name (call.GetKey selector snapshot)) is =
    call_again (IsStrict-both selector_reader flag_reader) (λ read. call.GetKey read.0 read.1) name (selector, snapshot) (is, tt)
request_again (asked.On name (call.GetRange begin end options snapshot)) is =
    call_again (IsStrict-both selector_reader (IsStrict-both selector_reader (IsStrict-both options_reader flag_reader)))
    (λ read. call.GetRange read.0 read.1.0 read.1.1.0 read.1.1.1) name (begin, (end, (options, snapshot))) (is.0, (is.1, (is.2, tt)))
request_again (asked.On name (call.GetKeyRange range options snapshot)) is =
    call_again (IsStrict-both range_reader (IsStrict-both options_reader flag_reader))
    (λ read. call.GetKeyRange read.0 read.1.0 read.1.1) name (range, (options, snapshot)) (tt, (is, tt))
request_again (asked.On name (call.Set key value)) is =
    call_again (IsStrict-both bytes_reader bytes_reader) (λ read. call.Set read.0 read.1) name (key, value) (tt, tt)
request_again (asked.On name (call.Clear key)) is = call_again bytes_reader (λ read. call.Clear read) name key tt
request_again (asked.On name (call.ClearRange range)) is = call_again range_reader (λ read. call.ClearRange read) name range tt
request_again (asked.On name (call.Atomic op key operand)) is =
    call_again (IsStrict-both bytes_reader (IsStrict-both bytes_reader bytes_reader)) (λ read. call.Atomic read.0 read.1.0 read.1.1) name
    (op, (key, operand)) (tt, (tt, tt))
request_again (asked.On name (call.ReadConflict range)) is = call_again range_reader (λ read. call.ReadConflict read) name range tt
request_again (asked.On name (call.WriteConflict range)) is = call_again range_reader (λ read. call.WriteConflict read) name range tt
request_again (asked.On name call.NoWriteConflict) is = refl
request_again (asked.On name call.ReadVersion) is = refl
request_again (asked.On name (call.SetReadVersion version)) is =
    call_again (IsStrict-next (IsKind-signed (2 ^ 63)) (pos 0) (lit< tt)) (λ read. call.SetReadVersion read) name version is
request_again (asked.On name call.CommittedVersion) is = refl
request_again (asked.On name call.Versionstamp) is = refl
request_again (asked.On name call.Commit) is = refl
request_again (asked.On name (call.OnError code)) is =
    call_again (IsStrict-next (IsKind-count (2 ^ 16)) 0 (lit< tt)) (λ read. call.OnError (record { 0 = read })) name code.0 is
request_again (asked.On name call.Reset) is = refl
request_again (asked.On name call.Cancel) is = refl
request_again (asked.Database its) is = absurd is
request_again (asked.Directory name layer kind args) is = absurd is
request_again (asked.Log prefix entries) is = absurd is
request_again (asked.PollEmpty prefix) is = absurd is
request_again (asked.Start prefix) is = absurd is

-- ---- where reading stops

-- a request of a client is read by its name
read_by_name : (other : Request) → IsClients other → request_named (request_row other).0 (request_row other).1 ≡ Ok other
unfolding request_of
read_by_name other is = request_again other is

named_at : (name : List ℕ) (rest : List Elem) (left : ℕ) → request_named name rest ≡ Err left
    → IsStray (elem.Bytes name ∷ rest) (suc (length rest) - left)
named_at name rest left e =
    let stray = named_strays name rest left e in
    let is : stray.place ≡ suc (length rest) - left = let p = stray.is_place in omega arith in
    subst (IsStray (elem.Bytes name ∷ rest)) is (record {
      within = let p = stray.is_place in omega arith;
      request = stray.request;
      is_clients = stray.is_clients;
      before = stray.before;
      none = λ other clients same.
          let k : stray.place + 1 ≡ suc stray.place = omega arith in
          let fronts : take (suc stray.place) (request_elements other) ≡ take (suc stray.place) (elem.Bytes name ∷ rest) =
          ap (λ (n : ℕ). take n (request_elements other)) (sym k) ∙ same ∙ ap (λ (n : ℕ). take n (elem.Bytes name ∷ rest)) k in
          let named : (request_row other).0 ≡ name = cc fronts in
          let read : request_named name (request_row other).1 ≡ Ok other =
          ap (λ (n : List ℕ). request_named n (request_row other).1) (sym named) ∙ read_by_name other clients in
          let front : take (suc stray.place) (elem.Bytes name ∷ (request_row other).1) ≡ take (suc stray.place) (elem.Bytes name ∷ rest) =
          ap (λ (n : List ℕ). take (suc stray.place) (elem.Bytes n ∷ (request_row other).1)) (sym named) ∙ fronts in
          stray.none (request_row other).1 other read front;
    })

nameless_at : (element : Elem) (rest : List Elem) (left : ℕ) (kind : Option (List ℕ)) → bytes_in element ≡ kind
    → fitting kind rest >>= (λ (name : List ℕ × List Elem). request_named name.0 name.1) ≡ Err left
    → IsStray (element ∷ rest) (suc (length rest) - left)
nameless_at element rest left (Some name) is e =
    let its = (bytes_kind element name is).0 in
    subst (λ (x : Elem). IsStray (x ∷ rest) (suc (length rest) - left)) (sym its) (named_at name rest left e)
nameless_at element rest left None is e =
    let l : length rest + 1 ≡ left = cc in
    let place : 0 ≡ suc (length rest) - left = omega arith in
    subst (IsStray (element ∷ rest)) place (record {
      within = omega arith;
      request = asked.New [];
      is_clients = tt;
      before = refl;
      none = λ other clients same. next_wrong bytes_in element rest is (request_elements other) ((request_row other).0, (request_row other).1) refl same;
    })

pub request_stray : (elements : List Elem) (left : ℕ) → request_of elements ≡ Err left → IsStray elements (length elements - left)
unfolding request_of
request_stray [] left e =
    let l : 0 ≡ left = cc in
    let place : 0 ≡ length {A = Elem} [] - left = omega arith in
    subst (IsStray []) place (record {
      within = omega arith;
      request = asked.New [];
      is_clients = tt;
      before = refl;
      none = λ other clients same. next_missing bytes_in (request_elements other) ((request_row other).0, (request_row other).1) refl same;
    })
request_stray (element ∷ rest) left e = nameless_at element rest left (bytes_in element) refl e
