-- Why bytes are no request of a client.
use Rattle.std.specs.Prelude.{◌≡◌, ◌≢◌, ℕ, ◌+◌, ◌≤◌, List, length, take, Result, Ok, Err}
use Rattle.fdb_tuple.specs.declared.tuple.Elem.{Elem}
use Rattle.fdb_tuple.specs.Tuples.{IsTuple}
use Rattle.fdb_tuple.specs.Listed.{tuple_of}
use Rattle.fdb_tuple.specs.Stops.{Stops}
use Rattle.fdb_calls.specs.declared.Request.{Request}
use Rattle.fdb_wire.specs.declared.fault.WireFault.{WireFault}
use Rattle.fdb_wire.specs.declared.fault.WireFault.TheVariants as fault
use Rattle.fdb_wire.specs.Elements.{packed}
use Rattle.fdb_wire.specs.Requests.{request_elements, IsClients}

-- the element at a place, or the end there, is the first that is wrong: some request has the same before it, and none has the same
-- up to it
pub record IsStray (elements : List Elem) (place : ℕ) : Type 0 where
  pub within : place ≤ length elements
  pub request : Request
  pub is_clients : IsClients request
  pub before : take place (request_elements request) ≡ take place elements
  pub none : (other : Request) → IsClients other → take (place + 1) (request_elements other) ≢ take (place + 1) elements

-- a fault tells which of these elements is wrong
abbrev pub HasStray : List Elem → WireFault → Type 0
HasStray elements (fault.NoTuple unpacked) = ⊥
HasStray elements (fault.NoRequest place) = IsStray elements place
HasStray elements fault.NoMemory = ⊥

-- bytes are refused by a fault: no tuple is packed so, and this is the first faulty element; or a tuple is, which has this wrong element
abbrev pub Refuses : List ℕ → WireFault → Type 0
Refuses bytes (fault.NoTuple unpacked) = Stops bytes unpacked
Refuses bytes (fault.NoRequest place) =
    (elements : List Elem) × IsTuple (tuple_of elements) × (bytes ≡ packed elements) × IsStray elements place
Refuses bytes fault.NoMemory = ⊥

-- this request was read, unless memory ran out
abbrev pub IsRead : Result Request WireFault → Request → Type 0
IsRead (Ok read) request = read ≡ request
IsRead (Err why) request = why ≡ fault.NoMemory
