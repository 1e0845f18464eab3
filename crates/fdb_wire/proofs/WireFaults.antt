-- Faults of tuples, as faults of the wire.
use Rattle.std.proofs.Common.{◌≡◌, ◌≢◌, ◌∙◌, ℕ, List, Result, Ok, Err, refl, sym, ap, IfOk, IfErr}
use Rattle.fdb_tuple.specs.declared.tuple.Elem.{Elem}
use Rattle.fdb_tuple.specs.declared.fault.UnpackFault.{UnpackFault}
use Rattle.fdb_tuple.specs.declared.fault.UnpackFault.TheVariants as unpack
use Rattle.fdb_tuple.specs.Tuples.{Elements, IsTuple}
use Rattle.fdb_tuple.specs.Listed.{tuple_of, elements_of, elements_of-tuple_of, tuple_of-elements_of}
use Rattle.fdb_tuple.specs.Spelling.{spelling}
use Rattle.fdb_tuple.specs.Reading.{Gives, Fails}
use Rattle.fdb_tuple.specs.Stops.{Stops}
use Rattle.fdb_calls.specs.declared.Request.{Request}
use Rattle.fdb_wire.specs.declared.fault.WireFault.{WireFault}
use Rattle.fdb_wire.specs.declared.fault.WireFault.TheVariants as fault
use Rattle.fdb_wire.specs.Elements.{packed}
use Rattle.fdb_wire.specs.Requests.{request_elements, request_bytes, IsClients, IsClientRequest}
use Rattle.fdb_wire.specs.Faults.{wire_fault}
use Rattle.fdb_wire.specs.Refusals.{HasStray, Refuses, IsRead}

-- bytes that spell a tuple are refused for want of memory alone
pub unread : (f : UnpackFault) (tuple : Elements) → Fails f (Ok tuple) → wire_fault f ≡ fault.NoMemory
unread unpack.NoMemory tuple e = refl
unread (unpack.Truncated place) tuple e = absurd cc
unread (unpack.BadCode place) tuple e = absurd cc
unread (unpack.NotMinimal place) tuple e = absurd cc
unread (unpack.TooBig place) tuple e = absurd cc
unread (unpack.BadUtf8 place) tuple e = absurd cc
unread (unpack.TooDeep place) tuple e = absurd cc

pub stops : (f : UnpackFault) (bytes : List ℕ) → (f ≢ unpack.NoMemory → Stops bytes f) → wire_fault f ≢ fault.NoMemory → Refuses bytes (wire_fault f)
stops unpack.NoMemory bytes h ne = absurd (ne refl)
stops (unpack.Truncated place) bytes h ne = h (λ e. cc)
stops (unpack.BadCode place) bytes h ne = h (λ e. cc)
stops (unpack.NotMinimal place) bytes h ne = h (λ e. cc)
stops (unpack.TooBig place) bytes h ne = h (λ e. cc)
stops (unpack.BadUtf8 place) bytes h ne = h (λ e. cc)
stops (unpack.TooDeep place) bytes h ne = h (λ e. cc)

-- ---- a tuple and its bytes

packed_is : (tuple : Elements) → packed (elements_of tuple) ≡ spelling tuple
unfolding packed
packed_is tuple = ap spelling (tuple_of-elements_of tuple)

pub found_by : (r : Result Request WireFault) (bytes : List ℕ) (tuple : Elements) → IsTuple tuple → bytes ≡ spelling tuple
    → IfOk r (λ request. IsClients request × (elements_of tuple ≡ request_elements request))
    → IfOk r (λ request. IsClientRequest request × (bytes ≡ request_bytes request))
found_by (Err why) bytes tuple is e h = tt
found_by (Ok request) bytes tuple is e h =
    let same : tuple ≡ tuple_of (request_elements request) = sym (tuple_of-elements_of tuple) ∙ ap tuple_of h.1 in
    ((h.0, rw (same) at is), e ∙ sym (packed_is tuple) ∙ ap packed h.1)

pub refused_by : (r : Result Request WireFault) (bytes : List ℕ) (tuple : Elements) → IsTuple tuple → bytes ≡ spelling tuple
    → IfErr r (λ why. why ≢ fault.NoMemory → HasStray (elements_of tuple) why) → IfErr r (λ why. why ≢ fault.NoMemory → Refuses bytes why)
refused_by (Ok request) bytes tuple is e h = tt
refused_by (Err (fault.NoTuple unpacked)) bytes tuple is e h = λ ne. absurd (h ne)
refused_by (Err fault.NoMemory) bytes tuple is e h = λ ne. absurd (ne refl)
refused_by (Err (fault.NoRequest place)) bytes tuple is e h = λ ne.
    let again : IsTuple (tuple_of (elements_of tuple)) = rw (tuple_of-elements_of tuple) is in
    (elements_of tuple, again, e ∙ sym (packed_is tuple), h ne)

-- what is spelled as a request has its elements
pub elements_by : (request : Request) (tuple : Elements) → tuple ≡ tuple_of (request_elements request) → elements_of tuple ≡ request_elements request
elements_by request tuple e = ap elements_of e ∙ elements_of-tuple_of (request_elements request)

pub spelled_so : (request : Request) → request_bytes request ≡ spelling (tuple_of (request_elements request))
unfolding packed
spelled_so request = refl
