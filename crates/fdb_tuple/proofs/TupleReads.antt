-- What an answer tells that is what reading gives.
use Rattle.std.proofs.Common.{◌≡◌, ◌≢◌, ℕ, List, Result, Ok, Err, refl, IfOk, IfErr}
use Rattle.fdb_tuple.specs.declared.fault.UnpackFault.{UnpackFault}
use Rattle.fdb_tuple.specs.declared.fault.UnpackFault.TheVariants as fault
use Rattle.fdb_tuple.specs.Tuples.{Elements, IsTuple}
use Rattle.fdb_tuple.specs.Spelling.{spelling}
use Rattle.fdb_tuple.specs.Reading.{Gives, Fails, read_tuple}
use Rattle.fdb_tuple.specs.Stops.{Stops}
use Rattle.fdb_tuple.proofs.ByteLists.{AreBytes}
use Rattle.fdb_tuple.proofs.ReadLaws.{read_tuple_found, read_tuple_stops}

pub found_by : (bytes : List ℕ) (r : Result Elements UnpackFault) → AreBytes bytes → Gives (λ t. t) r (read_tuple bytes)
    → IfOk r (λ tuple. IsTuple tuple × (bytes ≡ spelling tuple))
found_by bytes (Ok tuple) are given = read_tuple_found bytes tuple are given
found_by bytes (Err f) are given = tt

Fails-is : {X : Type 0} (f : UnpackFault) (r : Result X UnpackFault) → f ≢ fault.NoMemory → Fails f r → r ≡ Err f
Fails-is fault.NoMemory r ne e = absurd (ne refl)
Fails-is (fault.Truncated place) r ne e = e
Fails-is (fault.BadCode place) r ne e = e
Fails-is (fault.NotMinimal place) r ne e = e
Fails-is (fault.TooBig place) r ne e = e
Fails-is (fault.BadUtf8 place) r ne e = e
Fails-is (fault.TooDeep place) r ne e = e

pub stops_by : (bytes : List ℕ) (r : Result Elements UnpackFault) → AreBytes bytes → Gives (λ t. t) r (read_tuple bytes)
    → IfErr r (λ f. f ≢ fault.NoMemory → Stops bytes f)
stops_by bytes (Ok tuple) are given = tt
stops_by bytes (Err f) are given = λ ne. read_tuple_stops bytes f are (Fails-is f (read_tuple bytes) ne given)
