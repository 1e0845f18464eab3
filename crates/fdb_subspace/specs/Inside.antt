-- Reading a key of a subspace.
use Rattle.std.specs.Prelude.{◌≡◌, ℕ, if◌then◌else◌, List, length, drop, Result, Ok, Err, ⊤}
use Rattle.key_bytes.specs.Keys.{begins_with}
use Rattle.fdb_tuple.specs.declared.fault.UnpackFault.{UnpackFault}
use Rattle.fdb_tuple.specs.Tuples.{Elements}
use Rattle.fdb_tuple.specs.Reading.{read_tuple}
use Rattle.fdb_tuple.specs.Stops.{Stops}
use Rattle.fdb_subspace.specs.declared.fault.SubFault.{SubFault}
use Rattle.fdb_subspace.specs.declared.fault.SubFault.TheVariants as fault

abbrev pub behind_by : Result Elements UnpackFault → Result Elements SubFault
behind_by (Ok tuple) = Ok tuple
behind_by (Err fault') = Err (fault.Unpack fault')

-- what follows a prefix
abbrev pub behind_read : List ℕ → Result Elements SubFault
behind_read bytes = behind_by (read_tuple bytes)

-- the tuple of a key under a prefix, or the fault
abbrev pub key_read : List ℕ → List ℕ → Result Elements SubFault
key_read prefix key = if begins_with key prefix then behind_read (drop (length prefix) key) else Err fault.NotInside

-- what a call answers is what is read, unless memory ran out
abbrev pub Gives : Result Elements SubFault → Result Elements SubFault → Type 0
Gives (Ok tuple) read = read ≡ Ok tuple
Gives (Err fault.NotInside) read = read ≡ Err fault.NotInside
Gives (Err (fault.Unpack fault')) read = read ≡ Err (fault.Unpack fault')
Gives (Err fault.NoMemory) read = ⊤

-- a fault of what follows a prefix is that of its first faulty element
abbrev pub IsBehind : List ℕ → SubFault → Type 0
IsBehind bytes fault.NotInside = ⊤
IsBehind bytes (fault.Unpack fault') = Stops bytes fault'
IsBehind bytes fault.NoMemory = ⊤
