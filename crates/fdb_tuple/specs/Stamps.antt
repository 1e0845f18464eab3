-- Incomplete versionstamps of a tuple, and its packed bytes with the place of the one that it has (tuple.md,
-- "Versionstamp").
use Rattle.std.specs.Prelude.{◌≡◌, ℕ, ◌+◌, Bool, true, false, if◌then◌else◌, bytes_eq, List, [], ◌∷◌, ◌++◌, length, Result, Ok, Err}
use Rattle.std.specs.Int.{w32, to_le_bytes}
use Rattle.fdb_tuple.specs.declared.fault.StampPackFault.{StampPackFault}
use Rattle.fdb_tuple.specs.declared.fault.StampPackFault.TheVariants as fault
use Rattle.fdb_tuple.specs.Tuples.{Scalar, Stamp, Elements, Empty, Single, Nested}
use Rattle.fdb_tuple.specs.Spelling.{scalar_spelled, spelled_in, spelling}

-- ten FF bytes mark a versionstamp as incomplete
abbrev pub incomplete : List ℕ
incomplete = 255 ∷ 255 ∷ 255 ∷ 255 ∷ 255 ∷ 255 ∷ 255 ∷ 255 ∷ 255 ∷ 255 ∷ []

-- the place of a versionstamp's ten bytes behind its code at a place, where it is incomplete
abbrev pub scalar_places : ℕ → Scalar → List ℕ
scalar_places at (Stamp stamp user) = if bytes_eq stamp incomplete then (at + 1) ∷ [] else []
scalar_places at _ = []

-- the places of the ten bytes of each incomplete versionstamp, at any depth, where the elements' bytes begin at a place
abbrev pub stamp_places : Bool → ℕ → Elements → List ℕ
stamp_places nested at Empty = []
stamp_places nested at (Single scalar rest) = scalar_places at scalar ++ stamp_places nested (at + length (scalar_spelled nested scalar)) rest
stamp_places nested at (Nested inner rest) = stamp_places true (at + 1) inner ++ stamp_places nested (at + 1 + length (spelled_in true inner) + 1) rest

-- the bytes, with the place of the ten bytes behind them, where there is one place
abbrev pub with_place : List ℕ → List ℕ → Result (List ℕ) StampPackFault
with_place bytes [] = Err fault.NoStamp
with_place bytes (place ∷ []) = Ok (bytes ++ to_le_bytes w32 place)
with_place bytes (place ∷ other ∷ more) = Err fault.ManyStamps

-- a prefix and the packed tuple behind it, with the place of the ten bytes of its one incomplete versionstamp
unfoldable pub stamp_packed : List ℕ → Elements → Result (List ℕ) StampPackFault
stamp_packed prefix tuple = with_place (prefix ++ spelling tuple) (stamp_places false (length prefix) tuple)

-- what a call answers is what is said, unless memory ran out
abbrev pub GivesPacked : Result (List ℕ) StampPackFault → Result (List ℕ) StampPackFault → Type 0
GivesPacked (Ok packed) said = said ≡ Ok packed
GivesPacked (Err fault.NoStamp) said = said ≡ Err fault.NoStamp
GivesPacked (Err fault.ManyStamps) said = said ≡ Err fault.ManyStamps
GivesPacked (Err fault.NoMemory) said = Unit {0}
