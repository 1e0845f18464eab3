-- Packed tuples as operands.
use Rattle.std.specs.Prelude.{◌≡◌, ℕ, List, Result, Ok, Err, Any, All, ⊤}
use Rattle.fdb_tuple.specs.declared.fault.UnpackFault.{UnpackFault}
use Rattle.fdb_tuple.specs.Tuples.{Elements, IsTuple}
use Rattle.fdb_tuple.specs.Spelling.{spelling}
use Rattle.fdb_tuple.specs.Reading.{read_tuple}
use Rattle.stack_items.specs.declared.fault.StackFault.{StackFault}
use Rattle.stack_items.specs.declared.fault.StackFault.TheVariants as fault

-- the bytes pack this tuple
pub record IsPacked (bytes : List ℕ) (tuple : Elements) : Type 0 where
  pub read : read_tuple bytes ≡ Ok tuple
  pub is_tuple : IsTuple tuple
  pub spelled : bytes ≡ spelling tuple

-- they pack some tuple
abbrev pub PacksSome : List ℕ → Type 0
PacksSome bytes = (tuple : Elements) × IsPacked bytes tuple

-- they pack none
abbrev pub PacksNone : List ℕ → Type 0
PacksNone bytes = (why : UnpackFault) × (read_tuple bytes ≡ Err why)

-- The bytes were unpacked, or pack no tuple, unless memory ran out.
abbrev pub Unpacks : Result Elements StackFault → List ℕ → Type 0
Unpacks (Ok tuple) bytes = IsPacked bytes tuple
Unpacks (Err fault.Underflow) bytes = ⊥
Unpacks (Err fault.Operand) bytes = PacksNone bytes
Unpacks (Err (fault.Waits life)) bytes = ⊥
Unpacks (Err fault.NoMemory) bytes = ⊤

-- Each of the byte strings packs a tuple, or one of them packs none, unless memory ran out.
abbrev pub UnpacksEach : {E : Type 0} → Result E StackFault → List (List ℕ) → Type 0
UnpacksEach (Ok done) strings = All PacksSome strings
UnpacksEach (Err fault.Underflow) strings = ⊥
UnpacksEach (Err fault.Operand) strings = Any PacksNone strings
UnpacksEach (Err (fault.Waits life)) strings = ⊥
UnpacksEach (Err fault.NoMemory) strings = ⊤
