-- What reading an element that is no tuple may give.
use Rattle.std.proofs.Common.{◌≡◌, ℕ, Bool, List, ◌++◌, Result, Ok, Err}
use Rattle.fdb_tuple.specs.declared.fault.UnpackFault.{UnpackFault}
use Rattle.fdb_tuple.specs.declared.tuple.Elem.{Elem}
use Rattle.fdb_tuple.specs.Tuples.{Scalar, IsScalar}
use Rattle.fdb_tuple.specs.Listed.{element_of}
use Rattle.fdb_tuple.specs.Zeros.{IsNoEscape}
use Rattle.fdb_tuple.specs.Spelling.{scalar_spelled}
use Rattle.fdb_tuple.specs.Stops.{IsString}

-- the spelling of a scalar comes first, and then these bytes
pub record Taken (nested : Bool) (bytes : List ℕ) (element : Elem) (after : List ℕ) : Type 0 where
  pub scalar : Scalar
  pub element_is : element ≡ element_of scalar
  pub is_scalar : IsScalar scalar
  pub parts : bytes ≡ scalar_spelled nested scalar ++ after
  pub ends : IsString scalar → IsNoEscape after

-- the element that was read is the first one, or the fault is one that it has
abbrev pub ElementIs : (UnpackFault → Type 0) → Bool → List ℕ → Result (Elem × List ℕ) UnpackFault → Type 0
ElementIs IsFaultOf nested bytes (Ok x) = Taken nested bytes x.0 x.1
ElementIs IsFaultOf nested bytes (Err f) = IsFaultOf f
