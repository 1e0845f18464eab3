-- Atomic operations by their names, and the room of stamped ones.
use Rattle.std.proofs.Common.{◌≡◌, ℕ, Bool, true, false, List, [], ◌∷◌, Option, Some, None, Result, Err, refl, sym, ap, subst, ◌∙◌}
use Rattle.model_database.specs.declared.Api.{Api}
use Rattle.model_database.specs.declared.AtomicOp.{AtomicOp}
use Rattle.model_database.specs.declared.Code.{Code}
use Rattle.model_database.specs.declared.Phase.{Phase}
use Rattle.model_database.specs.declared.Phase.TheVariants as phase
use Rattle.model_database.specs.declared.TheConstants.{CLIENT_INVALID_OPERATION, INVALID_MUTATION_TYPE}
use Rattle.model_database.specs.Databases.{Atomic}
use Rattle.model_database.specs.Transactions.{first_failing, after_phase, key_checks, key_asked, lacks_room, named_checks, op_code, atomic_code}
use Rattle.model_database.specs.Atomics.{atomic_named}
use Rattle.fdb_calls.specs.declared.fault.TrFault.{TrFault}
use Rattle.fdb_calls.specs.declared.fault.TrFault.TheVariants as fault
use Rattle.txn_calls.specs.Stands.{Kept}
use Rattle.txn_calls.specs.Accesses.{StandsOn, Writes, WritesNamed}

-- an operation that no check refuses has room for its versionstamp
has_room_by : (now : Phase) (lacks : Bool) (checks : List (Bool × ℕ))
    → first_failing (after_phase now ((lacks, CLIENT_INVALID_OPERATION) ∷ checks)) ≡ None → lacks ≡ false
has_room_by phase.Active true checks none = absurd cc
has_room_by phase.Active false checks none = refl
has_room_by phase.Cancelled lacks checks none = absurd cc
has_room_by (phase.Tried outcome) lacks checks none = absurd cc

pub has_room_of : (now : Phase) (op : AtomicOp) (key operand : List ℕ) → op_code now op key operand ≡ None → lacks_room op key operand ≡ false
unfolding op_code
has_room_of now op key operand none = has_room_by now (lacks_room op key operand) (key_checks (key_asked op key) operand) none

-- the code of a phase that takes no call comes before all others
phase_first : (now : Phase) (checks : List (Bool × ℕ)) (code : ℕ) → first_failing (after_phase now []) ≡ Some code
    → first_failing (after_phase now checks) ≡ Some code
phase_first phase.Active checks code is = absurd cc
phase_first phase.Cancelled checks code is = is
phase_first (phase.Tried outcome) checks code is = is

-- one that is refused, whether its name is known or not
refused_named : (A : Type 0) (op : Option AtomicOp) (old new : Kept) (code : Option ℕ) (refused : Code) (key operand : List ℕ)
    → code ≡ Some refused.0 → StandsOn old new → WritesNamed {A = A} (Err (fault.Code refused)) old new code op key operand
refused_named A None old new code refused key operand is stands = (is, stands)
refused_named A (Some op) old new code refused key operand is stands = (is, stands)

pub refused_by_phase : (A : Type 0) (api : Api) (now : Phase) (name key operand : List ℕ) (old new : Kept) (refused : Code)
    → first_failing (after_phase now []) ≡ Some refused.0 → StandsOn old new
    → WritesNamed {A = A} (Err (fault.Code refused)) old new (atomic_code api now name key operand) (atomic_named api name) key operand
unfolding atomic_code
refused_by_phase A api now name key operand old new refused is stands =
    refused_named A (atomic_named api name) old new _ refused key operand
    (phase_first now (named_checks (atomic_named api name) key operand) refused.0 is) stands

unknown_code : (now : Phase) → first_failing (after_phase now []) ≡ None
    → first_failing (after_phase now ((true, INVALID_MUTATION_TYPE) ∷ [])) ≡ Some INVALID_MUTATION_TYPE
unknown_code phase.Active none = refl
unknown_code phase.Cancelled none = absurd cc
unknown_code (phase.Tried outcome) none = absurd cc

pub refused_unknown : (A : Type 0) (api : Api) (now : Phase) (name key operand : List ℕ) (old new : Kept) (refused : Code)
    → first_failing (after_phase now []) ≡ None → None ≡ atomic_named api name → refused.0 ≡ INVALID_MUTATION_TYPE → StandsOn old new
    → WritesNamed {A = A} (Err (fault.Code refused)) old new (atomic_code api now name key operand) (atomic_named api name) key operand
unfolding atomic_code
refused_unknown A api now name key operand old new refused none unknown is stands =
    refused_named A (atomic_named api name) old new _ refused key operand
    (ap (λ op. first_failing (after_phase now (named_checks op key operand))) (sym unknown) ∙ unknown_code now none ∙ ap (λ n. Some n) (sym is)) stands

pub known_writes : {A : Type 0} (result : Result A TrFault) (api : Api) (now : Phase) (op : AtomicOp) (name key operand : List ℕ) (old new : Kept)
    → Some op ≡ atomic_named api name → Writes result old new (op_code now op key operand) (Atomic op key operand)
    → WritesNamed result old new (atomic_code api now name key operand) (atomic_named api name) key operand
unfolding atomic_code op_code
known_writes result api now op name key operand old new known writes =
    subst (λ found. WritesNamed result old new (first_failing (after_phase now (named_checks found key operand))) found key operand) known writes
