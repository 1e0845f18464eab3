-- What scripts wrote, and their write conflict ranges, part by part.
use Rattle.std.proofs.Common.{◌≡◌, ℕ, Bool, true, false, List, [], ◌∷◌, ◌++◌, refl, ap, ◌∙◌}
use Rattle.std.specs.Prelude.{if◌then◌else◌}
use Rattle.std.proofs.lemmas.List.{append-nil}
use Rattle.model_database.specs.Databases.{Mutation}
use Rattle.model_database.specs.States.{filled}
use Rattle.model_database.specs.Reads.{Read, Answer}
use Rattle.model_database.specs.Histories.{Script, Wrote, HasRead, Granted, written, write_range, write_conflicts_by, without_conflict_by}

-- ---- two scripts, one after the other

pub written-append : (first second : Script) → written (first ++ second) ≡ written first ++ written second
written-append [] second = refl
written-append (Wrote mutation adds_conflict ∷ first) second = ap (λ list. mutation ∷ list) (written-append first second)
written-append (HasRead read answer ∷ first) second = written-append first second
written-append (Granted space number from ∷ first) second = written-append first second

pub write_conflicts-append : (stamp : List ℕ) (first second : Script)
    → write_conflicts_by stamp (first ++ second) ≡ write_conflicts_by stamp first ++ write_conflicts_by stamp second
write_conflicts-append stamp [] second = refl
write_conflicts-append stamp (Wrote mutation true ∷ first) second =
    ap (λ list. write_range (filled stamp mutation) ∷ list) (write_conflicts-append stamp first second)
write_conflicts-append stamp (Wrote mutation false ∷ first) second = write_conflicts-append stamp first second
write_conflicts-append stamp (HasRead read answer ∷ first) second = write_conflicts-append stamp first second
write_conflicts-append stamp (Granted space number from ∷ first) second = write_conflicts-append stamp first second

pub without_conflict-append : (stamp : List ℕ) (first second : Script)
    → without_conflict_by stamp (first ++ second) ≡ without_conflict_by stamp first ++ without_conflict_by stamp second
without_conflict-append stamp [] second = refl
without_conflict-append stamp (Wrote mutation true ∷ first) second = without_conflict-append stamp first second
without_conflict-append stamp (Wrote mutation false ∷ first) second =
    ap (λ list. write_range (filled stamp mutation) ∷ list) (without_conflict-append stamp first second)
without_conflict-append stamp (HasRead read answer ∷ first) second = without_conflict-append stamp first second
without_conflict-append stamp (Granted space number from ∷ first) second = without_conflict-append stamp first second

-- ---- one write more

pub written_wrote : (script : Script) (mutation : Mutation) (adds_conflict : Bool)
    → written (script ++ Wrote mutation adds_conflict ∷ []) ≡ written script ++ mutation ∷ []
written_wrote script mutation adds_conflict = written-append script (Wrote mutation adds_conflict ∷ [])

pub write_conflicts_wrote : (stamp : List ℕ) (script : Script) (mutation : Mutation) (adds_conflict : Bool)
    → write_conflicts_by stamp (script ++ Wrote mutation adds_conflict ∷ [])
    ≡ write_conflicts_by stamp script ++ (if adds_conflict then write_range (filled stamp mutation) ∷ [] else [])
write_conflicts_wrote stamp script mutation true = write_conflicts-append stamp script (Wrote mutation true ∷ [])
write_conflicts_wrote stamp script mutation false = write_conflicts-append stamp script (Wrote mutation false ∷ [])

pub without_conflict_wrote : (stamp : List ℕ) (script : Script) (mutation : Mutation) (adds_conflict : Bool)
    → without_conflict_by stamp (script ++ Wrote mutation adds_conflict ∷ [])
    ≡ without_conflict_by stamp script ++ (if adds_conflict then [] else write_range (filled stamp mutation) ∷ [])
without_conflict_wrote stamp script mutation true = without_conflict-append stamp script (Wrote mutation true ∷ [])
without_conflict_wrote stamp script mutation false = without_conflict-append stamp script (Wrote mutation false ∷ [])

-- ---- a read writes nothing

pub written_read : (script : Script) (read : Read) (answer : Answer) → written (script ++ HasRead read answer ∷ []) ≡ written script
written_read script read answer = written-append script (HasRead read answer ∷ []) ∙ append-nil (written script)

pub write_conflicts_read : (stamp : List ℕ) (script : Script) (read : Read) (answer : Answer)
    → write_conflicts_by stamp (script ++ HasRead read answer ∷ []) ≡ write_conflicts_by stamp script
write_conflicts_read stamp script read answer =
    write_conflicts-append stamp script (HasRead read answer ∷ []) ∙ append-nil (write_conflicts_by stamp script)

pub without_conflict_read : (stamp : List ℕ) (script : Script) (read : Read) (answer : Answer)
    → without_conflict_by stamp (script ++ HasRead read answer ∷ []) ≡ without_conflict_by stamp script
without_conflict_read stamp script read answer = without_conflict-append stamp script (HasRead read answer ∷ []) ∙ append-nil (without_conflict_by stamp script)

-- ---- nor does a number that was granted

pub written_granted : (script : Script) (space : List ℕ) (number from : ℕ) → written (script ++ Granted space number from ∷ []) ≡ written script
written_granted script space number from = written-append script (Granted space number from ∷ []) ∙ append-nil (written script)

pub write_conflicts_granted : (stamp : List ℕ) (script : Script) (space : List ℕ) (number from : ℕ)
    → write_conflicts_by stamp (script ++ Granted space number from ∷ []) ≡ write_conflicts_by stamp script
write_conflicts_granted stamp script space number from =
    write_conflicts-append stamp script (Granted space number from ∷ []) ∙ append-nil (write_conflicts_by stamp script)

pub without_conflict_granted : (stamp : List ℕ) (script : Script) (space : List ℕ) (number from : ℕ)
    → without_conflict_by stamp (script ++ Granted space number from ∷ []) ≡ without_conflict_by stamp script
without_conflict_granted stamp script space number from =
    without_conflict-append stamp script (Granted space number from ∷ []) ∙ append-nil (without_conflict_by stamp script)
