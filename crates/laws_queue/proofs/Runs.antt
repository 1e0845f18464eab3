-- Each request keeps that commits did what their scripts wrote, so that in every run the law holds by the scripts alone.
use Rattle.std.proofs.Common.{◌≤◌, ℕ, zero, suc, List, [], ◌∷◌, ◌++◌, take, drop, refl, arith}
use Rattle.std.specs.Prelude.{⊤}
use Rattle.std.specs.List.{AllByRecursion}
use Rattle.model_database.specs.Histories.{Commit, History, stamp_of}
use Rattle.model_database.specs.Transactions.{Transaction, with_version}
use Rattle.fdb_calls.specs.Calling.{commit_of, next_version}
use Rattle.model_machine.specs.Held.{HoldsIn}
use Rattle.model_machine.specs.Runs.{start}
use Rattle.model_machine.specs.Worlds.{World, begun}
use Rattle.model_machine.proofs.Keeping.{IsKept}
use Rattle.model_machine.proofs.Requests.{request_keeps}
use Rattle.model_machine.proofs.Runs.{run_keeps}
use Rattle.laws_history.proofs.Legal.{runs_legal}
use Rattle.laws_queue.specs.Laws.{AreBegunWithScripts, AreScriptsKept, DidItsScript, HasScripts, RunsItemsComeOnce, commits_from}
use Rattle.laws_queue.proofs.Commits.{legal_once}

-- ---- lists

all_more : (commits : List Commit) (commit : Commit) → AllByRecursion DidItsScript commits → DidItsScript commit
    → AllByRecursion DidItsScript (commits ++ commit ∷ [])
all_more [] commit did is = (is, tt)
all_more (first ∷ commits) commit did is = (did.0, all_more commits commit did.1 is)

all_taken : (count : ℕ) (commits : List Commit) → AllByRecursion DidItsScript commits → AllByRecursion DidItsScript (take count commits)
all_taken zero commits did = tt
all_taken (suc count) [] did = tt
all_taken (suc count) (commit ∷ commits) did = (did.0, all_taken count commits did.1)

all_dropped : (count : ℕ) (commits : List Commit) → AllByRecursion DidItsScript commits → AllByRecursion DidItsScript (drop count commits)
all_dropped zero commits did = did
all_dropped (suc count) [] did = tt
all_dropped (suc count) (commit ∷ commits) did = all_dropped count commits did.1

-- ---- what each step keeps

-- nothing is asked of an open transaction
abbrev pub IsHeld : History → Transaction → Type 0
IsHeld history transaction = ⊤

has_more : (history : History) (commit : Commit) → HasScripts history → DidItsScript commit → HasScripts (history ++ commit ∷ [])
has_more [] commit has did = absurd (let some = has.some in omega (arith, some))
has_more (first ∷ later) commit has did = record { some = omega arith; did = all_more later commit has.did did }

pub law_kept : IsKept HasScripts IsHeld
law_kept = record {
  calls = λ setting has. record {
    acts = record {
      taken = λ t held. tt;
      read = λ t snapshot read reached held. tt;
      write = λ t mutation none held. tt;
      write_conflict = λ t range held. tt;
      disabling = λ t held. tt;
    };
    begun = λ life. tt;
    set_version = λ t version none above held. tt;
    read_conflict = λ t range held. tt;
    phase = λ t phase held. tt;
  };
  allocators = λ setting has t space words held. tt;
  later = λ history more t held. tt;
  commit = λ setting t has none held.
      has_more setting.history (commit_of (stamp_of (next_version setting)) setting (with_version setting t)) has
      (record { version = next_version setting; is = refl });
}

pub scripts_begin : AreBegunWithScripts
scripts_begin pairs arguments = record { some = omega arith; did = tt }

pub holds : (world : World) → HasScripts world.setting.history → HoldsIn HasScripts IsHeld world
holds world has = record { grown = has; held = λ name t found. tt }

pub scripts_kept : AreScriptsKept
scripts_kept world given has = (request_keeps HasScripts IsHeld law_kept world given (holds world has)).there.grown

-- ---- the law

-- each commit behind a version past the first did its script
pub all_did : (history : History) (version count : ℕ) → HasScripts history → 1 ≤ version → AllByRecursion DidItsScript (commits_from version count history)
all_did history zero count has past = absurd (omega (arith, past))
all_did [] (suc version) count has past = absurd (let some = has.some in omega (arith, some))
all_did (first ∷ later) (suc version) count has past = all_taken count (drop version later) (all_dropped version later has.did)

pub runs_once : RunsItemsComeOnce
runs_once pairs arguments order run space version count pushed popped small few is past of_queue none =
    let history = run.world.setting.history in
    let begins = holds (begun pairs arguments) (scripts_begin pairs arguments) in
    let after = run_keeps HasScripts IsHeld law_kept order (start pairs arguments) run begins is in
    legal_once history space version count pushed popped (runs_legal pairs arguments order run small few is) of_queue
    (all_did history version count after.there.grown past) none
