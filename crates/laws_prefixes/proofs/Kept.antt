-- Each change of a transaction keeps what is held of it, and each commit keeps a grown history: all that this law has to show of
-- its own, so that it holds of every world that requests reach.
use Rattle.std.proofs.Common.{◌≡◌, ℕ, ◌≤◌, Bool, List, [], ◌∷◌, ◌++◌, None, refl, sym, ap, subst}
use Rattle.std.proofs.lemmas.Option.{same_Some}
use Rattle.model_database.specs.declared.TheConstants.{FUTURE_VERSION, NOT_COMMITTED, TRANSACTION_TOO_OLD}
use Rattle.model_database.specs.Histories.{Commit, History, Setting, at, conflicts, last, stamp_of}
use Rattle.model_database.specs.Transactions.{Transaction, conflict_checks, first_failing, is_ahead, is_behind, version_in, with_version}
use Rattle.fdb_calls.specs.Calling.{commit_of, next_version}
use Rattle.model_allocator.specs.Granting.{Ending, Grants, IsFull, IsNoCounter, IsRefused, allocated}
use Rattle.model_machine.proofs.Chains.{one_more}
use Rattle.model_machine.proofs.Keeping.{AreCallsKept, IsKept}
use Rattle.model_machine.proofs.Calls.{passed}
use Rattle.laws_prefixes.specs.Prefixes.{IsGranting}
use Rattle.laws_prefixes.specs.Held.{IsFitCommit, IsGrantIn, IsGrantOf, IsGrown, IsHeld, IsSound, IsSpent}
use Rattle.laws_prefixes.proofs.Granting.{granted_has, other_grown}
use Rattle.laws_prefixes.proofs.Holding.{fresh_held, granted_held, grown_held, later_held}
use Rattle.laws_prefixes.proofs.Recording.{answered_grown, mutation_grown, phase_grown, read_range_grown, set_version_grown, write_conflict_disabled_grown, version_grown, write_range_grown}

-- ---- changes

calls_kept : (setting : Setting) → AreCallsKept setting (IsHeld setting.history)
calls_kept setting = record {
  acts = record {
    taken = λ t held. grown_held setting.history t _ (version_grown setting t) held;
    read = λ t snapshot read reached held.
        grown_held setting.history (with_version setting t) _ (answered_grown snapshot read _ _ (with_version setting t)) held;
    write = λ t mutation none held. grown_held setting.history t _ (mutation_grown t mutation) held;
    write_conflict = λ t range held. grown_held setting.history t _ (write_range_grown t range) held;
    disabling = λ t held. grown_held setting.history t _ (write_conflict_disabled_grown t) held;
  };
  begun = fresh_held setting.history;
  set_version = λ t version none above held. grown_held setting.history t _ (set_version_grown t version none) held;
  read_conflict = λ t range held. grown_held setting.history t _ (read_range_grown t range) held;
  phase = λ t phase held. grown_held setting.history t _ (phase_grown t phase) held;
}

-- a call of an allocator keeps what is held, whatever it ended with
allocated_held : (setting : Setting) (transaction : Transaction) (space : List ℕ) (words : ℕ → ℕ)
    → IsHeld setting.history transaction
    → IsHeld setting.history (allocated setting transaction space words).transaction
allocated_held setting transaction space words held = by (allocated setting transaction space words).ending refl
  where
    other : ((number : ℕ) → (allocated setting transaction space words).ending ≡ Grants number → ⊥)
        → IsHeld setting.history (allocated setting transaction space words).transaction
    other none = grown_held setting.history transaction (allocated setting transaction space words).transaction
        (other_grown setting transaction space words none) held

    by : (ending : Ending) → (allocated setting transaction space words).ending ≡ ending
        → IsHeld setting.history (allocated setting transaction space words).transaction
    by (Grants number) is = granted_held setting space number transaction (allocated setting transaction space words).transaction
        (granted_has setting transaction space words number is) held
    by (IsFull start) is = other (λ number grants. absurd cc)
    by (IsNoCounter key) is = other (λ number grants. absurd cc)
    by (IsRefused code) is = other (λ number grants. absurd cc)

-- ---- a commit

-- what a number that an open transaction granted is to its commit
grant_in : (setting : Setting) (stamp space : List ℕ) (transaction : Transaction) (number : ℕ)
    → IsGrantOf setting.history stamp space (with_version setting transaction) number
    → IsGrantIn setting.history space (commit_of stamp setting (with_version setting transaction)) number
grant_in setting stamp space transaction number grant =
    let same : grant.version ≡ version_in setting transaction =
    same_Some grant.version (version_in setting transaction) (sym grant.taken) in record {
      small = grant.small;
      reached = subst (λ n. n ≤ last setting.history) same grant.reached;
      free = subst (λ n. IsSpent space number (at setting.history n) → ⊥) same grant.free;
      spent = grant.filled_spent;
      read_conflict = grant.read_conflict;
      adds_conflict = grant.adds_conflict;
    }

-- where no later check fails, the commit is fit for each subspace on which its allocator alone wrote
commit_fit : (setting : Setting) (transaction : Transaction) (space : List ℕ)
    → first_failing (conflict_checks setting (with_version setting transaction)) ≡ None
    → IsHeld setting.history (with_version setting transaction)
    → IsGranting (stamp_of (next_version setting)) space transaction.script
    → IsFitCommit setting.history space (commit_of (stamp_of (next_version setting)) setting (with_version setting transaction))
commit_fit setting transaction space none held granting =
    let stamp = stamp_of (next_version setting) in
    let fit = held stamp space granting in
    let conflict : Bool × ℕ = (conflicts setting.history (version_in setting transaction) transaction.read_ranges, NOT_COMMITTED) in record {
      fit = fit.filled;
      grants = λ place number found. grant_in setting stamp space transaction number (fit.grants place number found);
      distinct = fit.distinct;
      judged =
          let taken = with_version setting transaction in
          let ahead : Bool × ℕ = (is_ahead setting taken, FUTURE_VERSION) in
          (passed conflict [] (passed ahead (conflict ∷ []) (passed (is_behind setting taken, TRANSACTION_TOO_OLD) (ahead ∷ conflict ∷ []) none).1).1).0;
    }

-- a grown history and a sound commit more
grown_more : (history : History) (commit : Commit) → IsGrown history → IsSound history commit → IsGrown (history ++ commit ∷ [])
grown_more history commit grown sound = record {
  first = grown.first;
  later = grown.later ++ commit ∷ [];
  is = ap (λ earlier. earlier ++ commit ∷ []) grown.is;
  sound = one_more IsSound (grown.first ∷ []) grown.later commit grown.sound (subst (λ earlier. IsSound earlier commit) grown.is sound);
}

-- ---- all of it

pub law_kept : IsKept IsGrown IsHeld
law_kept = record {
  calls = λ setting grown. calls_kept setting;
  allocators = λ setting grown. allocated_held setting;
  later = later_held;
  commit = λ setting t grown none held.
      grown_more setting.history _ grown (λ space granting. commit_fit setting t space none held granting);
}
