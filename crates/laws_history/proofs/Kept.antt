-- Each change of a transaction keeps what is held of it, and each commit keeps a grown history: all that this law has to show of
-- its own, so that it holds of every world that requests reach.
use Rattle.std.proofs.Common.{◌≡◌, ℕ, ◌+◌, ◌^◌, ◌<◌, ◌≤◌, Bool, true, List, [], ◌∷◌, ◌++◌, None, inl, inr, refl, sym, ap, subst, ◌∙◌, length-append, arith}
use Rattle.std.specs.Prelude.{◌||◌}
use Rattle.std.proofs.lemmas.Bool.{or_cases, or_left, or_right}
use Rattle.key_bytes.specs.declared.range.KeyRange.{KeyRange}
use Rattle.model_database.specs.declared.TheConstants.{FUTURE_VERSION, NOT_COMMITTED, TRANSACTION_TOO_OLD}
use Rattle.model_database.specs.declared.Phase.{Phase}
use Rattle.model_database.specs.Databases.{Mutation, Set, Clear, ClearRange, Atomic}
use Rattle.model_database.specs.Histories.{Commit, History, Setting, conflicts, write_conflicts_by, last, without_conflict_by, stamp_of}
use Rattle.model_database.specs.States.{covers}
use Rattle.model_database.specs.Transactions.{Transaction, conflict_checks, first_failing, is_ahead, is_behind, version_in, with_version, writes_of}
use Rattle.model_database.proofs.States.{covers-append}
use Rattle.fdb_calls.specs.Calling.{commit_of, next_version}
use Rattle.model_allocator.proofs.Keeping.{allocated_keeps}
use Rattle.model_machine.proofs.Chains.{one_more}
use Rattle.model_machine.proofs.Keeping.{AreActsKept, AreCallsKept, IsKept, write_code}
use Rattle.model_machine.proofs.Calls.{act_quiet, passed}
use Rattle.laws_history.specs.Small.{is_small}
use Rattle.laws_history.specs.Held.{IsGrown, IsHeld, IsSound}
use Rattle.laws_history.proofs.Smallness.{set_small, op_small, filled_small}
use Rattle.laws_history.proofs.Unmet.{written_covered}
use Rattle.laws_history.proofs.Holding.{fresh_held, later_held, mutation_held, noted_held, phase_held, read_held, read_range_held, set_version_held, write_conflict_disabled_held, version_held, write_range_held}

-- ---- what a history is while versions are left

-- it has a commit, and is grown unless a version of it has a versionstamp of more than 63 bits
pub record IsGrownInRange (history : History) : Type 0 where
  pub some : 1 ≤ last history
  pub grown : last history < 2 ^ 63 → IsGrown history

-- ---- changes

-- a write that no check refuses is small
write_small : (phase : Phase) (mutation : Mutation) → write_code phase mutation ≡ None → is_small mutation ≡ true
write_small phase (Set key value) none = set_small phase key value none
write_small phase (Clear key) none = refl
write_small phase (ClearRange begin end) none = refl
write_small phase (Atomic op key operand) none = op_small phase op key operand none

acts_kept : (setting : Setting) → 1 ≤ last setting.history → AreActsKept setting (IsHeld setting.history)
acts_kept setting some = record {
  taken = λ t held. version_held setting t some held;
  read = read_held setting;
  write = λ t mutation none held. mutation_held setting.history t mutation (write_small t.phase mutation none) held;
  write_conflict = write_range_held setting.history;
  disabling = write_conflict_disabled_held setting.history;
}

calls_kept : (setting : Setting) → 1 ≤ last setting.history → AreCallsKept setting (IsHeld setting.history)
calls_kept setting some = record {
  acts = acts_kept setting some;
  begun = fresh_held setting.history;
  set_version = set_version_held setting.history;
  read_conflict = read_range_held setting.history;
  phase = phase_held setting.history;
}

-- ---- a commit

-- where no later check fails, the commit is sound
commit_sound : (setting : Setting) (transaction : Transaction) → last setting.history + 1 < 2 ^ 63
    → first_failing (conflict_checks setting (with_version setting transaction)) ≡ None
    → IsHeld setting.history (with_version setting transaction)
    → IsSound setting.history (commit_of (stamp_of (next_version setting)) setting (with_version setting transaction))
commit_sound setting transaction few none held =
    let stamp = stamp_of (next_version setting) in
    let without_conflict = without_conflict_by stamp transaction.script in
    let own = write_conflicts_by stamp transaction.script in
    let conflict : Bool × ℕ = (conflicts setting.history (version_in setting transaction) transaction.read_ranges, NOT_COMMITTED) in record {
      answered = held.answered;
      ranged = λ key touched. covers-append (own ++ transaction.write_ranges) without_conflict key
          ∙ by_either own transaction.write_ranges without_conflict key
          (sym (covers-append own without_conflict key) ∙ written_covered stamp transaction.script key touched);
      judged =
          let taken = with_version setting transaction in
          let ahead : Bool × ℕ = (is_ahead setting taken, FUTURE_VERSION) in
          (passed conflict [] (passed ahead (conflict ∷ []) (passed (is_behind setting taken, TRANSACTION_TOO_OLD) (ahead ∷ conflict ∷ []) none).1).1).0;
      small = filled_small (next_version setting) (writes_of transaction) few held.small;
    }
  where
    by_either : (own told without_conflict : List KeyRange) (key : List ℕ) → (covers own key || covers without_conflict key) ≡ true
        → (covers (own ++ told) key || covers without_conflict key) ≡ true
    by_either own told without_conflict key either =
        elim (or_cases (covers own key) (covers without_conflict key) either) [
          | inl first ↦ or_left (covers (own ++ told) key) (covers without_conflict key)
              (covers-append own told key ∙ or_left (covers own key) (covers told key) first)
          | inr second ↦ or_right (covers (own ++ told) key) (covers without_conflict key) second
        ]

-- a grown history and a sound commit more
grown_more : (history : History) (commit : Commit) → IsGrown history → IsSound history commit → IsGrown (history ++ commit ∷ [])
grown_more history commit grown sound = record {
  first = grown.first;
  later = grown.later ++ commit ∷ [];
  is = ap (λ earlier. earlier ++ commit ∷ []) grown.is;
  sound = one_more IsSound (grown.first ∷ []) grown.later commit grown.sound (subst (λ earlier. IsSound earlier commit) grown.is sound);
  bare = grown.bare;
  small = grown.small;
}

commit_grown : (setting : Setting) (t : Transaction) → IsGrownInRange setting.history
    → first_failing (conflict_checks setting (with_version setting t)) ≡ None → IsHeld setting.history (with_version setting t)
    → IsGrownInRange (setting.history ++ commit_of (stamp_of (next_version setting)) setting (with_version setting t) ∷ [])
commit_grown setting t grown none held =
    let commit = commit_of (stamp_of (next_version setting)) setting (with_version setting t) in
    let longer : last (setting.history ++ commit ∷ []) ≡ last setting.history + 1 = length-append setting.history (commit ∷ []) in record {
      some = omega (arith, longer);
      grown = λ short. grown_more setting.history commit (grown.grown (omega (arith, longer, short)))
          (commit_sound setting t (omega (arith, longer, short)) none held);
    }

-- ---- all of it

pub law_kept : IsKept IsGrownInRange IsHeld
law_kept = record {
  calls = λ setting grown. calls_kept setting grown.some;
  allocators = λ setting grown t space words held. allocated_keeps setting (IsHeld setting.history) t space words
      (λ t act held. (act_quiet setting (IsHeld setting.history) (acts_kept setting grown.some) t act held).kept)
      (noted_held setting.history) held;
  later = later_held;
  commit = commit_grown;
}
