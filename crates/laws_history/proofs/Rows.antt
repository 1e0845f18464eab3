-- The law on two worked histories, computed.
use Rattle.std.proofs.Common.{◌≡◌, ℕ, inl, inr, true, false, List, [], ◌∷◌, Some, refl, ap, ◌∙◌}
use Rattle.std.specs.FinMap as finite
use Rattle.std.specs.Cmp.Lexicographic.{nat_list_cmp_total}
use Rattle.model_database.specs.Databases.{Set}
use Rattle.model_database.specs.Histories.{Commit, Wrote, HasRead, after_commits, conflicts, loaded}
use Rattle.model_database.specs.Intervals.{one}
use Rattle.model_database.specs.Reads.{Get, ValueIs, answer}
use Rattle.model_database.specs.States.{seen}
use Rattle.laws_history.specs.Whole.{fell_between, IsOneLegalHistory}
use Rattle.laws_history.proofs.Views.{get-seen}

-- the key k, and a value of one digit
abbrev k : List ℕ
k = 107 ∷ []

abbrev digit : ℕ → List ℕ
digit n = n ∷ []

-- the loaded database has 0 under k
abbrev first : Commit
first = loaded ((k, digit 48) ∷ [])

-- a transaction read 0 and set 1, at the first version
abbrev reader : Commit
reader = record {
  version = 1;
  script = HasRead (Get k) (ValueIs (Some (digit 48))) ∷ Wrote (Set k (digit 49)) true ∷ [];
  mutations = Set k (digit 49) ∷ [];
  read_ranges = one k ∷ [];
  write_conflicts = one k ∷ [];
  without_conflict = [];
}

-- another set 2 without a write conflict range
abbrev without_conflict_writer : Commit
without_conflict_writer = record {
  version = 1;
  script = Wrote (Set k (digit 50)) false ∷ [];
  mutations = Set k (digit 50) ∷ [];
  read_ranges = [];
  write_conflicts = [];
  without_conflict = one k ∷ [];
}

-- where the reader's like came first, a second one of the same version conflicts
second_conflicts : conflicts (first ∷ reader ∷ []) 1 (one k ∷ []) ≡ true
second_conflicts = refl

-- where the one without a write conflict range came first, the reader doesn't conflict
without_conflict_conflicts_not : conflicts (first ∷ without_conflict_writer ∷ []) 1 (one k ∷ []) ≡ false
without_conflict_conflicts_not = refl

-- but it fell between, and that history is legal by the exception
without_conflict_fell : fell_between (first ∷ without_conflict_writer ∷ []) reader ≡ true
without_conflict_fell = refl

without_conflict_legal : IsOneLegalHistory (first ∷ without_conflict_writer ∷ reader ∷ [])
without_conflict_legal = record { legal = (inl tt, (inl tt, (inr refl, tt))); last_is = refl }

-- its read isn't the one that it has run whole: there k has 2
without_conflict_not_whole : answer (Get k) (seen [] (after_commits (first ∷ without_conflict_writer ∷ []) finite.empty)) ≡ ValueIs (Some (digit 50))
unfolding answer
without_conflict_not_whole =
    ap ValueIs (get-seen [] (after_commits (first ∷ without_conflict_writer ∷ []) finite.empty) k
    ∙ finite.get-insert nat_list_cmp_total (after_commits (first ∷ []) finite.empty) k (digit 50) k)
