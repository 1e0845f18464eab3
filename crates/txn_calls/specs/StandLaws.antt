-- What is kept of a transaction stands for it.
use Rattle.std.specs.Prelude.{◌≡◌, ℕ, Bool, true, false, ◌&&◌, List, [], ◌∷◌, ◌++◌, length, nat_lt, refl}
use Rattle.std.proofs.Common.{ap, sym, subst, ◌∙◌}
use Rattle.model_database.specs.States.{covers, filled, all_filled}
use Rattle.model_database.specs.Histories.{Script, Wrote, HasRead, Granted, written, write_range, write_conflicts_by}
use Rattle.model_database.specs.Transactions.{Transaction, writes_of, with_granted}
use Rattle.model_database.proofs.AddingConflicts.{written_granted, write_conflicts_granted}
use Rattle.txn_calls.specs.Stands.{Kept, SameMutations, StandsFor, write_conflicts_among}

-- of each mutation of a script whether it has a write conflict range
abbrev pub adding_conflicts : Script → List Bool
adding_conflicts [] = []
adding_conflicts (Wrote mutation adds_conflict ∷ script) = adds_conflict ∷ adding_conflicts script
adding_conflicts (HasRead read answer ∷ script) = adding_conflicts script
adding_conflicts (Granted space number from ∷ script) = adding_conflicts script

write_conflicts_same : (stamp : List ℕ) (script : Script) → write_conflicts_among (all_filled stamp (written script)) (adding_conflicts script) ≡ write_conflicts_by stamp script
write_conflicts_same stamp [] = refl
write_conflicts_same stamp (Wrote mutation true ∷ script) = λ i. write_range (filled stamp mutation) ∷ write_conflicts_same stamp script i
write_conflicts_same stamp (Wrote mutation false ∷ script) = write_conflicts_same stamp script
write_conflicts_same stamp (HasRead read answer ∷ script) = write_conflicts_same stamp script
write_conflicts_same stamp (Granted space number from ∷ script) = write_conflicts_same stamp script

-- all that the code keeps of a transaction
abbrev pub kept_of : Transaction → Kept
kept_of transaction = record {
  life = transaction.life;
  version = transaction.version;
  mutations = writes_of transaction;
  adds_conflict = adding_conflicts transaction.script;
  read_ranges = transaction.read_ranges;
  write_ranges = transaction.write_ranges;
  size = transaction.size;
  skips_write_conflict = transaction.skips_write_conflict;
  phase = transaction.phase;
}

pub stands_for_it : (transaction : Transaction) → StandsFor (kept_of transaction) transaction
stands_for_it transaction = record {
  mutations = record { unreadable_same = λ key. refl; state_same = λ key. refl; filled_same = λ stamp key ten. refl };
  writes = refl;
  write_conflicts = λ stamp key ten i. covers (write_conflicts_same stamp transaction.script i ++ transaction.write_ranges) key;
  life = refl;
  version = refl;
  reads = λ key. refl;
  size = refl;
  with_write_conflict_disabled = refl;
  phase = refl;
}

-- nothing that is kept tells that the prefix allocator granted a number
pub stands_granted : (kept : Kept) (t : Transaction) (space : List ℕ) (number from : ℕ) → StandsFor kept t
    → StandsFor kept (with_granted t space number from)
stands_granted kept t space number from stands = record {
  mutations = subst (λ list. SameMutations kept.mutations list) (sym (written_granted t.script space number from)) stands.mutations;
  writes =
      stands.writes ∙ ap (λ list. nat_lt (length list) 1 && nat_lt (length t.write_ranges) 1) (sym (written_granted t.script space number from));
  write_conflicts = λ stamp key ten.
      stands.write_conflicts stamp key ten ∙ ap (λ list. covers (list ++ t.write_ranges) key) (sym (write_conflicts_granted stamp t.script space number from));
  life = stands.life;
  version = stands.version;
  reads = stands.reads;
  size = stands.size;
  with_write_conflict_disabled = stands.with_write_conflict_disabled;
  phase = stands.phase;
}
