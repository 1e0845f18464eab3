-- A store of the first version alone stands for the beginning.
use Rattle.std.proofs.Common.{◌≡◌, ℕ, zero, suc, ◌≤◌, List, [], ◌∷◌, Option, None, sym, ap, subst, arith}
use Rattle.std.specs.FinMap as finite
use Rattle.key_bytes.specs.Keys.{key_cmp}
use Rattle.model_database.specs.Databases.{do_all}
use Rattle.model_database.specs.Histories.{loaded, lowest, at}
use Rattle.conflict_ranges.specs.Writes.{above, newest_at, Index}
use Rattle.version_store.specs.Versions as versions
use Rattle.version_store.specs.Versions.{Versions, last_of, oldest_of}
use Rattle.model_database.specs.Transactions.{Transaction}
use Rattle.model_commands.specs.declared.args.RunArgs.{RunArgs}
use Rattle.model_machine.specs.Worlds.{begun, database_options, setting_of}
use Rattle.txn_core.specs.Stands.{Kept, Keeps}
use Rattle.client_core.specs.Stands.{ContentsModel, KeptTransactions, KeepsWorld, AreAlike}

-- the store keeps the history of the first commit
pub first_kept : (store : Versions) (index : Index) (pairs : List (List ℕ × List ℕ)) (arguments : RunArgs) → last_of store ≡ 1
    → oldest_of store ≡ lowest (database_options arguments) 1
    → (oldest_of store ≤ 0 → versions.at store 0 ≡ finite.empty)
    → (oldest_of store ≤ 1 → versions.at store 1 ≡ do_all (loaded pairs).mutations finite.empty)
    → index.forgotten ≡ 0 → ((key : List ℕ) → newest_at index key ≡ 0)
    → Keeps store index (setting_of pairs arguments)
first_kept store index pairs arguments last oldest empty first forgotten unwritten = record {
  last_is = last;
  oldest_is = oldest;
  at_is = by_version;
  forgotten_is = omega (arith, forgotten);
  newest_is = λ key. ap (above (lowest (database_options arguments) 1)) (unwritten key);
}
  where
    by_version : (version : ℕ) → lowest (database_options arguments) 1 ≤ version → version ≤ 1
        → versions.at store version ≡ at (loaded pairs ∷ []) version
    by_version zero from within = empty (omega (arith, oldest, from))
    by_version (suc zero) from within = first (omega (arith, oldest, from))
    by_version (suc (suc n)) from within = absurd (omega arith)

-- a store of the first version, and no transaction, stand for the beginning
pub begun_stands : (core : ContentsModel) (pairs : List (List ℕ × List ℕ)) (arguments : RunArgs) → core.options ≡ database_options arguments
    → Keeps core.store core.index (setting_of pairs arguments)
    → core.transactions ≡ finite.empty → core.lives ≡ []
    → KeepsWorld core (begun pairs arguments)
begun_stands core pairs arguments options keeps none lives = record {
  options = options;
  keeps = keeps;
  transactions = λ name.
      let nothing = finite.get-empty key_cmp name in
      let other = finite.get-empty key_cmp name in
      subst (λ (m : KeptTransactions). AreAlike (finite.get m name) (finite.get (begun pairs arguments).transactions name)) (sym none)
      (subst (λ (o : Option Kept). AreAlike o (finite.get (begun pairs arguments).transactions name)) (sym nothing)
      (subst (λ (o : Option Transaction). AreAlike None o) (sym other) tt));
  lives = lives;
}
