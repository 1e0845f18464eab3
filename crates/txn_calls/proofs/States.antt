-- Mutations that agree lead from each map to the same map, and still agree with the same mutations behind them.
use Rattle.std.proofs.Common.{◌≡◌, ℕ, List, ◌++◌, length, sym, ap, ◌∙◌}
use Rattle.std.specs.Prelude.{◌||◌}
use Rattle.std.specs.FinMap as finite
use Rattle.std.specs.Cmp.Lexicographic.{nat_list_cmp_total}
use Rattle.std.proofs.lemmas.Map.Lookups.{exact_bytes}
use Rattle.model_database.specs.Databases.{Database, Mutation, do_all}
use Rattle.model_database.specs.States.{Unmodified, states_after, state_under, value_in, covers, all_filled, unreadable}
use Rattle.model_database.proofs.States.{get-under, states_after-append, filled-append, covers-unreadable-append}
use Rattle.txn_calls.specs.Stands.{SameMutations}

-- two lists of mutations lead from each map to the same map
abbrev pub SameMaps : List Mutation → List Mutation → Type 0
SameMaps kept mutations = (database : Database) → do_all kept database ≡ do_all mutations database

-- mutations that agree lead from each map to the same map
pub same_maps : (kept mutations : List Mutation) → SameMutations kept mutations → SameMaps kept mutations
same_maps kept mutations same database =
    finite.same_map nat_list_cmp_total exact_bytes _ _
    (λ q. get-under kept database q ∙ ap (λ state. value_in state (finite.get database q)) (same.state_same q) ∙ sym (get-under mutations database q))

states_more : (kept mutations more : List Mutation) (key : List ℕ) → state_under kept key ≡ state_under mutations key
    → state_under (kept ++ more) key ≡ state_under (mutations ++ more) key
states_more kept mutations more key same =
    states_after-append kept more key Unmodified ∙ ap (states_after more key) same ∙ sym (states_after-append mutations more key Unmodified)

-- mutations that agree still agree with the same mutations behind them
pub same_more : (kept mutations more : List Mutation) → SameMutations kept mutations → SameMutations (kept ++ more) (mutations ++ more)
same_more kept mutations more same = record {
  unreadable_same = λ key.
      covers-unreadable-append kept more key
      ∙ ap (λ b. b || covers (unreadable more) key) (same.unreadable_same key)
      ∙ sym (covers-unreadable-append mutations more key);
  state_same = λ key. states_more kept mutations more key (same.state_same key);
  filled_same = λ stamp key ten.
      ap (λ list. state_under list key) (filled-append stamp kept more)
      ∙ states_more (all_filled stamp kept) (all_filled stamp mutations) (all_filled stamp more) key (same.filled_same stamp key ten)
      ∙ sym (ap (λ list. state_under list key) (filled-append stamp mutations more));
}

-- with a versionstamp filled in they do so too
pub same_filled_maps : (kept mutations : List Mutation) (stamp : List ℕ) → SameMutations kept mutations → length stamp ≡ 10
    → SameMaps (all_filled stamp kept) (all_filled stamp mutations)
same_filled_maps kept mutations stamp same ten database =
    finite.same_map nat_list_cmp_total exact_bytes _ _
    (λ q.
    get-under (all_filled stamp kept) database q
    ∙ ap (λ state. value_in state (finite.get database q)) (same.filled_same stamp q ten)
    ∙ sym (get-under (all_filled stamp mutations) database q))
