-- The law on worked histories, computed.
use Rattle.std.proofs.Common.{◌≡◌, ℕ, true, false, List, [], ◌∷◌, take, reverse, length, cond, Some, None, refl, sym, ap, ◌∙◌}
use Rattle.std.specs.Prelude.{not, map}
use Rattle.std.specs.List.{filter}
use Rattle.std.specs.FinMap as finite
use Rattle.std.specs.FinMap.Entries.{put}
use Rattle.key_bytes.specs.Keys.{key_cmp}
use Rattle.key_bytes.specs.Numbers.{number_low}
use Rattle.model_database.specs.Databases.{Database, Mutation, Set, Clear, do_all}
use Rattle.model_database.specs.Histories.{Commit, Script, Wrote, HasRead, after_commits, conflicts, written}
use Rattle.model_database.specs.Intervals.{one}
use Rattle.model_database.specs.Reads.{PairsAre, answer}
use Rattle.model_database.specs.Slices.{Entries}
use Rattle.model_database.specs.States.{covers, range_from, seen, unreadable}
use Rattle.model_database.proofs.KeyByKey.{get-put}
use Rattle.fdb_tuple.specs.Spelling.{least_bytes, low_first, signed_spelled}
use Rattle.model_allocator.proofs.Viewing.{get-seen, itself}
use Rattle.laws_history.specs.Whole.{fell_between}
use Rattle.model_recipes.specs.Turns.{is_inside, pairs_of, space_begin, space_end}
use Rattle.model_recipes.specs.Queues.{index_in, queue_of}
use Rattle.model_recipes.proofs.Pairs.{pairs_cleared, pairs_same, pairs_set}
use Rattle.laws_queue.specs.Laws.{AreOfQueue, RunWhole}
use Rattle.laws_queue.specs.Scripts.{IsOfQueue, first_read, last_read}

-- ---- the pairs of a subspace

none_in : (pairs : Entries) → 0 ≡ length pairs → pairs ≡ []
none_in [] none = refl
none_in (pair ∷ pairs) none = absurd cc

none_at_first : (space : List ℕ) → pairs_of space finite.empty ≡ []
none_at_first space =
    ap (filter (λ (pair : List ℕ × List ℕ). is_inside space pair.0))
    (none_in (finite.entries finite.empty) (sym (finite.len-empty key_cmp (List ℕ)) ∙ finite.len-entries finite.empty))

after_set : (space : List ℕ) (database : Database) (key value : List ℕ) → is_inside space key ≡ true
    → pairs_of space (finite.insert database key value) ≡ put key_cmp key value (pairs_of space database)
after_set space database key value inside =
    pairs_set space database (finite.insert database key value) key value inside
    (get-put database key (Some value) key ∙ ap (λ touched. cond touched (Some value) (finite.get database key)) (itself key))
    (λ q other. get-put database key (Some value) q ∙ ap (λ touched. cond touched (Some value) (finite.get database q)) other)

after_clear : (space : List ℕ) (database : Database) (pair : List ℕ × List ℕ) (pairs : Entries) → pairs_of space database ≡ pair ∷ pairs
    → pairs_of space (finite.remove database pair.0) ≡ pairs
after_clear space database pair pairs are =
    pairs_cleared space database (finite.remove database pair.0) pair pairs are
    (get-put database pair.0 None pair.0 ∙ ap (λ touched. cond touched None (finite.get database pair.0)) (itself pair.0))
    (λ q other. get-put database pair.0 None q ∙ ap (λ touched. cond touched None (finite.get database q)) other)

seen_pairs : (space : List ℕ) (writes : List Mutation) (database : Database) → unreadable writes ≡ []
    → pairs_of space (seen writes database) ≡ pairs_of space (do_all writes database)
seen_pairs space writes database none =
    pairs_same space (do_all writes database) (seen writes database)
    (λ q inside. get-seen writes database q ∙ ap (λ ranges. cond (not (covers ranges q)) (finite.get (do_all writes database) q) None) none)

-- what a push and a pop get, where these are the pairs
last_given : (space : List ℕ) (writes : List Mutation) (database : Database) (pairs : Entries) → unreadable writes ≡ []
    → pairs_of space (do_all writes database) ≡ pairs → PairsAre (take 1 (reverse pairs)) ≡ answer (last_read space) (seen writes database)
unfolding answer
last_given space writes database pairs none are =
    ap (λ pairs. PairsAre (take 1 (reverse pairs))) (sym (seen_pairs space writes database none ∙ are))

first_given : (space : List ℕ) (writes : List Mutation) (database : Database) (pairs : Entries) → unreadable writes ≡ []
    → pairs_of space (do_all writes database) ≡ pairs → PairsAre (take 1 pairs) ≡ answer (first_read space) (seen writes database)
unfolding answer
first_given space writes database pairs none are =
    ap (λ pairs. PairsAre (take 1 pairs)) (sym (seen_pairs space writes database none ∙ are))

-- ---- a subspace, the keys of its first two items, and two values

abbrev space : List ℕ
space = 1 ∷ []

abbrev zero_key : List ℕ
zero_key = 1 ∷ 20 ∷ []

abbrev one_key : List ℕ
one_key = 1 ∷ 21 ∷ 1 ∷ []

abbrev a : List ℕ
a = 97 ∷ []

abbrev b : List ℕ
b = 98 ∷ []

-- a commit with this script
abbrev commit_with : ℕ → Script → Commit
commit_with version script = record {
  version = version;
  script = script;
  mutations = written script;
  read_ranges = range_from (space_begin space) (space_end space) ∷ [];
  write_conflicts = range_from (space_begin space) (space_end space) ∷ [];
  without_conflict = [];
}

-- databases without an item, with a, with both, and with b
abbrev with_a : Database
with_a = finite.insert finite.empty zero_key a

abbrev with_both : Database
with_both = finite.insert with_a one_key b

has_a : pairs_of space with_a ≡ (zero_key, a) ∷ []
has_a = after_set space finite.empty zero_key a refl ∙ ap (put key_cmp zero_key a) (none_at_first space)

has_both : pairs_of space with_both ≡ (zero_key, a) ∷ (one_key, b) ∷ []
has_both = after_set space with_a one_key b refl ∙ ap (put key_cmp one_key b) has_a

has_b : pairs_of space (finite.remove with_both zero_key) ≡ (one_key, b) ∷ []
has_b = after_clear space with_both (zero_key, a) ((one_key, b) ∷ []) has_both

has_none : pairs_of space (finite.remove with_a zero_key) ≡ []
has_none = after_clear space with_a (zero_key, a) [] has_a

-- ---- three transactions: two pushes and a pop

abbrev pushes_a : Script
pushes_a = HasRead (last_read space) (PairsAre []) ∷ Wrote (Set zero_key a) true ∷ []

abbrev pushes_b : Script
pushes_b = HasRead (last_read space) (PairsAre ((zero_key, a) ∷ [])) ∷ Wrote (Set one_key b) true ∷ []

abbrev pops_a : Script
pops_a = HasRead (first_read space) (PairsAre ((zero_key, a) ∷ [])) ∷ Wrote (Clear zero_key) true ∷ []

abbrev three : List Commit
three = commit_with 0 pushes_a ∷ commit_with 1 pushes_b ∷ commit_with 2 pops_a ∷ []

three_are_of_queue : AreOfQueue space three (a ∷ b ∷ []) (a ∷ [])
unfolding index_in number_low signed_spelled least_bytes low_first
three_are_of_queue =
    AreOfQueue.one _ _ _ _ _ _ (IsOfQueue.pushes _ _ _ _ _ _ _ refl IsOfQueue.ends)
    (AreOfQueue.one _ _ _ _ _ _ (IsOfQueue.pushes _ _ _ _ _ _ _ refl IsOfQueue.ends)
    (AreOfQueue.one _ _ _ _ _ _ (IsOfQueue.pops _ _ _ _ _ _ _ refl IsOfQueue.ends) AreOfQueue.end))

three_ran_whole : RunWhole finite.empty three
three_ran_whole = (
  (last_given space [] finite.empty [] refl (none_at_first space), tt),
  (
    (last_given space [] with_a ((zero_key, a) ∷ []) refl has_a, tt),
    ((first_given space [] with_both ((zero_key, a) ∷ (one_key, b) ∷ []) refl has_both, tt), tt),
  ),
)

-- b is left
three_leave : queue_of space (after_commits three finite.empty) ≡ b ∷ []
three_leave = ap (map (λ (pair : List ℕ × List ℕ). pair.1)) has_b

-- ---- one transaction that pops what it pushed

abbrev pops_its_own : Script
pops_its_own =
    HasRead (last_read space) (PairsAre [])
    ∷ Wrote (Set zero_key a) true
    ∷ HasRead (first_read space) (PairsAre ((zero_key, a) ∷ []))
    ∷ Wrote (Clear zero_key) true
    ∷ []

its_own_of_queue : IsOfQueue space pops_its_own (a ∷ []) (a ∷ [])
unfolding index_in number_low signed_spelled least_bytes low_first
its_own_of_queue = IsOfQueue.pushes _ _ _ _ _ _ _ refl (IsOfQueue.pops _ _ _ _ _ _ _ refl IsOfQueue.ends)

its_own_ran_whole : RunWhole finite.empty (commit_with 0 pops_its_own ∷ [])
its_own_ran_whole = (
  (
    last_given space [] finite.empty [] refl (none_at_first space),
    (first_given space (Set zero_key a ∷ []) finite.empty ((zero_key, a) ∷ []) refl has_a, tt),
  ),
  tt,
)

its_own_leaves_none : queue_of space (after_commits (commit_with 0 pops_its_own ∷ []) finite.empty) ≡ []
its_own_leaves_none = ap (map (λ (pair : List ℕ × List ℕ). pair.1)) has_none

-- ---- a pop of an empty queue only reads

abbrev pops_none : Script
pops_none = HasRead (first_read space) (PairsAre []) ∷ []

none_of_queue : IsOfQueue space pops_none [] []
none_of_queue = IsOfQueue.does _ _ _ _ tt IsOfQueue.ends

none_ran_whole : RunWhole finite.empty (commit_with 0 pops_none ∷ [])
none_ran_whole = ((first_given space [] finite.empty [] refl (none_at_first space), tt), tt)

-- ---- a pop whose clear adds no write conflict range

abbrev pops_silently : Commit
pops_silently = record (commit_with 1 (HasRead (first_read space) (PairsAre ((zero_key, a) ∷ [])) ∷ Wrote (Clear zero_key) false ∷ [])) {
  write_conflicts = [];
  without_conflict = one zero_key ∷ [];
}

-- another pop of the same version doesn't conflict, and both popped the one item
abbrev twice : List Commit
twice = commit_with 0 pushes_a ∷ pops_silently ∷ commit_with 1 pops_a ∷ []

twice_popped : AreOfQueue space twice (a ∷ []) (a ∷ a ∷ [])
unfolding index_in number_low signed_spelled least_bytes low_first
twice_popped =
    AreOfQueue.one _ _ _ _ _ _ (IsOfQueue.pushes _ _ _ _ _ _ _ refl IsOfQueue.ends)
    (AreOfQueue.one _ _ _ _ _ _ (IsOfQueue.pops _ _ _ _ _ _ _ refl IsOfQueue.ends)
    (AreOfQueue.one _ _ _ _ _ _ (IsOfQueue.pops _ _ _ _ _ _ _ refl IsOfQueue.ends) AreOfQueue.end))

twice_conflict_not : conflicts (commit_with 0 pushes_a ∷ pops_silently ∷ []) 1 (commit_with 1 pops_a).read_ranges ≡ false
twice_conflict_not = refl

-- but the silent one fell into the other, of which the law says nothing
twice_fell : fell_between (commit_with 0 pushes_a ∷ pops_silently ∷ []) (commit_with 1 pops_a) ≡ true
twice_fell = refl
