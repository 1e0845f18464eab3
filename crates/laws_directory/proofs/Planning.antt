-- What the calls of an allocator on one subspace write: counts on its counters, numbers that it tries, and clears of both below a start.
use Rattle.std.proofs.Common.{◌≡◌, ℕ, ◌+◌, Bool, true, false, List, [], ◌∷◌, ◌++◌, Option, Some, None, refl, ◌∙◌}
use Rattle.std.specs.Prelude.{if◌then◌else◌, flat_map}
use Rattle.std.specs.List.{list_all}
use Rattle.std.proofs.lemmas.Bool.{and_from}
use Rattle.std.proofs.lemmas.List.Folds.{list_all-append}
use Rattle.model_database.specs.declared.AtomicOp.TheVariants as atomic
use Rattle.model_database.specs.Databases.{Database, Mutation, Set, ClearRange, Atomic}
use Rattle.model_database.specs.Slices.{Entries}
use Rattle.model_database.specs.Transactions.{view}
use Rattle.model_allocator.specs.Counters.{counters_prefix, counter_key, recent_prefix, recent_key, window, one_more, is_recent, greatest_counter, counter_in}
use Rattle.model_allocator.specs.Granting.{Candidate, candidates, tried, first_absent, tries, claims, opens, plan_from, plan_by, plan_counter, plan_under, plan}
use Rattle.model_allocator.specs.Acts.{Act}
use Rattle.laws_directory.proofs.Growing.{act_may, AllocatorsMay}

-- each of these may be written
pub record MayAllocate (may : Mutation → Bool) (space : List ℕ) : Type 0 where
  pub counted : (start : ℕ) → may (Atomic atomic.Add (counter_key space start) one_more) ≡ true
  pub counters_cleared : (start : ℕ) → may (ClearRange (counters_prefix space) (counter_key space start)) ≡ true
  pub numbers_cleared : (start : ℕ) → may (ClearRange (recent_prefix space) (recent_key space start)) ≡ true
  pub tried : (number : ℕ) → may (Set (recent_key space number) []) ≡ true

tries_may : (may : Mutation → Bool) (space : List ℕ) → MayAllocate may space → (number : ℕ) (is_drawn : Bool)
    → list_all (act_may may) (tries space (record { number = number; is_drawn = is_drawn })) ≡ true
tries_may may space allowed number true = and_from (may (Set (recent_key space number) [])) true (allowed.tried number) refl
tries_may may space allowed number false = and_from (may (Set (recent_key space number) [])) true (allowed.tried number) refl

all_tries_may : (may : Mutation → Bool) (space : List ℕ) → MayAllocate may space → (list : List Candidate)
    → list_all (act_may may) (flat_map (tries space) list) ≡ true
all_tries_may may space allowed [] = refl
all_tries_may may space allowed (candidate ∷ list) =
    list_all-append (act_may may) (tries space candidate) (flat_map (tries space) list)
    ∙ and_from _ _ (tries_may may space allowed candidate.number candidate.is_drawn) (all_tries_may may space allowed list)

claims_may : (may : Mutation → Bool) (space : List ℕ) (found : Option ℕ) → list_all (act_may may) (claims space found) ≡ true
claims_may may space None = refl
claims_may may space (Some number) = refl

opens_may : (may : Mutation → Bool) (space : List ℕ) → MayAllocate may space → (is_half : Bool) (first : ℕ)
    → list_all (act_may may) (opens is_half space first) ≡ true
opens_may may space allowed false first = rw (allowed.counted first) refl
opens_may may space allowed true first =
    let start = first + window first in
    rw (allowed.counted first, allowed.counters_cleared start, allowed.numbers_cleared start, allowed.counted start) refl

from_may : (may : Mutation → Bool) (space : List ℕ) → MayAllocate may space
    → (before : List Act) (database : Database) (words : ℕ → ℕ) (start : ℕ)
    → list_all (act_may may) before ≡ true → list_all (act_may may) (plan_from before space database words start).acts ≡ true
from_may may space allowed before database words start first =
    let list = tried (is_recent space database) (candidates start words) in
    let found = first_absent (is_recent space database) (candidates start words) in
    list_all-append (act_may may) (before ++ flat_map (tries space) list) (claims space found)
    ∙ and_from _ _ (list_all-append (act_may may) before (flat_map (tries space) list)
    ∙ and_from _ _ first (all_tries_may may space allowed list))
    (claims_may may space found)

by_may : (may : Mutation → Bool) (space : List ℕ) → MayAllocate may space
    → (is_half : Bool) (database : Database) (words : ℕ → ℕ) (first : ℕ)
    → list_all (act_may may) (plan_by is_half space database words first).acts ≡ true
by_may may space allowed is_half database words first =
    from_may may space allowed (opens is_half space first) database words (if is_half then first + window first else first)
    (opens_may may space allowed is_half first)

counter_may : (may : Mutation → Bool) (space : List ℕ) → MayAllocate may space
    → (database : Database) (words : ℕ → ℕ) (key : List ℕ) (found : Option ℕ)
    → list_all (act_may may) (plan_counter space database words key found).acts ≡ true
counter_may may space allowed database words key None = refl
counter_may may space allowed database words key (Some first) = by_may may space allowed _ database words first

under_may : (may : Mutation → Bool) (space : List ℕ) → MayAllocate may space → (database : Database) (words : ℕ → ℕ) (found : Entries)
    → list_all (act_may may) (plan_under space database words found).acts ≡ true
under_may may space allowed database words [] = by_may may space allowed _ database words 0
under_may may space allowed database words (entry ∷ entries) =
    counter_may may space allowed database words entry.0 (counter_in space entry.0)

-- and so its calls write nothing else
pub planned : (may : Mutation → Bool) (space : List ℕ) → MayAllocate may space → AllocatorsMay may space
unfolding plan
planned may space allowed setting t words =
    under_may may space allowed (view setting t) words (greatest_counter space (view setting t))
