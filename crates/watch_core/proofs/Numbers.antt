-- Which watches of a list are pending, and how many, where one is added or ends.
use Rattle.std.proofs.Common.{◌≡◌, ℕ, zero, suc, ◌+◌, ◌<◌, arith, Bool, true, false, cond, List, [], ◌∷◌, ◌++◌, length, set, get_or, Option, Some, None, refl, sym, ap, subst, ◌∙◌, true≢false}
use Rattle.std.proofs.lemmas.List.Sums.{sum_by-set, sum_by_push}
use Rattle.std.specs.FinMap as finite
use Rattle.std.specs.List.{Contains, filter, slice_get}
use Rattle.std.specs.Option.{option_map_or}
use Rattle.model_database.specs.Databases.{Database}
use Rattle.watch_core.specs.declared.ending.WatchEnd.{WatchEnd}
use Rattle.watch_core.specs.declared.ending.WatchEnd.TheVariants.{Changed}
use Rattle.watch_core.specs.Watching.{Ended, Watched, is_pending, is_pending_at, is_same, pending_count, ended_as, ended_at, after_commit, IsCurrent}
use Rattle.watch_core.proofs.Firings.{same_value, value_is_same}

-- 1 where it holds, else 0
abbrev pub one_if : Bool → ℕ
one_if b = cond b 1 0

-- an element that passes a test is left by the filter
pub contains_filter : (p : ℕ → Bool) (xs : List ℕ) (x : ℕ) → p x ≡ true → Contains xs x → Contains (filter p xs) x
contains_filter p [] x passes (k, within, at) = absurd (omega (arith, within))
contains_filter p (y ∷ xs) x passes (zero, within, at) =
    subst (λ t. Contains (cond t (y ∷ filter p xs) (filter p xs)) x) (sym (ap p at ∙ passes)) (zero, omega arith, at)
contains_filter p (y ∷ xs) x passes (suc k, within, at) = by_test (p y) (contains_filter p xs x passes (k, omega arith, at))
  where
    by_test : (t : Bool) → Contains (filter p xs) x → Contains (cond t (y ∷ filter p xs) (filter p xs)) x
    by_test true (j, inside, is) = (suc j, omega arith, is)
    by_test false rest = rest

-- ---- one that ends

ended_by : (end : WatchEnd) (seen : ℕ) (watch : Watched) (ended : Option Ended) → watch.ended ≡ ended
    → is_pending (ended_as end seen watch) ≡ false
ended_by end seen watch None is =
    ap (λ o. is_pending (cond (is_pending (record watch { ended = o })) (record watch { ended = Some (record { end = end; seen = seen }) }) watch)) is
ended_by end seen watch (Some ended) is =
    ap (λ o. is_pending (cond (is_pending (record watch { ended = o })) (record watch { ended = Some (record { end = end; seen = seen }) }) (record watch { ended = o }))) is

-- a watch that ended isn't pending
pub ended_not_pending : (end : WatchEnd) (seen : ℕ) (watch : Watched) → is_pending (ended_as end seen watch) ≡ false
ended_not_pending end seen watch = ended_by end seen watch watch.ended refl

-- a watch that isn't pending stays
pub ended_stays : (end : WatchEnd) (seen : ℕ) (watch : Watched) → is_pending watch ≡ false → ended_as end seen watch ≡ watch
ended_stays end seen watch done = ap (λ b. cond b (record watch { ended = Some (record { end = end; seen = seen }) }) watch) done

-- the watch of a number, ended
pub ended_at_some : (end : WatchEnd) (seen number : ℕ) (watches : List Watched) (watch : Watched) → slice_get watches number ≡ Some watch
    → ended_at number end seen watches ≡ set watches number (ended_as end seen watch)
ended_at_some end seen number watches watch at =
    ap (λ o. option_map_or (λ w. set watches number (ended_as end seen w)) o watches) at

pub pending_at_some : (number : ℕ) (watches : List Watched) (watch : Watched) → slice_get watches number ≡ Some watch
    → is_pending_at number watches ≡ is_pending watch
pending_at_some number watches watch at = ap (λ o. option_map_or is_pending o false) at

-- how many are pending, where one is replaced
pub count_set : (watches : List Watched) (number : ℕ) (watch new : Watched) → number < length watches → get_or watches number watch ≡ watch
    → pending_count (set watches number new) + one_if (is_pending watch) ≡ pending_count watches + one_if (is_pending new)
count_set watches number watch new within is =
    ap (λ w. pending_count (set watches number new) + one_if (is_pending w)) (sym is)
    ∙ sum_by-set (λ w. one_if (is_pending w)) watches number new watch within

-- ---- one that is added

pub count_push : (watches : List Watched) (watch : Watched) → is_pending watch ≡ true
    → pending_count (watches ++ watch ∷ []) ≡ pending_count watches + 1
count_push watches watch pending =
    sum_by_push (λ w. one_if (is_pending w)) watches watch ∙ ap (λ b. pending_count watches + one_if b) pending

-- ---- a commit

module _ (last : ℕ) (database : Database) where
  abbrev after : Watched → Watched
  after watch = after_commit last database watch

  abbrev test : Watched → Bool
  test watch = is_same (finite.get database watch.key) watch.value

  abbrev chosen : Watched → Bool → Watched
  chosen watch same = cond same watch (ended_as (Changed last) last watch)

  stays_by : (watch : Watched) (same : Bool) → is_pending watch ≡ false → chosen watch same ≡ watch
  stays_by watch true done = refl
  stays_by watch false done = ended_stays (Changed last) last watch done

  -- a watch that isn't pending stays
  pub commit_stays : (watch : Watched) → is_pending watch ≡ false → after watch ≡ watch
  commit_stays watch done = stays_by watch (test watch) done

  key_by : (watch : Watched) (same : Bool) → (chosen watch same).key ≡ watch.key
  key_by watch true = refl
  key_by watch false =
      elim (is_pending watch) as (λ b. (cond b (record watch { ended = Some (record { end = Changed last; seen = last }) }) watch).key ≡ watch.key) [
        | true ↦ refl
        | false ↦ refl
      ]

  -- a watch keeps its key
  pub commit_key : (watch : Watched) → (after watch).key ≡ watch.key
  commit_key watch = key_by watch (test watch)

  twice_by : (watch : Watched) (same : Bool) → test watch ≡ same → after (after watch) ≡ after watch
  twice_by watch true e = ap (λ b. after (chosen watch b)) e ∙ (ap (chosen watch) e ∙ sym (ap (chosen watch) e))
  twice_by watch false e =
      ap (λ b. after (chosen watch b)) e
      ∙ (commit_stays (ended_as (Changed last) last watch) (ended_not_pending (Changed last) last watch)
      ∙ sym (ap (chosen watch) e))

  -- a second look at the same version changes nothing
  pub commit_twice : (watch : Watched) → after (after watch) ≡ after watch
  commit_twice watch = twice_by watch (test watch) refl

  before_by : (watch : Watched) (pending : Bool) → is_pending watch ≡ pending → is_pending (after watch) ≡ true → is_pending watch ≡ true
  before_by watch true e h = e
  before_by watch false e h = sym (ap is_pending (commit_stays watch e)) ∙ h

  -- a watch that is pending after a commit was so before
  pub pending_before_commit : (watch : Watched) → is_pending (after watch) ≡ true → is_pending watch ≡ true
  pending_before_commit watch h = before_by watch (is_pending watch) refl h

  current_by : (watch : Watched) (same : Bool) → test watch ≡ same → IsCurrent database (chosen watch same)
  current_by watch true e pending = sym (same_value (finite.get database watch.key) watch.value e)
  current_by watch false e pending = absurd (true≢false (sym pending ∙ ended_not_pending (Changed last) last watch))

  -- a watch that is pending after a commit has the value that its key has then
  pub commit_current : (watch : Watched) → IsCurrent database (after watch)
  commit_current watch = current_by watch (test watch) refl

  -- a watch that has the value that its key has then stays
  pub current_stays : (watch : Watched) → IsCurrent database watch → after watch ≡ watch
  current_stays watch current =
      elim (is_pending watch) as (λ b. is_pending watch ≡ b → after watch ≡ watch) [
        | true ↦ λ e. ap (chosen watch) (ap (λ v. is_same v watch.value) (sym (current e)) ∙ value_is_same watch.value)
        | false ↦ λ e. commit_stays watch e
      ] refl
