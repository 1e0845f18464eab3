-- Watches are kept as they should be where one is added, ends, or a version came.
use Rattle.std.proofs.Common.{◌≡◌, ◌≢◌, ℕ, ◌+◌, ◌-◌, ◌<◌, ◌≤◌, ◌⊎◌, inl, inr, arith, Bool, true, false, cond, List, [], ◌∷◌, ◌++◌, length, map, set, get_or, Some, refl, sym, ap, subst, ◌∙◌, true≢false, length-append}
use Rattle.std.specs.Prelude.{bytes_eq}
use Rattle.std.proofs.lemmas.Bool.{cases_eq, cases_lt}
use Rattle.std.proofs.lemmas.List.{map-append, map-set, length-set, length-map, get_or_append_left, get_or_at, get_or-set_other, get_or-set_same, get_or_default, get_or-map}
use Rattle.std.proofs.lemmas.List.Elements.{All-nil, All-push, All-set, All-filter, All-weaker, Contains-append_left, Contains-push}
use Rattle.std.proofs.lemmas.Option.{slice_get-map, slice_get_read, get_or_from_slice_get}
use Rattle.std.specs.Cmp.Lexicographic.{same_text, other_text}
use Rattle.std.specs.List.{All, Contains, filter, slice_get}
use Rattle.std.specs.Option.{option_map}
use Rattle.model_database.specs.Databases.{Database}
use Rattle.watch_core.specs.declared.ending.WatchEnd.{WatchEnd}
use Rattle.watch_core.specs.declared.ending.WatchEnd.TheVariants.{Cancelled}
use Rattle.watch_core.specs.declared.watch.Watch.{Watch}
use Rattle.watch_core.specs.Watching.{Watched, is_pending, is_pending_at, pending_count, ended_as, ended_at, after_commit, IsCurrent, AreCurrent, IsRight}
use Rattle.watch_core.specs.Watches.{given, watched_of, AreListed, HaveLookedAt, IsWhole}
use Rattle.watch_core.proofs.Firings.{right_cancel}
use Rattle.watch_core.proofs.Numbers.{one_if, contains_filter, ended_not_pending, ended_at_some, pending_at_some, count_set, count_push, commit_key, pending_before_commit}

-- what holds of the numbers under a key that was given others
pub given_by : (P : List ℕ → Type 0) (numbers : List ℕ → List ℕ) (key others at : List ℕ)
    → (at ≡ key → P others) → (at ≢ key → P (numbers at)) → P (given numbers key others at)
given_by P numbers key others at here other =
    elim (bytes_eq at key) as (λ b. bytes_eq at key ≡ b → P (cond b others (numbers at))) [
      | true ↦ λ e. here (same_text at key (sym e))
      | false ↦ λ e. other (other_text at key (sym e))
    ] refl

module _ {C : Type 0} where
  -- the watch that lies at a place, as contracts see it
  pub seen_at : (watches : List (Watch C)) (number : ℕ) (watch : Watch C) → number < length watches → watch ≡ get_or watches number watch
      → slice_get (map watched_of watches) number ≡ Some (watched_of watch)
  seen_at watches number watch within is =
      slice_get-map watched_of watches number ∙ ap (option_map watched_of) (slice_get_read watches (length watches) number watch refl within is)

  -- no watch is listed by no numbers
  pub listed_none : (watches : List (Watch C)) → watches ≡ [] → (numbers : List ℕ → List ℕ) → ((key : List ℕ) → numbers key ≡ [])
      → AreListed watches numbers 0
  listed_none watches none numbers empty =
      subst (λ ws. AreListed ws numbers 0) (sym none) (record {
        whole = All-nil IsWhole;
        counted = refl;
        within = λ key. subst (All (λ number. number < 0)) (sym (empty key)) (All-nil (λ number. number < 0));
        listed = λ number other low. absurd (omega (arith, low));
      })

  -- a watch that was made is listed with the others
  pub listed_push : (watches : List (Watch C)) (numbers : List ℕ → List ℕ) (pending : ℕ) → AreListed watches numbers pending
      → (watch : Watch C) → IsWhole watch → is_pending (watched_of watch) ≡ true
      → (watches' : List (Watch C)) → watches' ≡ watches ++ watch ∷ []
      → (numbers' : List ℕ → List ℕ) → numbers' ≡ given numbers watch.key (numbers watch.key ++ length watches ∷ [])
      → AreListed watches' numbers' (pending + 1)
  listed_push watches numbers pending kept watch whole is_new watches' e numbers' n =
      subst (λ ws. AreListed ws numbers' (pending + 1)) (sym e)
      (subst (λ ns. AreListed (watches ++ watch ∷ []) ns (pending + 1)) (sym n) (record {
        whole = All-push IsWhole watches watch kept.whole whole;
        counted =
            ap (λ k. k + 1) kept.counted
            ∙ (sym (count_push (map watched_of watches) (watched_of watch) is_new)
            ∙ ap pending_count (sym (map-append watched_of watches (watch ∷ []))));
        within = λ at. given_by (All IsWithin) numbers watch.key more at
            (λ same. All-push IsWithin (numbers watch.key) (length watches) (still watch.key) (omega (arith, longer)))
            (λ other. still at);
        listed = λ number other low. by_place number other (cases_lt number (length watches)) low;
      }))
    where
      more : List ℕ
      more = numbers watch.key ++ length watches ∷ []

      IsWithin : ℕ → Type 0
      IsWithin number = number < length (watches ++ watch ∷ [])

      longer : length (watches ++ watch ∷ []) ≡ length watches + 1
      longer = length-append watches (watch ∷ [])

      still : (at : List ℕ) → All IsWithin (numbers at)
      still at = All-weaker (λ number. number < length watches) IsWithin (λ number h. omega (arith, longer)) (numbers at) (kept.within at)

      IsListed : ℕ → Watch C → Type 0
      IsListed number w = is_pending (watched_of w) ≡ true → Contains (given numbers watch.key more w.key) number

      by_place : (number : ℕ) (other : Watch C) → (number < length watches) ⊎ (length watches ≤ number)
          → number < length (watches ++ watch ∷ []) → IsListed number (get_or (watches ++ watch ∷ []) number other)
      by_place number other (inl below) low =
          subst (IsListed number) (sym (get_or_append_left watches (watch ∷ []) other number below))
          (λ is_one. let w = get_or watches number other in
          given_by (λ ns. Contains ns number) numbers watch.key more w.key
          (λ same. subst (λ key. Contains (numbers key ++ length watches ∷ []) number) same
          (Contains-append_left (numbers w.key) (length watches ∷ []) number (kept.listed number other below is_one)))
          (λ others. kept.listed number other below is_one))
      by_place number other (inr above) low =
          let last : length watches ≡ number = omega (arith, longer) in
          subst (IsListed number) (sym (get_or_at watches watch [] other number last))
          (λ is_one. subst (Contains (given numbers watch.key more watch.key)) last
          (given_by (λ ns. Contains ns (length watches)) numbers watch.key more watch.key
          (λ same. Contains-push (numbers watch.key) (length watches))
          (λ others. absurd (others refl))))

  -- one that ended is listed as it is then
  pub listed_ended : (watches : List (Watch C)) (numbers : List ℕ → List ℕ) (pending : ℕ) → AreListed watches numbers pending
      → (number : ℕ) (watch new : Watch C) → number < length watches → watch ≡ get_or watches number watch
      → IsWhole new → (end : WatchEnd) (seen : ℕ) → watched_of new ≡ ended_as end seen (watched_of watch)
      → (pending' : ℕ) → pending' + one_if (is_pending (watched_of watch)) ≡ pending
      → AreListed (set watches number new) numbers pending'
  listed_ended watches numbers pending kept number watch new within is whole end seen after pending' fewer =
      let ws = map watched_of watches in
      let at : slice_get ws number ≡ Some (watched_of watch) = seen_at watches number watch within is in
      let count : pending_count (set ws number (watched_of new)) + one_if (is_pending (watched_of watch)) ≡ pending_count ws + one_if (is_pending (watched_of new)) =
      count_set ws number (watched_of watch) (watched_of new)
      (omega (arith, length-map watches watched_of)) (get_or_from_slice_get ws number (watched_of watch) (watched_of watch) at) in
      let left : pending' ≡ pending_count (set ws number (watched_of new)) =
      omega (arith, count, kept.counted, fewer, ap one_if done) in
      record {
        whole = All-set IsWhole watches number new whole kept.whole;
        counted = left ∙ ap pending_count (sym (map-set watched_of watches number new));
        within = λ key. subst (λ n. All (λ k. k < n) (numbers key)) (sym (length-set watches number new)) (kept.within key);
        listed = λ k other low. by_place k other (omega (arith, low, length-set watches number new)) (cases_eq k number);
      }
    where
      done : is_pending (watched_of new) ≡ false
      done = ap is_pending after ∙ ended_not_pending end seen (watched_of watch)

      IsListed : ℕ → Watch C → Type 0
      IsListed k w = is_pending (watched_of w) ≡ true → Contains (numbers w.key) k

      by_place : (k : ℕ) (other : Watch C) → k < length watches → (k ≡ number) ⊎ (k ≡ number → ⊥)
          → IsListed k (get_or (set watches number new) k other)
      by_place k other low (inl same) =
          subst (IsListed k) (sym (ap (λ n. get_or (set watches number new) n other) same ∙ get_or-set_same watches number new other within))
          (λ p. absurd (true≢false (sym p ∙ done)))
      by_place k other low (inr different) =
          subst (IsListed k) (sym (get_or-set_other watches number k new other different)) (kept.listed k other low)

  -- where one is pending, there is one
  pub some_pending : (watches : List (Watch C)) (numbers : List ℕ → List ℕ) (pending : ℕ) → AreListed watches numbers pending
      → (number : ℕ) (watch : Watch C) → number < length watches → watch ≡ get_or watches number watch
      → is_pending (watched_of watch) ≡ true → 1 ≤ pending
  some_pending watches numbers pending kept number watch within is is_one =
      let ws = map watched_of watches in
      let done : Watched = ended_as Cancelled 0 (watched_of watch) in
      let count : pending_count (set ws number done) + one_if (is_pending (watched_of watch)) ≡ pending_count ws + one_if (is_pending done) =
      count_set ws number (watched_of watch) done (omega (arith, length-map watches watched_of))
      (get_or_from_slice_get ws number (watched_of watch) (watched_of watch) (seen_at watches number watch within is)) in
      let none : one_if (is_pending done) ≡ 0 = ap one_if (ended_not_pending Cancelled 0 (watched_of watch)) in
      let one : one_if (is_pending (watched_of watch)) ≡ 1 = ap one_if is_one in
      let counted : pending ≡ pending_count ws = kept.counted in
      omega (arith, count, none, one, counted)

  -- what contracts see where one ended
  pub seen_ended : (watches : List (Watch C)) (number : ℕ) (watch new : Watch C) → number < length watches → watch ≡ get_or watches number watch
      → (end : WatchEnd) (seen : ℕ) → watched_of new ≡ ended_as end seen (watched_of watch)
      → map watched_of (set watches number new) ≡ ended_at number end seen (map watched_of watches)
  seen_ended watches number watch new within is end seen after =
      let ws = map watched_of watches in
      map-set watched_of watches number new
      ∙ (ap (set ws number) after
      ∙ sym (ended_at_some end seen number ws (watched_of watch) (seen_at watches number watch within is)))

  -- one that was cancelled is as a history says, with the others
  pub right_ended : (history : ℕ → Database) (watches : List (Watch C)) (number : ℕ) (watch new : Watch C) → number < length watches
      → watch ≡ get_or watches number watch → (seen : ℕ) → watched_of new ≡ ended_as Cancelled seen (watched_of watch)
      → All (IsRight history seen) (map watched_of watches) → All (IsRight history seen) (map watched_of (set watches number new))
  right_ended history watches number watch new within is seen after right =
      let ws = map watched_of watches in
      let inside : number < length ws = omega (arith, length-map watches watched_of) in
      let at : get_or ws number (watched_of watch) ≡ watched_of watch =
      get_or_from_slice_get ws number (watched_of watch) (watched_of watch) (seen_at watches number watch within is) in
      let its : IsRight history seen (watched_of watch) = subst (IsRight history seen) at (right number (watched_of watch) inside) in
      subst (All (IsRight history seen)) (sym (map-set watched_of watches number new ∙ ap (set ws number) after))
      (All-set (IsRight history seen) ws number (ended_as Cancelled seen (watched_of watch)) (right_cancel history seen (watched_of watch) its) right)

  -- each that is pending has the value that its key has, where one ended
  pub current_ended : (database : Database) (watches : List (Watch C)) (number : ℕ) (watch new : Watch C) (end : WatchEnd) (seen : ℕ)
      → watched_of new ≡ ended_as end seen (watched_of watch)
      → AreCurrent database (map watched_of watches) → AreCurrent database (map watched_of (set watches number new))
  current_ended database watches number watch new end seen after current =
      let done : is_pending (watched_of new) ≡ false = ap is_pending after ∙ ended_not_pending end seen (watched_of watch) in
      subst (AreCurrent database) (sym (map-set watched_of watches number new))
      (All-set (IsCurrent database) (map watched_of watches) number (watched_of new)
      (λ is_one. absurd (true≢false (sym is_one ∙ done))) current)

  -- the watches of a key have looked at a version: they are listed as they are then
  pub listed_commit : (watches new : List (Watch C)) (numbers : List ℕ → List ℕ) (pending fired : ℕ) → AreListed watches numbers pending
      → (key : List ℕ) (last : ℕ) (database : Database) → HaveLookedAt last database (numbers key) watches new → All IsWhole new
      → pending_count (map watched_of new) + fired ≡ pending_count (map watched_of watches)
      → (numbers' : List ℕ → List ℕ)
      → numbers' ≡ given numbers key (filter (λ number. is_pending_at number (map watched_of new)) (numbers key))
      → AreListed new numbers' (pending - fired)
  listed_commit watches new numbers pending fired kept key last database looked whole count numbers' n =
      subst (λ ns. AreListed new ns (pending - fired)) (sym n) (record {
        whole = whole;
        counted = omega (arith, count, kept.counted);
        within = λ at. given_by (All IsWithin) numbers key left at
            (λ same. All-filter test IsWithin (numbers key) (still key)) (λ others. still at);
        listed = λ number other low is_one.
            let w = get_or new number other in
            let has : Contains (numbers w.key) number = before number other (omega (arith, low, long)) is_one (looked.each number other (omega (arith, low, long))) in
            given_by (λ ns. Contains ns number) numbers key left w.key
            (λ same. contains_filter test (numbers key) number
            (pending_at_some number (map watched_of new) (watched_of w)
            (seen_at new number w low (get_or_default new number other w low)) ∙ is_one)
            (subst (λ k. Contains (numbers k) number) same has))
            (λ others. has);
      })
    where
      test : ℕ → Bool
      test number = is_pending_at number (map watched_of new)

      left : List ℕ
      left = filter test (numbers key)

      long : length new ≡ length watches
      long = looked.long

      IsWithin : ℕ → Type 0
      IsWithin number = number < length new

      still : (at : List ℕ) → All IsWithin (numbers at)
      still at = subst (λ n. All (λ k. k < n) (numbers at)) (sym long) (kept.within at)

      before : (number : ℕ) (other : Watch C) → number < length watches → is_pending (watched_of (get_or new number other)) ≡ true
          → (watched_of (get_or new number other) ≡ after_commit last database (watched_of (get_or watches number other)))
          ⊎ ((watched_of (get_or new number other) ≡ watched_of (get_or watches number other)) × (Contains (numbers key) number → ⊥))
          → Contains (numbers (get_or new number other).key) number
      before number other low is_one (inl done) =
          let old = watched_of (get_or watches number other) in
          subst (λ k. Contains (numbers k) number) (sym (ap (λ (w : Watched). w.key) done ∙ commit_key last database old))
          (kept.listed number other low (pending_before_commit last database old (ap is_pending (sym done) ∙ is_one)))
      before number other low is_one (inr same) =
          subst (λ k. Contains (numbers k) number) (sym (ap (λ (w : Watched). w.key) same.0))
          (kept.listed number other low (ap is_pending (sym same.0) ∙ is_one))

  -- all watches have looked at a version: they are listed as they are then
  pub listed_commit_all : (watches new : List (Watch C)) (numbers : List ℕ → List ℕ) (pending fired : ℕ) → AreListed watches numbers pending
      → (last : ℕ) (database : Database) → map watched_of new ≡ map (after_commit last database) (map watched_of watches) → All IsWhole new
      → pending_count (map watched_of new) + fired ≡ pending_count (map watched_of watches)
      → AreListed new numbers (pending - fired)
  listed_commit_all watches new numbers pending fired kept last database after whole count = record {
    whole = whole;
    counted = omega (arith, count, kept.counted);
    within = λ key. subst (λ n. All (λ k. k < n) (numbers key)) (sym long) (kept.within key);
    listed = λ number other low is_one.
        let inside : number < length watches = omega (arith, low, long) in
        let old = get_or watches number other in
        let done : watched_of (get_or new number other) ≡ after_commit last database (watched_of old) =
        sym (get_or-map watched_of new number other (watched_of other) low)
        ∙ ap (λ ws. get_or ws number (watched_of other)) after
        ∙ get_or-map (after_commit last database) (map watched_of watches) number (watched_of other) (watched_of other)
        (omega (arith, inside, length-map watches watched_of))
        ∙ ap (after_commit last database) (get_or-map watched_of watches number other (watched_of other) inside) in
        subst (λ k. Contains (numbers k) number) (sym (ap (λ (w : Watched). w.key) done ∙ commit_key last database (watched_of old)))
        (kept.listed number other inside (pending_before_commit last database (watched_of old) (ap is_pending (sym done) ∙ is_one)));
  }
    where
      long : length new ≡ length watches
      long = sym (length-map new watched_of)
          ∙ (ap length after ∙ (length-map (map watched_of watches) (after_commit last database) ∙ length-map watches watched_of))
