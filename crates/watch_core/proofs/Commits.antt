-- Watches look at a version: those of the numbers under a key, one after the other, and so those on each key that changed.
use Rattle.std.proofs.Common.{◌≡◌, ◌≢◌, ℕ, zero, suc, ◌+◌, ◌<◌, ◌≤◌, ◌⊎◌, inl, inr, arith, Bool, true, false, List, [], ◌∷◌, ◌++◌, length, map, set, get_or, take, drop, refl, sym, ap, subst, ◌∙◌}
use Rattle.std.proofs.Math.Seq.{take-append_seam}
use Rattle.std.proofs.lemmas.Bool.{cases_eq, cases_lt}
use Rattle.std.proofs.lemmas.List.{get_or-set_same, get_or-set_other, get_or_default, length-set, length-map, map-set}
use Rattle.std.proofs.lemmas.List.Elements.{All-head, All-map, All-set, All-tail, Contains-push_cases}
use Rattle.std.proofs.lemmas.Option.{get_or_from_slice_get}
use Rattle.std.specs.List.{All, AllZip, Contains}
use Rattle.model_database.specs.Databases.{Database}
use Rattle.watch_core.specs.declared.watch.Watch.{Watch}
use Rattle.watch_core.specs.Watching.{Watched, is_pending, pending_count, after_commit, IsCurrent, AreCurrent, AreCurrentBut, HasLooked, HaveLooked}
use Rattle.watch_core.specs.Watches.{watched_of, AreListed, HaveLookedAt, IsWhole}
use Rattle.watch_core.proofs.Numbers.{one_if, count_set, commit_current, commit_twice, current_stays}
use Rattle.watch_core.proofs.Keeping.{seen_at}

-- lists that are as long, and related at each place
pub all_zip : {X Y : Type 0} (R : Y → Y → Type 0) (f : X → Y) (xs ys : List X) → length ys ≡ length xs
    → ((n : ℕ) (d : X) → n < length xs → R (f (get_or xs n d)) (f (get_or ys n d))) → AllZip R (map f xs) (map f ys)
all_zip R f [] [] long each = tt
all_zip R f [] (y ∷ ys) long each = absurd (omega (arith, long))
all_zip R f (x ∷ xs) [] long each = absurd (omega (arith, long))
all_zip R f (x ∷ xs) (y ∷ ys) long each =
    (each zero x (omega arith), all_zip R f xs ys (omega (arith, long)) (λ n d within. each (suc n) d (omega (arith, within))))

-- a list of one has it alone
only : (key other : List ℕ) → Contains (key ∷ []) other → other ≡ key
only key other (zero, within, at) = sym at
only key other (suc k, within, at) = absurd (omega (arith, within))

-- lists that are as long, and alike at each place
pub same_maps : {X Y : Type 0} (f : X → Y) (h : Y → Y) (xs ys : List X) → length xs ≡ length ys
    → ((n : ℕ) (d : X) → n < length ys → f (get_or xs n d) ≡ h (f (get_or ys n d))) → map f xs ≡ map h (map f ys)
same_maps f h [] [] long each = refl
same_maps f h [] (y ∷ ys) long each = absurd (omega (arith, long))
same_maps f h (x ∷ xs) [] long each = absurd (omega (arith, long))
same_maps f h (x ∷ xs) (y ∷ ys) long each =
    ap (λ z. z ∷ map f xs) (each zero x (omega arith))
    ∙ ap (λ zs. h (f y) ∷ zs) (same_maps f h xs ys (omega (arith, long)) (λ n d within. each (suc n) d (omega (arith, within))))

module _ {C : Type 0} (last : ℕ) (database : Database) where
  -- a watch has looked, or is as it was and its number is not among the first i
  abbrev pub Reached : List ℕ → ℕ → ℕ → Watch C → Watch C → Type 0
  Reached numbers i number old new =
      (watched_of new ≡ after_commit last database (watched_of old))
      ⊎ ((watched_of new ≡ watched_of old) × ((k : ℕ) → k < i → get_or numbers k 0 ≢ number))

  -- the watches after those of the first i numbers have looked, of which so many fired
  pub record Passes (olds news : List (Watch C)) (numbers : List ℕ) (i fired : ℕ) : Type 0 where
    pub whole : All IsWhole news
    pub long : length news ≡ length olds
    pub each : (n : ℕ) (d : Watch C) → n < length olds → Reached numbers i n (get_or olds n d) (get_or news n d)
    pub count : pending_count (map watched_of news) + fired ≡ pending_count (map watched_of olds)
    pub bounded : fired ≤ i

  pub passes_none : (watches : List (Watch C)) (numbers : List ℕ) → All IsWhole watches → Passes watches watches numbers 0 0
  passes_none watches numbers whole = record {
    whole = whole;
    long = refl;
    each = λ n d within. inr (refl, λ k low. absurd (omega arith));
    count = omega arith;
    bounded = omega arith;
  }

  pub passes_next : (olds news : List (Watch C)) (numbers : List ℕ) (i fired : ℕ) → Passes olds news numbers i fired
      → (number : ℕ) → number ≡ get_or numbers i 0 → number < length news
      → (watch new : Watch C) → watch ≡ get_or news number watch → IsWhole new → watched_of new ≡ after_commit last database (watched_of watch)
      → (fires : Bool) → one_if (is_pending (watched_of new)) + one_if fires ≡ one_if (is_pending (watched_of watch))
      → Passes olds (set news number new) numbers (i + 1) (fired + one_if fires)
  passes_next olds news numbers i fired passes number is_number within watch new is whole looked fires counts =
      let ws = map watched_of news in
      let at : get_or ws number (watched_of watch) ≡ watched_of watch =
      get_or_from_slice_get ws number (watched_of watch) (watched_of watch) (seen_at news number watch within is) in
      let count : pending_count (set ws number (watched_of new)) + one_if (is_pending (watched_of watch)) ≡ pending_count ws + one_if (is_pending (watched_of new)) =
      count_set ws number (watched_of watch) (watched_of new) (omega (arith, length-map news watched_of)) at in
      let same : pending_count (map watched_of (set news number new)) ≡ pending_count (set ws number (watched_of new)) =
      ap pending_count (map-set watched_of news number new) in
      let before : pending_count (map watched_of news) + fired ≡ pending_count (map watched_of olds) = passes.count in
      let upto : fired ≤ i = passes.bounded in
      record {
        whole = All-set IsWhole news number new whole passes.whole;
        long = length-set news number new ∙ passes.long;
        each = λ n d low. by_number n d low (cases_eq n number);
        count = omega (arith, count, same, before, counts);
        bounded = by_fires fires upto;
      }
    where
      by_fires : (fires : Bool) → fired ≤ i → fired + one_if fires ≤ i + 1
      by_fires true upto = omega arith
      by_fires false upto = omega arith

      here : (n : ℕ) (d : Watch C) → n < length olds → n ≡ number → watched_of (get_or news n d) ≡ watched_of watch
      here n d low same =
          let inside : n < length news = omega (arith, passes.long) in
          ap watched_of (get_or_default news n d watch inside ∙ (ap (λ m. get_or news m watch) same ∙ sym is))

      looked_twice : (n : ℕ) (d : Watch C) → n < length olds → n ≡ number
          → Reached numbers i n (get_or olds n d) (get_or news n d) → watched_of new ≡ after_commit last database (watched_of (get_or olds n d))
      looked_twice n d low same (inl done) =
          looked ∙ (ap (after_commit last database) (sym (here n d low same) ∙ done) ∙ commit_twice last database (watched_of (get_or olds n d)))
      looked_twice n d low same (inr kept) = looked ∙ ap (after_commit last database) (sym (here n d low same) ∙ kept.0)

      still : (n : ℕ) (d : Watch C) → (n ≡ number → ⊥) → Reached numbers i n (get_or olds n d) (get_or news n d)
          → Reached numbers (i + 1) n (get_or olds n d) (get_or news n d)
      still n d other (inl done) = inl done
      still n d other (inr kept) = inr (kept.0, λ k low e. by_place k (cases_lt k i) low e)
        where
          by_place : (k : ℕ) → (k < i) ⊎ (i ≤ k) → k < i + 1 → get_or numbers k 0 ≡ n → ⊥
          by_place k (inl low) upto e = kept.1 k low e
          by_place k (inr high) upto e =
              let same : k ≡ i = omega arith in other (sym e ∙ (ap (λ t. get_or numbers t 0) same ∙ sym is_number))

      by_number : (n : ℕ) (d : Watch C) → n < length olds → (n ≡ number) ⊎ (n ≡ number → ⊥)
          → Reached numbers (i + 1) n (get_or olds n d) (get_or (set news number new) n d)
      by_number n d low (inl same) =
          inl (ap watched_of (ap (λ t. get_or (set news number new) t d) same ∙ get_or-set_same news number new d within)
          ∙ looked_twice n d low same (passes.each n d low))
      by_number n d low (inr other) =
          subst (Reached numbers (i + 1) n (get_or olds n d)) (sym (get_or-set_other news number n new d other))
          (still n d other (passes.each n d low))

  -- after all numbers, the watches of these have looked
  pub passes_all : (olds news : List (Watch C)) (numbers : List ℕ) (i fired : ℕ) → Passes olds news numbers i fired → length numbers ≤ i
      → HaveLookedAt last database numbers olds news
  passes_all olds news numbers i fired passes ended =
      record { long = passes.long; each = λ n d low. by_case n (get_or olds n d) (get_or news n d) (passes.each n d low) }
    where
      by_case : (n : ℕ) (old new : Watch C) → Reached numbers i n old new
          → (watched_of new ≡ after_commit last database (watched_of old)) ⊎ ((watched_of new ≡ watched_of old) × (Contains numbers n → ⊥))
      by_case n old new (inl done) = inl done
      by_case n old new (inr kept) =
          inr (kept.0, λ found. kept.1 found.0 (omega (arith, found.1)) (get_or_default numbers found.0 0 n found.1 ∙ found.2))

  -- the watches after the first i have looked, of which so many fired
  pub record LooksTo (olds news : List (Watch C)) (i fired : ℕ) : Type 0 where
    pub whole : All IsWhole news
    pub long : length news ≡ length olds
    pub done : (n : ℕ) (d : Watch C) → n < length olds → n < i → watched_of (get_or news n d) ≡ after_commit last database (watched_of (get_or olds n d))
    pub left : (n : ℕ) (d : Watch C) → n < length olds → i ≤ n → watched_of (get_or news n d) ≡ watched_of (get_or olds n d)
    pub count : pending_count (map watched_of news) + fired ≡ pending_count (map watched_of olds)
    pub bounded : fired ≤ i

  pub looks_to_none : (watches : List (Watch C)) → All IsWhole watches → LooksTo watches watches 0 0
  looks_to_none watches whole = record {
    whole = whole;
    long = refl;
    done = λ n d low first. absurd (omega arith);
    left = λ n d low later. refl;
    count = omega arith;
    bounded = omega arith;
  }

  pub looks_to_next : (olds news : List (Watch C)) (i fired : ℕ) → LooksTo olds news i fired → i < length news
      → (watch new : Watch C) → watch ≡ get_or news i watch → IsWhole new → watched_of new ≡ after_commit last database (watched_of watch)
      → (fires : Bool) → one_if (is_pending (watched_of new)) + one_if fires ≡ one_if (is_pending (watched_of watch))
      → LooksTo olds (set news i new) (i + 1) (fired + one_if fires)
  looks_to_next olds news i fired looks within watch new is whole looked fires counts =
      let ws = map watched_of news in
      let at : get_or ws i (watched_of watch) ≡ watched_of watch =
      get_or_from_slice_get ws i (watched_of watch) (watched_of watch) (seen_at news i watch within is) in
      let count : pending_count (set ws i (watched_of new)) + one_if (is_pending (watched_of watch)) ≡ pending_count ws + one_if (is_pending (watched_of new)) =
      count_set ws i (watched_of watch) (watched_of new) (omega (arith, length-map news watched_of)) at in
      let same : pending_count (map watched_of (set news i new)) ≡ pending_count (set ws i (watched_of new)) =
      ap pending_count (map-set watched_of news i new) in
      let before : pending_count (map watched_of news) + fired ≡ pending_count (map watched_of olds) = looks.count in
      let upto : fired ≤ i = looks.bounded in
      record {
        whole = All-set IsWhole news i new whole looks.whole;
        long = length-set news i new ∙ looks.long;
        done = λ n d low first. by_place n d low first (cases_eq n i);
        left = λ n d low later. ap watched_of (get_or-set_other news i n new d (λ e. omega (arith, e, later))) ∙ looks.left n d low (omega (arith, later));
        count = omega (arith, count, same, before, counts);
        bounded = by_fires fires upto;
      }
    where
      by_fires : (fires : Bool) → fired ≤ i → fired + one_if fires ≤ i + 1
      by_fires true upto = omega arith
      by_fires false upto = omega arith

      by_place : (n : ℕ) (d : Watch C) → n < length olds → n < i + 1 → (n ≡ i) ⊎ (n ≡ i → ⊥)
          → watched_of (get_or (set news i new) n d) ≡ after_commit last database (watched_of (get_or olds n d))
      by_place n d low first (inl here) =
          let inside : n < length news = omega (arith, looks.long, low) in
          let its : watched_of (get_or news n d) ≡ watched_of watch =
          ap watched_of (get_or_default news n d watch inside ∙ (ap (λ m. get_or news m watch) here ∙ sym is)) in
          ap watched_of (ap (λ t. get_or (set news i new) t d) here ∙ get_or-set_same news i new d within)
          ∙ looked
          ∙ ap (after_commit last database) (sym its ∙ looks.left n d low (omega (arith, here)))
      by_place n d low first (inr other) =
          ap watched_of (get_or-set_other news i n new d other) ∙ looks.done n d low (omega (arith, first, other))

  pub looks_to_all : (olds news : List (Watch C)) (i fired : ℕ) → LooksTo olds news i fired → length olds ≤ i
      → map watched_of news ≡ map (after_commit last database) (map watched_of olds)
  looks_to_all olds news i fired looks ended =
      same_maps watched_of (after_commit last database) news olds looks.long (λ n d low. looks.done n d low (omega (arith, ended, low)))

  -- where there is no number, no watch has to look
  pub none_at : (watches : List (Watch C)) (numbers : List ℕ) → numbers ≡ [] → HaveLookedAt last database numbers watches watches
  none_at watches numbers none = record {
    long = refl;
    each = λ n d low. inr (refl, λ found. absurd (omega (arith, found.1, ap length none)));
  }

  -- the watches of the numbers under a key have looked: so have all that are pending on it
  pub key_looked : (olds news : List (Watch C)) (numbers : List ℕ → List ℕ) (pending : ℕ) → AreListed olds numbers pending
      → (key : List ℕ) → HaveLookedAt last database (numbers key) olds news
      → HaveLooked last database (key ∷ []) (map watched_of olds) (map watched_of news)
  key_looked olds news numbers pending kept key looked =
      all_zip (HasLooked last database (key ∷ [])) watched_of olds news looked.long
      (λ n d low. by_case n d low (looked.each n d low))
    where
      by_case : (n : ℕ) (d : Watch C) → n < length olds
          → (watched_of (get_or news n d) ≡ after_commit last database (watched_of (get_or olds n d)))
          ⊎ ((watched_of (get_or news n d) ≡ watched_of (get_or olds n d)) × (Contains (numbers key) n → ⊥))
          → HasLooked last database (key ∷ []) (watched_of (get_or olds n d)) (watched_of (get_or news n d))
      by_case n d low (inl done) = inl done
      by_case n d low (inr same) =
          inr (same.0, λ is_one on. same.1 (subst (λ k. Contains (numbers k) n) (only key (get_or olds n d).key on) (kept.listed n d low is_one)))

module _ (last : ℕ) (database : Database) where
  -- no watch has to look at no key
  pub none_looked : (watches : List Watched) → HaveLooked last database [] watches watches
  none_looked [] = tt
  none_looked (w ∷ watches) = (inr (refl, λ is_one on. absurd (omega (arith, on.1))), none_looked watches)

  both_one : (keys : List (List ℕ)) (key : List ℕ) (a b c : Watched) → HasLooked last database keys a b → HasLooked last database (key ∷ []) b c
      → HasLooked last database (keys ++ key ∷ []) a c
  both_one keys key a b c (inl first) (inl second) =
      inl (second ∙ (ap (after_commit last database) first ∙ commit_twice last database a))
  both_one keys key a b c (inl first) (inr second) = inl (second.0 ∙ first)
  both_one keys key a b c (inr first) (inl second) = inl (second ∙ ap (after_commit last database) first.0)
  both_one keys key a b c (inr first) (inr second) =
      inr (second.0 ∙ first.0, λ is_one on. by_place is_one (Contains-push_cases keys key a.key on))
    where
      by_place : is_pending a ≡ true → Contains keys a.key ⊎ (key ≡ a.key) → ⊥
      by_place is_one (inl before) = first.1 is_one before
      by_place is_one (inr here) =
          second.1 (ap is_pending first.0 ∙ is_one) (0, omega arith, here ∙ sym (ap (λ (w : Watched). w.key) first.0))

  -- watches that looked at keys, and then at one more, have looked at all of them
  pub both_looked : (keys : List (List ℕ)) (key : List ℕ) (olds mids news : List Watched) → HaveLooked last database keys olds mids
      → HaveLooked last database (key ∷ []) mids news → HaveLooked last database (keys ++ key ∷ []) olds news
  both_looked keys key [] [] [] first second = tt
  both_looked keys key [] [] (c ∷ news) first second = second
  both_looked keys key [] (b ∷ mids) news first second = absurd first
  both_looked keys key (a ∷ olds) [] news first second = absurd first
  both_looked keys key (a ∷ olds) (b ∷ mids) [] first second = second
  both_looked keys key (a ∷ olds) (b ∷ mids) (c ∷ news) first second =
      (both_one keys key a b c first.0 second.0, both_looked keys key olds mids news first.1 second.1)

  all_one : (keys : List (List ℕ)) (old new : Watched) → HasLooked last database keys old new
      → ((Contains keys old.key → ⊥) → IsCurrent database old) → new ≡ after_commit last database old
  all_one keys old new (inl done) current = done
  all_one keys old new (inr kept) current =
      kept.0
      ∙ sym (current_stays last database old (λ is_one. current (kept.1 is_one) is_one))

  -- where any other has its value still, all are as after a look
  pub all_looked : (keys : List (List ℕ)) (olds news : List Watched) → HaveLooked last database keys olds news
      → AreCurrentBut keys database olds → news ≡ map (after_commit last database) olds
  all_looked keys [] [] looked current = refl
  all_looked keys [] (new ∷ news) looked current = absurd looked
  all_looked keys (old ∷ olds) [] looked current = absurd looked
  all_looked keys (old ∷ olds) (new ∷ news) looked current =
      let Is : Watched → Type 0 = λ (w : Watched). (Contains keys w.key → ⊥) → IsCurrent database w in
      ap (λ w. w ∷ news) (all_one keys old new looked.0 (All-head Is old olds current))
      ∙ ap (λ ws. after_commit last database old ∷ ws) (all_looked keys olds news looked.1 (All-tail Is old olds current))

  -- after a look each that is pending has the value that its key has
  pub all_current : (watches : List Watched) → AreCurrent database (map (after_commit last database) watches)
  all_current watches =
      All-map (IsCurrent database) (after_commit last database) watches (λ i d within. commit_current last database (get_or watches i d))

module _ {C : Type 0} where
  -- what contracts see after a look, where the watches are put back into their room
  pub seen_commit : (watches before new : List (Watch C)) (len : ℕ) → len ≡ length watches → before ≡ watches
      → (last : ℕ) (database : Database) (keys : List (List ℕ)) → HaveLooked last database keys (map watched_of before) (map watched_of new)
      → AreCurrentBut keys database (map watched_of watches)
      → map watched_of (take len (new ++ drop (length new) watches)) ≡ map (after_commit last database) (map watched_of watches)
  seen_commit watches before new len whole same last database keys looked others =
      let after : map watched_of new ≡ map (after_commit last database) (map watched_of watches) =
      all_looked last database keys (map watched_of watches) (map watched_of new)
      (subst (λ ws. HaveLooked last database keys (map watched_of ws) (map watched_of new)) same looked) others in
      let long : length new ≡ length watches =
      sym (length-map new watched_of)
      ∙ (ap length after ∙ (length-map (map watched_of watches) (after_commit last database) ∙ length-map watches watched_of)) in
      ap (map watched_of)
      (ap (λ n. take n (new ++ drop (length new) watches)) (whole ∙ sym long) ∙ take-append_seam new (drop (length new) watches))
      ∙ after

  -- the same where all have looked
  pub seen_commit_all : (watches before new : List (Watch C)) (len : ℕ) → len ≡ length watches → before ≡ watches
      → (last : ℕ) (database : Database) → map watched_of new ≡ map (after_commit last database) (map watched_of before)
      → (take len (new ++ drop (length new) watches) ≡ new) × (map watched_of new ≡ map (after_commit last database) (map watched_of watches))
      × (length new ≡ length watches)
  seen_commit_all watches before new len whole same last database looked =
      let after : map watched_of new ≡ map (after_commit last database) (map watched_of watches) =
      looked ∙ ap (λ ws. map (after_commit last database) (map watched_of ws)) same in
      let long : length new ≡ length watches =
      sym (length-map new watched_of)
      ∙ (ap length after ∙ (length-map (map watched_of watches) (after_commit last database) ∙ length-map watches watched_of)) in
      (ap (λ n. take n (new ++ drop (length new) watches)) (whole ∙ sym long) ∙ take-append_seam new (drop (length new) watches), after, long)
