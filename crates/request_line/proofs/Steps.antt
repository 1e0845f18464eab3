-- Each move of a line keeps its rule.
use Rattle.std.proofs.Common.{◌≡◌, ◌≢◌, ℕ, zero, suc, ◌+◌, ◌-◌, ◌^◌, ◌<◌, ◌≤◌, List, [], ◌∷◌, ◌++◌, Bool, true, false, true≢false, cond, ◌&&◌, leb, ltb, length, set, sym, refl, ap, ◌∙◌, subst, ⊎_elim, append_assoc, append-nil, le-leb, lt-ltb, leb-true, ltb-true, pow_pos, pow-suc, lit≤, arith}
use mathlib.Core.Option.{some, some-injective, some-ne-none}
use lib.ListN.{get_elem?}
use Rattle.crossbeam_channel.specs.Fifo.{Pushes, Pops, Forks, Merges}
use Rattle.atomic_table.proofs.Lists.{at_set}
use Rattle.request_line.specs.declared.history.History.{History}
use Rattle.request_line.specs.declared.view.View.{View}
use Rattle.request_line.specs.declared.view.View.TheVariants.{First, Sends, Receives, Spent}
use Rattle.request_line.specs.History.{first_history, with_post, lower_half, upper_half, IsInSpan}
use Rattle.request_line.specs.Taking.{items_of}
use Rattle.request_line.specs.Spans.{Owner, held, closed_at, Owns, Fits, Kept, told, taken_by, closed_by}
use Rattle.request_line.proofs.Items.{items_of-last_own, items_of-last_other, left_nil, each_set, each_last}

-- the numbers from low up to high go to an owner, and the others stay
put : ℕ → ℕ → Owner → (ℕ → Owner) → ℕ → Owner
put low high owner who p = cond (leb low p && ltb p high) owner (who p)

within_test : (low high p : ℕ) → low ≤ p → p < high → (leb low p && ltb p high) ≡ true
within_test low high p h k = ap (λ b. b && ltb p high) (le-leb low p h) ∙ lt-ltb p high k

both_true : (a b : Bool) → (a && b) ≡ true → (a ≡ true) × (b ≡ true)
both_true true true e = (refl, refl)
both_true true false e = absurd (true≢false (sym e))
both_true false b e = absurd (true≢false (sym e))

put_in : (low high : ℕ) (o : Owner) (who : ℕ → Owner) (p : ℕ) → low ≤ p → p < high → put low high o who p ≡ o
unfolding put
put_in low high o who p h k = ap (λ b. cond b o (who p)) (within_test low high p h k)

cond_out : {A : Type 0} (b : Bool) (x y : A) → (b ≡ true → ⊥) → cond b x y ≡ y
cond_out true x y n = absurd (n refl)
cond_out false x y n = refl

put_out : (low high : ℕ) (o : Owner) (who : ℕ → Owner) (p : ℕ) → (low ≤ p → p < high → ⊥) → put low high o who p ≡ who p
unfolding put
put_out low high o who p n =
    cond_out (leb low p && ltb p high) o (who p) (λ e. let t = both_true (leb low p) (ltb p high) e in n (leb-true low p t.0) (ltb-true p high t.1))

held_apart : (a b : ℕ) → a ≢ b → held a ≢ held b
held_apart a b n e = n (cc)

two_halves : (r : ℕ) → 1 ≤ r → 2 ^ (r - 1) + 2 ^ (r - 1) ≡ 2 ^ r
two_halves zero h = absurd (omega arith)
two_halves (suc r) h = let e : suc r - 1 ≡ r = omega arith in rw e (omega (arith, pow-suc 2 r))

module _ {T : Type 0} where
  own_number : (h : History T) → IsInSpan h h.number
  own_number h = omega (arith, pow_pos h.room)

  -- the list posted, by two names
  Owns_along : (log log' : List (ℕ × T)) (who : ℕ → Owner) (o : Owner) (h : History T) → log ≡ log' → Owns log who o h → Owns log' who o h
  Owns_along log log' who o h e k = subst (λ l. Owns l who o h) e k

  -- what the others posted changes nothing for this sender
  Owns_more : (log : List (ℕ × T)) (who : ℕ → Owner) (o : Owner) (h : History T) (m : ℕ × T) → who m.0 ≢ o → Owns log who o h
      → Owns (log ++ m ∷ []) who o h
  Owns_more log who o h m apart k = record {
    posted = items_of-last_other h.number log m (λ e. apart (ap who e ∙ k.owned h.number (own_number h))) ∙ k.posted;
    within = k.within;
    owned = k.owned;
    unused = λ p span other. items_of-last_other p log m (λ e. apart (ap who e ∙ k.owned p span)) ∙ k.unused p span other;
    follows = record {
      front = k.follows.front;
      back = k.follows.back ++ m ∷ [];
      parts = ap (λ l. l ++ m ∷ []) k.follows.parts ∙ append_assoc k.follows.front k.follows.back (m ∷ []);
      none_yet = k.follows.none_yet;
      before = k.follows.before;
    };
  }

  -- .. and what it posts itself is added to what it posted
  Owns_post : (log : List (ℕ × T)) (who : ℕ → Owner) (o : Owner) (h : History T) (x : T) → Owns log who o h
      → Owns (log ++ (h.number, x) ∷ []) who o (with_post h x)
  Owns_post log who o h x k = record {
    posted = items_of-last_own h.number log x ∙ ap (λ l. l ++ x ∷ []) k.posted;
    within = k.within;
    owned = k.owned;
    unused = λ p span other. items_of-last_other p log (h.number, x) (λ e. other (sym e)) ∙ k.unused p span other;
    follows = record {
      front = k.follows.front;
      back = k.follows.back ++ (h.number, x) ∷ [];
      parts = ap (λ l. l ++ (h.number, x) ∷ []) k.follows.parts ∙ append_assoc k.follows.front k.follows.back ((h.number, x) ∷ []);
      none_yet = k.follows.none_yet;
      before = k.follows.before;
    };
  }

  -- other owners of other numbers
  Owns_by : (log : List (ℕ × T)) (who who' : ℕ → Owner) (o o' : Owner) (h : History T) → ((p : ℕ) → IsInSpan h p → who p ≡ o → who' p ≡ o')
      → Owns log who o h → Owns log who' o' h
  Owns_by log who who' o o' h f k = record {
    posted = k.posted;
    within = k.within;
    owned = λ p span. f p span (k.owned p span);
    unused = k.unused;
    follows = k.follows;
  }

  -- where some numbers went from one owner to another, a third keeps its own
  Owns_stay : (log : List (ℕ × T)) (who : ℕ → Owner) (low high : ℕ) (from to o : Owner) (h : History T)
      → ((p : ℕ) → low ≤ p → p < high → who p ≡ from) → o ≢ from → Owns log who o h → Owns log (put low high to who) o h
  Owns_stay log who low high from to o h gone apart k =
      Owns_by log who (put low high to who) o o h (λ p span mine. put_out low high to who p (λ a b. apart (sym mine ∙ gone p a b)) ∙ mine) k

  pub begins : Kept {T = T} [] (First ∷ [])
  begins = record { got = []; reader = 0; who = λ _. held 0; each = first; bounded = λ p h. refl }
    where
      first : (pass : ℕ) (v : View T) → get_elem? (First ∷ []) pass ≡ some v → Fits [] [] 0 (λ _. held 0) pass v
      first zero v e = subst (λ u. Fits [] [] 0 (λ _. held 0) 0 u) (some-injective First v e) (refl, refl, λ p. refl)
      first (suc pass) v e = absurd (some-ne-none v (sym e))

  -- the other passes, where the first one had all
  others_of_first : (log got : List (ℕ × T)) (reader : ℕ) (who : ℕ → Owner) (pass j reader' : ℕ) → Fits log got reader who pass First
      → j ≢ pass → (v : View T) → Fits log got reader who j v → Fits log got reader' who j v
  others_of_first log got reader who pass j reader' f apart First g = absurd (apart (g.0 ∙ sym f.0))
  others_of_first log got reader who pass j reader' f apart (Sends h) g =
      absurd (held_apart j pass apart (sym (g.owned h.number (own_number h)) ∙ f.2 h.number))
  others_of_first log got reader who pass j reader' f apart (Receives taken senders) g = absurd (apart (g.0 ∙ sym f.0))
  others_of_first log got reader who pass j reader' f apart Spent g = tt

  -- the first pass is cut in two, the first sender's and the receiver's
  pub makes_ends : (pass : ℕ) → Forks (Kept {T = T}) pass First (Sends first_history) (Receives [] [])
  makes_ends pass items views k at = record {
    got = k.got;
    reader = length (set views pass (Sends first_history));
    who = k.who;
    each =
        each_last (Fits log k.got new k.who) (set views pass (Sends first_history)) (Receives [] []) (refl, nothing_taken, λ i h e. absurd (some-ne-none h (sym e)))
        (each_set (Fits log k.got new k.who) views pass (Sends first_history) mine (λ j u apart e. others_of_first log k.got k.reader k.who pass j new first apart u (k.each j u e)));
    bounded = k.bounded;
  }
    where
      log : List (ℕ × T)
      log = k.got ++ items

      new : ℕ
      new = length (set views pass (Sends first_history))

      first : Fits log k.got k.reader k.who pass First
      first = k.each pass First at

      nothing_taken : [] ≡ k.got
      nothing_taken = sym (left_nil k.got items first.1)

      mine : Owns log k.who (held pass) first_history
      mine = record {
        posted = ap (items_of 0) first.1;
        within = lit≤ tt;
        owned = λ p span. first.2 p;
        unused = λ p span other. ap (items_of p) first.1;
        follows = record { front = []; back = []; parts = first.1; none_yet = refl; before = refl };
      }

  -- the other passes, where a sender's pass was cut in two
  others_of_split : (log got : List (ℕ × T)) (reader : ℕ) (who : ℕ → Owner) (pass j new low high : ℕ) (h : History T)
      → Owns log who (held pass) h → ((p : ℕ) → low ≤ p → p < high → who p ≡ held pass) → j ≢ pass
      → (v : View T) → Fits log got reader who j v → Fits log got reader (put low high (held new) who) j v
  others_of_split log got reader who pass j new low high h k gone apart First g =
      absurd (held_apart j pass apart (sym (g.2 h.number) ∙ k.owned h.number (own_number h)))
  others_of_split log got reader who pass j new low high h k gone apart (Sends h') g =
      Owns_stay log who low high (held pass) (held new) (held j) h' gone (held_apart j pass apart) g
  others_of_split log got reader who pass j new low high h k gone apart (Receives taken senders) g =
      (g.0, g.1, λ i h' e. Owns_stay log who low high (held pass) (held new) (closed_at i) h' gone (λ same. (cc)) (g.2 i h' e))
  others_of_split log got reader who pass j new low high h k gone apart Spent g = tt

  -- the lower half stays with its sender
  Owns_lower : (log : List (ℕ × T)) (who : ℕ → Owner) (pass new : ℕ) (h : History T) → 1 ≤ h.room → Owns log who (held pass) h
      → Owns log (put (upper_half h).number (h.number + 2 ^ h.room) (held new) who) (held pass) (lower_half h)
  Owns_lower log who pass new h some_room k = record {
    posted = k.posted;
    within = omega (arith, halves, k.within);
    owned =
        λ p span. put_out (upper_half h).number (h.number + 2 ^ h.room) (held new) who p (λ a b. omega arith) ∙ k.owned p (wider p span);
    unused = λ p span other. k.unused p (wider p span) other;
    follows =
        record { front = k.follows.front; back = k.follows.back; parts = k.follows.parts; none_yet = k.follows.none_yet; before = k.follows.before };
  }
    where
      halves : 2 ^ (h.room - 1) + 2 ^ (h.room - 1) ≡ 2 ^ h.room
      halves = two_halves h.room some_room

      wider : (p : ℕ) → IsInSpan (lower_half h) p → IsInSpan h p
      wider p span = (span.0, omega (arith, halves, span.1))

  -- the upper half is the new sender's
  Owns_upper : (log : List (ℕ × T)) (who : ℕ → Owner) (pass new : ℕ) (h : History T) → 1 ≤ h.room → Owns log who (held pass) h
      → Owns log (put (upper_half h).number (h.number + 2 ^ h.room) (held new) who) (held new) (upper_half h)
  Owns_upper log who pass new h some_room k = record {
    posted = fresh;
    within = omega (arith, halves, k.within);
    owned = λ p span. put_in (upper_half h).number (h.number + 2 ^ h.room) (held new) who p span.0 (omega (arith, halves, span.1));
    unused = λ p span other. k.unused p (wider p span) (λ e. absurd (omega (arith, span.0, e, pow_pos (h.room - 1))));
    follows = record { front = log; back = []; parts = sym (append-nil log); none_yet = fresh; before = k.posted };
  }
    where
      halves : 2 ^ (h.room - 1) + 2 ^ (h.room - 1) ≡ 2 ^ h.room
      halves = two_halves h.room some_room

      wider : (p : ℕ) → IsInSpan (upper_half h) p → IsInSpan h p
      wider p span = (omega (arith, span.0), omega (arith, halves, span.1))

      fresh : items_of (upper_half h).number log ≡ []
      fresh =
          k.unused (upper_half h).number (wider (upper_half h).number (own_number (upper_half h))) (λ e. absurd (omega (arith, e, pow_pos (h.room - 1))))

  -- a sender's pass is cut in two
  pub splits : (pass : ℕ) (h : History T) → 1 ≤ h.room → Forks (Kept {T = T}) pass (Sends h) (Sends (lower_half h)) (Sends (upper_half h))
  splits pass h some_room items views k at = record {
    got = k.got;
    reader = k.reader;
    who = who';
    each = each_last (Fits log k.got k.reader who') cut (Sends (upper_half h)) (Owns_upper log k.who pass new h some_room mine)
        (each_set (Fits log k.got k.reader who') views pass (Sends (lower_half h)) (Owns_lower log k.who pass new h some_room mine)
        (λ j u apart e. others_of_split log k.got k.reader k.who pass j new low high h mine gone apart u (k.each j u e)));
    bounded = k.bounded;
  }
    where
      log : List (ℕ × T)
      log = k.got ++ items

      cut : List (View T)
      cut = set views pass (Sends (lower_half h))

      new : ℕ
      new = length cut

      low : ℕ
      low = (upper_half h).number

      high : ℕ
      high = h.number + 2 ^ h.room

      who' : ℕ → Owner
      who' = put low high (held new) k.who

      mine : Owns log k.who (held pass) h
      mine = k.each pass (Sends h) at

      gone : (p : ℕ) → low ≤ p → p < high → k.who p ≡ held pass
      gone p a b = mine.owned p (omega (arith, a), b)

  -- the other passes, where this one posted
  others_of_post : (log got : List (ℕ × T)) (reader : ℕ) (who : ℕ → Owner) (pass j : ℕ) (m : ℕ × T) → who m.0 ≡ held pass → j ≢ pass
      → (v : View T) → Fits log got reader who j v → Fits (log ++ m ∷ []) got reader who j v
  others_of_post log got reader who pass j m e apart First f = absurd (held_apart j pass apart (sym (f.2 m.0) ∙ e))
  others_of_post log got reader who pass j m e apart (Sends h) f =
      Owns_more log who (held j) h m (λ x. held_apart j pass apart (sym x ∙ e)) f
  others_of_post log got reader who pass j m e apart (Receives taken senders) f =
      (f.0, f.1, λ i h at. Owns_more log who (closed_at i) h m (λ x. (cc)) (f.2 i h at))
  others_of_post log got reader who pass j m e apart Spent f = tt

  -- a post
  pub posts : (n pass : ℕ) (h : History T) (x : T) → Pushes Kept n pass (Sends h) (h.number, x) (λ w. w ≡ Sends (with_post h x))
  posts n pass h x items views _ k at = (
    Sends (with_post h x),
    record {
      got = k.got;
      reader = k.reader;
      who = k.who;
      each = λ j u e. subst (λ l. Fits l k.got k.reader k.who j u) along
          (each_set (Fits longer k.got k.reader k.who) views pass (Sends (with_post h x)) (Owns_post log k.who (held pass) h x mine)
          (λ j' u' apart e'. others_of_post log k.got k.reader k.who pass j' (h.number, x) (mine.owned h.number (own_number h)) apart u' (k.each j' u' e')) j u e);
      bounded =
          λ p big. ap (items_of p) (sym along)
          ∙ items_of-last_other p log (h.number, x) (λ e. absurd (omega (arith, big, e, mine.within, pow_pos h.room))) ∙ k.bounded p big;
    },
    refl,
  )
    where
      log : List (ℕ × T)
      log = k.got ++ items

      longer : List (ℕ × T)
      longer = log ++ (h.number, x) ∷ []

      along : longer ≡ k.got ++ (items ++ (h.number, x) ∷ [])
      along = append_assoc k.got items ((h.number, x) ∷ [])

      mine : Owns log k.who (held pass) h
      mine = k.each pass (Sends h) at

  -- the other passes, where the reader's took
  others_of_take : (log got got' : List (ℕ × T)) (reader : ℕ) (who : ℕ → Owner) (j : ℕ) → j ≢ reader → (v : View T)
      → Fits log got reader who j v → Fits log got' reader who j v
  others_of_take log got got' reader who j apart First f = absurd (apart f.0)
  others_of_take log got got' reader who j apart (Sends h) f = f
  others_of_take log got got' reader who j apart (Receives taken senders) f = absurd (apart f.0)
  others_of_take log got got' reader who j apart Spent f = tt

  -- a take
  pub takes : (pass : ℕ) (taken : List (ℕ × T)) (senders : List (History T))
      → Pops Kept pass (Receives taken senders) (λ m w. w ≡ Receives (taken ++ m ∷ []) senders)
  takes pass taken senders m items views k at = (
    Receives (taken ++ m ∷ []) senders,
    record {
      got = got';
      reader = k.reader;
      who = k.who;
      each = λ j u e. subst (λ l. Fits l got' k.reader k.who j u) along
          (each_set (Fits log got' k.reader k.who) views pass (Receives (taken ++ m ∷ []) senders) (mine.0, ap (λ l. l ++ m ∷ []) mine.1, mine.2)
          (λ j' u' apart e'. others_of_take log k.got got' k.reader k.who j' (λ same. apart (same ∙ sym mine.0)) u' (k.each j' u' e')) j u e);
      bounded = λ p big. ap (items_of p) (sym along) ∙ k.bounded p big;
    },
    refl,
  )
    where
      log : List (ℕ × T)
      log = k.got ++ m ∷ items

      got' : List (ℕ × T)
      got' = k.got ++ m ∷ []

      along : log ≡ got' ++ items
      along = sym (append_assoc k.got (m ∷ []) items)

      mine : Fits log k.got k.reader k.who pass (Receives taken senders)
      mine = k.each pass (Receives taken senders) at

  -- the other passes, where a sender was closed
  others_of_close : (log got : List (ℕ × T)) (reader : ℕ) (who : ℕ → Owner) (pass other j place : ℕ) (h : History T) → pass ≡ reader
      → Owns log who (held other) h → j ≢ pass → j ≢ other
      → (v : View T) → Fits log got reader who j v → Fits log got reader (put h.number (h.number + 2 ^ h.room) (closed_at place) who) j v
  others_of_close log got reader who pass other j place h same k apart apart' First f = absurd (apart (f.0 ∙ sym same))
  others_of_close log got reader who pass other j place h same k apart apart' (Sends h') f =
      Owns_stay log who h.number (h.number + 2 ^ h.room) (held other) (closed_at place) (held j) h' (λ p a b. k.owned p (a, b)) (held_apart j other apart') f
  others_of_close log got reader who pass other j place h same k apart apart' (Receives taken senders) f = absurd (apart (f.0 ∙ sym same))
  others_of_close log got reader who pass other j place h same k apart apart' Spent f = tt

  -- the reader's pass closes a sender
  pub closes : (pass : ℕ) (taken : List (ℕ × T)) (senders : List (History T)) (other : ℕ) (h : History T)
      → Merges Kept pass (Receives taken senders) other (Sends h) (Receives taken (senders ++ h ∷ [])) Spent
  closes pass taken senders other h items views k at two at' = record {
    got = k.got;
    reader = k.reader;
    who = who';
    each = each_set (Fits log k.got k.reader who') (set views pass both) other Spent tt
        (λ j u apart e. each_set (λ i v. i ≢ other → Fits log k.got k.reader who' i v) views pass both (λ _. (mine.0, mine.1, all_in))
        (λ i v apart' e' apart''. others_of_close log k.got k.reader k.who pass other i (length senders) h mine.0 theirs apart' apart'' v (k.each i v e')) j u e apart);
    bounded = k.bounded;
  }
    where
      log : List (ℕ × T)
      log = k.got ++ items

      both : View T
      both = Receives taken (senders ++ h ∷ [])

      who' : ℕ → Owner
      who' = put h.number (h.number + 2 ^ h.room) (closed_at (length senders)) k.who

      mine : Fits log k.got k.reader k.who pass (Receives taken senders)
      mine = k.each pass (Receives taken senders) at

      was : get_elem? views other ≡ some (Sends h)
      was = ⊎_elim (λ x. absurd (two x.0)) (λ x. x.1) (at_set views pass other both (Sends h) at')

      theirs : Owns log k.who (held other) h
      theirs = k.each other (Sends h) was

      new_in : Owns log who' (closed_at (length senders)) h
      new_in =
          Owns_by log k.who who' (held other) (closed_at (length senders)) h (λ p span _. put_in h.number (h.number + 2 ^ h.room) (closed_at (length senders)) k.who p span.0 span.1) theirs

      all_in : (i : ℕ) (h' : History T) → get_elem? (senders ++ h ∷ []) i ≡ some h' → Owns log who' (closed_at i) h'
      all_in = each_last (λ i h'. Owns log who' (closed_at i) h') senders h new_in
          (λ i h' e. Owns_stay log k.who h.number (h.number + 2 ^ h.room) (held other) (closed_at (length senders)) (closed_at i) h' (λ p a b. theirs.owned p (a, b)) (λ same. (cc)) (mine.2 i h' e))

  -- the same moves, at a view that is known by an equation
  pub splits_at : (pass : ℕ) (v : View T) (h : History T) → v ≡ Sends h → 1 ≤ (told v).room
      → Forks Kept pass v (Sends (lower_half (told v))) (Sends (upper_half (told v)))
  splits_at pass v h e =
      subst (λ u. 1 ≤ (told u).room → Forks Kept pass u (Sends (lower_half (told u))) (Sends (upper_half (told u)))) (sym e) (splits pass h)

  pub posts_at : (n pass : ℕ) (v : View T) (h : History T) (x : T) → v ≡ Sends h
      → Pushes Kept n pass v (h.number, x) (λ w. w ≡ Sends (with_post (told v) x))
  posts_at n pass v h x e =
      subst (λ u. Pushes Kept n pass u (h.number, x) (λ w. w ≡ Sends (with_post (told u) x))) (sym e) (posts n pass h x)

  pub takes_at : (pass : ℕ) (v : View T) → v ≡ Receives (taken_by v) (closed_by v)
      → Pops Kept pass v (λ m w. w ≡ Receives (taken_by v ++ m ∷ []) (closed_by v))
  takes_at pass v e =
      subst (λ u. Pops Kept pass u (λ m w. w ≡ Receives (taken_by v ++ m ∷ []) (closed_by v))) (sym e) (takes pass (taken_by v) (closed_by v))

  pub closes_at : (pass : ℕ) (v : View T) (other : ℕ) (u : View T) (h : History T) → v ≡ Receives (taken_by v) (closed_by v) → u ≡ Sends h
      → Merges Kept pass v other u (Receives (taken_by v) (closed_by v ++ told u ∷ [])) Spent
  closes_at pass v other u h e f =
      subst (λ y. Merges Kept pass y other u (Receives (taken_by v) (closed_by v ++ told u ∷ [])) Spent) (sym e)
      (subst (λ z. Merges Kept pass (Receives (taken_by v) (closed_by v)) other z (Receives (taken_by v) (closed_by v ++ told z ∷ [])) Spent) (sym f) (closes pass (taken_by v) (closed_by v) other h))

  pub makes_ends_at : (pass : ℕ) (v : View T) → v ≡ First → Forks Kept pass v (Sends first_history) (Receives [] [])
  makes_ends_at pass v e = subst (λ u. Forks Kept pass u (Sends first_history) (Receives [] [])) (sym e) (makes_ends pass)
