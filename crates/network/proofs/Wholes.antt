-- All that the senders posted was taken, where each ends with its one Over and as many Overs were taken as there are senders.
use Rattle.std.proofs.Common.{◌≡◌, ℕ, zero, suc, ◌+◌, ◌<◌, ◌≤◌, Bool, true, false, true≢false, cond, eqb, List, [], ◌∷◌, ◌++◌, map, length, get_or, sym, ap, ◌∙◌, subst, eq-eqb, arith}
use Rattle.std.specs.List.{All, Any, filter, sum_by}
use Rattle.std.proofs.lemmas.List.Sums.{sum_by-cons, sum_by-append}
use mathlib.Core.List.{head-eq_of_cons-eq, tail-eq_of_cons-eq}
use Rattle.request_line.specs.declared.history.History.{History}
use Rattle.request_line.specs.Taking.{items_of, TakesInOrder, IsOfThese}
use Rattle.network.specs.declared.post.Post.{Post}
use Rattle.network.specs.declared.post.Post.TheVariants.{Over}
use Rattle.network.specs.Posts.{posts_of, is_over, overs_in}
use Rattle.network.specs.Pairing.{EndsWithItsOver, IsTakenWhole}
use Rattle.network.proofs.Lists.{All-rest, All-first, left_nil}

-- how many Overs of a sender were taken
overs_of : List (ℕ × Post) → History Post → ℕ
overs_of taken h = overs_in (items_of h.number taken)

over_count : Post → ℕ
over_count post = cond (is_over post) 1 0

overs-cons : (post : Post) (posts : List Post) → overs_in (post ∷ posts) ≡ over_count post + overs_in posts
unfolding over_count
overs-cons post posts = sum_by-cons (λ p. cond (is_over p) 1 0) post posts

overs-append : (a b : List Post) → overs_in (a ++ b) ≡ overs_in a + overs_in b
overs-append a b = sum_by-append (λ p. cond (is_over p) 1 0) a b

-- a beginning of the posts that has their one Over is all of them
whole_with_over : (a t asks : List Post) (machine : ℕ) → a ++ t ≡ asks ++ Over machine ∷ [] → overs_in asks ≡ 0 → overs_in a ≡ 1
    → a ≡ asks ++ Over machine ∷ []
whole_with_over [] t asks machine e none one = absurd (omega (arith, one))
whole_with_over (x ∷ a) t [] machine e none one = λ i. head-eq_of_cons-eq e i ∷ left_nil a t (tail-eq_of_cons-eq e) i
whole_with_over (x ∷ a) t (y ∷ asks) machine e none one = λ i. head-eq_of_cons-eq e i ∷ whole_with_over a t asks machine (tail-eq_of_cons-eq e)
    (omega (arith, overs-cons y asks, none)) (omega (arith, overs-cons y asks, none, overs-cons x a, one, ap over_count (head-eq_of_cons-eq e))) i

at_most_one : (taken : List (ℕ × Post)) (h : History Post) → TakesInOrder taken h → EndsWithItsOver h → overs_of taken h ≤ 1
unfolding overs_of
at_most_one taken h p ends =
    omega (arith, overs-append (items_of h.number taken) p.0, ap overs_in (p.1 ∙ ends.2), overs-append ends.0 (Over ends.1 ∷ []), ends.3)

module _ {X : Type 0} where
  sums_more : (f g : X → ℕ) (more : ℕ) (xs : List X) → ((x : X) → f x ≤ g x) → (k : ℕ) (x : X) → k < length xs → get_or xs k x ≡ x
      → f x + more ≤ g x → sum_by f xs + more ≤ sum_by g xs
  sums_more f g more [] le k x h at here = absurd (omega (arith, h))
  sums_more f g more (y ∷ xs) le zero x h at here =
      omega (arith, sum_by-cons f y xs, sum_by-cons g y xs, subst (λ z. f z + more ≤ g z) (sym at) here, sums_le f g xs le)
    where
      sums_le : (f g : X → ℕ) (xs : List X) → ((x : X) → f x ≤ g x) → sum_by f xs ≤ sum_by g xs
      sums_le f g [] le = omega arith
      sums_le f g (y ∷ xs) le = omega (arith, sum_by-cons f y xs, sum_by-cons g y xs, le y, sums_le f g xs le)
  sums_more f g more (y ∷ xs) le (suc k) x h at here =
      omega (arith, sum_by-cons f y xs, sum_by-cons g y xs, le y, sums_more f g more xs le k x (omega (arith, h)) at here)

  sum_of_ones : (f : X → ℕ) (xs : List X) → All (λ x. f x ≤ 1) xs → sum_by f xs ≤ length xs
  sum_of_ones f [] each = omega arith
  sum_of_ones f (x ∷ xs) each =
      omega (arith, sum_by-cons f x xs, All-first (λ y. f y ≤ 1) x xs each, sum_of_ones f xs (All-rest (λ y. f y ≤ 1) x xs each))

  -- numbers up to 1 that add up to how many they are
  all_ones : (f : X → ℕ) (xs : List X) → All (λ x. f x ≤ 1) xs → length xs ≤ sum_by f xs → All (λ x. f x ≡ 1) xs
  all_ones f [] each enough k d h = absurd (omega (arith, h))
  all_ones f (x ∷ xs) each enough zero d h =
      omega (arith, enough, sum_by-cons f x xs, All-first (λ y. f y ≤ 1) x xs each, sum_of_ones f xs (All-rest (λ y. f y ≤ 1) x xs each))
  all_ones f (x ∷ xs) each enough (suc k) d h = all_ones f xs (All-rest (λ y. f y ≤ 1) x xs each)
      (omega (arith, enough, sum_by-cons f x xs, All-first (λ y. f y ≤ 1) x xs each)) k d (omega (arith, h))

-- one more post is one more of its sender
overs_of-cons : (b : Bool) (mail : ℕ × Post) (rest : List (ℕ × Post))
    → (b ≡ true → overs_in (map (λ (m : ℕ × Post). m.1) (cond b (mail ∷ rest) rest)) ≡ over_count mail.1 + overs_in (map (λ (m : ℕ × Post). m.1) rest))
    × (overs_in (map (λ (m : ℕ × Post). m.1) rest) ≤ overs_in (map (λ (m : ℕ × Post). m.1) (cond b (mail ∷ rest) rest)))
overs_of-cons true mail rest = (λ e. overs-cons mail.1 (map (λ (m : ℕ × Post). m.1) rest), omega (arith, overs-cons mail.1 (map (λ (m : ℕ × Post). m.1) rest)))
overs_of-cons false mail rest = (λ e. absurd (true≢false (sym e)), omega arith)

-- each Over taken is one of some sender's
overs_of_all : (taken : List (ℕ × Post)) (closed : List (History Post)) → IsOfThese taken closed → overs_in (posts_of taken) ≤ sum_by (overs_of taken) closed
unfolding overs_of
overs_of_all [] closed these = omega arith
overs_of_all (mail ∷ taken) closed these =
    let own = All-first (λ (m : ℕ × Post). Any (λ h. h.number ≡ m.0) closed) mail taken these in
    let rest = overs_of_all taken closed (All-rest (λ (m : ℕ × Post). Any (λ h. h.number ≡ m.0) closed) mail taken these) in
    omega (
      arith,
      overs-cons mail.1 (posts_of taken),
      rest,
      sums_more (overs_of taken) (overs_of (mail ∷ taken)) (over_count mail.1) closed
          (λ h. (overs_of-cons (eqb mail.0 h.number) mail (filter (λ (m : ℕ × Post). eqb m.0 h.number) taken)).1) own.0 own.1 own.2 own.3
          (omega (arith, (overs_of-cons (eqb mail.0 own.1.number) mail (filter (λ (m : ℕ × Post). eqb m.0 own.1.number) taken)).0 (eq-eqb mail.0 own.1.number (sym own.4)))),
    )

-- Where each sender ends with its one Over, each post taken is of one of the senders, and as many Overs were taken as there are senders, all
-- that each of them posted was taken.
pub all_taken : (taken : List (ℕ × Post)) (closed : List (History Post)) → All (TakesInOrder taken) closed → IsOfThese taken closed
    → All EndsWithItsOver closed → overs_in (posts_of taken) ≡ length closed → All (IsTakenWhole taken) closed
unfolding overs_of
all_taken taken closed in_order these ends as_many k d h =
    let p = in_order k d h in
    let e = ends k d h in
    whole_with_over (items_of (get_or closed k d).number taken) p.0 e.0 e.1 (p.1 ∙ e.2) e.3
    (all_ones (overs_of taken) closed (λ j c g. at_most_one taken (get_or closed j c) (in_order j c g) (ends j c g))
    (omega (arith, as_many, overs_of_all taken closed these)) k d h) ∙ sym e.2
