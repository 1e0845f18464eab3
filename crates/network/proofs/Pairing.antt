-- The receipts of one machine are of the cells of its Asks.
use Rattle.std.proofs.Common.{◌≡◌, ◌≢◌, ◌↔◌, ℕ, zero, suc, ◌+◌, ◌<◌, ◌≤◌, ◌^◌, Bool, true, false, true≢false, cond, eqb, List, [], ◌∷◌, ◌++◌, map, length, get_or, refl, sym, ap, ◌∙◌, subst, eq-eqb, ne_eqb, pow_pos, arith}
use Rattle.std.specs.List.{All, AllPairs, filter, zip}
use Rattle.std.proofs.lemmas.List.{get_or-map, length-map}
use mathlib.Core.List.{IsPrefix, cons≢nil, head-eq_of_cons-eq, tail-eq_of_cons-eq}
use native.Mathlib.Decide.{ℕ_discrete}
use Rattle.fdb_calls.specs.declared.Request.{Request}
use Rattle.fdb_calls.specs.declared.Reply.{Reply}
use Rattle.future_cell.specs.declared.setter.Receipt.{Receipt}
use Rattle.future_cell.specs.declared.setter.Setter.{Setter}
use Rattle.future_cell.specs.declared.waiter.Waiter.{Waiter}
use Rattle.future_cell.specs.declared.wake.Wake.{Wake}
use Rattle.future_cell.specs.Cells.{setter_cell, receipt_cell, waiter_cell}
use Rattle.request_line.specs.declared.history.History.{History}
use Rattle.request_line.specs.History.{AreAllApart}
use Rattle.request_line.specs.Taking.{items_of, TakesInOrder, IsOfThese}
use Rattle.network.specs.declared.post.Post.{Post}
use Rattle.network.specs.declared.post.Post.TheVariants.{Ask, Over}
use Rattle.network.specs.Posts.{posts_of, asking_in, cells_in}
use Rattle.network.specs.Serving.{cells_of}
use Rattle.network.specs.Pairing.{receipts_of, AsksAsOne, AsksBy, AsksFor, AsksForItsMachine, IsTakenWhole}
use Rattle.network.proofs.Lists.{All-rest, All-first, one_place}

pub same_test : (a b c d : ℕ) → (a ≡ b) ↔ (c ≡ d) → Dec (a ≡ b) → eqb a b ≡ eqb c d
same_test a b c d iff (yes e) = eq-eqb a b e ∙ sym (eq-eqb c d (iff.0 e))
same_test a b c d iff (no n) = ne_eqb a b n ∙ sym (ne_eqb c d (λ e. n (iff.1 e)))

-- an Ask and its receipt are both picked, or neither is
picked_ask : (b c : Bool) (entry : ℕ × Receipt Reply Wake) (entries : List (ℕ × Receipt Reply Wake)) (number asking : ℕ) (request : Request)
    (setter : Setter Reply Wake) (mails : List (ℕ × Post)) → b ≡ c → receipt_cell entry.1 ≡ setter_cell setter
    → cells_of (map (λ (m : ℕ × Receipt Reply Wake). m.1) entries) ≡ cells_in (map (λ (m : ℕ × Post). m.1) mails)
    → cells_of (map (λ (m : ℕ × Receipt Reply Wake). m.1) (cond b (entry ∷ entries) entries))
    ≡ cells_in (map (λ (m : ℕ × Post). m.1) (cond c ((number, Ask asking request setter) ∷ mails) mails))
picked_ask true true entry entries number asking request setter mails same own rest = λ i. own i ∷ rest i
picked_ask true false entry entries number asking request setter mails same own rest = absurd (true≢false same)
picked_ask false true entry entries number asking request setter mails same own rest = absurd (true≢false (sym same))
picked_ask false false entry entries number asking request setter mails same own rest = rest

picked_over : (c : Bool) (number over : ℕ) (mails : List (ℕ × Post))
    → cells_in (map (λ (m : ℕ × Post). m.1) (cond c ((number, Over over) ∷ mails) mails)) ≡ cells_in (map (λ (m : ℕ × Post). m.1) mails)
picked_over true number over mails = refl
picked_over false number over mails = refl

-- Where a machine asks by one sender, and that sender asks for it alone, the machine's receipts, in order, are of the cells of the
-- Asks that were taken of the sender, in order.
pub pairs : (machine sender : ℕ) (mails : List (ℕ × Post)) (receipts : List (Receipt Reply Wake)) → cells_of receipts ≡ cells_in (posts_of mails)
    → AsksBy machine sender mails → cells_of (receipts_of machine (asking_in (posts_of mails)) receipts) ≡ cells_in (items_of sender mails)
pairs machine sender [] receipts cells one = refl
pairs machine sender ((number, Over over) ∷ mails) receipts cells one =
    pairs machine sender mails receipts cells (All-rest (AsksAsOne machine sender) (number, Over over) mails one)
    ∙ sym (picked_over (eqb number sender) number over (filter (λ (m : ℕ × Post). eqb m.0 sender) mails))
pairs machine sender ((number, Ask asking request setter) ∷ mails) [] cells one = absurd (cons≢nil (sym cells))
pairs machine sender ((number, Ask asking request setter) ∷ mails) (receipt ∷ receipts) cells one =
    picked_ask (eqb asking machine) (eqb number sender) (asking, receipt)
    (filter (λ (m : ℕ × Receipt Reply Wake). eqb m.0 machine) (zip (asking_in (posts_of mails)) receipts)) number asking request setter
    (filter (λ (m : ℕ × Post). eqb m.0 sender) mails)
    (same_test asking machine number sender (All-first (AsksAsOne machine sender) (number, Ask asking request setter) mails one) (ℕ_discrete asking machine))
    (head-eq_of_cons-eq cells)
    (pairs machine sender mails receipts (tail-eq_of_cons-eq cells) (All-rest (AsksAsOne machine sender) (number, Ask asking request setter) mails one))

-- .. So they are of the cells of the machine's waiters, where these are kept in the order of its calls and all that the sender posted was taken.
pub pairs_with_waiters : (machine : ℕ) (mails : List (ℕ × Post)) (order : List ℕ) (receipts : List (Receipt Reply Wake)) (h : History Post)
    (waiters : List (Waiter Reply Wake)) → order ≡ asking_in (posts_of mails) → cells_of receipts ≡ cells_in (posts_of mails) → AsksBy machine h.number mails
    → IsTakenWhole mails h → cells_in h.posted ≡ map waiter_cell waiters → cells_of (receipts_of machine order receipts) ≡ map waiter_cell waiters
pairs_with_waiters machine mails order receipts h waiters ordered cells one whole own =
    ap (λ l. cells_of (receipts_of machine l receipts)) ordered ∙ pairs machine h.number mails receipts cells one ∙ ap cells_in whole ∙ own

-- what holds of the posts of a sender
All-items : (P : Post → Type 0) (sender : ℕ) (taken : List (ℕ × Post)) → All P (items_of sender taken) → All (λ (mail : ℕ × Post). mail.0 ≡ sender → P mail.1) taken
All-items P sender [] all k d h own = absurd (omega (arith, h))
All-items P sender (mail ∷ taken) all zero d h own = All-first P mail.1 (items_of sender taken)
    (subst (λ b. All P (map (λ (m : ℕ × Post). m.1) (cond b (mail ∷ filter (λ (m : ℕ × Post). eqb m.0 sender) taken) (filter (λ (m : ℕ × Post). eqb m.0 sender) taken)))) (eq-eqb mail.0 sender own) all)
All-items P sender (mail ∷ taken) all (suc k) d h own = All-items P sender taken (rest (eqb mail.0 sender) (filter (λ (m : ℕ × Post). eqb m.0 sender) taken) all) k d (omega (arith, h)) own
  where
    rest : (b : Bool) (others : List (ℕ × Post)) → All P (map (λ (m : ℕ × Post). m.1) (cond b (mail ∷ others) others)) → All P (map (λ (m : ℕ × Post). m.1) others)
    rest true others all = All-rest P mail.1 (map (λ (m : ℕ × Post). m.1) others) all
    rest false others all = all

All-prefix : (P : Post → Type 0) (a b : List Post) → IsPrefix a b → All P b → All P a
All-prefix P a b p all = front a p.0 (subst (All P) (sym p.1) all)
  where
    front : (a t : List Post) → All P (a ++ t) → All P a
    front [] t all k d h = absurd (omega (arith, h))
    front (x ∷ a) t all zero d h = All-first P x (a ++ t) all
    front (x ∷ a) t all (suc k) d h = front a t (All-rest P x (a ++ t) all) k d (omega (arith, h))

module _ (seats : List (ℕ × History Post)) (taken : List (ℕ × Post)) where
  history_at : (i : ℕ) (d : ℕ × History Post) (e : History Post) → i < length seats → get_or (map (λ (s : ℕ × History Post). s.1) seats) i e ≡ (get_or seats i d).1
  history_at i d e h = get_or-map (λ (s : ℕ × History Post). s.1) seats i d e h

  seat_within : (i : ℕ) → i < length seats → i < length (map (λ (s : ℕ × History Post). s.1) seats)
  seat_within i h = omega (arith, h, length-map seats (λ (s : ℕ × History Post). s.1))

  numbers_apart : AreAllApart (map (λ (s : ℕ × History Post). s.1) seats) → AllPairs (λ (a b : ℕ × History Post). a.1.number ≢ b.1.number) seats
  numbers_apart apart i j d before within same =
      apart i j d.1 before (seat_within j within) (get_or seats i d).1.number
      (subst (λ (h : History Post). (h.number ≤ (get_or seats i d).1.number) × ((get_or seats i d).1.number < h.number + 2 ^ h.room)) (sym (history_at i d d.1 (omega (arith, before, within))))
      (omega arith, omega (arith, pow_pos (get_or seats i d).1.room)))
      (subst (λ (h : History Post). (h.number ≤ (get_or seats i d).1.number) × ((get_or seats i d).1.number < h.number + 2 ^ h.room)) (sym (history_at j d d.1 within))
      (omega (arith, same), omega (arith, same, pow_pos (get_or seats j d).1.room)))

  -- Where each sender asks for its own machine alone, and each machine has one sender, a machine asks by its sender, and the sender
  -- for the machine, in all that was taken.
  pub asks_by : All (TakesInOrder taken) (map (λ (s : ℕ × History Post). s.1) seats) → IsOfThese taken (map (λ (s : ℕ × History Post). s.1) seats)
      → AreAllApart (map (λ (s : ℕ × History Post). s.1) seats) → AllPairs (λ (a b : ℕ × History Post). a.0 ≢ b.0) seats → All AsksForItsMachine seats
      → All (λ (s : ℕ × History Post). AsksBy s.0 s.1.number taken) seats
  asks_by in_order these apart machines own i d h j m g = as_one (get_or taken j m) refl
    where
      seat : ℕ × History Post
      seat = get_or seats i d

      as_one : (mail : ℕ × Post) → get_or taken j m ≡ mail → AsksAsOne seat.0 seat.1.number mail
      as_one (number, Over over) at = tt
      as_one (number, Ask asking request setter) at =
          let found = these j m g in
          let place = found.0 in
          let within : place < length seats = omega (arith, found.2, length-map seats (λ (s : ℕ × History Post). s.1)) in
          let history = sym (history_at place d found.1 within) ∙ found.3 in
          let numbered : (get_or seats place d).1.number ≡ number = ap (λ (x : History Post). x.number) history ∙ found.4 ∙ ap (λ (x : ℕ × Post). x.0) at in
          let all = All-prefix (AsksFor (get_or seats place d).0) (items_of (get_or seats place d).1.number taken) (get_or seats place d).1.posted
          (subst (TakesInOrder taken) (history_at place d d.1 within) (in_order place d.1 (seat_within place within))) (own place d within) in
          let named : asking ≡ (get_or seats place d).0 =
          subst (λ (x : ℕ × Post). x.0 ≡ (get_or seats place d).1.number → AsksFor (get_or seats place d).0 x.1) at
          (All-items (AsksFor (get_or seats place d).0) (get_or seats place d).1.number taken all j m g) (sym numbered) in (
            λ e. sym numbered ∙ ap (λ k. (get_or seats k d).1.number) (one_place (λ (s : ℕ × History Post). s.0) seats place i d machines within h (sym named ∙ e)),
            λ e. named ∙ ap (λ k. (get_or seats k d).0) (one_place (λ (s : ℕ × History Post). s.1.number) seats place i d (numbers_apart apart) within h (numbered ∙ e)),
          )
