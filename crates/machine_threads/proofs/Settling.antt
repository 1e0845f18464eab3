-- Machines that have ended, once their senders were closed: each was taken whole, and its receipts are of the cells of its waiters.
use Rattle.std.proofs.Common.{◌≡◌, ◌≢◌, ℕ, zero, suc, ◌+◌, ◌<◌, Bool, true, false, cond, eqb, List, [], ◌∷◌, ◌++◌, length, map, get_or, set, Some, refl, sym, ap, subst, ◌∙◌, eq-eqb, ne_eqb, arith}
use Rattle.std.specs.Prelude.{slice_get, IfSome, IsPermutation}
use Rattle.std.specs.List.{All, Any, AllPairs, filter, zip}
use Rattle.std.specs.Global.{Vec}
use denote.Ref.{Bor}
use Rattle.std.proofs.lemmas.List.{append-nil, get_or-map, length-map, map-append}
use Rattle.std.proofs.lemmas.List.Elements.{All-cons, All-head, All-map, All-nil, All-push, All-same, All-tail, All-weaker, filter-append}
use Rattle.std.proofs.lemmas.List.Sorted.{length_permutation, All-permutation, Contains-permutation, IsPermutation-map}
use Rattle.std.proofs.lemmas.Option.{get_or_from_slice_get, none-some, same_Some, slice_get-get_or, slice_get_within}
use Rattle.std.proofs.lemmas.Grind.{flat_map-append}
use mathlib.Core.List.{head-eq_of_cons-eq, tail-eq_of_cons-eq, cons≢nil}
use native.Mathlib.Decide.{ℕ_discrete}
use Rattle.fdb_calls.specs.declared.Reply.{Reply}
use Rattle.future_cell.specs.declared.setter.Receipt.{Receipt}
use Rattle.future_cell.specs.declared.waiter.Waiter.{Waiter}
use Rattle.future_cell.specs.declared.wake.Wake.{Wake}
use Rattle.future_cell.specs.Cells.{receipt_cell, shown, value_set, waiter_cell}
use Rattle.request_line.specs.declared.ends.Receiver.{Receiver}
use Rattle.request_line.specs.declared.history.History.{History}
use Rattle.request_line.specs.History.{AreAllApart, CoverAllNumbers, IsInSpan}
use Rattle.request_line.specs.Line.{closed, taken}
use Rattle.request_line.specs.Taking.{items_of, Agrees, IsOfThese, TakesAfterSplit, TakesInOrder}
use Rattle.network.specs.declared.post.Post.{Post}
use Rattle.network.specs.declared.post.Post.TheVariants.{Ask, Over}
use Rattle.network.specs.Posts.{posts_of, asking_in, cell_by, cells_in, overs_in}
use Rattle.network.specs.Serving.{cells_of, replies_of}
use Rattle.network.specs.Pairing.{receipts_of, AsksAsOne, AsksBy, AsksFor, AsksForItsMachine, EndsWithItsOver, IsTakenWhole}
use Rattle.network.proofs.Pairing.{asks_by, pairs_with_waiters}
use Rattle.network.proofs.Wholes.{all_taken}
use Rattle.threaded_machine.specs.declared.threaded.ThreadedMachine.{ThreadedMachine}
use Rattle.laws_threads.proofs.Lists.{get_set_other, get_set_same, there}
use Rattle.machine_threads.specs.declared.closing.Unsettled.{Unsettled}
use Rattle.threaded_machine.specs.Threaded.{history_of, machine_in, shown_by, HasEnded}
use Rattle.machine_threads.specs.Closing.{AreNumbered, IsSettledOf, IsTakenOf}

-- ---- lists

-- what is made of the element at a place stands at that place of what is made of them all
mapped_at : {X Y : Type 0} (f : X → Y) (xs : List X) (k : ℕ) (x : X) (d : Y) → slice_get xs k ≡ Some x → get_or (map f xs) k d ≡ f x
mapped_at f xs k x d at = get_or-map f xs k x d (slice_get_within xs k x at) ∙ ap f (get_or_from_slice_get xs k x x at)

-- where one value is made of each element of two lists, the elements at one place have the same
pub same_place : {A B C : Type 0} (f : A → C) (g : B → C) (xs : List A) (ys : List B) (k : ℕ) (x : A) → map f xs ≡ map g ys
    → slice_get xs k ≡ Some x → (y : B) × (slice_get ys k ≡ Some y) × (g y ≡ f x)
same_place f g [] ys k x same at = absurd (none-some x at)
same_place f g (first ∷ xs) [] k x same at = absurd (cons≢nil same)
same_place f g (first ∷ xs) (other ∷ ys) zero x same at = (other, refl, sym (head-eq_of_cons-eq same) ∙ ap f (same_Some first x at))
same_place f g (first ∷ xs) (other ∷ ys) (suc k) x same at = same_place f g xs ys k x (tail-eq_of_cons-eq same) at

-- what holds of each element holds of the one at a place
pub All-at : {X : Type 0} (P : X → Type 0) (xs : List X) (k : ℕ) (x : X) → All P xs → slice_get xs k ≡ Some x → P x
All-at P xs k x all at = subst P (get_or_from_slice_get xs k x x at) (all k x (slice_get_within xs k x at))

-- what holds of each value that is made of an element
pub All-unmapped : {X Y : Type 0} (P : Y → Type 0) (f : X → Y) (xs : List X) → All P (map f xs) → All (λ x. P (f x)) xs
All-unmapped P f xs all k d h = subst P (get_or-map f xs k d (f d) h) (all k (f d) (omega (arith, h, length-map xs f)))

Any-permutation : {X : Type 0} (P : X → Type 0) (xs ys : List X) → IsPermutation xs ys → Any P xs → Any P ys
Any-permutation P xs ys moved found =
    let place = Contains-permutation xs ys found.1 moved (found.0, found.2, found.3) in
    (place.0, found.1, place.1, place.2, found.4)

-- senders in another order cover the same numbers
cover_moved : (before after : List (History Post)) → IsPermutation before after → CoverAllNumbers before → CoverAllNumbers after
cover_moved before after moved cover p below = Any-permutation (λ (h : History Post). IsInSpan h p) before after moved (cover p below)

-- ---- one machine that has ended

ends_with_over : (one : ThreadedMachine) → HasEnded one → EndsWithItsOver (history_of one)
ends_with_over one ended = (ended.asks, (machine_in one).number, ended.posted, ended.asked.no_over)

asks_for_itself : (one : ThreadedMachine) → HasEnded one → AsksForItsMachine ((machine_in one).number, history_of one)
asks_for_itself one ended =
    All-same (AsksFor (machine_in one).number) (history_of one).posted (ended.asks ++ Over (machine_in one).number ∷ []) ended.posted
    (All-push (AsksFor (machine_in one).number) ended.asks (Over (machine_in one).number) ended.asked.for_itself tt)

-- its waiters are of the cells of its Asks
own_cells : (one : ThreadedMachine) → HasEnded one → cells_in (history_of one).posted ≡ map waiter_cell one.waiters.items
own_cells one ended = ap cells_in ended.posted ∙ flat_map-append cell_by ended.asks (Over (machine_in one).number ∷ [])
    ∙ append-nil (cells_in ended.asks) ∙ ended.asked.own_cells

-- ---- all of them

-- a machine's number, and the history of its sender
abbrev numbered_history : ThreadedMachine → (ℕ × History Post)
numbered_history one = ((machine_in one).number, history_of one)

histories : (ended : List ThreadedMachine)
    → map (λ (s : ℕ × History Post). s.1) (map numbered_history ended) ≡ map history_of ended
histories [] = refl
histories (one ∷ ended) = ap (λ rest. history_of one ∷ rest) (histories ended)

numbers_apart : (ended : List ThreadedMachine) → AreNumbered ended
    → AllPairs (λ (a b : ℕ × History Post). a.0 ≢ b.0) (map numbered_history ended)
numbers_apart ended numbered i j d before within same =
    let length_is = length-map ended numbered_history in
    let one = there ended i (omega (arith, before, within, length_is)) in
    let other = there ended j (omega (arith, within, length_is)) in
    omega (
      arith,
      before,
      numbered i one.0 one.1,
      numbered j other.0 other.1,
      sym (ap (λ (s : ℕ × History Post). s.0) (mapped_at numbered_history ended i one.0 d one.1)) ∙ same
          ∙ ap (λ (s : ℕ × History Post). s.0) (mapped_at numbered_history ended j other.0 d other.1),
    )

all_taken_of : (ended : List ThreadedMachine) (taken : List (ℕ × Post)) → All HasEnded ended → CoverAllNumbers (map history_of ended)
    → Agrees taken (map history_of ended) → overs_in (posts_of taken) ≡ length ended
    → All (λ (one : ThreadedMachine). IsTakenWhole taken (history_of one)) ended
all_taken_of ended taken have_ended cover agrees overs = All-unmapped (IsTakenWhole taken) history_of ended
    (all_taken taken (map history_of ended) agrees.in_order (agrees.of_these cover)
    (All-map EndsWithItsOver history_of ended (All-weaker HasEnded (λ (one : ThreadedMachine). EndsWithItsOver (history_of one))
    ends_with_over ended have_ended))
    (overs ∙ sym (length-map ended history_of)))

asks_by_its_own : (ended : List ThreadedMachine) (taken : List (ℕ × Post)) → AreNumbered ended → All HasEnded ended
    → CoverAllNumbers (map history_of ended) → Agrees taken (map history_of ended)
    → All (λ (one : ThreadedMachine). AsksBy (machine_in one).number (history_of one).number taken) ended
asks_by_its_own ended taken numbered have_ended cover agrees =
    All-unmapped (λ (s : ℕ × History Post). AsksBy s.0 s.1.number taken) numbered_history ended
    (asks_by (map numbered_history ended) taken
    (subst (All (TakesInOrder taken)) (sym (histories ended)) agrees.in_order)
    (subst (IsOfThese taken) (sym (histories ended)) (agrees.of_these cover))
    (subst AreAllApart (sym (histories ended)) agrees.apart)
    (numbers_apart ended numbered)
    (All-map AsksForItsMachine numbered_history ended (All-weaker HasEnded
    (λ (one : ThreadedMachine). AsksForItsMachine (numbered_history one)) asks_for_itself ended have_ended)))

-- Where the senders of all that ended were closed, and as many Overs were taken, each machine asks by its own sender alone, all
-- that the sender posted was taken, and behind all that its maker had posted when it was made.
are_taken : (ended : List ThreadedMachine) (taken : List (ℕ × Post)) → AreNumbered ended → All HasEnded ended
    → CoverAllNumbers (map history_of ended) → (0 < length ended → Agrees taken (map history_of ended))
    → overs_in (posts_of taken) ≡ length ended → All (IsTakenOf taken) ended
are_taken ended taken numbered have_ended cover agree overs k d h =
    let agrees = agree (omega (arith, h)) in (
      asks_by_its_own ended taken numbered have_ended cover agrees k d h,
      all_taken_of ended taken have_ended cover agrees overs k d h,
      All-unmapped (TakesAfterSplit taken) history_of ended agrees.after_split k d h,
    )

-- .. at a receiver that had closed none before, and whichever order the machines were closed in
pub taken_when_closed : (ended closing : List ThreadedMachine) (before after : Receiver Post) → IsPermutation ended closing
    → AreNumbered closing → All HasEnded ended → CoverAllNumbers (map history_of ended) → closed before ≡ []
    → closed after ≡ closed before ++ map history_of closing → taken after ≡ taken before
    → (0 < length closing → Agrees (taken after) (closed after)) → overs_in (posts_of (taken before)) ≡ length ended
    → All (IsTakenOf (taken before)) closing
taken_when_closed ended closing before after moved numbered have_ended cover none_closed closed_are taken_are agree overs =
    are_taken closing (taken before) numbered (All-permutation HasEnded ended closing moved have_ended)
    (cover_moved (map history_of ended) (map history_of closing) (IsPermutation-map history_of ended closing moved) cover)
    (λ some. subst (Agrees (taken before)) (closed_are ∙ ap (λ l. l ++ map history_of closing) none_closed)
    (subst (λ l. Agrees l (closed after)) taken_are (agree some)))
    (overs ∙ sym (length_permutation ended closing moved))

-- .. and each post taken is of one of them
pub of_these_when_closed : (ended closing : List ThreadedMachine) (before after : Receiver Post) → IsPermutation ended closing
    → CoverAllNumbers (map history_of ended) → closed before ≡ [] → closed after ≡ closed before ++ map history_of closing
    → taken after ≡ taken before → (0 < length closing → Agrees (taken after) (closed after))
    → IsOfThese (taken before) (map history_of closing)
of_these_when_closed ended closing before after moved cover none_closed closed_are taken_are agree =
    let covers = cover_moved (map history_of ended) (map history_of closing) (IsPermutation-map history_of ended closing moved) cover in
    let one = covers 0 (omega arith) in
    let some : 0 < length closing = omega (arith, one.2, length-map closing history_of) in
    let agrees = subst (Agrees (taken before)) (closed_are ∙ ap (λ l. l ++ map history_of closing) none_closed)
    (subst (λ l. Agrees l (closed after)) taken_are (agree some)) in
    agrees.of_these covers

-- ---- which machines ask

-- an Ask is of a machine whose number is less
abbrev AsksBelow : ℕ → (ℕ × Post) → Type 0
AsksBelow bound (number, Ask asking request setter) = asking < bound
AsksBelow bound (number, Over over) = Unit {0}

all_asking : (bound : ℕ) (taken : List (ℕ × Post)) → All (AsksBelow bound) taken → All (λ machine. machine < bound) (asking_in (posts_of taken))
all_asking bound [] all = All-nil (λ machine. machine < bound)
all_asking bound ((number, Ask asking request setter) ∷ taken) all =
    All-cons (λ machine. machine < bound) asking (asking_in (posts_of taken)) (All-head (AsksBelow bound) (number, Ask asking request setter) taken all)
    (all_asking bound taken (All-tail (AsksBelow bound) (number, Ask asking request setter) taken all))
all_asking bound ((number, Over over) ∷ taken) all =
    all_asking bound taken (All-tail (AsksBelow bound) (number, Over over) taken all)

-- where each post taken is of one of the machines, and each machine asks by its own sender alone, each that asks is one of them
pub asking_within : (ended : List ThreadedMachine) (taken : List (ℕ × Post)) → AreNumbered ended → All (IsTakenOf taken) ended
    → IsOfThese taken (map history_of ended) → All (λ machine. machine < length ended) (asking_in (posts_of taken))
asking_within ended taken numbered are_taken these =
    all_asking (length ended) taken (λ place d within. as_one place d within (get_or taken place d) refl)
  where
    as_one : (place : ℕ) (d : ℕ × Post) → place < length taken → (mail : ℕ × Post) → get_or taken place d ≡ mail → AsksBelow (length ended) mail
    as_one place d within (number, Over over) at = tt
    as_one place d within (number, Ask asking request setter) at =
        let found = these place d within in
        let inside : found.0 < length ended = omega (arith, found.2, length-map ended history_of) in
        let machine = there ended found.0 inside in
        let sender : (history_of machine.0).number ≡ number =
        ap (λ (h : History Post). h.number) (sym (mapped_at history_of ended found.0 machine.0 found.1 machine.1) ∙ found.3) ∙ found.4
        ∙ ap (λ (mail : ℕ × Post). mail.0) at in
        let asks = subst (AsksAsOne (machine_in machine.0).number (history_of machine.0).number) at
        ((All-at (IsTakenOf taken) ended found.0 machine.0 are_taken machine.1).0 place d within) in
        omega (arith, asks.1 (sym sender), numbered found.0 machine.0 machine.1, inside)

-- ---- receipts and waiters

-- the receipts of a machine are of the cells of its waiters
pairs_up : (one : ThreadedMachine) (taken : List (ℕ × Post)) (order : List ℕ) (receipts : List (Receipt Reply Wake)) → HasEnded one
    → IsTakenOf taken one → order ≡ asking_in (posts_of taken) → cells_of receipts ≡ cells_in (posts_of taken)
    → cells_of (receipts_of (machine_in one).number order receipts) ≡ map waiter_cell one.waiters.items
pairs_up one taken order receipts ended is_taken ordered cells =
    pairs_with_waiters (machine_in one).number taken order receipts (history_of one) one.waiters.items ordered cells is_taken.0 is_taken.1
    (own_cells one ended)

as_many_cells : (posts : List Post) → length (cells_in posts) ≡ length (asking_in posts)
as_many_cells [] = refl
as_many_cells (Ask machine request setter ∷ posts) = ap suc (as_many_cells posts)
as_many_cells (Over machine ∷ posts) = as_many_cells posts

-- an order names the machine of each receipt
pub as_many_receipts : (posts : List Post) (order : List ℕ) (receipts : List (Receipt Reply Wake)) → order ≡ asking_in posts
    → cells_of receipts ≡ cells_in posts → length order ≡ length receipts
as_many_receipts posts order receipts ordered cells =
    ap length ordered ∙ sym (as_many_cells posts) ∙ sym (ap length cells) ∙ length-map receipts receipt_cell

-- machines that have ended, what is left of them, and the receipts of each, at the place of its number
module _ (ended : List ThreadedMachine) (taken : List (ℕ × Post)) (order : List ℕ) (receipts : List (Receipt Reply Wake))
    (unsettled : List Unsettled) (sorted : List (Vec (Receipt Reply Wake))) (numbered : AreNumbered ended) (have_ended : All HasEnded ended)
    (waiters : map (λ (one : Unsettled). one.waiters.items) unsettled ≡ map (λ (one : ThreadedMachine). one.waiters.items) ended)
    (own_receipts : (number : ℕ) (own : Vec (Receipt Reply Wake)) → slice_get sorted number ≡ Some own
    → own.items ≡ receipts_of number order receipts) where
  -- .. each machine's receipts are of the cells of its waiters
  pub all_pair_up : All (IsTakenOf taken) ended → order ≡ asking_in (posts_of taken) → cells_of receipts ≡ cells_in (posts_of taken)
      → (number : ℕ) (one : Unsettled) (own : Vec (Receipt Reply Wake)) → slice_get unsettled number ≡ Some one
      → slice_get sorted number ≡ Some own → cells_of own.items ≡ map waiter_cell one.waiters.items
  all_pair_up are_taken ordered cells number one own at own_at =
      let machine = same_place (λ (it : Unsettled). it.waiters.items) (λ (it : ThreadedMachine). it.waiters.items) unsettled ended number one
      waiters at in
      ap cells_of (own_receipts number own own_at)
      ∙ ap (λ n. cells_of (receipts_of n order receipts)) (sym (numbered number machine.0 machine.1))
      ∙ pairs_up machine.0 taken order receipts (All-at HasEnded ended number machine.0 have_ended machine.1)
      (All-at (IsTakenOf taken) ended number machine.0 are_taken machine.1) ordered cells
      ∙ ap (map waiter_cell) machine.2

  -- .. and once the waiters were settled, what they have shown is what was set by the receipts
  pub all_settled : length sorted ≡ length unsettled
      → ((number : ℕ) (one : Unsettled) (own : Vec (Receipt Reply Wake)) → slice_get unsettled number ≡ Some one
      → slice_get sorted number ≡ Some own → (replies : List Reply) → shown_by one.waiters.items ≡ map Some replies
      → replies_of own.items ≡ map Some replies)
      → All (IsSettledOf order receipts) ended
  all_settled as_many settled k d h =
      let machine = get_or ended k d in
      let as_many_left = sym (length-map unsettled (λ (it : Unsettled). it.waiters.items)) ∙ ap length waiters
      ∙ length-map ended (λ (it : ThreadedMachine). it.waiters.items) in
      let at = slice_get-get_or ended k d h in
      let one = same_place (λ (it : ThreadedMachine). it.waiters.items) (λ (it : Unsettled). it.waiters.items) ended unsettled k machine
      (sym waiters) at in
      let own = there sorted k (omega (arith, h, as_many, as_many_left)) in
      let ended_so = have_ended k d h in
      ap (λ n. replies_of (receipts_of n order receipts)) (numbered k machine at)
      ∙ sym (ap replies_of (own_receipts k own.0 own.1))
      ∙ settled k one.0 own.0 one.1 own.1 ended_so.asked.replies (ap shown_by one.2 ∙ ended_so.asked.replies_are)
      ∙ sym ended_so.asked.replies_are

-- ---- loops over two lists

-- what stands at a place of two lists side by side stands at that place of each
pub zip-parts : {A B : Type 0} (xs : List A) (ys : List B) (k : ℕ) (both : A × B) → slice_get (zip xs ys) k ≡ Some both
    → (slice_get xs k ≡ Some both.0) × (slice_get ys k ≡ Some both.1)
zip-parts [] ys k both at = absurd (none-some both at)
zip-parts (x ∷ xs) [] k both at = absurd (none-some both at)
zip-parts (x ∷ xs) (y ∷ ys) zero both at =
    let same = same_Some (x, y) both at in
    (ap (λ it. Some it.0) same, ap (λ it. Some it.1) same)
zip-parts (x ∷ xs) (y ∷ ys) (suc k) both at = zip-parts xs ys k both at

pub zip-at : {A B : Type 0} (xs : List A) (ys : List B) (k : ℕ) (x : A) (y : B) → slice_get xs k ≡ Some x → slice_get ys k ≡ Some y
    → slice_get (zip xs ys) k ≡ Some (x, y)
zip-at [] ys k x y at other = absurd (none-some x at)
zip-at (first ∷ xs) [] k x y at other = absurd (none-some y other)
zip-at (first ∷ xs) (second ∷ ys) zero x y at other = λ i. Some (same_Some first x at i, same_Some second y other i)
zip-at (first ∷ xs) (second ∷ ys) (suc k) x y at other = zip-at xs ys k x y at other

-- what is made of the first of each two is what is made of the first list, where the second is as long
pub map-zip : {A B C : Type 0} (f : A → C) (xs : List A) (ys : List B) → length ys ≡ length xs
    → map (λ (both : A × B). f both.0) (zip xs ys) ≡ map f xs
map-zip f [] ys same = refl
map-zip f (x ∷ xs) [] same = absurd (omega (arith, same))
map-zip f (x ∷ xs) (y ∷ ys) same = ap (λ rest. f x ∷ rest) (map-zip f xs ys (omega (arith, same)))

-- the replies that were set by these receipts are those that these waiters have shown
abbrev pub AreAnswered : List (Receipt Reply Wake) → List (Waiter Reply Wake) → Type 0
AreAnswered receipts waiters = (replies : List Reply) → shown_by waiters ≡ map Some replies → replies_of receipts ≡ map Some replies

abbrev pub IsAnswered : (Receipt Reply Wake × Waiter Reply Wake) → Type 0
IsAnswered both = (reply : Reply) → shown both.1 ≡ Some reply → value_set both.0 ≡ Some reply

-- a waiter that was settled against its receipt
pub is_answered : (receipt : Receipt Reply Wake) (waiter : Waiter Reply Wake) (value : Reply) → value_set receipt ≡ Some value
    → IfSome (shown waiter) (λ it. it ≡ value) → IsAnswered (receipt, waiter)
is_answered receipt waiter value set shows reply is = set ∙ ap Some (sym (subst (λ o. IfSome o (λ it. it ≡ value)) is shows))

-- where a list of receipts is of the cells of a list of waiters, so is each of its own waiter
pub cells_at : (receipts : List (Receipt Reply Wake)) (waiters : List (Waiter Reply Wake)) (k : ℕ) (both : Receipt Reply Wake × Waiter Reply Wake)
    → cells_of receipts ≡ map waiter_cell waiters → k < length (zip receipts waiters) → both ≡ get_or (zip receipts waiters) k both
    → receipt_cell both.0 ≡ waiter_cell both.1
cells_at [] waiters k both cells h at = absurd (omega (arith, h))
cells_at (receipt ∷ receipts) [] k both cells h at = absurd (omega (arith, h))
cells_at (receipt ∷ receipts) (waiter ∷ waiters) zero both cells h at =
    subst (λ (it : Receipt Reply Wake × Waiter Reply Wake). receipt_cell it.0 ≡ waiter_cell it.1) (sym at) (head-eq_of_cons-eq cells)
cells_at (receipt ∷ receipts) (waiter ∷ waiters) (suc k) both cells h at =
    cells_at receipts waiters k both (tail-eq_of_cons-eq cells) (omega (arith, h)) at

pub as_many_waiters : (receipts : List (Receipt Reply Wake)) (waiters : List (Waiter Reply Wake)) → cells_of receipts ≡ map waiter_cell waiters
    → length receipts ≡ length waiters
as_many_waiters receipts waiters cells =
    sym (length-map receipts receipt_cell) ∙ ap length cells ∙ length-map waiters waiter_cell

pub are_answered : (receipts : List (Receipt Reply Wake)) (waiters : List (Waiter Reply Wake)) → length receipts ≡ length waiters
    → All IsAnswered (zip receipts waiters) → AreAnswered receipts waiters
are_answered [] [] same all [] is = refl
are_answered [] [] same all (reply ∷ replies) is = absurd (cons≢nil (sym is))
are_answered [] (waiter ∷ waiters) same all replies is = absurd (omega (arith, same))
are_answered (receipt ∷ receipts) [] same all replies is = absurd (omega (arith, same))
are_answered (receipt ∷ receipts) (waiter ∷ waiters) same all [] is = absurd (cons≢nil is)
are_answered (receipt ∷ receipts) (waiter ∷ waiters) same all (reply ∷ replies) is = λ i.
    All-head IsAnswered (receipt, waiter) (zip receipts waiters) all reply (head-eq_of_cons-eq is) i
    ∷ are_answered receipts waiters (omega (arith, same)) (All-tail IsAnswered (receipt, waiter) (zip receipts waiters) all) replies
    (tail-eq_of_cons-eq is) i

-- what is left of a machine, settled against these receipts
abbrev pub IsSettledBy : (Unsettled × Vec (Receipt Reply Wake)) → Type 0
IsSettledBy both = AreAnswered both.1.items both.0.waiters.items

-- ---- the receipts of each machine

-- a machine's number beside a receipt, as a loop over both meets them
abbrev pub numbered_receipt : (Bor ℕ × Receipt Reply Wake) → (ℕ × Receipt Reply Wake)
numbered_receipt both = (both.0.now, both.1)

-- the machine of each receipt is one of so many
pub named_below : (bound : ℕ) (order : List ℕ) (receipts : List (Receipt Reply Wake)) → All (λ machine. machine < bound) order
    → All (λ (entry : ℕ × Receipt Reply Wake). entry.0 < bound) (zip order receipts)
named_below bound [] receipts all = All-nil (λ (entry : ℕ × Receipt Reply Wake). entry.0 < bound)
named_below bound (machine ∷ order) [] all = All-nil (λ (entry : ℕ × Receipt Reply Wake). entry.0 < bound)
named_below bound (machine ∷ order) (receipt ∷ receipts) all =
    All-cons (λ (entry : ℕ × Receipt Reply Wake). entry.0 < bound) (machine, receipt) (zip order receipts)
    (All-head (λ machine. machine < bound) machine order all)
    (named_below bound order receipts (All-tail (λ machine. machine < bound) machine order all))

-- the receipts that were met so far stand each at the place of its machine
abbrev pub AreSorted : List (Bor ℕ × Receipt Reply Wake) → List (Vec (Receipt Reply Wake)) → Type 0
AreSorted met sorted = (number : ℕ) (own : Vec (Receipt Reply Wake)) → slice_get sorted number ≡ Some own
    → own.items ≡ items_of number (map numbered_receipt met)

-- one more receipt is the last of its machine
pub items_of-push : {T : Type 0} (number machine : ℕ) (item : T) (taken : List (ℕ × T))
    → items_of number (taken ++ (machine, item) ∷ []) ≡ items_of number taken ++ cond (eqb machine number) (item ∷ []) []
items_of-push {T} number machine item taken =
    ap (map (λ (m : ℕ × T). m.1)) (filter-append (λ (m : ℕ × T). eqb m.0 number) taken ((machine, item) ∷ []))
    ∙ map-append (λ (m : ℕ × T). m.1) (filter (λ (m : ℕ × T). eqb m.0 number) taken) _
    ∙ ap (λ l. items_of number taken ++ l) (one (eqb machine number))
  where
    one : (b : Bool) → map (λ (m : ℕ × T). m.1) (cond b ((machine, item) ∷ []) []) ≡ cond b (item ∷ []) []
    one true = refl
    one false = refl

-- one more receipt stands at the place of its machine
pub sorted_more : (met : List (Bor ℕ × Receipt Reply Wake)) (machine : Bor ℕ) (receipt : Receipt Reply Wake)
    (sorted : List (Vec (Receipt Reply Wake))) (place : ℕ) (before after : Vec (Receipt Reply Wake)) → place ≡ machine.now
    → slice_get sorted place ≡ Some before → after.items ≡ before.items ++ receipt ∷ [] → AreSorted met sorted
    → AreSorted (met ++ (machine, receipt) ∷ []) (set sorted place after)
sorted_more met machine receipt sorted place before after is at more so_far number own own_at =
    decided (ℕ_discrete place number) ∙ sym (items_of-push number machine.now receipt (map numbered_receipt met))
    ∙ ap (items_of number) (sym (map-append numbered_receipt met ((machine, receipt) ∷ [])))
  where
    decided : Dec (place ≡ number)
        → own.items ≡ items_of number (map numbered_receipt met) ++ cond (eqb machine.now number) (receipt ∷ []) []
    decided (yes e) =
        ap (λ (it : Vec (Receipt Reply Wake)). it.items)
        (get_set_same sorted place after own (subst (λ n. slice_get (set sorted place after) n ≡ Some own) (sym e) own_at)) ∙ more
        ∙ (λ i. so_far number before (subst (λ n. slice_get sorted n ≡ Some before) e at) i
        ++ cond (sym (eq-eqb machine.now number (sym is ∙ e)) i) (receipt ∷ []) [])
    decided (no n) =
        so_far number own (sym (get_set_other sorted place number after n) ∙ own_at)
        ∙ sym (append-nil (items_of number (map numbered_receipt met)))
        ∙ ap (λ b. items_of number (map numbered_receipt met) ++ cond b (receipt ∷ []) []) (sym (ne_eqb machine.now number (λ e. n (is ∙ e))))

-- ---- machines at the places of their numbers

-- one more machine stands at the place of its number
pub numbered_more : (ended : List ThreadedMachine) (place : ℕ) (one : ThreadedMachine) → one ≡ get_or ended place one
    → (machine_in one).number ≡ place
    → ((k : ℕ) (it : ThreadedMachine) → k < place → slice_get ended k ≡ Some it → (machine_in it).number ≡ k)
    → (k : ℕ) (it : ThreadedMachine) → k < place + 1 → slice_get ended k ≡ Some it → (machine_in it).number ≡ k
numbered_more ended place one is number_is so_far k it h at = decided (ℕ_discrete k place)
  where
    decided : Dec (k ≡ place) → (machine_in it).number ≡ k
    decided (yes e) =
        ap (λ (m : ThreadedMachine). (machine_in m).number)
        (sym (get_or_from_slice_get ended k it one at) ∙ ap (λ p. get_or ended p one) e ∙ sym is) ∙ number_is ∙ sym e
    decided (no n) = so_far k it (omega (arith, h, n)) at
