-- A call of the allocator, by how it ended.
use Rattle.std.proofs.Common.{◌≡◌, ℕ, ◌+◌, true, List, [], ◌∷◌, ◌++◌, length, Option, Some, None, Result, Ok, Err, refl, sym, ap, subst, ◌∙◌, arith}
use Rattle.std.specs.Prelude.{⊤}
use Rattle.std.specs.List.{list_all}
use Rattle.model_database.specs.declared.Code.{Code}
use Rattle.model_database.specs.Histories.{Setting}
use Rattle.model_database.specs.Reads.{GetKeyRange}
use Rattle.model_database.specs.Transactions.{Transaction, view, with_granted}
use Rattle.fdb_calls.specs.declared.fault.TrFault.{TrFault}
use Rattle.fdb_calls.specs.declared.fault.TrFault.TheVariants as tr
use Rattle.model_allocator.specs.Acts.{Act, Acted, act_called, acted_by, all_acted, refusal}
use Rattle.model_allocator.specs.Counters.{counter_in, greatest_counter, counters_begin, counters_end}
use Rattle.model_allocator.specs.Granting.{asks_greatest, counts, opens, tried, claims, Ending, Grants, IsFull, IsNoCounter, IsRefused, Plan, granting, plan, noted, ended, allocated}
use Rattle.model_allocator.proofs.Acting.{draws_none, none_drawn, passed-append, refused-append, quiet_behind}
use Rattle.model_allocator.proofs.Viewing.{after_read}
use Rattle.prefix_allocator.specs.declared.fault.AllocFault.{AllocFault}
use Rattle.prefix_allocator.specs.declared.fault.AllocFault.TheVariants as fault
use Rattle.prefix_allocator.specs.Faults.{fault_of}
use Rattle.prefix_allocator.specs.Allocates.{Leaves, EndsIn, StopsIn, IsAllocated}
use Rattle.prefix_allocator.specs.Doing.{Done, Draws, start_in, first_key, fills_half, opens_behind, start_behind, window_candidates, tries_of, found_in}
use Rattle.prefix_allocator.proofs.Calls.{IsGreatest}
use Rattle.prefix_allocator.proofs.Openings.{Opened, opening}
use Rattle.prefix_allocator.proofs.Finding.{InWindow}
use Rattle.prefix_allocator.proofs.Steps.{more_done, stopped_done, stopped}
use Rattle.prefix_allocator.proofs.Steps.{ended as after_last}
use Rattle.prefix_allocator.specs.Keyed.{Starts}
use Rattle.prefix_allocator.proofs.Planning.{planned, unplanned, plan_begins, opens_parts, opens_quiet, claims_quiet, start_small, tries_window, found_window}

-- ---- a call by its plan

-- a fault among its acts
pub fault_allocated : {A : Type 0} (good : A → Type 0) (f : TrFault) (setting : Setting) (stands : Transaction → Type 0) (words left : ℕ
    → ℕ) (space : List ℕ) (t : Transaction)
    → Done good (Err f) setting stands (plan space (view setting t) words).acts t
    → Draws {A = A} (Err f) words left (all_acted setting (plan space (view setting t) words).acts t).words
    → IsAllocated (Err (fault_of f)) setting stands words left space t
unfolding allocated
fault_allocated good tr.NoMemory setting stands words left space t done used = done
fault_allocated good (tr.Code code) setting stands words left space t done used =
    let planned = plan space (view setting t) words in
    let acted = all_acted setting planned.acts t in
    subst (λ refused. EndsIn (IsRefused code) stands words left (ended space (length t.script) planned.ending acted refused)) (sym done.0)
    (refl, done.1, used)

-- all its acts were let through
all_passed : {A : Type 0} (good : A → Type 0) (value : A) (ending : Ending) (setting : Setting) (stands after : Transaction → Type 0)
    (words left : ℕ → ℕ) (space : List ℕ) (t : Transaction)
    → (plan space (view setting t) words).ending ≡ ending
    → Done good (Ok value) setting after (plan space (view setting t) words).acts t
    → ((u : Transaction) → after u → stands (noted u space (length t.script) ending))
    → Leaves words left (all_acted setting (plan space (view setting t) words).acts t).words
    → EndsIn ending stands words left (allocated setting t space words)
unfolding allocated
all_passed good value ending setting stands after words left space t is done is_noted used =
    let planned = plan space (view setting t) words in
    let acted = all_acted setting planned.acts t in
    subst (λ refused. EndsIn ending stands words left (ended space (length t.script) planned.ending acted refused)) (sym done.0) (
      is,
      subst (λ ending. stands (noted acted.transaction space (length t.script) ending)) (sym is) (is_noted acted.transaction done.2),
      used,
    )

leaves_none : (words : ℕ → ℕ) (count : ℕ) → count ≡ 0 → Leaves words words count
leaves_none words count zero place = let same : place ≡ count + place = omega arith in ap words same

-- the greatest key of counters is none of a number
pub no_counter_allocated : (key : List ℕ) (setting : Setting) (stands : Transaction → Type 0) (words : ℕ → ℕ) (space : List ℕ)
    (t : Transaction)
    → Done (IsGreatest setting t space) (Ok (Some key)) setting stands (asks_greatest space ∷ []) t → counter_in space key ≡ None
    → IsAllocated (Err (fault.BadCounter key)) setting stands words words space t
no_counter_allocated key setting stands words space t done none =
    let is = unplanned space (view setting t) words key (sym done.1) none in
    let acts : asks_greatest space ∷ [] ≡ (plan space (view setting t) words).acts = ap (λ (plan : Plan). plan.acts) (sym is) in
    all_passed (IsGreatest setting t space) (Some key) (IsNoCounter key) setting stands stands words words space t
    (ap (λ (plan : Plan). plan.ending) is)
    (subst (λ acts. Done (IsGreatest setting t space) (Ok (Some key)) setting stands acts t) acts done)
    (λ u after. after)
    (leaves_none words _ (ap (λ acts. (all_acted setting acts t).words) (sym acts) ∙ none_drawn setting (asks_greatest space ∷ []) t refl))

-- memory ran out before its first act
pub out_of_memory : (setting : Setting) (stands : Transaction → Type 0) (words : ℕ → ℕ) (space : List ℕ) (t : Transaction) → stands t
    → IsAllocated (Err fault.NoMemory) setting stands words words space t
out_of_memory setting stands words space t is = stopped setting stands (plan space (view setting t) words).acts t is

-- a fault of some first acts that draw no word
fault_first : {A : Type 0} (good : A → Type 0) (f : TrFault) (setting : Setting) (stands : Transaction → Type 0) (words : ℕ → ℕ)
    (space : List ℕ) (t : Transaction)
    (first rest : List Act) → (plan space (view setting t) words).acts ≡ first ++ rest → list_all draws_none first ≡ true
    → Done good (Err f) setting stands first t → IsAllocated (Err (fault_of f)) setting stands words words space t
fault_first {A} good f setting stands words space t first rest is quiet done =
    fault_allocated good f setting stands words words space t
    (subst (λ acts. Done good (Err f) setting stands acts t) (sym is) (stopped_done good good f setting stands first rest t done))
    (subst (λ acts. Draws {A = A} (Err f) words words (all_acted setting acts t).words) (sym is) (used f done))
  where
    used : (f : TrFault) → Done good (Err f) setting stands first t
        → Draws {A = A} (Err f) words words (all_acted setting (first ++ rest) t).words
    used tr.NoMemory done = tt
    used (tr.Code code) done =
        leaves_none words _ (ap (λ (acted : Acted). acted.words) (refused-append setting first rest t code done.0)
        ∙ none_drawn setting first t quiet)

-- the read of the greatest counter was refused
pub fault_greatest : (f : TrFault) (setting : Setting) (stands : Transaction → Type 0) (words : ℕ → ℕ) (space : List ℕ) (t : Transaction)
    → Done (IsGreatest setting t space) (Err f) setting stands (asks_greatest space ∷ []) t
    → IsAllocated (Err (fault_of f)) setting stands words words space t
fault_greatest f setting stands words space t done =
    let begins = plan_begins space (view setting t) words in
    fault_first (IsGreatest setting t space) f setting stands words space t (asks_greatest space ∷ []) begins.0 begins.1 refl done

-- it has no start, or memory ran out while its key was read
pub fault_start : (f : AllocFault) (greatest : Option (List ℕ)) (setting : Setting) (stands : Transaction → Type 0) (words : ℕ → ℕ)
    (space : List ℕ) (t : Transaction)
    → Starts (Err f) space greatest → Done (IsGreatest setting t space) (Ok greatest) setting stands (asks_greatest space ∷ []) t
    → IsAllocated (Err f) setting stands words words space t
fault_start (fault.BadCounter key) greatest setting stands words space t starts done =
    no_counter_allocated key setting stands words space t
    (subst (λ greatest. Done (IsGreatest setting t space) (Ok greatest) setting stands (asks_greatest space ∷ []) t) starts.0 done) starts.1
fault_start fault.NoMemory greatest setting stands words space t starts done =
    let begins = plan_begins space (view setting t) words in
    subst (λ acts. StopsIn setting stands acts t) (sym begins.1)
    (more_done (IsGreatest setting t space) (Err tr.NoMemory) setting stands (asks_greatest space ∷ []) begins.0 t done.0
    (stopped setting stands begins.0 (all_acted setting (asks_greatest space ∷ []) t).transaction done.2))
fault_start (fault.WindowFull start) greatest setting stands words space t starts done = absurd starts
fault_start (fault.Tr code) greatest setting stands words space t starts done = absurd starts

-- ---- opening

asked_view : (setting : Setting) (t : Transaction) (space : List ℕ)
    → view setting (all_acted setting (asks_greatest space ∷ []) t).transaction ≡ view setting t
unfolding all_acted
asked_view setting t space = by (refusal (act_called setting t (asks_greatest space)).reply)
  where
    by : (refused : Option Code)
        → view setting (acted_by refused (act_called setting t (asks_greatest space)).transaction 0
        (all_acted setting [] (act_called setting t (asks_greatest space)).transaction)).transaction
        ≡ view setting t
    by (Some code) = after_read setting t (GetKeyRange (counters_begin space) (counters_end space) 1 true) true
    by None = after_read setting t (GetKeyRange (counters_begin space) (counters_end space) 1 true) true

-- the acts as far as the window is open
opening_done : (greatest : Option (List ℕ)) (result : Result ℕ TrFault) (setting : Setting) (asked stands : Transaction → Type 0)
    (space : List ℕ) (first : ℕ) (t : Transaction)
    → Done (IsGreatest setting t space) (Ok greatest) setting asked (asks_greatest space ∷ []) t
    → ((u : Transaction) → asked u → Done (Opened setting u space first) result setting stands (opening setting u space first) u)
    → Done (Opened setting t space first) result setting stands (opens (fills_half space (view setting t) first) space first) t
opening_done greatest result setting asked stands space first t done others =
    let m = view setting t in
    let u = (all_acted setting (asks_greatest space ∷ []) t).transaction in
    subst (λ acts. Done (Opened setting t space first) result setting stands acts t)
    (sym (opens_parts (fills_half space m first) space first))
    (more_done (Opened setting t space first) result setting stands (asks_greatest space ∷ [])
    (counts space first ++ opens_behind (fills_half space m first) space first) t done.0
    (subst (λ m. Done (λ start. start ≡ start_behind (fills_half space m first) first) result setting stands
    (counts space first ++ opens_behind (fills_half space m first) space first) u) (asked_view setting t space) (others u done.2)))

-- the window is open
pub record HasOpened (setting : Setting) (t : Transaction) (space : List ℕ) (first start : ℕ) (stands : Transaction → Type 0) : Type 0 where
  pub is_counter : start_in space (first_key (greatest_counter space (view setting t))) ≡ Some first
  pub is_start : start ≡ start_behind (fills_half space (view setting t) first) first
  pub let_through : (all_acted setting (opens (fills_half space (view setting t) first) space first) t).refused ≡ None
  pub after : stands (all_acted setting (opens (fills_half space (view setting t) first) space first) t).transaction

pub has_opened : (greatest : Option (List ℕ)) (setting : Setting) (asked stands : Transaction → Type 0) (space : List ℕ) (first start : ℕ)
    (t : Transaction)
    → start_in space greatest ≡ Some first
    → Done (IsGreatest setting t space) (Ok greatest) setting asked (asks_greatest space ∷ []) t
    → ((u : Transaction) → asked u → Done (Opened setting u space first) (Ok start) setting stands (opening setting u space first) u)
    → HasOpened setting t space first start stands
has_opened greatest setting asked stands space first start t is done others =
    let all = opening_done greatest (Ok start) setting asked stands space first t done others in
    record { is_counter = ap (start_in space) (sym done.1) ∙ is; is_start = all.1; let_through = all.0; after = all.2 }

pub fault_opening : (f : TrFault) (greatest : Option (List ℕ)) (setting : Setting) (asked stands : Transaction → Type 0) (words : ℕ → ℕ)
    (space : List ℕ) (first : ℕ) (t : Transaction)
    → start_in space greatest ≡ Some first
    → Done (IsGreatest setting t space) (Ok greatest) setting asked (asks_greatest space ∷ []) t
    → ((u : Transaction) → asked u → Done (Opened setting u space first) (Err f) setting stands (opening setting u space first) u)
    → IsAllocated (Err (fault_of f)) setting stands words words space t
fault_opening f greatest setting asked stands words space first t is done others =
    let m = view setting t in
    let half = fills_half space m first in
    let all = opening_done greatest (Err f) setting asked stands space first t done others in
    let acts = ap (λ (plan : Plan). plan.acts) (planned space m words first (ap (start_in space) (sym done.1) ∙ is)) in
    fault_first (Opened setting t space first) f setting stands words space t (opens half space first) _ acts
    (opens_quiet half space first) all

-- ---- finding

-- the transaction after the window is open
abbrev pub after_opening : Setting → Transaction → (space : List ℕ) → (first : ℕ) → Transaction
after_opening setting t space first = (all_acted setting (opens (fills_half space (view setting t) first) space first) t).transaction

-- the acts behind, and how many words all of them draw
abbrev acts_behind : Setting → Transaction → (space : List ℕ) → (start : ℕ) → (words : ℕ → ℕ) → List Act
acts_behind setting t space start words =
    tries_of space (view setting t) (window_candidates start words) ++ claims space
    (found_in space (view setting t) (window_candidates start words))

plan_is : (setting : Setting) (t : Transaction) (space : List ℕ) (first start : ℕ) (stands : Transaction → Type 0) (words : ℕ → ℕ)
    → HasOpened setting t space first start stands
    → plan space (view setting t) words
    ≡ record {
      acts = opens (fills_half space (view setting t) first) space first ++ acts_behind setting t space start words;
      ending = granting start (found_in space (view setting t) (window_candidates start words));
    }
plan_is setting t space first start stands words opened =
    planned space (view setting t) words first opened.is_counter
    ∙ ap (λ (start : ℕ). record {
      acts = opens (fills_half space (view setting t) first) space first ++ acts_behind setting t space start words;
      ending = granting start (found_in space (view setting t) (window_candidates start words));
    }) (sym opened.is_start)

tries_are : (setting : Setting) (t : Transaction) (space : List ℕ) (first start : ℕ) (stands : Transaction → Type 0) (words : ℕ → ℕ)
    → HasOpened setting t space first start stands
    → tries_of space (view setting (after_opening setting t space first)) (window_candidates start words) ≡ tries_of space
    (view setting t) (window_candidates start words)
tries_are setting t space first start stands words opened =
    subst (λ start. tries_of space (view setting (after_opening setting t space first)) (window_candidates start words) ≡ tries_of space
    (view setting t) (window_candidates start words))
    (sym opened.is_start)
    (tries_window setting t space (fills_half space (view setting t) first) first words
    (start_small space (first_key (greatest_counter space (view setting t))) first opened.is_counter))

found_is : (setting : Setting) (t : Transaction) (space : List ℕ) (first start : ℕ) (stands : Transaction → Type 0) (words : ℕ → ℕ)
    → HasOpened setting t space first start stands
    → found_in space (view setting (after_opening setting t space first)) (window_candidates start words) ≡ found_in space
    (view setting t) (window_candidates start words)
found_is setting t space first start stands words opened =
    subst (λ start. found_in space (view setting (after_opening setting t space first)) (window_candidates start words) ≡ found_in space
    (view setting t) (window_candidates start words))
    (sym opened.is_start)
    (found_window setting t space (fills_half space (view setting t) first) first words
    (start_small space (first_key (greatest_counter space (view setting t))) first opened.is_counter))

-- so many words as the tries draw
words_are : (setting : Setting) (t : Transaction) (space : List ℕ) (first start : ℕ) (stands : Transaction → Type 0) (words : ℕ → ℕ)
    → HasOpened setting t space first start stands
    → (all_acted setting (plan space (view setting t) words).acts t).words
    ≡ (all_acted setting (tries_of space (view setting (after_opening setting t space first)) (window_candidates start words))
    (after_opening setting t space first)).words
words_are setting t space first start stands words opened =
    let half = fills_half space (view setting t) first in
    let u = after_opening setting t space first in
    let behind = acts_behind setting t space start words in
    let none : (all_acted setting (opens half space first) t).words ≡ 0 = none_drawn setting (opens half space first) t
    (opens_quiet half space first) in
    let sum : 0 + (all_acted setting behind u).words ≡ (all_acted setting behind u).words = omega arith in
    ap (λ (plan : Plan). (all_acted setting plan.acts t).words) (plan_is setting t space first start stands words opened)
    ∙ ap (λ (acted : Acted). acted.words) (passed-append setting (opens half space first) behind t opened.let_through)
    ∙ ap (λ used. used + (all_acted setting behind u).words) none ∙ sum
    ∙ quiet_behind setting (tries_of space (view setting t) (window_candidates start words))
    (claims space (found_in space (view setting t) (window_candidates start words))) u
    (claims_quiet space (found_in space (view setting t) (window_candidates start words)))
    ∙ ap (λ acts. (all_acted setting acts u).words) (sym (tries_are setting t space first start stands words opened))

-- acts behind the open window
behind_done : {A : Type 0} (good : A → Type 0) (result : Result A TrFault) (setting : Setting) (opened stands : Transaction → Type 0)
    (words : ℕ → ℕ) (space : List ℕ) (first start : ℕ)
    (t : Transaction) → HasOpened setting t space first start opened
    → Done good result setting stands (acts_behind setting t space start words) (after_opening setting t space first)
    → Done good result setting stands (plan space (view setting t) words).acts t
behind_done good result setting opened stands words space first start t has done =
    let half = fills_half space (view setting t) first in
    subst (λ (plan : Plan). Done good result setting stands plan.acts t) (sym (plan_is setting t space first start opened words has))
    (more_done good result setting stands (opens half space first) (acts_behind setting t space start words) t has.let_through done)

pub fault_finding : (f : TrFault) (setting : Setting) (opened stands : Transaction → Type 0) (words left : ℕ → ℕ) (space : List ℕ)
    (first start : ℕ) (t : Transaction)
    → HasOpened setting t space first start opened
    → ((u : Transaction) → opened u
    → Done (InWindow space setting u start words) (Err f) setting stands
    (tries_of space (view setting u) (window_candidates start words)) u)
    → ((u : Transaction) → opened u
    → Draws {A = Option ℕ} (Err f) words left
    (all_acted setting (tries_of space (view setting u) (window_candidates start words)) u).words)
    → IsAllocated (Err (fault_of f)) setting stands words left space t
fault_finding f setting opened stands words left space first start t has done used =
    let u = after_opening setting t space first in
    fault_allocated (InWindow space setting u start words) f setting stands words left space t
    (behind_done (InWindow space setting u start words) (Err f) setting opened stands words space first start t has
    (stopped_done (InWindow space setting u start words) (InWindow space setting u start words) f setting stands
    (tries_of space (view setting t) (window_candidates start words))
    (claims space (found_in space (view setting t) (window_candidates start words))) u
    (subst (λ acts. Done (InWindow space setting u start words) (Err f) setting stands acts u)
    (tries_are setting t space first start opened words has) (done u has.after))))
    (subst (λ count. Draws {A = Option ℕ} (Err f) words left count) (sym (words_are setting t space first start opened words has))
    (used u has.after))

-- ---- granting

-- the calls behind the tries, where this was found
found_done : {A : Type 0} (good : A → Type 0) (found : Option ℕ) (result : Result A TrFault) (setting : Setting)
    (opened tried stands : Transaction → Type 0) (words : ℕ → ℕ) (space : List ℕ)
    (first start : ℕ) (t : Transaction) → HasOpened setting t space first start opened
    → ((u : Transaction) → opened u
    → Done (InWindow space setting u start words) (Ok found) setting tried
    (tries_of space (view setting u) (window_candidates start words)) u)
    → ((v : Transaction) → tried v → Done good result setting stands (claims space found) v)
    → (found ≡ found_in space (view setting t) (window_candidates start words)) × Done good result setting stands
    (plan space (view setting t) words).acts t
found_done good found result setting opened tried stands words space first start t has done claimed =
    let u = after_opening setting t space first in
    let tries = subst (λ acts. Done (InWindow space setting u start words) (Ok found) setting tried acts u)
    (tries_are setting t space first start opened words has) (done u has.after) in
    let is = tries.1 ∙ found_is setting t space first start opened words has in (
      is,
      behind_done good result setting opened stands words space first start t has
          (more_done good result setting stands (tries_of space (view setting t) (window_candidates start words))
          (claims space (found_in space (view setting t) (window_candidates start words))) u tries.0
          (subst (λ found. Done good result setting stands (claims space found)
          (all_acted setting (tries_of space (view setting t) (window_candidates start words)) u).transaction) is
          (claimed (all_acted setting (tries_of space (view setting t) (window_candidates start words)) u).transaction tries.2))),
    )

words_left : (setting : Setting) (t : Transaction) (space : List ℕ) (first start : ℕ) (opened : Transaction → Type 0) (words left : ℕ → ℕ)
    → HasOpened setting t space first start opened
    → ((u : Transaction) → opened u
    → Leaves words left (all_acted setting (tries_of space (view setting u) (window_candidates start words)) u).words)
    → Leaves words left (all_acted setting (plan space (view setting t) words).acts t).words
words_left setting t space first start opened words left has used =
    subst (λ count. Leaves words left count) (sym (words_are setting t space first start opened words has))
    (used (after_opening setting t space first) has.after)

-- every number of the window is present
pub full_allocated : (setting : Setting) (opened stands : Transaction → Type 0) (words left : ℕ → ℕ) (space : List ℕ) (first start : ℕ)
    (t : Transaction)
    → HasOpened setting t space first start opened
    → ((u : Transaction) → opened u
    → Done (InWindow space setting u start words) (Ok None) setting stands
    (tries_of space (view setting u) (window_candidates start words)) u)
    → ((u : Transaction) → opened u
    → Leaves words left (all_acted setting (tries_of space (view setting u) (window_candidates start words)) u).words)
    → IsAllocated (Err (fault.WindowFull start)) setting stands words left space t
full_allocated setting opened stands words left space first start t has done used =
    let all = found_done (λ (done : Unit {0}). ⊤) None (Ok tt) setting opened stands stands words space first start t has done
    (λ v after. after_last (λ (done : Unit {0}). ⊤) tt setting stands v tt after) in
    all_passed (λ (done : Unit {0}). ⊤) tt (IsFull start) setting stands stands words left space t
    (ap (λ (plan : Plan). plan.ending) (plan_is setting t space first start opened words has) ∙ ap (granting start) (sym all.0))
    all.1 (λ u after. after) (words_left setting t space first start opened words left has used)

-- the number got a write conflict range
pub granted_allocated : (number : ℕ) (done : Unit {0}) (setting : Setting) (opened tried stands : Transaction → Type 0) (words left : ℕ
    → ℕ) (space : List ℕ) (first start : ℕ) (t : Transaction)
    → HasOpened setting t space first start opened
    → ((u : Transaction) → opened u → Done (InWindow space setting u start words) (Ok (Some number)) setting tried
    (tries_of space (view setting u) (window_candidates start words)) u)
    → ((u : Transaction) → opened u
    → Leaves words left (all_acted setting (tries_of space (view setting u) (window_candidates start words)) u).words)
    → ((v : Transaction) → tried v → Done (λ (done : Unit {0}). ⊤) (Ok done) setting stands (claims space (Some number)) v)
    → ((u : Transaction) (from : ℕ) → stands u → stands (with_granted u space number from))
    → IsAllocated (Ok number) setting stands words left space t
granted_allocated number done setting opened tried stands words left space first start t has found used claimed granted =
    let all = found_done (λ (done : Unit {0}). ⊤) (Some number) (Ok done) setting opened tried stands words space first start t has found
    claimed in
    all_passed (λ (done : Unit {0}). ⊤) done (Grants number) setting stands stands words left space t
    (ap (λ (plan : Plan). plan.ending) (plan_is setting t space first start opened words has) ∙ ap (granting start) (sym all.0))
    all.1 (λ u after. granted u (length t.script) after) (words_left setting t space first start opened words left has used)

-- the number got no write conflict range
pub fault_claiming : (number : ℕ) (f : TrFault) (setting : Setting) (opened tried stands : Transaction → Type 0) (words left : ℕ → ℕ)
    (space : List ℕ) (first start : ℕ) (t : Transaction)
    → HasOpened setting t space first start opened
    → ((u : Transaction) → opened u → Done (InWindow space setting u start words) (Ok (Some number)) setting tried
    (tries_of space (view setting u) (window_candidates start words)) u)
    → ((u : Transaction) → opened u
    → Leaves words left (all_acted setting (tries_of space (view setting u) (window_candidates start words)) u).words)
    → ((v : Transaction) → tried v → Done (λ (done : Unit {0}). ⊤) (Err f) setting stands (claims space (Some number)) v)
    → IsAllocated (Err (fault_of f)) setting stands words left space t
fault_claiming number f setting opened tried stands words left space first start t has found used claimed =
    let all = found_done (λ (done : Unit {0}). ⊤) (Some number) (Err f) setting opened tried stands words space first start t has found
    claimed in
    fault_allocated (λ (done : Unit {0}). ⊤) f setting stands words left space t all.1
    (draws f (words_left setting t space first start opened words left has used))
  where
    draws : (f : TrFault) → Leaves words left (all_acted setting (plan space (view setting t) words).acts t).words
        → Draws {A = Unit {0}} (Err f) words left (all_acted setting (plan space (view setting t) words).acts t).words
    draws (tr.Code code) leaves = leaves
    draws tr.NoMemory leaves = tt
