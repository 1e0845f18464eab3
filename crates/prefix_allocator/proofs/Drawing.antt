-- Random words that choose numbers, until one is absent.
use Rattle.std.proofs.Common.{◌≡◌, ℕ, ◌+◌, ◌-◌, Bool, true, false, List, ◌++◌, Option, Some, None, Result, Ok, Err, refl, sym, ap, subst, ◌∙◌, arith}
use Rattle.std.specs.Prelude.{◌%◌}
use Rattle.model_database.specs.Histories.{Setting}
use Rattle.model_database.specs.Transactions.{Transaction, view}
use Rattle.fdb_calls.specs.declared.fault.TrFault.{TrFault}
use Rattle.fdb_calls.specs.declared.fault.TrFault.TheVariants as fault
use Rattle.model_allocator.specs.Acts.{Act, Acted, all_acted}
use Rattle.model_allocator.specs.Granting.{drawn}
use Rattle.model_allocator.proofs.Acting.{passed-append, refused-append}
use Rattle.model_allocator.specs.Counters.{window}
use Rattle.prefix_allocator.specs.declared.tries.Drawn.{Drawn}
use Rattle.prefix_allocator.specs.Doing.{Done, Draws, draws, tries_of, found_in, IsLast}
use Rattle.prefix_allocator.proofs.Steps.{stopped_done}
use Rattle.prefix_allocator.proofs.Search.{tries_then, tries_first, tries-append, found_first, Sofar, after_tries, none_yet, go_on, found_behind}
use Rattle.prefix_allocator.proofs.Draws.{draws-append, draws_later, one_word}

-- so many words chose numbers that were tried, each was let through, and none was absent
pub record HasDrawn (setting : Setting) (stands : Transaction → Type 0) (space : List ℕ) (start : ℕ) (words : ℕ → ℕ) (count : ℕ)
    (t : Transaction) : Type 0 where
  pub sofar : Sofar setting stands space (draws start words 0 count) t
  pub used : (all_acted setting (tries_of space (view setting t) (draws start words 0 count)) t).words ≡ count

pub none_drawn : (setting : Setting) (stands : Transaction → Type 0) (space : List ℕ) (start : ℕ) (words : ℕ → ℕ) (t : Transaction)
    → stands t
    → HasDrawn setting stands space start words 0 t
unfolding draws all_acted tries_of
none_drawn setting stands space start words t is = record { sofar = none_yet setting stands space t is; used = refl }

-- ---- one more

-- the next number, which the next word chooses
next : (start : ℕ) (words : ℕ → ℕ) (count : ℕ) → draws start words 0 (count + 1) ≡ draws start words 0 count ++ draws start words count 1
next start words count =
    let at : 0 + count ≡ count = omega arith in
    draws-append start words 0 count 1 ∙ ap (λ from. draws start words 0 count ++ draws start words from 1) at

-- what the next try did, where these words are left
abbrev pub Next : {A : Type 0} → (good : A → Type 0) → Result A TrFault → Setting → (stands : Transaction → Type 0) → (space : List ℕ)
    → (start : ℕ) → (left : ℕ → ℕ)
    → Transaction → Type 0
Next good result setting stands space start left u = Done good result setting stands
    (tries_of space (view setting u) (draws start left 0 1)) u

-- the transaction after so many
abbrev pub after_draws : Setting → Transaction → (space : List ℕ) → (start : ℕ) → (words : ℕ → ℕ) → (count : ℕ) → Transaction
after_draws setting t space start words count = after_tries setting t space (draws start words 0 count)

-- it is the try of the word at its place
at_place : {A : Type 0} (good : A → Type 0) (result : Result A TrFault) (setting : Setting) (stands : Transaction → Type 0)
    (space : List ℕ) (start : ℕ)
    (words left : ℕ → ℕ) (count : ℕ) (u : Transaction) → left 0 ≡ words count → Next good result setting stands space start left u
    → Done good result setting stands (tries_of space (view setting u) (draws start words count 1)) u
at_place good result setting stands space start words left count u is done =
    subst (λ candidates. Done good result setting stands (tries_of space (view setting u) candidates) u)
    (draws_later start words left count is) done

-- with it there are as many, and one more
with_next : {A : Type 0} (good : A → Type 0) (result : Result A TrFault) (setting : Setting) (first stands : Transaction → Type 0)
    (space : List ℕ) (start : ℕ)
    (words left : ℕ → ℕ) (count : ℕ) (t : Transaction) → HasDrawn setting first space start words count t → left 0 ≡ words count
    → Next good result setting stands space start left (after_draws setting t space start words count)
    → Done good result setting stands (tries_of space (view setting t) (draws start words 0 (count + 1))) t
with_next good result setting first stands space start words left count t so_far is done =
    subst (λ candidates. Done good result setting stands (tries_of space (view setting t) candidates) t) (sym (next start words count))
    (go_on good result setting first stands space (draws start words 0 count) (draws start words count 1) t so_far.sofar
    (at_place good result setting stands space start words left count (after_draws setting t space start words count) is done))

-- the words that they used
words_next : (setting : Setting) (first : Transaction → Type 0) (space : List ℕ) (start : ℕ) (words : ℕ → ℕ) (count : ℕ) (t : Transaction)
    → HasDrawn setting first space start words count t
    → (all_acted setting (tries_of space (view setting t) (draws start words 0 (count + 1))) t).words ≡ count + 1
words_next setting first space start words count t so_far =
    let front = draws start words 0 count in
    let acts = tries_of space (view setting t) front in
    let behind = tries_of space (view setting t) (draws start words count 1) in
    ap (λ candidates. (all_acted setting (tries_of space (view setting t) candidates) t).words) (next start words count)
    ∙ ap (λ acts. (all_acted setting acts t).words) (tries_then space (view setting t) front (draws start words count 1) so_far.sofar.none)
    ∙ ap (λ (acted : Acted). acted.words) (passed-append setting acts behind t so_far.sofar.let_through)
    ∙ ap (λ used. used + (all_acted setting behind (all_acted setting acts t).transaction).words) so_far.used
    ∙ ap (λ used. count + used) (one_word setting space start words count (view setting t) (all_acted setting acts t).transaction)

-- ---- how the next one ends

-- the candidates up to the next, and the others
others : (start : ℕ) (words : ℕ → ℕ) (count more total : ℕ) → count + 1 + more ≡ total
    → draws start words 0 total ≡ draws start words 0 (count + 1) ++ draws start words (0 + (count + 1)) more
others start words count more total is = ap (λ total. draws start words 0 total) (sym is) ∙ draws-append start words 0 (count + 1) more

abbrev pub LastOf : (space : List ℕ) → Setting → Transaction → (start : ℕ) → (words : ℕ → ℕ) → (total : ℕ) → Drawn → Type 0
LastOf space setting t start words total last =
    IsLast (found_in space (view setting t) (draws start words 0 total)) (drawn start words (total - 1)) last.number last.is_absent

-- the last number is the one that the next word chose
abbrev pub NextOf : (space : List ℕ) → Setting → Transaction → (start : ℕ) → (left : ℕ → ℕ) → Drawn → Type 0
NextOf space setting u start left last = IsLast (found_in space (view setting u) (draws start left 0 1)) (drawn start left 0) last.number
    last.is_absent

pub found_next : (found : Option ℕ) (last number : ℕ) (is_absent : Bool) → is_absent ≡ true → IsLast found last number is_absent
    → found ≡ Some number
found_next found last number true absent is = is
found_next found last number false absent is = absurd cc

pub none_next : (found : Option ℕ) (last number : ℕ) (is_absent : Bool) → is_absent ≡ false → IsLast found last number is_absent
    → (found ≡ None) × (number ≡ last)
none_next found last number true absent is = absurd cc
none_next found last number false absent is = is

-- the words that are left behind the next one
pub words_left : (words left rest : ℕ → ℕ) (count : ℕ) → ((place : ℕ) → left place ≡ words (count + place))
    → ((place : ℕ) → rest place ≡ left (place + 1))
    → (place : ℕ) → rest place ≡ words (count + 1 + place)
words_left words left rest count is later place =
    let same : count + (place + 1) ≡ count + 1 + place = omega arith in
    later place ∙ is (place + 1) ∙ ap words same

pub word_next : (words left : ℕ → ℕ) (count : ℕ) → ((place : ℕ) → left place ≡ words (count + place)) → left 0 ≡ words count
word_next words left count is = let same : count + 0 ≡ count = omega arith in is 0 ∙ ap words same

-- the acts that try all begin with those that try as far as the next
tries_total : (space : List ℕ) (setting : Setting) (t : Transaction) (start : ℕ) (words : ℕ → ℕ) (count more total : ℕ)
    → count + 1 + more ≡ total
    → (rest : List Act) × (tries_of space (view setting t) (draws start words 0 total) ≡ tries_of space (view setting t)
    (draws start words 0 (count + 1)) ++ rest)
tries_total space setting t start words count more total is = (
  _,
  ap (tries_of space (view setting t)) (others start words count more total is)
      ∙ tries-append space (view setting t) (draws start words 0 (count + 1)) (draws start words (0 + (count + 1)) more),
)

-- a fault of the next one ends all
pub fault_drawn : (good : Drawn → Type 0) (f : TrFault) (setting : Setting) (first stands : Transaction → Type 0) (space : List ℕ)
    (start : ℕ)
    (words left : ℕ → ℕ) (count more total : ℕ) (t : Transaction) → count + 1 + more ≡ total
    → HasDrawn setting first space start words count t → left 0 ≡ words count
    → Next good (Err f) setting stands space start left (after_draws setting t space start words count)
    → Done (LastOf space setting t start words total) (Err f) setting stands (tries_of space (view setting t) (draws start words 0 total)) t
fault_drawn good f setting first stands space start words left count more total t is so_far word done =
    let all = tries_total space setting t start words count more total is in
    subst (λ acts. Done (LastOf space setting t start words total) (Err f) setting stands acts t) (sym all.1)
    (stopped_done good (LastOf space setting t start words total) f setting stands
    (tries_of space (view setting t) (draws start words 0 (count + 1))) all.0 t
    (with_next good (Err f) setting first stands space start words left count t so_far word done))

pub fault_words : (good : Drawn → Type 0) (f : TrFault) (setting : Setting) (first stands : Transaction → Type 0) (space : List ℕ)
    (start : ℕ)
    (words left rest : ℕ → ℕ) (count more total : ℕ) (t : Transaction) → count + 1 + more ≡ total
    → HasDrawn setting first space start words count t → left 0 ≡ words count
    → ((place : ℕ) → rest place ≡ words (count + 1 + place))
    → Next good (Err f) setting stands space start left (after_draws setting t space start words count)
    → Draws {A = Drawn} (Err f) words rest (all_acted setting (tries_of space (view setting t) (draws start words 0 total)) t).words
fault_words good fault.NoMemory setting first stands space start words left rest count more total t is so_far word left_is done = tt
fault_words good (fault.Code code) setting first stands space start words left rest count more total t is so_far word left_is done =
    let all = tries_total space setting t start words count more total is in
    let refused = with_next good (Err (fault.Code code)) setting first stands space start words left count t so_far word done in
    let used : (all_acted setting (tries_of space (view setting t) (draws start words 0 total)) t).words ≡ count + 1 =
    ap (λ acts. (all_acted setting acts t).words) all.1
    ∙ ap (λ (acted : Acted). acted.words)
    (refused-append setting (tries_of space (view setting t) (draws start words 0 (count + 1))) all.0 t code refused.0)
    ∙ words_next setting first space start words count t so_far in
    λ place. left_is place ∙ ap (λ used. words (used + place)) (sym used)

-- the next number was absent
pub found_drawn : (last : Drawn) (setting : Setting) (first stands : Transaction → Type 0) (space : List ℕ) (start : ℕ)
    (words left : ℕ → ℕ) (count more total : ℕ) (t : Transaction) → count + 1 + more ≡ total → last.is_absent ≡ true
    → HasDrawn setting first space start words count t → left 0 ≡ words count
    → Next (NextOf space setting (after_draws setting t space start words count) start left) (Ok last) setting stands space start left
    (after_draws setting t space start words count)
    → Done (LastOf space setting t start words total) (Ok last) setting stands
    (tries_of space (view setting t) (draws start words 0 total)) t
found_drawn last setting first stands space start words left count more total t is absent so_far word done =
    let u = after_draws setting t space start words count in
    let m = view setting t in
    let all = with_next (NextOf space setting u start left) (Ok last) setting first stands space start words left count t so_far word done
    in
    let here : found_in space m (draws start words 0 (count + 1)) ≡ Some last.number =
    ap (found_in space m) (next start words count)
    ∙ found_behind setting first space (draws start words 0 count) (draws start words count 1) t so_far.sofar
    ∙ ap (found_in space (view setting u)) (sym (draws_later start words left count word))
    ∙ found_next (found_in space (view setting u) (draws start left 0 1)) (drawn start left 0) last.number last.is_absent absent done.1 in
    let acts : tries_of space m (draws start words 0 total) ≡ tries_of space m (draws start words 0 (count + 1)) =
    ap (tries_of space m) (others start words count more total is)
    ∙ tries_first space m (draws start words 0 (count + 1)) (draws start words (0 + (count + 1)) more) last.number here in
    let found : found_in space m (draws start words 0 total) ≡ Some last.number =
    ap (found_in space m) (others start words count more total is)
    ∙ found_first space m (draws start words 0 (count + 1)) (draws start words (0 + (count + 1)) more) last.number here in
    subst (λ acts. Done (LastOf space setting t start words total) (Ok last) setting stands acts t) (sym acts) (
      all.0,
      (subst (λ (is_absent : Bool). IsLast (found_in space m (draws start words 0 total)) (drawn start words (total - 1))
          last.number is_absent) (sym absent) found),
      all.2,
    )

pub found_words : (last : Drawn) (setting : Setting) (first stands : Transaction → Type 0) (space : List ℕ) (start : ℕ)
    (words left rest : ℕ → ℕ) (count more total : ℕ) (t : Transaction) → count + 1 + more ≡ total → last.is_absent ≡ true
    → HasDrawn setting first space start words count t → left 0 ≡ words count → ((place : ℕ) → rest place ≡ words (count + 1 + place))
    → Next (NextOf space setting (after_draws setting t space start words count) start left) (Ok last) setting stands space start left
    (after_draws setting t space start words count)
    → Draws (Ok last) words rest (all_acted setting (tries_of space (view setting t) (draws start words 0 total)) t).words
found_words last setting first stands space start words left rest count more total t is absent so_far word left_is done =
    let u = after_draws setting t space start words count in
    let m = view setting t in
    let here : found_in space m (draws start words 0 (count + 1)) ≡ Some last.number =
    ap (found_in space m) (next start words count)
    ∙ found_behind setting first space (draws start words 0 count) (draws start words count 1) t so_far.sofar
    ∙ ap (found_in space (view setting u)) (sym (draws_later start words left count word))
    ∙ found_next (found_in space (view setting u) (draws start left 0 1)) (drawn start left 0) last.number last.is_absent absent done.1 in
    let acts : tries_of space m (draws start words 0 total) ≡ tries_of space m (draws start words 0 (count + 1)) =
    ap (tries_of space m) (others start words count more total is)
    ∙ tries_first space m (draws start words 0 (count + 1)) (draws start words (0 + (count + 1)) more) last.number here in
    let used : (all_acted setting (tries_of space m (draws start words 0 total)) t).words ≡ count + 1 =
    ap (λ acts. (all_acted setting acts t).words) acts ∙ words_next setting first space start words count t so_far in
    λ place. left_is place ∙ ap (λ used. words (used + place)) (sym used)

-- the next number was present
pub one_more_drawn : (last : Drawn) (setting : Setting) (first stands : Transaction → Type 0) (space : List ℕ) (start : ℕ)
    (words left : ℕ → ℕ) (count : ℕ) (t : Transaction) → last.is_absent ≡ false → HasDrawn setting first space start words count t
    → left 0 ≡ words count
    → Next (NextOf space setting (after_draws setting t space start words count) start left) (Ok last) setting stands space start left
    (after_draws setting t space start words count)
    → HasDrawn setting stands space start words (count + 1) t
one_more_drawn last setting first stands space start words left count t absent so_far word done =
    let u = after_draws setting t space start words count in
    let m = view setting t in
    let all = with_next (NextOf space setting u start left) (Ok last) setting first stands space start words left count t so_far word done
    in
    let here : found_in space m (draws start words 0 (count + 1)) ≡ None =
    ap (found_in space m) (next start words count)
    ∙ found_behind setting first space (draws start words 0 count) (draws start words count 1) t so_far.sofar
    ∙ ap (found_in space (view setting u)) (sym (draws_later start words left count word))
    ∙ (none_next (found_in space (view setting u) (draws start left 0 1)) (drawn start left 0) last.number last.is_absent absent done.1).0
    in
    record {
      sofar = record { none = here; let_through = all.0; after = all.2 };
      used = words_next setting first space start words count t
          so_far;
    }

-- which number it was
pub last_number : (number start : ℕ) (words left : ℕ → ℕ) (count : ℕ) → number ≡ drawn start left 0 → left 0 ≡ words count
    → number ≡ drawn start words (count + 1 - 1)
last_number number start words left count is word =
    let same : count ≡ count + 1 - 1 = omega arith in
    is ∙ ap (λ word. start + word % window start) word ∙ ap (drawn start words) same
