-- Random words, and then the whole window, by how the last try ended.
use Rattle.std.proofs.Common.{◌≡◌, ℕ, ◌+◌, Bool, true, false, cond, List, [], ◌∷◌, ◌++◌, Option, Some, Result, Ok, Err, refl, sym, ap, subst, ◌∙◌, map}
use Rattle.std.specs.Prelude.{◌-◌, not, flat_map}
use Rattle.std.specs.List.{list_all}
use Rattle.std.proofs.lemmas.Bool.{and_parts, and_from}
use Rattle.std.proofs.lemmas.List.Folds.{list_all-append}
use Rattle.model_database.specs.Databases.{Database, Set}
use Rattle.model_database.specs.Histories.{Setting}
use Rattle.model_database.specs.Reads.{Get}
use Rattle.model_database.specs.Transactions.{Transaction, view}
use Rattle.fdb_calls.specs.declared.fault.TrFault.{TrFault}
use Rattle.fdb_calls.specs.declared.fault.TrFault.TheVariants as fault
use Rattle.model_allocator.specs.declared.TheConstants.{RANDOM_TRIES}
use Rattle.model_allocator.specs.Acts.{Act, Acted, Reads, Writes, DisablesWriteConflict, all_acted}
use Rattle.model_allocator.specs.Acts as act
use Rattle.model_allocator.specs.Counters.{window, recent_key, is_recent}
use Rattle.model_allocator.specs.Granting.{Candidate, counting, drawn, tried, tries}
use Rattle.model_allocator.proofs.Acting.{draws_none, refused-append, quiet_behind}
use Rattle.prefix_allocator.specs.declared.tries.Drawn.{Drawn}
use Rattle.prefix_allocator.specs.Allocates.{Leaves}
use Rattle.prefix_allocator.specs.Doing.{Done, Draws, draws, scans, window_candidates, tries_of, found_in}
use Rattle.prefix_allocator.proofs.Steps.{stopped_done}
use Rattle.prefix_allocator.proofs.Search.{tries_then, tries_first, tries-append, found_first, Sofar, after_tries, go_on, found_behind}
use Rattle.prefix_allocator.proofs.Drawing.{LastOf, found_next, none_next}
use Rattle.prefix_allocator.proofs.Scanning.{Finds}

abbrev random : (start : ℕ) → (words : ℕ → ℕ) → List Candidate
random start words = draws start words 0 RANDOM_TRIES

abbrev in_order : (start last : ℕ) → List Candidate
in_order start last = scans start last 1 (window start)

parts : (start : ℕ) (words : ℕ → ℕ)
    → window_candidates start words ≡ random start words ++ in_order start (drawn start words (RANDOM_TRIES - 1))
unfolding window_candidates draws scans
parts start words = refl

-- what is found in the window
abbrev pub InWindow : (space : List ℕ) → Setting → Transaction → (start : ℕ) → (words : ℕ → ℕ) → Option ℕ → Type 0
InWindow space setting t start words found = found ≡ found_in space (view setting t) (window_candidates start words)

abbrev pub used_by : Setting → (space : List ℕ) → Transaction → List Candidate → ℕ
used_by setting space t candidates = (all_acted setting (tries_of space (view setting t) candidates) t).words

-- ---- a fault of the random tries

pub fault_random : (f : TrFault) (setting : Setting) (stands : Transaction → Type 0) (space : List ℕ) (start : ℕ) (words : ℕ → ℕ)
    (t : Transaction)
    → Done (LastOf space setting t start words RANDOM_TRIES) (Err f) setting stands (tries_of space (view setting t) (random start words)) t
    → Done (InWindow space setting t start words) (Err f) setting stands (tries_of space (view setting t) (window_candidates start words)) t
fault_random f setting stands space start words t done =
    let last = drawn start words (RANDOM_TRIES - 1) in
    let acts = ap (tries_of space (view setting t)) (parts start words)
    ∙ tries-append space (view setting t) (random start words) (in_order start last) in
    subst (λ acts. Done (InWindow space setting t start words) (Err f) setting stands acts t) (sym acts)
    (stopped_done (LastOf space setting t start words RANDOM_TRIES) (InWindow space setting t start words) f setting stands
    (tries_of space (view setting t) (random start words)) _ t done)

pub fault_random_words : (f : TrFault) (setting : Setting) (stands : Transaction → Type 0) (space : List ℕ) (start : ℕ) (words left : ℕ
    → ℕ) (t : Transaction)
    → Done (LastOf space setting t start words RANDOM_TRIES) (Err f) setting stands (tries_of space (view setting t) (random start words)) t
    → Draws {A = Drawn} (Err f) words left (used_by setting space t (random start words))
    → Draws {A = Option ℕ} (Err f) words left (used_by setting space t (window_candidates start words))
fault_random_words fault.NoMemory setting stands space start words left t done used = tt
fault_random_words (fault.Code code) setting stands space start words left t done used =
    let last = drawn start words (RANDOM_TRIES - 1) in
    let acts = ap (tries_of space (view setting t)) (parts start words)
    ∙ tries-append space (view setting t) (random start words) (in_order start last) in
    let same : used_by setting space t (window_candidates start words) ≡ used_by setting space t (random start words) =
    ap (λ acts. (all_acted setting acts t).words) acts
    ∙ ap (λ (acted : Acted). acted.words) (refused-append setting (tries_of space (view setting t) (random start words)) _ t code done.0) in
    λ place. used place ∙ ap (λ used. words (used + place)) (sym same)

-- ---- a random number that was absent

absent_is : (last : Drawn) (setting : Setting) (space : List ℕ) (start : ℕ) (words : ℕ → ℕ) (t : Transaction) → last.is_absent ≡ true
    → LastOf space setting t start words RANDOM_TRIES last → found_in space (view setting t) (random start words) ≡ Some last.number
absent_is last setting space start words t absent is =
    found_next (found_in space (view setting t) (random start words)) (drawn start words (RANDOM_TRIES - 1)) last.number last.is_absent
    absent is

pub found_random : (last : Drawn) (setting : Setting) (stands : Transaction → Type 0) (space : List ℕ) (start : ℕ) (words : ℕ → ℕ)
    (t : Transaction)
    → last.is_absent ≡ true
    → Done (LastOf space setting t start words RANDOM_TRIES) (Ok last) setting stands
    (tries_of space (view setting t) (random start words)) t
    → Done (InWindow space setting t start words) (Ok (Some last.number)) setting stands
    (tries_of space (view setting t) (window_candidates start words)) t
found_random last setting stands space start words t absent done =
    let m = view setting t in
    let end = drawn start words (RANDOM_TRIES - 1) in
    let here = absent_is last setting space start words t absent done.1 in
    let acts = ap (tries_of space m) (parts start words) ∙ tries_first space m (random start words) (in_order start end) last.number here in
    let found = ap (found_in space m) (parts start words)
    ∙ found_first space m (random start words) (in_order start end) last.number here in
    subst (λ acts. Done (InWindow space setting t start words) (Ok (Some last.number)) setting stands acts t) (sym acts)
    (done.0, sym found, done.2)

pub found_random_words : (last : Drawn) (setting : Setting) (stands : Transaction → Type 0) (space : List ℕ) (start : ℕ) (words left : ℕ
    → ℕ) (t : Transaction)
    → last.is_absent ≡ true
    → Done (LastOf space setting t start words RANDOM_TRIES) (Ok last) setting stands
    (tries_of space (view setting t) (random start words)) t
    → Leaves words left (used_by setting space t (random start words))
    → Leaves words left (used_by setting space t (window_candidates start words))
found_random_words last setting stands space start words left t absent done used =
    let m = view setting t in
    let end = drawn start words (RANDOM_TRIES - 1) in
    let here = absent_is last setting space start words t absent done.1 in
    let same : used_by setting space t (window_candidates start words) ≡ used_by setting space t (random start words) =
    ap (λ acts. (all_acted setting acts t).words)
    (ap (tries_of space m) (parts start words) ∙ tries_first space m (random start words) (in_order start end) last.number here) in
    λ place. used place ∙ ap (λ used. words (used + place)) (sym same)

-- ---- the window in order

none_random : (last : Drawn) (setting : Setting) (stands : Transaction → Type 0) (space : List ℕ) (start : ℕ) (words : ℕ → ℕ)
    (t : Transaction)
    → last.is_absent ≡ false
    → Done (LastOf space setting t start words RANDOM_TRIES) (Ok last) setting stands
    (tries_of space (view setting t) (random start words)) t
    → Sofar setting stands space (random start words) t × (last.number ≡ drawn start words (RANDOM_TRIES - 1))
none_random last setting stands space start words t present done =
    let is = none_next (found_in space (view setting t) (random start words)) (drawn start words (RANDOM_TRIES - 1)) last.number
    last.is_absent present done.1 in
    (record { none = is.0; let_through = done.0; after = done.2 }, is.1)

good_window : (result : Result (Option ℕ) TrFault) (setting : Setting) (stands : Transaction → Type 0) (space : List ℕ) (start : ℕ)
    (words : ℕ → ℕ)
    (t u : Transaction) (acts : List Act) → found_in space (view setting u) (in_order start (drawn start words (RANDOM_TRIES - 1)))
    ≡ found_in space (view setting t) (window_candidates start words)
    → Done (Finds space setting u start (drawn start words (RANDOM_TRIES - 1)) (window start)) result setting stands acts t
    → Done (InWindow space setting t start words) result setting stands acts t
good_window (Ok found) setting stands space start words t u acts same done = (done.0, done.1 ∙ same, done.2)
good_window (Err (fault.Code code)) setting stands space start words t u acts same done = done
good_window (Err fault.NoMemory) setting stands space start words t u acts same done = done

-- the random numbers were present, and the scan ended so
pub scanned : (last : Drawn) (result : Result (Option ℕ) TrFault) (setting : Setting) (first stands : Transaction → Type 0)
    (space : List ℕ) (start : ℕ) (words : ℕ → ℕ)
    (t : Transaction) → last.is_absent ≡ false
    → Done (LastOf space setting t start words RANDOM_TRIES) (Ok last) setting first
    (tries_of space (view setting t) (random start words)) t
    → ((u : Transaction) → first u
    → Done (Finds space setting u start last.number (window start)) result setting stands
    (tries_of space (view setting u) (in_order start last.number)) u)
    → Done (InWindow space setting t start words) result setting stands (tries_of space (view setting t) (window_candidates start words)) t
scanned last result setting first stands space start words t present done others =
    let m = view setting t in
    let end = drawn start words (RANDOM_TRIES - 1) in
    let u = after_tries setting t space (random start words) in
    let none = none_random last setting first space start words t present done in
    let scan = subst (λ number. Done (Finds space setting u start number (window start)) result setting stands
    (tries_of space (view setting u) (in_order start number)) u)
    none.1 (others u done.2) in
    let whole : found_in space (view setting u) (in_order start end) ≡ found_in space m (window_candidates start words) =
    sym (ap (found_in space m) (parts start words) ∙ found_behind setting first space (random start words) (in_order start end) t none.0) in
    subst (λ candidates. Done (InWindow space setting t start words) result setting stands (tries_of space m candidates) t)
    (sym (parts start words))
    (good_window result setting stands space start words t u (tries_of space m (random start words ++ in_order start end)) whole
    (go_on (Finds space setting u start end (window start)) result setting first stands space (random start words)
    (in_order start end) t none.0 scan))

abbrev is_scanned : Candidate → Bool
is_scanned candidate = not candidate.is_drawn

quiet_tries : (space : List ℕ) (candidate : Candidate) → is_scanned candidate ≡ true → list_all draws_none (tries space candidate) ≡ true
quiet_tries space candidate is = by candidate.is_drawn is
  where
    by : (is_drawn : Bool) → not is_drawn ≡ true
        → list_all draws_none ((cond is_drawn (act.Draws ∷ []) []) ++ Reads (Get (recent_key space candidate.number)) false ∷ DisablesWriteConflict
        ∷ Writes (Set (recent_key space candidate.number) []) ∷ []) ≡ true
    by true is = absurd cc
    by false is = refl

quiet_all : (space : List ℕ) (present : ℕ → Bool) (candidates : List Candidate) → list_all is_scanned candidates ≡ true
    → list_all draws_none (flat_map (tries space) (tried present candidates)) ≡ true
quiet_all space present [] are = refl
quiet_all space present (candidate ∷ candidates) are =
    let split = and_parts (is_scanned candidate) (list_all is_scanned candidates) are in
    by (present candidate.number) (quiet_tries space candidate split.0) (quiet_all space present candidates split.1)
  where
    by : (here : Bool) → list_all draws_none (tries space candidate) ≡ true
        → list_all draws_none (flat_map (tries space) (tried present candidates)) ≡ true
        → list_all draws_none (flat_map (tries space) (cond here (candidate ∷ tried present candidates) (candidate ∷ []))) ≡ true
    by true one others =
        list_all-append draws_none (tries space candidate) (flat_map (tries space) (tried present candidates)) ∙ and_from _ _ one others
    by false one others = list_all-append draws_none (tries space candidate) [] ∙ and_from _ _ one refl

all_scanned : (candidate_of : ℕ → Candidate) (places : List ℕ) → ((place : ℕ) → is_scanned (candidate_of place) ≡ true)
    → list_all is_scanned (map candidate_of places) ≡ true
all_scanned candidate_of [] each = refl
all_scanned candidate_of (place ∷ places) each = and_from _ _ (each place) (all_scanned candidate_of places each)

-- the window in order draws no word
quiet_order : (space : List ℕ) (m : Database) (start last : ℕ) → list_all draws_none (tries_of space m (in_order start last)) ≡ true
unfolding tries_of scans
quiet_order space m start last = quiet_all space (is_recent space m) _ (all_scanned _ (counting 1 (window start)) (λ place. refl))

pub scanned_words : (last : Drawn) (result : Result (Option ℕ) TrFault) (setting : Setting) (first : Transaction → Type 0)
    (space : List ℕ) (start : ℕ) (words left : ℕ → ℕ)
    (t : Transaction) → last.is_absent ≡ false
    → Done (LastOf space setting t start words RANDOM_TRIES) (Ok last) setting first
    (tries_of space (view setting t) (random start words)) t
    → Leaves words left (used_by setting space t (random start words))
    → Draws result words left (used_by setting space t (window_candidates start words))
scanned_words last result setting first space start words left t present done used = by result
  where
    m : Database
    m = view setting t

    end : ℕ
    end = drawn start words (RANDOM_TRIES - 1)

    none : Sofar setting first space (random start words) t × (last.number ≡ end)
    none = none_random last setting first space start words t present done

    same : used_by setting space t (window_candidates start words) ≡ used_by setting space t (random start words)
    same =
        ap (λ acts. (all_acted setting acts t).words)
        (ap (tries_of space m) (parts start words) ∙ tries_then space m (random start words) (in_order start end) none.0.none)
        ∙ quiet_behind setting (tries_of space m (random start words)) (tries_of space m (in_order start end)) t
        (quiet_order space m start end)

    leaves : Leaves words left (used_by setting space t (window_candidates start words))
    leaves place = used place ∙ ap (λ used. words (used + place)) (sym same)

    by : (result : Result (Option ℕ) TrFault) → Draws result words left (used_by setting space t (window_candidates start words))
    by (Ok found) = leaves
    by (Err (fault.Code code)) = leaves
    by (Err fault.NoMemory) = tt
