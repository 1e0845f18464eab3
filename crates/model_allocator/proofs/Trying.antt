-- Candidates that are tried in their order.
use Rattle.std.proofs.Common.{◌≡◌, ℕ, ◌+◌, Bool, true, false, cond, List, [], ◌∷◌, ◌++◌, Option, Some, None, is_some, refl, ap, ◌∙◌}
use Rattle.std.specs.Prelude.{◌&&◌, if◌then◌else◌, flat_map, nat_lt, nat_le}
use Rattle.std.specs.List.{list_all}
use Rattle.std.proofs.lemmas.Bool.{and_parts}
use Rattle.model_database.specs.Databases.{Set}
use Rattle.model_database.specs.Histories.{Setting}
use Rattle.model_database.specs.Reads.{Get}
use Rattle.model_database.specs.Transactions.{Transaction, view}
use Rattle.model_allocator.specs.Acts.{Draws, Reads, Writes, DisablesWriteConflict, act_called, all_acted}
use Rattle.model_allocator.specs.Counters.{recent_key, is_recent}
use Rattle.model_allocator.specs.Granting.{Candidate, first_absent, tried, tries}
use Rattle.model_allocator.proofs.Acting.{Keep, keep-append, all_keep, none_drawn}
use Rattle.model_allocator.proofs.Viewing.{after_read, after_disabling, set_seen}

-- ---- which are tried

abbrev pub all_present : (present : ℕ → Bool) → List Candidate → Bool
all_present present candidates = list_all (λ candidate. present candidate.number) candidates

-- of two parts, the second is tried where all of the first are present
pub tried-append : (present : ℕ → Bool) (first second : List Candidate)
    → tried present (first ++ second) ≡ tried present first ++ (if is_some (first_absent present first) then [] else tried present second)
tried-append present [] second = refl
tried-append present (candidate ∷ first) second = by (present candidate.number) (tried-append present first second)
  where
    by : (here : Bool)
        → tried present (first ++ second) ≡ tried present first ++
        (if is_some (first_absent present first) then [] else tried present second)
        → cond here (candidate ∷ tried present (first ++ second)) (candidate ∷ [])
        ≡ cond here (candidate ∷ tried present first) (candidate ∷ [])
        ++ cond (is_some (cond here (first_absent present first) (Some candidate.number))) [] (tried present second)
    by true parts = ap (λ others. candidate ∷ others) parts
    by false parts = refl

pub absent-append : (present : ℕ → Bool) (first second : List Candidate)
    → first_absent present (first ++ second)
    ≡ (if is_some (first_absent present first) then first_absent present first else first_absent present second)
absent-append present [] second = refl
absent-append present (candidate ∷ first) second = by (present candidate.number) (absent-append present first second)
  where
    by : (here : Bool)
        → first_absent present (first ++ second)
        ≡ (if is_some (first_absent present first) then first_absent present first else first_absent present second)
        → cond here (first_absent present (first ++ second)) (Some candidate.number)
        ≡ (let absent : Option ℕ = cond here (first_absent present first) (Some candidate.number) in cond (is_some absent) absent
        (first_absent present second))
    by true parts = parts
    by false parts = refl

-- where none is absent, all are present, and all are tried
pub none_absent : (present : ℕ → Bool) (candidates : List Candidate) → first_absent present candidates ≡ None
    → (all_present present candidates ≡ true) × (tried present candidates ≡ candidates)
none_absent present [] none = (refl, refl)
none_absent present (candidate ∷ candidates) none = by (present candidate.number) none (none_absent present candidates)
  where
    by : (here : Bool) → cond here (first_absent present candidates) (Some candidate.number) ≡ None
        → (first_absent present candidates ≡ None → (all_present present candidates ≡ true) × (tried present candidates ≡ candidates))
        → ((here && all_present present candidates) ≡ true) × (cond here (candidate ∷ tried present candidates) (candidate ∷ [])
        ≡ candidate ∷ candidates)
    by true none others = ((others none).0, ap (λ list. candidate ∷ list) (others none).1)
    by false none others = absurd cc

-- ---- what is seen of other numbers

-- these numbers are present
abbrev pub Presents : Setting → (space : List ℕ) → (present : ℕ → Bool) → Transaction → Type 0
Presents setting space present t = (number : ℕ) → is_recent space (view setting t) number ≡ present number

keep_tries : (setting : Setting) (space : List ℕ) (present : ℕ → Bool) (candidate : Candidate) → present candidate.number ≡ true
    → Keep setting (Presents setting space present) (tries space candidate)
keep_tries setting space present candidate here = by candidate.is_drawn
  where
    reads : (t : Transaction) → Presents setting space present t
        → Presents setting space present (act_called setting t (Reads (Get (recent_key space candidate.number)) false)).transaction
    reads t presents number =
        ap (λ m. is_recent space m number) (after_read setting t (Get (recent_key space candidate.number)) false) ∙ presents number

    disables_write_conflict : (t : Transaction) → Presents setting space present t
        → Presents setting space present (act_called setting t DisablesWriteConflict).transaction
    disables_write_conflict t presents number = ap (λ m. is_recent space m number) (after_disabling setting t) ∙ presents number

    sets : (t : Transaction) → Presents setting space present t
        → Presents setting space present (act_called setting t (Writes (Set (recent_key space candidate.number) []))).transaction
    sets t presents number =
        set_seen setting t (recent_key space candidate.number) [] (recent_key space number) (presents candidate.number ∙ here)
        ∙ presents number

    by : (is_drawn : Bool) → Keep setting (Presents setting space present)
        ((cond is_drawn (Draws ∷ []) []) ++ Reads (Get (recent_key space candidate.number)) false ∷ DisablesWriteConflict ∷ Writes
        (Set (recent_key space candidate.number) []) ∷ [])
    by true = ((λ t presents. presents), (reads, (disables_write_conflict, (sets, tt))))
    by false = (reads, (disables_write_conflict, (sets, tt)))

keep_all : (setting : Setting) (space : List ℕ) (present : ℕ → Bool) (candidates : List Candidate) → all_present present candidates ≡ true
    → Keep setting (Presents setting space present) (flat_map (tries space) candidates)
keep_all setting space present [] are = tt
keep_all setting space present (candidate ∷ candidates) are =
    let parts = and_parts (present candidate.number) (all_present present candidates) are in
    keep-append setting (Presents setting space present) (tries space candidate) (flat_map (tries space) candidates)
    (keep_tries setting space present candidate parts.0) (keep_all setting space present candidates parts.1)

-- tries of numbers that are present change no presence
pub present_same : (setting : Setting) (space : List ℕ) (candidates : List Candidate) (t : Transaction) (number : ℕ)
    → all_present (is_recent space (view setting t)) candidates ≡ true
    → is_recent space (view setting (all_acted setting (flat_map (tries space) candidates) t).transaction) number ≡ is_recent space
    (view setting t) number
present_same setting space candidates t number are =
    all_keep setting (Presents setting space (is_recent space (view setting t))) (flat_map (tries space) candidates)
    (keep_all setting space (is_recent space (view setting t)) candidates are) t (λ other. refl) number

-- ---- two presences that agree

-- the number is at least one, and less than another
abbrev pub is_among : (from end : ℕ) → Candidate → Bool
is_among from end candidate = nat_le from candidate.number && nat_lt candidate.number end

pub tried_same : (one other : ℕ → Bool) (from end : ℕ) (candidates : List Candidate) → list_all (is_among from end) candidates ≡ true
    → ((number : ℕ) → nat_le from number ≡ true → nat_lt number end ≡ true → one number ≡ other number)
    → tried one candidates ≡ tried other candidates
tried_same one other from end [] among same = refl
tried_same one other from end (candidate ∷ candidates) among same =
    let parts = and_parts (is_among from end candidate) (list_all (is_among from end) candidates) among in
    let within = and_parts (nat_le from candidate.number) (nat_lt candidate.number end) parts.0 in
    ap (λ (here : Bool). cond here (candidate ∷ tried one candidates) (candidate ∷ [])) (same candidate.number within.0 within.1)
    ∙ ap (λ others. cond (other candidate.number) (candidate ∷ others) (candidate ∷ []))
    (tried_same one other from end candidates parts.1 same)

pub absent_same : (one other : ℕ → Bool) (from end : ℕ) (candidates : List Candidate) → list_all (is_among from end) candidates ≡ true
    → ((number : ℕ) → nat_le from number ≡ true → nat_lt number end ≡ true → one number ≡ other number)
    → first_absent one candidates ≡ first_absent other candidates
absent_same one other from end [] among same = refl
absent_same one other from end (candidate ∷ candidates) among same =
    let parts = and_parts (is_among from end candidate) (list_all (is_among from end) candidates) among in
    let within = and_parts (nat_le from candidate.number) (nat_lt candidate.number end) parts.0 in
    ap (λ (here : Bool). cond here (first_absent one candidates) (Some candidate.number)) (same candidate.number within.0 within.1)
    ∙ ap (λ others. cond (other candidate.number) others (Some candidate.number)) (absent_same one other from end candidates parts.1 same)

-- ---- how many words they draw

-- a try of a number that a word chose draws one word, refused or not, and each other none
pub tries_words : (setting : Setting) (space : List ℕ) (number : ℕ) (is_drawn : Bool) (t : Transaction)
    → (all_acted setting (tries space (record { number = number; is_drawn = is_drawn })) t).words ≡ (if is_drawn then 1 else 0)
unfolding all_acted
tries_words setting space number true t =
    ap (λ words. 1 + words) (none_drawn setting (tries space (record { number = number; is_drawn = false })) t refl)
tries_words setting space number false t = none_drawn setting (tries space (record { number = number; is_drawn = false })) t refl
