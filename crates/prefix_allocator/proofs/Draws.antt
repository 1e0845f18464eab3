-- Random words that choose numbers, one after the other.
use Rattle.std.proofs.Common.{◌≡◌, ℕ, ◌+◌, Bool, true, false, List, [], ◌∷◌, ◌++◌, Some, None, Result, refl, sym, ap, subst, ◌∙◌, map}
use Rattle.std.specs.Prelude.{if◌then◌else◌, ◌%◌, not}
use Rattle.std.proofs.lemmas.List.{map-append}
use Rattle.model_database.specs.Databases.{Database}
use Rattle.model_database.specs.Histories.{Setting}
use Rattle.model_database.specs.Transactions.{Transaction, view}
use Rattle.fdb_calls.specs.declared.fault.TrFault.{TrFault}
use Rattle.model_allocator.specs.Acts.{Draws, all_acted}
use Rattle.model_allocator.specs.Counters.{is_recent, window}
use Rattle.model_allocator.specs.Granting.{Candidate, counting, drawn, above, tries}
use Rattle.model_allocator.proofs.Trying.{tries_words}
use Rattle.model_allocator.proofs.Windows.{counting-append}
use Rattle.prefix_allocator.specs.Doing.{Done, draws, scans, tries_of, found_in, IsLast}
use Rattle.prefix_allocator.proofs.Calls.{Present}
use Rattle.prefix_allocator.proofs.Steps.{passed}
use Rattle.prefix_allocator.proofs.Search.{tries_one, found_one}

-- ---- the candidates

pub draws-append : (start : ℕ) (words : ℕ → ℕ) (from count more : ℕ)
    → draws start words from (count + more) ≡ draws start words from count ++ draws start words (from + count) more
unfolding draws
draws-append start words from count more =
    let candidate : ℕ → Candidate = λ place. record { number = drawn start words place; is_drawn = true } in
    ap (map candidate) (counting-append from count more) ∙ map-append candidate (counting from count) (counting (from + count) more)

pub scans-append : (start number from count more : ℕ)
    → scans start number from (count + more) ≡ scans start number from count ++ scans start number (from + count) more
unfolding scans
scans-append start number from count more =
    let candidate : ℕ → Candidate = λ distance. record { number = above start number distance; is_drawn = false } in
    ap (map candidate) (counting-append from count more) ∙ map-append candidate (counting from count) (counting (from + count) more)

abbrev pub drawn_one : (start : ℕ) → (words : ℕ → ℕ) → (place : ℕ) → Candidate
drawn_one start words place = record { number = drawn start words place; is_drawn = true }

abbrev pub scanned_one : (start number distance : ℕ) → Candidate
scanned_one start number distance = record { number = above start number distance; is_drawn = false }

pub draws_one : (start : ℕ) (words : ℕ → ℕ) (place : ℕ) → draws start words place 1 ≡ drawn_one start words place ∷ []
unfolding draws
draws_one start words place = refl

pub scans_one : (start number distance : ℕ) → scans start number distance 1 ≡ scanned_one start number distance ∷ []
unfolding scans
scans_one start number distance = refl

-- the words that are left choose what the words choose at later places
pub draws_later : (start : ℕ) (words left : ℕ → ℕ) (place : ℕ) → left 0 ≡ words place → draws start left 0 1 ≡ draws start words place 1
unfolding draws
draws_later start words left place is = ap (λ word. (record { number = start + word % window start; is_drawn = true }) ∷ []) is

-- ---- one

is_last : (present : Bool) (number : ℕ) (absent : Bool) → absent ≡ not present
    → IsLast (if present then None else Some number) number number absent
is_last present number absent is = subst (λ (absent : Bool). IsLast (if present then None else Some number) number number absent) (sym is)
    (by present)
  where
    by : (present : Bool) → IsLast (if present then None else Some number) number number (not present)
    by true = (refl, refl)
    by false = refl

-- a try behind a word that was drawn
pub one_drawn : (result : Result Bool TrFault) (setting : Setting) (stands : Transaction → Type 0) (space : List ℕ) (start : ℕ) (words : ℕ
    → ℕ) (t : Transaction)
    → Done (Present setting t space (drawn start words 0)) result setting stands
    (tries space (record { number = drawn start words 0; is_drawn = false })) t
    → Done (Present setting t space (drawn start words 0)) result setting stands (tries_of space (view setting t) (draws start words 0 1)) t
one_drawn result setting stands space start words t done =
    let present = Present setting t space (drawn start words 0) in
    let acts : tries space (drawn_one start words 0) ≡ tries_of space (view setting t) (draws start words 0 1) =
    sym (ap (tries_of space (view setting t)) (draws_one start words 0) ∙ tries_one space (view setting t) (drawn_one start words 0)) in
    subst (λ acts. Done present result setting stands acts t) acts
    (passed present result setting stands Draws (tries space (record { number = drawn start words 0; is_drawn = false })) t refl done)

-- the number that it tried, and whether it was absent
pub last_drawn : (setting : Setting) (space : List ℕ) (start : ℕ) (words : ℕ → ℕ) (t : Transaction) (absent : Bool)
    → Present setting t space (drawn start words 0) absent
    → IsLast (found_in space (view setting t) (draws start words 0 1)) (drawn start words 0) (drawn start words 0) absent
last_drawn setting space start words t absent is =
    let number = drawn start words 0 in
    let found : (if is_recent space (view setting t) number then None else Some number) ≡ found_in space (view setting t)
    (draws start words 0 1) =
    sym (ap (found_in space (view setting t)) (draws_one start words 0) ∙ found_one space (view setting t) (drawn_one start words 0)) in
    subst (λ found. IsLast found number number absent) found (is_last (is_recent space (view setting t) number) number absent is)

-- ---- words

-- a try behind a draw uses one word, refused or not
pub one_word : (setting : Setting) (space : List ℕ) (start : ℕ) (words : ℕ → ℕ) (place : ℕ) (m : Database) (t : Transaction)
    → (all_acted setting (tries_of space m (draws start words place 1)) t).words ≡ 1
one_word setting space start words place m t =
    ap (λ acts. (all_acted setting acts t).words) (ap (tries_of space m) (draws_one start words place)
    ∙ tries_one space m (drawn_one start words place))
    ∙ tries_words setting space (drawn start words place) true t
