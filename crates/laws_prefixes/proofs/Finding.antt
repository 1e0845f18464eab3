-- What a call of the allocator is to do where it is to grant a number: which number it chose, by which greatest counter, and that its
-- acts before the one that finds the number absent leave that number's key undecided.
use Rattle.std.proofs.Common.{◌≡◌, ◌⊎◌, ℕ, ◌+◌, ◌-◌, ◌^◌, ◌<◌, ◌≤◌, Bool, true, false, List, [], ◌∷◌, ◌++◌, map, Option, Some, None, inl, inr, refl, sym, ap, subst, ◌∙◌, append_assoc, arith}
use Rattle.std.specs.Prelude.{bytes_eq, flat_map, is_some, if◌then◌else◌, nat_le, unwrap_or}
use Rattle.std.specs.Cmp.Lexicographic.{same_text}
use Rattle.std.specs.FinMap as finite
use Rattle.std.specs.List.{list_all}
use Rattle.std.proofs.lemmas.Bool.{and_from, and_parts, both_ways, false_from_ne_true, le-leb, le-ltb, leb-true, or_from}
use Rattle.std.proofs.lemmas.List.{append-nil}
use Rattle.std.proofs.lemmas.List.Concat.{flat_map-append}
use Rattle.std.proofs.lemmas.List.Folds.{list_all-append}
use Rattle.std.proofs.lemmas.Option.{same_Some}
use Rattle.model_database.specs.Databases.{Database, Set}
use Rattle.model_database.specs.Intervals.{decided}
use Rattle.model_database.specs.Reads.{Get}
use Rattle.model_database.specs.Slices.{Entries}
use Rattle.model_database.specs.States.{covers}
use Rattle.model_database.proofs.Deciding.{covers-decided-append}
use Rattle.model_database.proofs.Ranges.{covers_one}
use Rattle.model_allocator.specs.declared.TheConstants.{RANDOM_TRIES}
use Rattle.model_allocator.specs.Acts.{Act, Draws, Reads, Writes, DisablesWriteConflict, AddsWriteConflict, written_by}
use Rattle.model_allocator.specs.Counters.{counter_in, counts_half, counted, greatest_counter, is_recent, recent_key, window}
use Rattle.model_allocator.specs.Granting.{Candidate, Grants, above, asks_greatest, candidates, claims, clears_below, counting, counts, drawn, first_absent, granting, opens, plan, plan_at, plan_by, plan_counter, plan_from, plan_under, tried, tries}
use Rattle.model_allocator.proofs.Keys.{recent_cleared, recent_kept}
use Rattle.laws_prefixes.proofs.Acting.{written_by-append}

-- ---- the candidate that is taken

-- it is behind some that are present, and is not present itself
pub record IsTaken (present : ℕ → Bool) (list : List Candidate) (number : ℕ) : Type 0 where
  pub front : List Candidate
  pub last : Candidate
  pub tried_are : tried present list ≡ front ++ last ∷ []
  pub before : list_all (λ (candidate : Candidate). present candidate.number) front ≡ true
  pub last_is : last.number ≡ number
  pub absent : present number ≡ false

-- the first candidate that is absent is taken so
pub first_taken : (present : ℕ → Bool) (list : List Candidate) (number : ℕ) → first_absent present list ≡ Some number
    → IsTaken present list number
first_taken present [] number is = absurd cc
first_taken present (candidate ∷ others) number is = by (present candidate.number) refl (first_taken present others number) is
  where
    by : (b : Bool) → present candidate.number ≡ b → (first_absent present others ≡ Some number → IsTaken present others number)
        → (if b then first_absent present others else Some candidate.number) ≡ Some number
        → IsTaken present (candidate ∷ others) number
    by true here later is =
        let taken = later is in record {
          front = candidate ∷ taken.front;
          last = taken.last;
          tried_are = ap (λ b. if b then candidate ∷ tried present others else candidate ∷ []) here
              ∙ ap (λ list. candidate ∷ list) taken.tried_are;
          before = and_from (present candidate.number) _ here taken.before;
          last_is = taken.last_is;
          absent = taken.absent;
        }
    by false here later is = record {
      front = [];
      last = candidate;
      tried_are = ap (λ b. if b then candidate ∷ tried present others else candidate ∷ []) here;
      before = refl;
      last_is = same_Some candidate.number number is;
      absent = ap present (sym (same_Some candidate.number number is)) ∙ here;
    }

-- a number that is taken has what all candidates have
taken_passes : (present test : ℕ → Bool) (list : List Candidate) (number : ℕ)
    → list_all (λ (candidate : Candidate). test candidate.number) list ≡ true → first_absent present list ≡ Some number
    → test number ≡ true
taken_passes present test [] number all is = absurd cc
taken_passes present test (candidate ∷ others) number all is =
    let parts = and_parts (test candidate.number) _ all in
    by (present candidate.number) parts.0 (taken_passes present test others number parts.1) is
  where
    by : (b : Bool) → test candidate.number ≡ true → (first_absent present others ≡ Some number → test number ≡ true)
        → (if b then first_absent present others else Some candidate.number) ≡ Some number → test number ≡ true
    by true here later is = later is
    by false here later is = ap test (sym (same_Some candidate.number number is)) ∙ here

-- candidates that are made from numbers have what each made one has
made_pass : (test : ℕ → Bool) (made : ℕ → Candidate) (numbers : List ℕ) → ((n : ℕ) → test (made n).number ≡ true)
    → list_all (λ (candidate : Candidate). test candidate.number) (map made numbers) ≡ true
made_pass test made [] each = refl
made_pass test made (n ∷ numbers) each = and_from (test (made n).number) _ (each n) (made_pass test made numbers each)

-- no candidate lies below the start
pub candidates_from_start : (start : ℕ) (words : ℕ → ℕ)
    → list_all (λ (candidate : Candidate). nat_le start candidate.number) (candidates start words) ≡ true
candidates_from_start start words =
    let random : List Candidate = map (λ place. record { number = drawn start words place; is_drawn = true }) (counting 0 RANDOM_TRIES) in
    let whole : List Candidate =
    map (λ distance. record { number = above start (drawn start words (RANDOM_TRIES - 1)) distance; is_drawn = false })
    (counting 1 (window start)) in
    list_all-append (λ (candidate : Candidate). nat_le start candidate.number) random whole
    ∙ and_from _ _
    (made_pass (nat_le start) (λ place. record { number = drawn start words place; is_drawn = true }) (counting 0 RANDOM_TRIES) from)
    (made_pass (nat_le start)
    (λ distance. record { number = above start (drawn start words (RANDOM_TRIES - 1)) distance; is_drawn = false })
    (counting 1 (window start)) over)
  where
    from : (place : ℕ) → nat_le start (drawn start words place) ≡ true
    from place = le-leb start (drawn start words place) (omega arith)

    over : (distance : ℕ) → nat_le start (above start (drawn start words (RANDOM_TRIES - 1)) distance) ≡ true
    over distance = le-leb start (above start (drawn start words (RANDOM_TRIES - 1)) distance) (omega arith)

-- ---- keys that acts leave undecided

-- their mutations decide no value of a key
abbrev pub LeaveUndecided : List Act → List ℕ → Type 0
LeaveUndecided acts key = covers (decided (written_by acts)) key ≡ false

-- acts, and acts behind them
pub undecided-append : (first second : List Act) (key : List ℕ) → LeaveUndecided first key → LeaveUndecided second key
    → LeaveUndecided (first ++ second) key
undecided-append first second key none none_behind =
    ap (λ list. covers (decided list) key) (written_by-append first second)
    ∙ covers-decided-append (written_by first) (written_by second) key
    ∙ or_from (covers (decided (written_by first)) key) (covers (decided (written_by second)) key) none none_behind

-- the start of a call: the greatest counter, or behind its window
abbrev pub start_behind : (is_half : Bool) → (first : ℕ) → ℕ
start_behind is_half first = if is_half then first + window first else first

-- what opens a window leaves the keys of numbers from its start on
opening_undecided : (is_half : Bool) (space : List ℕ) (first number : ℕ) → start_behind is_half first ≤ number → number < 2 ^ 63
    → LeaveUndecided (opens is_half space first) (recent_key space number)
opening_undecided false space first number from small = refl
opening_undecided true space first number from small =
    let start : ℕ = first + window first in
    or_from _ _ (recent_kept space start number)
    (or_from _ _ (recent_cleared space start number (omega arith) small ∙ le-ltb number start from) refl)

-- a try of a number that is present leaves the key of one that isn't
try_undecided : (space : List ℕ) (database : Database) (number : ℕ) (candidate : Candidate) → is_recent space database number ≡ false
    → is_recent space database candidate.number ≡ true → LeaveUndecided (tries space candidate) (recent_key space number)
try_undecided space database number candidate absent present =
    by candidate.is_drawn
  where
    differ : bytes_eq (recent_key space number) (recent_key space candidate.number) ≡ false
    differ = false_from_ne_true _ (λ same. both_ways (is_recent space database number) absent
        (ap (λ key. is_some (finite.get database key))
        (same_text (recent_key space number) (recent_key space candidate.number) (sym same)) ∙ present))

    by : (is_drawn : Bool) → LeaveUndecided (tries space (record candidate { is_drawn = is_drawn })) (recent_key space number)
    by true = covers_one (recent_key space candidate.number) (recent_key space number) ∙ differ
    by false = covers_one (recent_key space candidate.number) (recent_key space number) ∙ differ

-- tries of numbers that are present do
tries_undecided : (space : List ℕ) (database : Database) (number : ℕ) (front : List Candidate) → is_recent space database number ≡ false
    → list_all (λ (candidate : Candidate). is_recent space database candidate.number) front ≡ true
    → LeaveUndecided (flat_map (tries space) front) (recent_key space number)
tries_undecided space database number [] absent present = refl
tries_undecided space database number (candidate ∷ front) absent present =
    let parts = and_parts (is_recent space database candidate.number) _ present in
    undecided-append (tries space candidate) (flat_map (tries space) front) (recent_key space number)
    (try_undecided space database number candidate absent parts.0) (tries_undecided space database number front absent parts.1)

-- ---- what a call is to do

-- a number is read, found absent, set without a write conflict range, and then gets one
abbrev pub finds : (space : List ℕ) → (number : ℕ) → List Act
finds space number =
    Reads (Get (recent_key space number)) false
    ∷ DisablesWriteConflict
    ∷ Writes (Set (recent_key space number) [])
    ∷ AddsWriteConflict (recent_key space number)
    ∷ []

-- this is the greatest counter, or there is none
abbrev pub IsGreatest : (space : List ℕ) → Database → ℕ → Type 0
IsGreatest space database first =
    (greatest_counter space database ≡ [])
    ⊎ ((entry : List ℕ × List ℕ) × (others : Entries) × (greatest_counter space database ≡ entry ∷ others)
    × (counter_in space entry.0 ≡ Some first))

-- the acts of a call that is to grant a number, by what its transaction sees before them
pub record AreGrantActs (space : List ℕ) (database : Database) (number : ℕ) (acts : List Act) : Type 0 where
  -- the greatest counter is read first
  pub others : List Act
  pub acts_are : acts ≡ (asks_greatest space ∷ others) ++ finds space number
  pub undecided : number < 2 ^ 63 → LeaveUndecided (asks_greatest space ∷ others) (recent_key space number)
  -- the number is absent, and not below the greatest counter
  pub absent : is_recent space database number ≡ false
  pub first : ℕ
  pub from_first : first ≤ number
  pub greatest : IsGreatest space database first

-- a try behind other acts, and then the claim: the acts before the read of the number, and those from it on
regrouped : (before front drawing trying claim : List Act)
    → before ++ (front ++ ((drawing ++ trying) ++ [])) ++ claim ≡ (before ++ front ++ drawing) ++ (trying ++ claim)
regrouped before front drawing trying claim = simp (append-nil, append_assoc)

-- so the acts of a call are parted
parted : (before : List Act) (space : List ℕ) (front : List Candidate) (last : Candidate)
    → before ++ flat_map (tries space) (front ++ last ∷ []) ++ claims space (Some last.number)
    ≡ (before ++ flat_map (tries space) front ++ (if last.is_drawn then Draws ∷ [] else [])) ++ finds space last.number
parted before space front last =
    ap (λ list. before ++ list ++ claims space (Some last.number)) (flat_map-append (tries space) front (last ∷ []))
    ∙ regrouped before (flat_map (tries space) front) (if last.is_drawn then Draws ∷ [] else [])
    (Reads (Get (recent_key space last.number)) false ∷ DisablesWriteConflict ∷ Writes (Set (recent_key space last.number) []) ∷ [])
    (claims space (Some last.number))

-- drawing a word leaves each key
drawing_undecided : (is_drawn : Bool) (key : List ℕ) → LeaveUndecided (if is_drawn then Draws ∷ [] else []) key
drawing_undecided true key = refl
drawing_undecided false key = refl

-- behind these acts, where the number is taken among these candidates
taken_acts : (rest : List Act) (space : List ℕ) (database : Database) (list : List Candidate) (first number : ℕ)
    → first ≤ number → IsGreatest space database first
    → (number < 2 ^ 63 → LeaveUndecided (asks_greatest space ∷ rest) (recent_key space number))
    → IsTaken (is_recent space database) list number
    → AreGrantActs space database number
    ((asks_greatest space ∷ rest) ++ flat_map (tries space) (tried (is_recent space database) list) ++ claims space (Some number))
taken_acts rest space database list first number from greatest undecided taken =
    let before : List Act = asks_greatest space ∷ rest in
    let front : List Act = flat_map (tries space) taken.front in
    let drawing : List Act = if taken.last.is_drawn then Draws ∷ [] else [] in record {
      others = rest ++ front ++ drawing;
      acts_are = (λ i. before ++ flat_map (tries space) (taken.tried_are i) ++ claims space (Some (sym taken.last_is i)))
          ∙ parted before space taken.front taken.last
          ∙ ap (λ n. (before ++ front ++ drawing) ++ finds space n) taken.last_is;
      undecided = λ small. undecided-append (before ++ front) drawing (recent_key space number)
          (undecided-append before front (recent_key space number) (undecided small)
          (tries_undecided space database number taken.front taken.absent taken.before))
          (drawing_undecided taken.last.is_drawn (recent_key space number));
      absent = taken.absent;
      first = first;
      from_first = from;
      greatest = greatest;
    }

-- behind these acts, where a number is to be granted of these candidates, which lie from a start on
found_acts : (rest : List Act) (space : List ℕ) (database : Database) (list : List Candidate) (start first number : ℕ)
    → list_all (λ (candidate : Candidate). nat_le start candidate.number) list ≡ true
    → first ≤ start → IsGreatest space database first
    → (start ≤ number → number < 2 ^ 63 → LeaveUndecided (asks_greatest space ∷ rest) (recent_key space number))
    → granting start (first_absent (is_recent space database) list) ≡ Grants number
    → AreGrantActs space database number
    ((asks_greatest space ∷ rest) ++ flat_map (tries space) (tried (is_recent space database) list)
    ++ claims space (first_absent (is_recent space database) list))
found_acts rest space database list start first number all from greatest undecided grants =
    by (first_absent (is_recent space database) list) refl grants
  where
    by : (found : Option ℕ) → first_absent (is_recent space database) list ≡ found → granting start found ≡ Grants number
        → AreGrantActs space database number
        ((asks_greatest space ∷ rest) ++ flat_map (tries space) (tried (is_recent space database) list) ++ claims space found)
    by None is grants = absurd cc
    by (Some chosen) is grants =
        let same : chosen ≡ number = cc in
        let taken : first_absent (is_recent space database) list ≡ Some number = is ∙ ap Some same in
        let above : start ≤ number =
        leb-true start number (taken_passes (is_recent space database) (nat_le start) list number all taken) in
        subst (λ n. AreGrantActs space database number
        ((asks_greatest space ∷ rest) ++ flat_map (tries space) (tried (is_recent space database) list) ++ claims space (Some n)))
        (sym same)
        (taken_acts rest space database list first number (omega arith) greatest (undecided above)
        (first_taken (is_recent space database) list number taken))

-- the same of a start's own candidates
from_acts : (rest : List Act) (space : List ℕ) (database : Database) (words : ℕ → ℕ) (start first number : ℕ)
    → first ≤ start → IsGreatest space database first
    → (start ≤ number → number < 2 ^ 63 → LeaveUndecided (asks_greatest space ∷ rest) (recent_key space number))
    → (plan_from (asks_greatest space ∷ rest) space database words start).ending ≡ Grants number
    → AreGrantActs space database number (plan_from (asks_greatest space ∷ rest) space database words start).acts
from_acts rest space database words start first number from greatest undecided grants =
    found_acts rest space database (candidates start words) start first number (candidates_from_start start words) from greatest undecided
    grants

-- by the greatest counter
at_acts : (space : List ℕ) (database : Database) (words : ℕ → ℕ) (first number : ℕ) → IsGreatest space database first
    → (plan_at space database words first).ending ≡ Grants number
    → AreGrantActs space database number (plan_at space database words first).acts
at_acts space database words first number greatest grants =
    by (counts_half first (unwrap_or (counted space database first) [])) grants
  where
    by : (is_half : Bool) → (plan_by is_half space database words first).ending ≡ Grants number
        → AreGrantActs space database number (plan_by is_half space database words first).acts
    by true grants =
        let start : ℕ = first + window first in
        from_acts (counts space first ++ clears_below space start ++ counts space start) space database words start first number
        (omega arith) greatest (opening_undecided true space first number) grants
    by false grants =
        from_acts (counts space first) space database words first first number (omega arith) greatest
        (opening_undecided false space first number) grants

-- a call that is to grant a number does this
pub grant_acts : (space : List ℕ) (database : Database) (words : ℕ → ℕ) (number : ℕ)
    → (plan space database words).ending ≡ Grants number → AreGrantActs space database number (plan space database words).acts
unfolding plan
grant_acts space database words number grants = by (greatest_counter space database) refl grants
  where
    under : (entry : List ℕ × List ℕ) (others : Entries) → greatest_counter space database ≡ entry ∷ others → (found : Option ℕ)
        → counter_in space entry.0 ≡ found → (plan_counter space database words entry.0 found).ending ≡ Grants number
        → AreGrantActs space database number (plan_counter space database words entry.0 found).acts
    under entry others is None found grants = absurd cc
    under entry others is (Some first) found grants =
        at_acts space database words first number (inr (entry, others, is, found)) grants

    by : (entries : Entries) → greatest_counter space database ≡ entries
        → (plan_under space database words entries).ending ≡ Grants number
        → AreGrantActs space database number (plan_under space database words entries).acts
    by [] is grants = at_acts space database words 0 number (inl is) grants
    by (entry ∷ others) is grants = under entry others is (counter_in space entry.0) refl grants
