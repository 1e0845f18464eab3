-- What the mutations of an allocator's calls make of the numbers that are spent.
use Rattle.std.proofs.Common.{◌≡◌, ℕ, ◌^◌, ◌<◌, ◌≤◌, Bool, true, false, cond, List, [], ◌∷◌, ◌++◌, Option, Some, None, inl, inr, refl, sym, ap, subst, ◌∙◌, arith}
use Rattle.std.specs.Prelude.{◌||◌, nat_lt, bytes_eq, is_some}
use Rattle.std.specs.FinMap as finite
use Rattle.std.specs.Cmp.Lexicographic.{bytes_decides}
use Rattle.std.proofs.Math.Bool.{or-false}
use Rattle.std.proofs.lemmas.Bool.{cases_lt, eqb-true, le-ltb, ltb-true, or_cases, false≢true}
use Rattle.key_bytes.specs.Keys.{within}
use Rattle.model_database.specs.declared.AtomicOp.TheVariants as atomic
use Rattle.model_database.specs.Atomics.{atom}
use Rattle.model_database.specs.Databases.{Database, Mutation, Set, ClearRange, Atomic, do_one, do_all}
use Rattle.model_database.specs.Intervals.{decided}
use Rattle.model_database.specs.KeyByKey.{at_key, at_keys}
use Rattle.model_database.specs.States.{covers}
use Rattle.model_database.proofs.Deciding.{covers-decided-append}
use Rattle.model_database.proofs.KeyByKey.{get-do_all}
use Rattle.model_database.proofs.Ranges.{covers_one}
use Rattle.model_allocator.specs.Counters.{counters_prefix, counter_key, recent_prefix, recent_key, one_more}
use Rattle.model_allocator.proofs.Keys.{recent_same, counter_cleared, recent_cleared, counter_kept, recent_kept}
use Rattle.laws_prefixes.specs.Held.{IsSpent, AreSpending, AreFit}

-- ---- mutations, one list after another

pub do_all-append : (first second : List Mutation) (database : Database)
    → do_all (first ++ second) database ≡ do_all second (do_all first database)
do_all-append [] second database = refl
do_all-append (mutation ∷ first) second database = do_all-append first second (do_one mutation database)

-- what mutations leave spent is spent after fit ones too
pub spending_first : (space : List ℕ) (number : ℕ) (first second : List Mutation) → number < 2 ^ 63
    → AreSpending space number first → AreFit space second → AreSpending space number (first ++ second)
spending_first space number first second small spending fit database =
    subst (IsSpent space number) (sym (do_all-append first second database))
    (fit.keep (do_all first database) number small (spending database))

-- and what the last ones leave spent, whatever came before them
pub spending_last : (space : List ℕ) (number : ℕ) (first second : List Mutation)
    → AreSpending space number second → AreSpending space number (first ++ second)
spending_last space number first second spending database =
    subst (IsSpent space number) (sym (do_all-append first second database)) (spending (do_all first database))

pub fit_nothing : (space : List ℕ) → AreFit space []
fit_nothing space = record { keep = λ database number small spent. spent; deciding = λ number small decides. absurd (false≢true decides) }

pub fit_append : (space : List ℕ) (first second : List Mutation) → AreFit space first → AreFit space second → AreFit space (first ++ second)
fit_append space first second fit other = record {
  keep = λ database number small spent.
      subst (IsSpent space number) (sym (do_all-append first second database))
      (other.keep (do_all first database) number small (fit.keep database number small spent));
  deciding = λ number small decides.
      let key = recent_key space number in
      let either = sym (covers-decided-append first second key) ∙ decides in
      elim (or_cases (covers (decided first) key) (covers (decided second) key) either) [
        | inl early ↦ spending_first space number first second small (fit.deciding number small early) other
        | inr late ↦ spending_last space number first second (other.deciding number small late)
      ];
}

-- ---- keys that stay present

-- where each key that was present still is, each number that was spent still is
pub still_spent : (space : List ℕ) (number : ℕ) (before after : Database)
    → ((key : List ℕ) → is_some (finite.get before key) ≡ true → is_some (finite.get after key) ≡ true)
    → IsSpent space number before → IsSpent space number after
still_spent space number before after present (inl recent) = inl (present (recent_key space number) recent)
still_spent space number before after present (inr below) = inr (record {
  counter = below.counter;
  present = present (counter_key space below.counter) below.present;
  above = below.above;
  small = below.small;
})

-- a key is present after mutations where they make a value of what it had
present_after : (mutations : List Mutation) (database : Database) (key : List ℕ)
    → is_some (at_keys mutations key (finite.get database key)) ≡ true → is_some (finite.get (do_all mutations database) key) ≡ true
present_after mutations database key made = ap is_some (get-do_all mutations database key) ∙ made

-- mutations that leave each key present that was present keep all that was spent
keep_present : (space : List ℕ) (number : ℕ) (mutations : List Mutation) (database : Database)
    → ((key : List ℕ) (old : Option (List ℕ)) → is_some old ≡ true → is_some (at_keys mutations key old) ≡ true)
    → IsSpent space number database → IsSpent space number (do_all mutations database)
keep_present space number mutations database present spent =
    still_spent space number database (do_all mutations database)
    (λ key before. present_after mutations database key (present key (finite.get database key) before)) spent

-- ---- a number that is set

set_present : (b : Bool) (value : List ℕ) (old : Option (List ℕ)) → is_some old ≡ true → is_some (cond b (Some value) old) ≡ true
set_present true value old present = refl
set_present false value old present = present

pub set_spends : (space : List ℕ) (number : ℕ) → AreSpending space number (Set (recent_key space number) [] ∷ [])
set_spends space number database =
    inl (present_after (Set (recent_key space number) [] ∷ []) database (recent_key space number)
    (ap (λ b. is_some (cond b (Some []) (finite.get database (recent_key space number)))) ((bytes_decides (recent_key space number) (recent_key space number)).1 refl)))

-- a number that is set keeps all that was spent, decides its own key and is spent
pub fit_set : (space : List ℕ) (number : ℕ) → number < 2 ^ 63 → AreFit space (Set (recent_key space number) [] ∷ [])
fit_set space number number_small = record {
  keep = λ database other small spent.
      keep_present space other (Set (recent_key space number) [] ∷ []) database
      (λ key old present. set_present (bytes_eq key (recent_key space number)) [] old present) spent;
  deciding = λ other small decides.
      let equal = sym (covers_one (recent_key space number) (recent_key space other)) ∙ decides in
      let same : other ≡ number = eqb-true other number (sym (recent_same space other number small number_small) ∙ equal) in
      subst (λ n. AreSpending space n (Set (recent_key space number) [] ∷ [])) (sym same) (set_spends space number);
}

-- ---- a counter that counts one more

-- the addition makes a value, whatever was there
added_value : (old : Option (List ℕ)) → is_some (atom atomic.Add old one_more) ≡ true
unfolding atom
added_value None = refl
added_value (Some old) = refl

added_present : (b : Bool) (old : Option (List ℕ)) → is_some old ≡ true → is_some (cond b (atom atomic.Add old one_more) old) ≡ true
added_present true old present = added_value old
added_present false old present = present

-- one more on any key keeps all that was spent, and decides nothing
pub fit_count : (space key : List ℕ) → AreFit space (Atomic atomic.Add key one_more ∷ [])
fit_count space key = record {
  keep = λ database number small spent.
      keep_present space number (Atomic atomic.Add key one_more ∷ []) database
      (λ asked old present. added_present (bytes_eq asked key) old present) spent;
  deciding = λ number small decides. absurd (false≢true decides);
}

-- ---- a window that gives way to a later one

-- counters and numbers below a start are cleared, and the counter of the start counts
abbrev pub advance : (space : List ℕ) → (start : ℕ) → List Mutation
advance space start =
    ClearRange (counters_prefix space) (counter_key space start)
    ∷ ClearRange (recent_prefix space) (recent_key space start)
    ∷ Atomic atomic.Add (counter_key space start) one_more
    ∷ []

-- clearing leaves a key outside as it is
outside_clear : (begin end key : List ℕ) (old : Option (List ℕ)) → within begin end key ≡ false
    → at_key (ClearRange begin end) key old ≡ old
outside_clear begin end key old outside = ap (λ b. cond b None old) outside

-- a key that is not cleared stays present
advance_present : (space : List ℕ) (start : ℕ) (key : List ℕ) (old : Option (List ℕ))
    → within (counters_prefix space) (counter_key space start) key ≡ false
    → within (recent_prefix space) (recent_key space start) key ≡ false
    → is_some old ≡ true → is_some (at_keys (advance space start) key old) ≡ true
advance_present space start key old no_counter no_number present =
    let kept = outside_clear (counters_prefix space) (counter_key space start) key old no_counter in
    let still_kept = outside_clear (recent_prefix space) (recent_key space start) key old no_number in
    ap (λ value. is_some (at_key (Atomic atomic.Add (counter_key space start) one_more) key value))
    (ap (at_key (ClearRange (recent_prefix space) (recent_key space start)) key) kept ∙ still_kept)
    ∙ added_present (bytes_eq key (counter_key space start)) old present

-- the counter of the start is present afterwards
start_present : (space : List ℕ) (start : ℕ) (old : Option (List ℕ))
    → is_some (at_keys (advance space start) (counter_key space start) old) ≡ true
start_present space start old =
    let key = counter_key space start in
    let clears = ClearRange (counters_prefix space) key ∷ ClearRange (recent_prefix space) (recent_key space start) ∷ [] in
    let cleared = at_keys clears key old in
    ap (λ b. is_some (cond b (atom atomic.Add cleared one_more) cleared)) ((bytes_decides key key).1 refl) ∙ added_value cleared

-- so each lesser number is spent
pub advance_spends : (space : List ℕ) (start number : ℕ) → start < 2 ^ 63 → number < start → AreSpending space number (advance space start)
advance_spends space start number start_small below database = inr (record {
  counter = start;
  present = present_after (advance space start) database (counter_key space start) (start_present space start _);
  above = below;
  small = start_small;
})

-- a number from the start on is kept, by its own key or by the counter above it
advance_keeps : (space : List ℕ) (start number : ℕ) (database : Database) → start < 2 ^ 63 → number < 2 ^ 63 → start ≤ number
    → IsSpent space number database → IsSpent space number (do_all (advance space start) database)
advance_keeps space start number database start_small small from (inl recent) =
    inl (present_after (advance space start) database (recent_key space number)
    (advance_present space start (recent_key space number) _ (recent_kept space start number)
    (recent_cleared space start number start_small small ∙ le-ltb number start from) recent))
advance_keeps space start number database start_small small from (inr below) = inr (record {
  counter = below.counter;
  present = present_after (advance space start) database (counter_key space below.counter)
      (advance_present space start (counter_key space below.counter) _
      (counter_cleared space start below.counter start_small below.small ∙ le-ltb below.counter start (omega (arith, below.above)))
      (counter_kept space start below.counter) below.present);
  above = below.above;
  small = below.small;
})

-- it decides the keys of the numbers below the start alone
advance_decides : (space : List ℕ) (start number : ℕ) → start < 2 ^ 63 → number < 2 ^ 63
    → covers (decided (advance space start)) (recent_key space number) ≡ nat_lt number start
advance_decides space start number start_small small =
    ap (λ b. b || (within (recent_prefix space) (recent_key space start) (recent_key space number) || false))
    (recent_kept space start number)
    ∙ or-false (within (recent_prefix space) (recent_key space start) (recent_key space number))
    ∙ recent_cleared space start number start_small small

-- it keeps all that was spent: a lesser number is below the counter of the start
pub fit_advance : (space : List ℕ) (start : ℕ) → start < 2 ^ 63 → AreFit space (advance space start)
fit_advance space start start_small = record {
  keep = λ database number small spent. elim (cases_lt number start) [
    | inl below ↦ advance_spends space start number start_small below database
    | inr from ↦ advance_keeps space start number database start_small small from spent
  ];
  deciding = λ number small decides.
      let less = sym (advance_decides space start number start_small small) ∙ decides in
      advance_spends space start number start_small (ltb-true number start less);
}
