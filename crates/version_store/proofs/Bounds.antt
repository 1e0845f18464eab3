-- How many values a store holds: no more than there are pairs at its oldest version, and changes that came later.
use Rattle.std.proofs.Common.{◌≡◌, ◌≢◌, ◌⊎◌, inl, inr, ℕ, ◌+◌, ◌<◌, ◌≤◌, Bool, true, false, cond, List, [], ◌∷◌, length, Option, Some, None, is_none, nat_le, nat_lt, refl, sym, ap, ◌∙◌, arith, lt-ltb, le-ltb}
use Rattle.std.proofs.lemmas.Bool.{cases_eq, leb-false, or_parts, true≢false}
use Rattle.std.specs.FinMap.{entries}
use Rattle.std.specs.List.{AllByRecursion}
use Rattle.std.specs.List.Sorted.{IsStrictlySortedBy}
use Rattle.std.specs.Map.{keys_of}
use Rattle.std.specs.Option.{IfSome}
use Rattle.key_bytes.specs.Keys.{key_cmp}
use Rattle.version_store.specs.declared.pruning.Due.{Due}
use Rattle.version_store.specs.declared.pruning.Dues.{Dues}
use Rattle.version_store.specs.Chains.{Slots, Places, chain_in, chain_of, database_of, total, IsFalling, IsSoundPlace, Sound}
use Rattle.version_store.specs.Dues.{AreDues, AreNoted, IsComplete, IsDue, IsNoted, Trims}
use Rattle.version_store.specs.Kept.{Adds, AreFew, AreTrimmed, IsWeight}
use Rattle.version_store.specs.Values.{is_needless}
use Rattle.version_store.specs.Versions.{Chain, holding, later, place_of, present}
use Rattle.version_store.proofs.Present.{with_present}
use Rattle.version_store.proofs.Spans.{entries-database_of, present_of}
use Rattle.version_store.proofs.Totals.{total-cons, total-none, All-found}

-- what a chain holds counts as one
abbrev held : Option (List ℕ) → ℕ
held None = 0
held (Some value) = 1

abbrev IsSettled : ℕ → Chain → Type 0
IsSettled oldest chain = length chain ≤ held (holding oldest chain) + later oldest chain

-- what is due is of no version below the lowest
late-due : (dues : List Due) (low high place version : ℕ) → AreDues low high dues → IsDue dues place version → low ≤ version
late-due [] low high place version are due = absurd due
late-due (first ∷ dues) low high place version are (inl here) = omega (arith, are.0, here.1)
late-due (first ∷ dues) low high place version are (inr there) =
    omega (arith, are.0, late-due dues first.version high place version are.2 there)

-- a chain all of whose changes are noted that have to be
IsSettled-noted : (dues : List Due) (oldest high place : ℕ) (chain : Chain) → AreDues (oldest + 1) high dues → IsNoted dues place chain
    → IsSettled oldest chain
unfolding holding
IsSettled-noted dues oldest high place [] are noted = omega arith
IsSettled-noted dues oldest high place (given ∷ []) are noted = by_test (nat_lt oldest given.0) refl given.1 refl
  where
    by_test : (b : Bool) → nat_lt oldest given.0 ≡ b → (value : Option (List ℕ)) → given.1 ≡ value
        → 1 ≤ held (cond b None value) + (cond b 1 0 + 0)
    by_test true is value same = omega arith
    by_test false is (Some value) same = omega arith
    by_test false is None same =
        let late : oldest + 1 ≤ given.0 = late-due dues (oldest + 1) high place given.0 are (noted (ap (λ (o : Option (List ℕ)). is_none o) same)) in
        absurd (true≢false (sym (lt-ltb oldest given.0 (omega (arith, late))) ∙ is))
IsSettled-noted dues oldest high place (given ∷ next ∷ rest) are noted =
    let late : oldest + 1 ≤ given.0 = late-due dues (oldest + 1) high place given.0 are noted.0 in
    let rest_settled = IsSettled-noted dues oldest high place (next ∷ rest) are noted.1 in
    by_test (nat_lt oldest given.0) (lt-ltb oldest given.0 (omega (arith, late))) rest_settled
  where
    by_test : (b : Bool) → b ≡ true → IsSettled oldest (next ∷ rest)
        → length (given ∷ next ∷ rest)
        ≤ held (cond b (holding oldest (next ∷ rest)) given.1) + (cond b 1 0 + later oldest (next ∷ rest))
    by_test true is settled = omega (arith, settled)
    by_test false is settled = absurd (true≢false (sym is))

-- where the last of a chain is needed, and there is another, the first is later than the oldest version
late-first : (oldest before : ℕ) (given next : ℕ × Option (List ℕ)) (rest : Chain) → IsFalling before (given ∷ next ∷ rest)
    → is_needless oldest (given ∷ next ∷ rest) ≡ false → oldest < given.0
late-first oldest before given next [] falling trimmed =
    leb-false given.0 oldest (or_parts (is_none next.1) (nat_le given.0 oldest) trimmed).1
late-first oldest before given next (more ∷ rest) falling trimmed =
    omega (arith, falling.1.0, late-first oldest given.0 next more rest falling.1 trimmed)

-- a chain whose last is needed
IsSettled-trimmed : (oldest before : ℕ) (chain : Chain) → IsFalling before chain → is_needless oldest chain ≡ false → IsSettled oldest chain
unfolding holding
IsSettled-trimmed oldest before [] falling trimmed = omega arith
IsSettled-trimmed oldest before (given ∷ []) falling trimmed = by_test (nat_lt oldest given.0) given.1 refl
  where
    by_test : (b : Bool) (value : Option (List ℕ)) → given.1 ≡ value → 1 ≤ held (cond b None value) + (cond b 1 0 + 0)
    by_test true value same = omega arith
    by_test false (Some value) same = omega arith
    by_test false None same = absurd (true≢false (sym (ap (λ (o : Option (List ℕ)). is_none o) same) ∙ trimmed))
IsSettled-trimmed oldest before (given ∷ next ∷ rest) falling trimmed =
    by_test (nat_lt oldest given.0) (lt-ltb oldest given.0 (late-first oldest before given next rest falling trimmed))
    (IsSettled-trimmed oldest given.0 (next ∷ rest) falling.1 (trimmed_behind rest trimmed))
  where
    trimmed_behind : (rest : Chain) → is_needless oldest (given ∷ next ∷ rest) ≡ false → is_needless oldest (next ∷ rest) ≡ false
    trimmed_behind [] trimmed = (or_parts (is_none next.1) (nat_le given.0 oldest) trimmed).0
    trimmed_behind (more ∷ rest) trimmed = trimmed

    by_test : (b : Bool) → b ≡ true → IsSettled oldest (next ∷ rest)
        → length (given ∷ next ∷ rest)
        ≤ held (cond b (holding oldest (next ∷ rest)) given.1) + (cond b 1 0 + later oldest (next ∷ rest))
    by_test true is settled = omega (arith, settled)
    by_test false is settled = absurd (true≢false (sym is))

length-with_present : (key : List ℕ) (o : Option (List ℕ)) (rest : List (List ℕ × List ℕ)) → length (with_present key o rest) ≡ held o + length rest
length-with_present key None rest = omega arith
length-with_present key (Some value) rest = omega arith

few-settled : (oldest : ℕ) (slots : Slots) (places : Places) → AllByRecursion (λ e. IsSettled oldest (chain_of slots e.1)) places
    → total length slots places ≤ length (present_of oldest slots places) + total (later oldest) slots places
unfolding present
few-settled oldest slots [] all = omega arith
few-settled oldest slots (e ∷ es) all =
    let here = length-with_present e.0 (holding oldest (chain_of slots e.1)) (present_of oldest slots es) in
    omega (arith, total-cons length slots e es, total-cons (later oldest) slots e es, all.0, here, few-settled oldest slots es all.1)

-- all changes that have to be are noted, and none of a version up to the oldest is
pub few-noted : (oldest high : ℕ) (dues : List Due) (slots : Slots) (places : Places) → IsStrictlySortedBy key_cmp (keys_of places)
    → AreDues (oldest + 1) high dues → AreNoted dues slots places
    → total length slots places ≤ length (entries (database_of oldest slots places)) + total (later oldest) slots places
few-noted oldest high dues slots places rising are noted =
    let few =
    few-settled oldest slots places
    (All-found (λ key place. IsSettled oldest (chain_of slots place)) places rising (λ q. settled (place_of places q) (noted q))) in
    let same = ap length (entries-database_of slots oldest places rising) in
    omega (arith, few, same)
  where
    settled : (o : Option ℕ) → IfSome o (λ place. IsNoted dues place (chain_of slots place)) → IfSome o (λ place. IsSettled oldest (chain_of slots place))
    settled None all = tt
    settled (Some place) all = IsSettled-noted dues oldest high place (chain_of slots place) are all

-- a chain that goes on has no fewer values
pub IsWeight-length : IsWeight length
IsWeight-length [] gone = omega arith
IsWeight-length (given ∷ chain) gone = omega (arith, IsWeight-length chain gone)

pub IsWeight-later : (version : ℕ) → IsWeight (later version)
IsWeight-later version [] gone = omega arith
IsWeight-later version (given ∷ chain) gone = omega (arith, IsWeight-later version chain gone)

-- a value that is later counts
pub later-put : (v version : ℕ) (value : Option (List ℕ)) (chain : Chain) → v < version
    → later v ((version, value) ∷ chain) ≡ later v chain + 1
later-put v version value chain earlier =
    let one = ap {B = ℕ} (λ b. cond b 1 0) (lt-ltb v version earlier) in omega (arith, one)

-- a chain whose versions are earlier than one has none later
later-none : (chain : Chain) (before version : ℕ) → before ≤ version + 1 → IsFalling before chain → later version chain ≡ 0
later-none [] before version less falling = refl
later-none (given ∷ chain) before version less falling =
    let none = ap {B = ℕ} (λ b. cond b 1 0) (le-ltb version given.0 (omega (arith, less, falling.0))) in
    omega (arith, none, later-none chain given.0 version (omega (arith, less, falling.0)) falling.1)

-- so it is with those of a sound store
pub total-later_none : (slots : Slots) (places : Places) (next version : ℕ) → next ≤ version + 1 → Sound slots next places
    → total (later version) slots places ≡ 0
total-later_none slots places next version less sound =
    total-none (later version) slots places
    (All-found (λ key place. later version (chain_of slots place) ≡ 0) places sound.rising (λ q. none (place_of places q) (sound.places_sound q)))
  where
    none : (o : Option ℕ) → IfSome o (IsSoundPlace slots next) → IfSome o (λ place. later version (chain_of slots place) ≡ 0)
    none None all = tt
    none (Some place) all = later-none (chain_of slots place) next version less all.1

-- where changes are noted, and what has to be is noted, the store holds few values
pub few-complete : (oldest high : ℕ) (dues : Dues) (slots : Slots) (places : Places) → IsStrictlySortedBy key_cmp (keys_of places)
    → IsComplete (oldest + 1) high dues slots places → dues.noting ≡ true → AreFew oldest slots places
few-complete oldest high dues slots places rising complete noting =
    let all = complete noting in few-noted oldest high dues.queue.items slots places rising all.0 all.1

-- where the last of no chain can go, it does too
pub few-trimmed : (oldest next : ℕ) (slots : Slots) (places : Places) → Sound slots next places → AreTrimmed oldest slots places
    → AreFew oldest slots places
few-trimmed oldest next slots places sound trimmed =
    let few =
    few-settled oldest slots places
    (both places trimmed (All-found (λ key place. IsFalling next (chain_of slots place)) places sound.rising (λ q. fall (place_of places q) (sound.places_sound q)))) in
    let same = ap length (entries-database_of slots oldest places sound.rising) in
    omega (arith, few, same)
  where
    fall : (o : Option ℕ) → IfSome o (IsSoundPlace slots next) → IfSome o (λ place. IsFalling next (chain_of slots place))
    fall None all = tt
    fall (Some place) all = all.1

    both : (es : Places) → AreTrimmed oldest slots es → AllByRecursion (λ e. IsFalling next (chain_of slots e.1)) es
        → AllByRecursion (λ e. IsSettled oldest (chain_of slots e.1)) es
    both [] trimmed falling = tt
    both (e ∷ es) trimmed falling = (
      IsSettled-trimmed oldest next (chain_of slots e.1) falling.0 trimmed.0,
      both es trimmed.1 falling.1,
    )

-- keys that are added have no values
pub few-adds : (oldest next : ℕ) (slots slots' : Slots) (old new : Places) → Adds slots slots' next old new → AreFew oldest slots old
    → AreFew oldest slots' new
few-adds oldest next slots slots' old new adds few =
    let same = ap (λ database. length (entries database)) (adds.reads oldest) in
    omega (arith, few, same, adds.totals length refl, adds.totals (later oldest) refl)

-- a later version has as many values more as changes
pub few-more : (oldest count : ℕ) (slots slots' : Slots) (places : Places)
    → total length slots' places ≡ total length slots places + count
    → total (later oldest) slots' places ≡ total (later oldest) slots places + count
    → database_of oldest slots' places ≡ database_of oldest slots places → AreFew oldest slots places → AreFew oldest slots' places
few-more oldest count slots slots' places values later_values reads few =
    let same = ap (λ database. length (entries database)) reads in omega (arith, few, same, values, later_values)

-- what was trimmed stays so while other places are
pub trimmed-others : (oldest place : ℕ) (slots slots' : Slots) → Trims oldest place slots slots' → (other : ℕ)
    → is_needless oldest (chain_of slots other) ≡ false → is_needless oldest (chain_of slots' other) ≡ false
trimmed-others oldest place slots slots' trims other trimmed =
    by_place (cases_eq other place)
  where
    by_place : (other ≡ place) ⊎ (other ≢ place) → is_needless oldest (chain_of slots' other) ≡ false
    by_place (inl same) = ap (λ at. is_needless oldest (chain_of slots' at)) same ∙ trims.trimmed
    by_place (inr apart) = ap (λ slot. is_needless oldest (chain_in slot)) (trims.others other apart) ∙ trimmed
