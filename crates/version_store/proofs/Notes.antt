-- Notes of what became old: each that has to be made is there, before and after a change.
use Rattle.std.proofs.Common.{◌≡◌, ◌≢◌, ◌⊎◌, inl, inr, ℕ, ◌+◌, ◌<◌, ◌≤◌, ◌++◌, ◌||◌, Bool, true, false, cond, List, [], ◌∷◌, Option, Some, None, is_none, nat_le, refl, sym, ap, subst, ◌∙◌, arith}
use Rattle.std.proofs.lemmas.Bool.{cases_eq, leb-false, false≢true, true≢false}
use Rattle.std.specs.Option.{IfSome}
use Rattle.std.specs.VecDeque.{deque_len, deque_capacity}
use Rattle.version_store.specs.declared.pruning.Due.{Due}
use Rattle.version_store.specs.declared.pruning.Dues.{Dues}
use Rattle.version_store.specs.Chains.{Slots, Places, chain_in, chain_of, IsFalling, IsSoundPlace, Puts, Sound}
use Rattle.version_store.specs.Dues.{room_in, AreDues, AreNoted, HasRoomFor, IsAfter, IsComplete, IsDue, IsNoted, Notes, Trims}
use Rattle.version_store.specs.Values.{is_needless}
use Rattle.version_store.specs.Versions.{Chain, place_of}

-- what is due in one list is due in another
IsNoted-weaker : (dues dues' : List Due) (place : ℕ) → ((version : ℕ) → IsDue dues place version → IsDue dues' place version) → (chain : Chain)
    → IsNoted dues place chain → IsNoted dues' place chain
IsNoted-weaker dues dues' place weaker [] noted = tt
IsNoted-weaker dues dues' place weaker (given ∷ []) noted = λ absent. weaker given.0 (noted absent)
IsNoted-weaker dues dues' place weaker (given ∷ next ∷ rest) noted =
    (weaker given.0 noted.0, IsNoted-weaker dues dues' place weaker (next ∷ rest) noted.1)

-- one more comes at the end
IsDue-before : (dues : List Due) (due : Due) (place version : ℕ) → IsDue dues place version → IsDue (dues ++ due ∷ []) place version
IsDue-before [] due place version is = absurd is
IsDue-before (first ∷ dues) due place version (inl here) = inl here
IsDue-before (first ∷ dues) due place version (inr there) = inr (IsDue-before dues due place version there)

IsDue-pushed : (dues : List Due) (due : Due) → IsDue (dues ++ due ∷ []) due.place due.version
IsDue-pushed [] due = inl (refl, refl)
IsDue-pushed (first ∷ dues) due = inr (IsDue-pushed dues due)

AreDues-pushed : (dues : List Due) (due : Due) (low high : ℕ) → low ≤ high → due.version ≡ high → AreDues low high dues
    → AreDues low high (dues ++ due ∷ [])
AreDues-pushed [] due low high less is are = (omega (arith, less, is), omega (arith, is), tt)
AreDues-pushed (first ∷ dues) due low high less is are =
    (are.0, are.1, AreDues-pushed dues due first.version high are.1 is are.2)

-- a later version may be the highest
AreDues-higher : (dues : List Due) (low high higher : ℕ) → high ≤ higher → AreDues low high dues → AreDues low higher dues
AreDues-higher [] low high higher less are = tt
AreDues-higher (first ∷ dues) low high higher less are =
    (are.0, omega (arith, less, are.1), AreDues-higher dues first.version high higher less are.2)

pub IsComplete-higher : (low high higher : ℕ) (dues : Dues) (slots : Slots) (places : Places) → high ≤ higher
    → IsComplete low high dues slots places → IsComplete low higher dues slots places
IsComplete-higher low high higher dues slots places less complete noting =
    (AreDues-higher dues.queue.items low high higher less (complete noting).0, (complete noting).1)

-- the first goes
pub AreDues-rest : (dues rest : List Due) (due : Due) (low high : ℕ) → dues ≡ due ∷ rest → AreDues low high dues → AreDues low high rest
AreDues-rest dues rest due low high is are = lower rest (subst (AreDues low high) is are)
  where
    lower : (rest : List Due) → AreDues low high (due ∷ rest) → AreDues low high rest
    lower [] are = tt
    lower (next ∷ rest) are = (omega (arith, are.0, are.2.0), are.2.1, are.2.2)

-- where the first is later than a version, so are all
pub AreDues-after : (dues : List Due) (oldest low high : ℕ) → IsAfter oldest dues → AreDues low high dues → AreDues (oldest + 1) high dues
AreDues-after [] oldest low high after are = tt
AreDues-after (first ∷ dues) oldest low high after are = (omega (arith, after), are.1, are.2)

-- a value alone came to an empty chain, and nothing was noted
pub Notes-none : (version place : ℕ) (dues : Dues) (value : Option (List ℕ)) (chain chain' : Chain) → chain ≡ [] → chain' ≡ (version, value) ∷ chain
    → is_none value ≡ false → Notes version place dues dues chain chain'
Notes-none version place dues value chain chain' empty is some = record {
  noting = refl;
  order = λ low less are. are;
  others = λ other chain noted. noted;
  here = λ noting noted.
      subst (IsNoted dues.queue.items place) (sym (is ∙ ap (λ c. (version, value) ∷ c) empty))
      (λ absent. absurd (false≢true (sym some ∙ absent)));
}

-- a value came, and was noted where anything is
pub Notes-due : (version place : ℕ) (old new : Dues) (due : Due) (value : Option (List ℕ)) (chain chain' : Chain) → chain' ≡ (version, value) ∷ chain
    → due.version ≡ version → due.place ≡ place → new.noting ≡ old.noting
    → (old.noting ≡ true → new.queue.items ≡ old.queue.items ++ due ∷ [])
    → (old.noting ≡ false → new.queue.items ≡ old.queue.items)
    → Notes version place old new chain chain'
Notes-due version place old new due value chain chain' is version_is place_is noting on off = record {
  noting = noting;
  order = λ low less are. by_noting (λ items. AreDues low version items) are
      (AreDues-pushed old.queue.items due low version less version_is are) old.noting refl;
  others = λ other chain noted. by_noting (λ items. IsNoted items other chain) noted (before other chain noted) old.noting refl;
  here = λ noting noted.
      subst (λ items. IsNoted items place chain') (sym (on noting))
      (subst (IsNoted (old.queue.items ++ due ∷ []) place) (sym is) (put chain (before place chain noted)));
}
  where
    by_noting : (P : List Due → Type 0) → P old.queue.items → P (old.queue.items ++ due ∷ []) → (b : Bool) → old.noting ≡ b → P new.queue.items
    by_noting P same pushed true noting = subst P (sym (on noting)) pushed
    by_noting P same pushed false noting = subst P (sym (off noting)) same

    before : (other : ℕ) (chain : Chain) → IsNoted old.queue.items other chain → IsNoted (old.queue.items ++ due ∷ []) other chain
    before other chain noted =
        IsNoted-weaker old.queue.items (old.queue.items ++ due ∷ []) other (λ v. IsDue-before old.queue.items due other v) chain noted

    here_due : IsDue (old.queue.items ++ due ∷ []) place version
    here_due = subst (λ p. IsDue (old.queue.items ++ due ∷ []) p version) place_is
        (subst (λ v. IsDue (old.queue.items ++ due ∷ []) due.place v) version_is (IsDue-pushed old.queue.items due))

    put : (chain : Chain) → IsNoted (old.queue.items ++ due ∷ []) place chain
        → IsNoted (old.queue.items ++ due ∷ []) place ((version, value) ∷ chain)
    put [] noted = λ absent. here_due
    put (next ∷ rest) noted = (here_due, noted)

-- a put at a place, whose change was noted
pub IsComplete-put : (low version place : ℕ) (given : ℕ × Option (List ℕ)) (old new : Dues) (slots slots' : Slots) (places : Places) → low ≤ version
    → Puts slots slots' place given → Notes version place old new (chain_of slots place) (chain_of slots' place)
    → IsComplete low version old slots places → IsComplete low version new slots' places
IsComplete-put low version place given old new slots slots' places less puts notes complete noting =
    let was = sym notes.noting ∙ noting in (
      notes.order low less (complete was).0,
      λ key. put_at (place_of places key) ((complete was).1 key),
    )
  where
    put_at : (o : Option ℕ) → IfSome o (λ p. IsNoted old.queue.items p (chain_of slots p))
        → IfSome o (λ p. IsNoted new.queue.items p (chain_of slots' p))
    put_at None all = tt
    put_at (Some p) all = by_place (cases_eq p place)
      where
        by_place : (p ≡ place) ⊎ (p ≢ place) → IsNoted new.queue.items p (chain_of slots' p)
        by_place (inl same) =
            subst (λ p. IsNoted new.queue.items p (chain_of slots' p)) (sym same)
            (notes.here (sym notes.noting ∙ noting) (subst (λ p. IsNoted old.queue.items p (chain_of slots p)) same all))
        by_place (inr apart) =
            subst (IsNoted new.queue.items p) (sym (ap chain_in (puts.others p apart))) (notes.others p (chain_of slots p) all)

-- ---- a prune
-- what is noted of a chain is noted of its beginning
IsNoted-begins : (dues : List Due) (place : ℕ) (chain gone : Chain) → IsNoted dues place (chain ++ gone) → IsNoted dues place chain
IsNoted-begins dues place [] gone noted = tt
IsNoted-begins dues place (given ∷ []) [] noted = noted
IsNoted-begins dues place (given ∷ []) (first ∷ gone) noted = λ absent. noted.0
IsNoted-begins dues place (given ∷ next ∷ rest) gone noted = (noted.0, IsNoted-begins dues place (next ∷ rest) gone noted.1)

needed-last : (a b : Bool) → (a || b) ≡ false → a ≡ false
needed-last true b needed = absurd (true≢false needed)
needed-last false b needed = refl

needed-before : (a b : Bool) → (a || b) ≡ false → b ≡ false
needed-before true b needed = absurd (true≢false needed)
needed-before false b needed = needed

-- where the last of a chain is needed, what stands before others is later than the oldest version
late-needed : (oldest before : ℕ) (given next : ℕ × Option (List ℕ)) (rest : Chain) → IsFalling before (given ∷ next ∷ rest)
    → is_needless oldest (given ∷ next ∷ rest) ≡ false → oldest < given.0
late-needed oldest before given next [] falling needed =
    omega (arith, leb-false given.0 oldest (needed-before (is_none next.1) (nat_le given.0 oldest) needed))
late-needed oldest before given next (more ∷ rest) falling needed =
    omega (arith, falling.1.0, late-needed oldest given.0 next more rest falling.1 needed)

-- a note of a change up to the oldest version isn't needed where the chain was trimmed
IsNoted-popped : (due : Due) (dues : List Due) (oldest place before : ℕ) (chain : Chain) → due.version ≤ oldest → IsFalling before chain
    → is_needless oldest chain ≡ false → IsNoted (due ∷ dues) place chain → IsNoted dues place chain
IsNoted-popped due dues oldest place before [] old falling needed noted = tt
IsNoted-popped due dues oldest place before (given ∷ []) old falling needed noted = λ absent. absurd (false≢true (sym needed ∙ absent))
IsNoted-popped due dues oldest place before (given ∷ next ∷ rest) old falling needed noted =
    (still noted.0, IsNoted-popped due dues oldest place given.0 (next ∷ rest) old falling.1 (needed_rest rest needed) noted.1)
  where
    still : IsDue (due ∷ dues) place given.0 → IsDue dues place given.0
    still (inl here) = absurd (omega (arith, old, here.1, late-needed oldest before given next rest falling needed))
    still (inr there) = there

    needed_rest : (rest : Chain) → is_needless oldest (given ∷ next ∷ rest) ≡ false → is_needless oldest (next ∷ rest) ≡ false
    needed_rest [] needed = needed-last (is_none next.1) (nat_le given.0 oldest) needed
    needed_rest (more ∷ rest) needed = needed

-- a note of another place
IsNoted-other : (due : Due) (dues : List Due) (place : ℕ) (chain : Chain) → place ≢ due.place → IsNoted (due ∷ dues) place chain → IsNoted dues place chain
IsNoted-other due dues place chain apart = IsNoted-weaker (due ∷ dues) dues place still chain
  where
    still : (version : ℕ) → IsDue (due ∷ dues) place version → IsDue dues place version
    still version (inl here) = absurd (apart (sym here.0))
    still version (inr there) = there

-- the chain of what is due is trimmed
pub AreNoted-trimmed : (due : Due) (dues : List Due) (oldest next : ℕ) (slots slots' : Slots) (places : Places) → due.version ≤ oldest
    → Trims oldest due.place slots slots' → Sound slots' next places → AreNoted (due ∷ dues) slots places → AreNoted dues slots' places
AreNoted-trimmed due dues oldest next slots slots' places old trims sound noted key =
    trimmed_at (place_of places key) (sound.places_sound key) (noted key)
  where
    trimmed_at : (o : Option ℕ) → IfSome o (IsSoundPlace slots' next) → IfSome o (λ p. IsNoted (due ∷ dues) p (chain_of slots p))
        → IfSome o (λ p. IsNoted dues p (chain_of slots' p))
    trimmed_at None sound all = tt
    trimmed_at (Some p) sound all = by_place (cases_eq p due.place)
      where
        by_place : (p ≡ due.place) ⊎ (p ≢ due.place) → IsNoted dues p (chain_of slots' p)
        by_place (inl same) =
            let begun = subst (λ p. IsNoted (due ∷ dues) p (chain_of slots p)) same all in
            subst (λ p. IsNoted dues p (chain_of slots' p)) (sym same)
            (IsNoted-popped due dues oldest due.place next (chain_of slots' due.place) old
            (subst (λ p. IsFalling next (chain_of slots' p)) same sound.1) trims.trimmed
            (IsNoted-begins (due ∷ dues) due.place (chain_of slots' due.place) trims.begins.0
            (subst (IsNoted (due ∷ dues) due.place) trims.begins.1 begun)))
        by_place (inr apart) =
            subst (IsNoted dues p) (sym (ap chain_in (trims.others p apart))) (IsNoted-other due dues p (chain_of slots p) apart all)

-- ---- room for notes, as a caller sees it
room_if : (noting : Bool) (count len capacity : ℕ) → (noting ≡ true → count + len ≤ capacity)
    → IfSome {T = ℕ × ℕ} (cond noting (Some (len, capacity)) None) (λ room. count + room.0 ≤ room.1)
room_if true count len capacity room = room refl
room_if false count len capacity room = tt

pub IfSome-HasRoomFor : (count : ℕ) (dues : Dues) → HasRoomFor count dues → IfSome (room_in dues) (λ room. count + room.0 ≤ room.1)
IfSome-HasRoomFor count dues = room_if dues.noting count (deque_len dues.queue) (deque_capacity dues.queue)

if_room : (noting : Bool) (count len capacity : ℕ) → IfSome {T = ℕ × ℕ} (cond noting (Some (len, capacity)) None) (λ room. count + room.0 ≤ room.1)
    → noting ≡ true → count + len ≤ capacity
if_room true count len capacity room noting = room
if_room false count len capacity room noting = absurd (false≢true noting)

pub HasRoomFor-IfSome : (count : ℕ) (dues : Dues) → IfSome (room_in dues) (λ room. count + room.0 ≤ room.1) → HasRoomFor count dues
HasRoomFor-IfSome count dues = if_room dues.noting count (deque_len dues.queue) (deque_capacity dues.queue)
