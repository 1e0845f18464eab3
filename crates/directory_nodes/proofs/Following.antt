-- What functions did one after the other, from what each of them did: courses in two parts.
use Rattle.std.proofs.Common.{◌≡◌, ℕ, ◌+◌, Bool, true, false, Option, Some, None, Result, Ok, Err, refl, sym, ap, subst, ◌∙◌, inl, inr, arith}
use Rattle.std.proofs.Math.Path.{fun_ext}
use Rattle.model_database.specs.declared.Code.{Code}
use Rattle.model_database.specs.Histories.{Setting}
use Rattle.model_database.specs.Reads.{answer}
use Rattle.model_database.specs.Transactions.{Transaction, view}
use Rattle.model_allocator.specs.Acts.{Reads, Writes, act_called, refusal}
use Rattle.model_allocator.specs.Granting.{Ending, Grants, IsFull, IsNoCounter, IsRefused, Allocated, allocated, plan}
use Rattle.prefix_allocator.specs.Allocates.{Leaves}
use Rattle.prefix_allocator.proofs.Steps.{stopped}
use Rattle.directory_types.specs.declared.fault.DirFault.{DirFault}
use Rattle.directory_types.specs.declared.fault.DirFault.TheVariants as fault
use Rattle.model_directory.specs.Courses.{Course, Gives, Refuses, Asks, Does, Allocates, ◌>>=◌, Reached, reached_by, drawing, granted_by, run}
use Rattle.model_directory.specs.Courses as courses
use Rattle.directory_nodes.specs.Runs.{IsGranted, StopsIn, EndsAt, RunsBy, RunsTo, Draws, Follows, is_short}

-- ---- words

-- the words behind so many
abbrev pub behind : (words : ℕ → ℕ) → (drawn : ℕ) → ℕ → ℕ
behind words drawn place = words (drawn + place)

none_drawn : (words : ℕ → ℕ) → words ≡ behind words 0
none_drawn words = fun_ext (λ place. ap words (omega arith))

twice_behind : (words : ℕ → ℕ) (one other : ℕ) → behind (behind words one) other ≡ behind words (one + other)
twice_behind words one other = fun_ext (λ place. ap words (omega arith))

none_more : {X : Type 0} (reached : Reached X) → reached ≡ drawing 0 reached
none_more reached = ap (λ (words : ℕ). record reached { words = words }) (omega arith)

twice_more : {X : Type 0} (one other : ℕ) (reached : Reached X) → drawing one (drawing other reached) ≡ drawing (one + other) reached
twice_more one other reached = ap (λ (words : ℕ). record reached { words = words }) (omega arith)

-- ---- a course in two parts

-- what the second part makes of what the first left, where it gave a value
abbrev pub and_then : {X Y : Type 0} → Result X DirFault → Reached X → (X → Reached Y) → Reached Y
and_then (Ok value) reached others = drawing reached.words (others value)
and_then (Err fault) reached others = courses.stopped reached.transaction reached.words fault

-- what the second part makes of a transaction that the first left
abbrev pub followed : {X Y : Type 0} → Setting → (words : ℕ → ℕ) → (X → Course Y) → Reached X → Reached Y
followed setting words next reached =
    and_then reached.end reached (λ value. run setting (behind words reached.words) (next value) reached.transaction)

by_refusal : {X Y : Type 0} (setting : Setting) (words : ℕ → ℕ) (next : X → Course Y) (refused : Option Code) (t : Transaction) (first : Reached X)
    (whole : Reached Y) → whole ≡ followed setting words next first
    → reached_by refused t whole ≡ followed setting words next (reached_by refused t first)
by_refusal setting words next (Some code) t first whole parts = refl
by_refusal setting words next None t first whole parts = parts

behind_grant : {X Y : Type 0} (setting : Setting) (words : ℕ → ℕ) (next : X → Course Y) (drawn : ℕ) (end : Result X DirFault) (first : Reached X)
    → drawing drawn (and_then end first (λ value. run setting (behind (behind words drawn) first.words) (next value) first.transaction))
    ≡ and_then end (drawing drawn first) (λ value. run setting (behind words (drawn + first.words)) (next value) first.transaction)
behind_grant setting words next drawn (Ok value) first =
    twice_more drawn first.words _
    ∙ ap (λ left. drawing (drawn + first.words) (run setting left (next value) first.transaction)) (twice_behind words drawn first.words)
behind_grant setting words next drawn (Err fault) first = refl

by_ending : {X Y : Type 0} (setting : Setting) (words : ℕ → ℕ) (next : X → Course Y) (ending : Ending) (made : Allocated) (first : ℕ → Reached X)
    (whole : ℕ → Reached Y) → ((number : ℕ) → whole number ≡ followed setting (behind words made.words) next (first number))
    → granted_by ending made whole ≡ followed setting words next (granted_by ending made first)
by_ending setting words next (Grants number) made first whole parts =
    ap (drawing made.words) (parts number) ∙ behind_grant setting words next made.words (first number).end (first number)
by_ending setting words next (IsFull start) made first whole parts = refl
by_ending setting words next (IsNoCounter key) made first whole parts = refl
by_ending setting words next (IsRefused code) made first whole parts = refl

-- what a course in two parts makes of a transaction
pub run-then : {X Y : Type 0} (setting : Setting) (words : ℕ → ℕ) (course : Course X) (next : X → Course Y) (t : Transaction)
    → run setting words (course >>= next) t ≡ followed setting words next (run setting words course t)
unfolding run
run-then setting words (Gives value) next t =
    none_more (run setting words (next value) t) ∙ ap (λ left. drawing 0 (run setting left (next value) t)) (none_drawn words)
run-then setting words (Refuses fault) next t = refl
run-then setting words (Asks read snapshot more) next t =
    let called = act_called setting t (Reads read snapshot) in
    let answered = answer read (view setting t) in
    by_refusal setting words next (refusal called.reply) called.transaction (run setting words (more answered) called.transaction)
    (run setting words (more answered >>= next) called.transaction) (run-then setting words (more answered) next called.transaction)
run-then setting words (Does mutation more) next t =
    let called = act_called setting t (Writes mutation) in
    by_refusal setting words next (refusal called.reply) called.transaction (run setting words more called.transaction)
    (run setting words (more >>= next) called.transaction) (run-then setting words more next called.transaction)
run-then setting words (Allocates space more) next t =
    let made = allocated setting t space words in
    by_ending setting words next made.ending made
    (λ number. run setting (behind words made.words) (more number) made.transaction)
    (λ number. run setting (behind words made.words) (more number >>= next) made.transaction)
    (λ number. run-then setting (behind words made.words) (more number) next made.transaction)

-- ---- memory ran out

-- before the first step
pub stops_first : {X : Type 0} (setting : Setting) (stands : Transaction → Type 0) (words : ℕ → ℕ) (course : Course X) (t : Transaction)
    → stands t → StopsIn setting stands words course t
stops_first setting stands words (Gives value) t is = is
stops_first setting stands words (Refuses fault) t is = is
stops_first setting stands words (Asks read snapshot more) t is = inl is
stops_first setting stands words (Does mutation more) t is = inl is
stops_first setting stands words (Allocates space more) t is = inl (stopped setting stands (plan space (view setting t) words).acts t is)

granted_before : (ending : Ending) (one other : ℕ → Type 0) → ((number : ℕ) → one number → other number) → IsGranted ending one → IsGranted ending other
granted_before (Grants number) one other still is = still number is
granted_before (IsFull start) one other still is = is
granted_before (IsNoCounter key) one other still is = is
granted_before (IsRefused code) one other still is = is

-- among the steps of the first part
pub stops_before : {X Y : Type 0} (setting : Setting) (stands : Transaction → Type 0) (words : ℕ → ℕ) (course : Course X) (next : X → Course Y)
    (t : Transaction) → StopsIn setting stands words course t → StopsIn setting stands words (course >>= next) t
stops_before setting stands words (Gives value) next t is = stops_first setting stands words (next value) t is
stops_before setting stands words (Refuses fault) next t is = is
stops_before setting stands words (Asks read snapshot more) next t (inl is) = inl is
stops_before setting stands words (Asks read snapshot more) next t (inr (let_through, is)) =
    inr (let_through, stops_before setting stands words (more (answer read (view setting t))) next (act_called setting t (Reads read snapshot)).transaction is)
stops_before setting stands words (Does mutation more) next t (inl is) = inl is
stops_before setting stands words (Does mutation more) next t (inr (let_through, is)) =
    inr (let_through, stops_before setting stands words more next (act_called setting t (Writes mutation)).transaction is)
stops_before setting stands words (Allocates space more) next t (inl is) = inl is
stops_before setting stands words (Allocates space more) next t (inr is) =
    let made = allocated setting t space words in
    inr (granted_before made.ending
    (λ number. StopsIn setting stands (behind words made.words) (more number) made.transaction)
    (λ number. StopsIn setting stands (behind words made.words) (more number >>= next) made.transaction)
    (λ number. stops_before setting stands (behind words made.words) (more number) next made.transaction) is)

-- it gave this value, and behind it the second part stopped
abbrev pub StopsBehind : {X Y : Type 0} → Setting → (stands : Transaction → Type 0) → (words : ℕ → ℕ) → (X → Course Y) → (value : X) → Reached X → Type 0
StopsBehind setting stands words next value reached =
    (reached.end ≡ Ok value) × StopsIn setting stands (behind words reached.words) (next value) reached.transaction

refused_behind : {X Y : Type 0} (setting : Setting) (stands : Transaction → Type 0) (words : ℕ → ℕ) (next : X → Course Y) (value : X)
    (refused : Option Code) (t : Transaction) (first : Reached X) → StopsBehind setting stands words next value (reached_by refused t first)
    → (refused ≡ None) × StopsBehind setting stands words next value first
refused_behind setting stands words next value (Some code) t first (same, others) = absurd cc
refused_behind setting stands words next value None t first is = (refl, is)

more_behind : {X Y : Type 0} (setting : Setting) (stands : Transaction → Type 0) (words : ℕ → ℕ) (next : X → Course Y) (value : X) (drawn : ℕ)
    (first : Reached X) → StopsBehind setting stands words next value (drawing drawn first)
    → StopsBehind setting stands (behind words drawn) next value first
more_behind setting stands words next value drawn first is =
    (is.0, subst (λ left. StopsIn setting stands left (next value) first.transaction) (sym (twice_behind words drawn first.words)) is.1)

granted_behind : {X Y : Type 0} (setting : Setting) (stands : Transaction → Type 0) (words : ℕ → ℕ) (next : X → Course Y) (value : X)
    (ending : Ending) (made : Allocated) (first : ℕ → Reached X) (stops : ℕ → Type 0)
    → ((number : ℕ) → StopsBehind setting stands (behind words made.words) next value (first number) → stops number)
    → StopsBehind setting stands words next value (granted_by ending made first) → IsGranted ending stops
granted_behind setting stands words next value (Grants number) made first stops on is =
    on number (more_behind setting stands words next value made.words (first number) is)
granted_behind setting stands words next value (IsFull start) made first stops on (same, others) = absurd cc
granted_behind setting stands words next value (IsNoCounter key) made first stops on (same, others) = absurd cc
granted_behind setting stands words next value (IsRefused code) made first stops on (same, others) = absurd cc

-- among the steps of the second part
pub stops_behind : {X Y : Type 0} (setting : Setting) (stands : Transaction → Type 0) (words : ℕ → ℕ) (course : Course X) (next : X → Course Y) (value : X)
    (t : Transaction) → StopsBehind setting stands words next value (run setting words course t) → StopsIn setting stands words (course >>= next) t
unfolding run
stops_behind setting stands words (Gives given) next value t (same, others) =
    let is : value ≡ given = cc in
    subst (λ value. StopsIn setting stands words (next value) t) is
    (subst (λ left. StopsIn setting stands left (next value) t) (sym (none_drawn words)) others)
stops_behind setting stands words (Refuses fault) next value t (same, others) = absurd cc
stops_behind setting stands words (Asks read snapshot more) next value t is =
    let called = act_called setting t (Reads read snapshot) in
    let answered = answer read (view setting t) in
    let on = refused_behind setting stands words next value (refusal called.reply) called.transaction (run setting words (more answered) called.transaction) is in
    inr (on.0, stops_behind setting stands words (more answered) next value called.transaction on.1)
stops_behind setting stands words (Does mutation more) next value t is =
    let called = act_called setting t (Writes mutation) in
    let on = refused_behind setting stands words next value (refusal called.reply) called.transaction (run setting words more called.transaction) is in
    inr (on.0, stops_behind setting stands words more next value called.transaction on.1)
stops_behind setting stands words (Allocates space more) next value t is =
    let made = allocated setting t space words in
    inr (granted_behind setting stands words next value made.ending made
    (λ number. run setting (behind words made.words) (more number) made.transaction)
    (λ number. StopsIn setting stands (behind words made.words) (more number >>= next) made.transaction)
    (λ number. stops_behind setting stands (behind words made.words) (more number) next value made.transaction) is)

-- ---- functions

later_left : (words left : ℕ → ℕ) (one other : ℕ) → Leaves (behind words one) left other → Leaves words left (one + other)
later_left words left one other are place = are place ∙ ap words (omega arith)

ended_behind : {X Y : Type 0} (setting : Setting) (stands : Transaction → Type 0) (words left : ℕ → ℕ) (next : X → Course Y) (value : X)
    (result : Result Y DirFault) (first : Reached X) → first.end ≡ Ok value
    → EndsAt result stands (behind words first.words) left (run setting (behind words first.words) (next value) first.transaction)
    → EndsAt result stands words left (followed setting words next first)
ended_behind setting stands words left next value result first is (end, after, are) =
    let second = run setting (behind words first.words) (next value) first.transaction in
    subst (λ end. EndsAt result stands words left (and_then end first (λ value. run setting (behind words first.words) (next value) first.transaction)))
    (sym is) (end, after, later_left words left first.words second.words are)

ran_behind : {X Y : Type 0} (short : Bool) (setting : Setting) (stands : Transaction → Type 0) (words left : ℕ → ℕ) (course : Course X) (next : X → Course Y)
    (value : X) (result : Result Y DirFault) (t : Transaction) → (run setting words course t).end ≡ Ok value
    → RunsBy short result setting stands (behind words (run setting words course t).words) left (next value) (run setting words course t).transaction
    → RunsBy short result setting stands words left (course >>= next) t
ran_behind true setting stands words left course next value result t is stops = stops_behind setting stands words course next value t (is, stops)
ran_behind false setting stands words left course next value result t is ended =
    subst (EndsAt result stands words left) (sym (run-then setting words course next t))
    (ended_behind setting stands words left next value result (run setting words course t) is ended)

-- whether memory ran out, by what a function answered
abbrev pub ran_short : {X : Type 0} → Result X DirFault → Bool
ran_short (Ok value) = false
ran_short (Err fault) = is_short fault

by_short : {X : Type 0} (result : Result X DirFault) (setting : Setting) (stands : Transaction → Type 0) (words left : ℕ → ℕ) (course : Course X)
    (t : Transaction) → RunsTo result setting stands words left course t → RunsBy (ran_short result) result setting stands words left course t
by_short (Ok value) setting stands words left course t ran = ran
by_short (Err fault) setting stands words left course t ran = ran

from_short : {X : Type 0} (result : Result X DirFault) (setting : Setting) (stands : Transaction → Type 0) (words left : ℕ → ℕ) (course : Course X)
    (t : Transaction) → RunsBy (ran_short result) result setting stands words left course t → RunsTo result setting stands words left course t
from_short (Ok value) setting stands words left course t ran = ran
from_short (Err fault) setting stands words left course t ran = ran

-- the second part of a course, behind a function that made the first part and gave a value
pub then_drew : {X Y : Type 0} (value : X) (result : Result Y DirFault) (before middle after : Setting → Transaction → Type 0) (words mid left : ℕ → ℕ)
    (course : Course X) (next : X → Course Y) → Draws (Ok value) before middle words mid course → Draws result middle after mid left (next value)
    → Draws result before after words left (course >>= next)
then_drew value result before middle after words mid left course next first second setting t is =
    let reached = run setting words course t in
    let ran = first setting t is in
    let same : mid ≡ behind words reached.words = fun_ext ran.2 in
    let others = by_short result setting (after setting) mid left (next value) reached.transaction (second setting reached.transaction ran.1) in
    from_short result setting (after setting) words left (course >>= next) t
    (ran_behind (ran_short result) setting (after setting) words left course next value result t ran.0
    (subst (λ words. RunsBy (ran_short result) result setting (after setting) words left (next value) reached.transaction) same others))

ended_before : {X Y : Type 0} (setting : Setting) (stands : Transaction → Type 0) (words left : ℕ → ℕ) (next : X → Course Y) (fault : DirFault)
    (first : Reached X) → EndsAt (Err fault) stands words left first → EndsAt (Err fault) stands words left (followed setting words next first)
ended_before setting stands words left next fault first (end, after, are) =
    subst (λ end. EndsAt (Err fault) stands words left (and_then end first (λ value. run setting (behind words first.words) (next value) first.transaction)))
    (sym end) (refl, after, are)

ran_before : {X Y : Type 0} (short : Bool) (setting : Setting) (stands : Transaction → Type 0) (words left : ℕ → ℕ) (course : Course X) (next : X → Course Y)
    (fault : DirFault) (t : Transaction) → RunsBy {X = X} short (Err fault) setting stands words left course t
    → RunsBy {X = Y} short (Err fault) setting stands words left (course >>= next) t
ran_before true setting stands words left course next fault t stops = stops_before setting stands words course next t stops
ran_before false setting stands words left course next fault t ended =
    subst (EndsAt (Err fault) stands words left) (sym (run-then setting words course next t))
    (ended_before setting stands words left next fault (run setting words course t) ended)

-- a fault of the first part ends the whole
pub fault_drew : {X Y : Type 0} (fault : DirFault) (before after : Setting → Transaction → Type 0) (words left : ℕ → ℕ) (course : Course X) (next : X → Course Y)
    → Draws {X = X} (Err fault) before after words left course → Draws {X = Y} (Err fault) before after words left (course >>= next)
fault_drew fault before after words left course next first setting t is =
    ran_before (is_short fault) setting (after setting) words left course next fault t (first setting t is)

-- the end of a course
pub gave : {X : Type 0} (value : X) (stands : Setting → Transaction → Type 0) (words : ℕ → ℕ) → Draws (Ok value) stands stands words words (Gives value)
unfolding run
gave value stands words setting t is =
    let none : (place : ℕ) → words place ≡ words (0 + place) = λ place. ap words (omega arith) in
    (refl, is, none)

pub refused : (X : Type 0) (fault : DirFault) (stands : Setting → Transaction → Type 0) (words : ℕ → ℕ) → is_short fault ≡ false
    → Draws {X = X} (Err fault) stands stands words words (Refuses fault)
unfolding run
refused X fault stands words long setting t is =
    let none : (place : ℕ) → words place ≡ words (0 + place) = λ place. ap words (omega arith) in
    subst (λ short. RunsBy {X = X} short (Err fault) setting (stands setting) words words (Refuses fault) t) (sym long) (refl, is, none)

-- memory ran out before the first step
pub short_first : {X : Type 0} (stands : Setting → Transaction → Type 0) (words left : ℕ → ℕ) (course : Course X)
    → Draws {X = X} (Err fault.NoMemory) stands stands words left course
short_first stands words left course setting t is = stops_first setting (stands setting) words course t is

-- ---- functions that draw no words

pub then_followed : {X Y : Type 0} (value : X) (result : Result Y DirFault) (before middle after : Setting → Transaction → Type 0) (course : Course X)
    (next : X → Course Y) → Follows (Ok value) before middle course → Follows result middle after (next value)
    → Follows result before after (course >>= next)
then_followed value result before middle after course next first second words =
    then_drew value result before middle after words words words course next (first words) (second words)

pub fault_followed : {X Y : Type 0} (fault : DirFault) (before after : Setting → Transaction → Type 0) (course : Course X) (next : X → Course Y)
    → Follows {X = X} (Err fault) before after course → Follows {X = Y} (Err fault) before after (course >>= next)
fault_followed fault before after course next first words = fault_drew fault before after words words course next (first words)
