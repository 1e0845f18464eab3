-- What the values of a course are like, said of its tree, and courses that go on alike behind such values; and how many keys a course sets.
use Rattle.std.proofs.Common.{◌≡◌, ℕ, ◌+◌, ◌-◌, ◌≤◌, Option, Some, None, Ok, refl, ap, subst, arith, length}
use Rattle.std.specs.Prelude.{⊤}
use Rattle.std.proofs.Math.Path.{fun_ext}
use Rattle.model_database.specs.declared.Code.{Code}
use Rattle.model_database.specs.Databases.{Set, Clear, ClearRange, Atomic}
use Rattle.model_database.specs.Histories.{Setting}
use Rattle.model_database.specs.Reads.{Answer, answer}
use Rattle.model_database.specs.Transactions.{Transaction, view}
use Rattle.model_allocator.specs.Acts.{Reads, Writes, act_called, refusal}
use Rattle.model_allocator.proofs.Viewing.{after_read}
use Rattle.model_directory.specs.Courses.{Course, Gives, Refuses, Asks, Does, Allocates, ◌>>=◌, Reached, reached_by, run}
use Rattle.model_allocator.specs.Granting.{allocated}
use Rattle.laws_directory.proofs.Going.{Goes, went}
use Rattle.directory.proofs.Counting.{seen_keys, set_keys}
use Rattle.std.specs.FinMap as finite

-- ---- the values of a course

-- each value that it may give is so
abbrev pub Every : {X : Type 0} → (X → Type 0) → Course X → Type 0
Every P (Gives value) = P value
Every P (Refuses fault) = ⊤
Every P (Asks read snapshot next) = (given : Answer) → Every P (next given)
Every P (Does mutation next) = Every P next
Every P (Allocates space next) = (number : ℕ) → Every P (next number)

pub every_any : {X : Type 0} (course : Course X) → Every (λ value. ⊤) course
every_any (Gives value) = tt
every_any (Refuses fault) = tt
every_any (Asks read snapshot next) = λ given. every_any (next given)
every_any (Does mutation next) = every_any next
every_any (Allocates space next) = λ number. every_any (next number)

pub every-then : {X Y : Type 0} (P : X → Type 0) (Q : Y → Type 0) (course : Course X) (next : X → Course Y) → Every P course
    → ((value : X) → P value → Every Q (next value)) → Every Q (course >>= next)
every-then P Q (Gives value) next every on = on value every
every-then P Q (Refuses fault) next every on = tt
every-then P Q (Asks read snapshot more) next every on = λ given. every-then P Q (more given) next (every given) on
every-then P Q (Does mutation more) next every on = every-then P Q more next every on
every-then P Q (Allocates space more) next every on = λ number. every-then P Q (more number) next (every number) on

-- whatever the value of the first part
pub every-behind : {X Y : Type 0} (Q : Y → Type 0) (course : Course X) (next : X → Course Y) → ((value : X) → Every Q (next value))
    → Every Q (course >>= next)
every-behind Q course next on = every-then (λ value. ⊤) Q course next (every_any course) (λ value any. on value)

pub every_more : {X : Type 0} (P Q : X → Type 0) (course : Course X) → ((value : X) → P value → Q value) → Every P course → Every Q course
every_more P Q (Gives value) on every = on value every
every_more P Q (Refuses fault) on every = tt
every_more P Q (Asks read snapshot more) on every = λ given. every_more P Q (more given) on (every given)
every_more P Q (Does mutation more) on every = every_more P Q more on every
every_more P Q (Allocates space more) on every = λ number. every_more P Q (more number) on (every number)

-- ---- courses in two parts

-- the second parts are the same for each value of the first
pub same-then : {X Y : Type 0} (P : X → Type 0) (course : Course X) (one other : X → Course Y) → Every P course
    → ((value : X) → P value → one value ≡ other value) → course >>= one ≡ course >>= other
same-then P (Gives value) one other every same = same value every
same-then P (Refuses fault) one other every same = refl
same-then P (Asks read snapshot more) one other every same =
    ap (Asks read snapshot) (fun_ext (λ given. same-then P (more given) one other (every given) same))
same-then P (Does mutation more) one other every same = ap (Does mutation) (same-then P more one other every same)
same-then P (Allocates space more) one other every same =
    ap (Allocates space) (fun_ext (λ number. same-then P (more number) one other (every number) same))

pub same-behind : {X Y : Type 0} (course : Course X) (one other : X → Course Y) → ((value : X) → one value ≡ other value)
    → course >>= one ≡ course >>= other
same-behind course one other same = same-then (λ value. ⊤) course one other (every_any course) (λ value any. same value)

-- a course in three parts
pub in_three : {X Y Z : Type 0} (course : Course X) (next : X → Course Y) (last : Y → Course Z)
    → (course >>= next) >>= last ≡ course >>= (λ value. next value >>= last)
in_three (Gives value) next last = refl
in_three (Refuses fault) next last = refl
in_three (Asks read snapshot more) next last = ap (Asks read snapshot) (fun_ext (λ given. in_three (more given) next last))
in_three (Does mutation more) next last = ap (Does mutation) (in_three more next last)
in_three (Allocates space more) next last = ap (Allocates space) (fun_ext (λ number. in_three (more number) next last))

-- ---- how many keys a course sets

-- it sets so many keys at most, and writes nothing else
abbrev pub Sets : {X : Type 0} → ℕ → Course X → Type 0
Sets most (Gives value) = ⊤
Sets most (Refuses fault) = ⊤
Sets most (Asks read snapshot next) = (given : Answer) → Sets most (next given)
Sets most (Does (Set key value) next) = (1 ≤ most) × Sets (most - 1) next
Sets most (Does (Clear key) next) = ⊥
Sets most (Does (ClearRange begin end) next) = ⊥
Sets most (Does (Atomic op key operand) next) = ⊥
Sets most (Allocates space next) = ⊥

pub sets_more : {X : Type 0} (most more : ℕ) (course : Course X) → most ≤ more → Sets most course → Sets more course
sets_more most more (Gives value) le sets = tt
sets_more most more (Refuses fault) le sets = tt
sets_more most more (Asks read snapshot next) le sets = λ given. sets_more most more (next given) le (sets given)
sets_more most more (Does (Set key value) next) le sets =
    (omega (arith, sets.0), sets_more (most - 1) (more - 1) next (omega arith) sets.1)
sets_more most more (Does (Clear key) next) le sets = absurd sets
sets_more most more (Does (ClearRange begin end) next) le sets = absurd sets
sets_more most more (Does (Atomic op key operand) next) le sets = absurd sets
sets_more most more (Allocates space next) le sets = absurd sets

pub sets-then : {X Y : Type 0} (P : X → Type 0) (first second : ℕ) (course : Course X) (next : X → Course Y) → Sets first course
    → Every P course → ((value : X) → P value → Sets second (next value)) → Sets (first + second) (course >>= next)
sets-then P first second (Gives value) next sets every on = sets_more second (first + second) (next value) (omega arith) (on value every)
sets-then P first second (Refuses fault) next sets every on = tt
sets-then P first second (Asks read snapshot more) next sets every on =
    λ given. sets-then P first second (more given) next (sets given) (every given) on
sets-then P first second (Does (Set key value) more) next sets every on = (
  omega (arith, sets.0),
  sets_more (first - 1 + second) (first + second - 1) (more >>= next) (omega (arith, sets.0))
      (sets-then P (first - 1) second more next sets.1 every on),
)
sets-then P first second (Does (Clear key) more) next sets every on = absurd sets
sets-then P first second (Does (ClearRange begin end) more) next sets every on = absurd sets
sets-then P first second (Does (Atomic op key operand) more) next sets every on = absurd sets
sets-then P first second (Allocates space more) next sets every on = absurd sets

pub sets-behind : {X Y : Type 0} (first second : ℕ) (course : Course X) (next : X → Course Y) → Sets first course
    → ((value : X) → Sets second (next value)) → Sets (first + second) (course >>= next)
sets-behind first second course next sets on =
    sets-then (λ value. ⊤) first second course next sets (every_any course) (λ value any. on value)

by_refusal : {X : Type 0} (setting : Setting) (refused : Option Code) (t : Transaction) (others : Reached X) (most : ℕ)
    → seen_keys setting t ≤ most → seen_keys setting others.transaction ≤ most
    → seen_keys setting (reached_by refused t others).transaction ≤ most
by_refusal setting (Some code) t others most first last = first
by_refusal setting None t others most first last = last

-- so many keys more are seen at most
pub keys_set : {X : Type 0} (setting : Setting) (words : ℕ → ℕ) (most : ℕ) (course : Course X) (t : Transaction) → Sets most course
    → seen_keys setting (run setting words course t).transaction ≤ seen_keys setting t + most
unfolding run
keys_set setting words most (Gives value) t sets = omega arith
keys_set setting words most (Refuses fault) t sets = omega arith
keys_set setting words most (Asks read snapshot next) t sets =
    let called = act_called setting t (Reads read snapshot) in
    let same : seen_keys setting called.transaction ≡ seen_keys setting t =
    ap (λ m. length (finite.entries m)) (after_read setting t read snapshot) in
    let later = keys_set setting words most (next (answer read (view setting t))) called.transaction (sets (answer read (view setting t))) in
    by_refusal setting (refusal called.reply) called.transaction (run setting words (next (answer read (view setting t))) called.transaction)
    (seen_keys setting t + most) (omega (arith, same)) (omega (arith, same, later))
keys_set setting words most (Does (Set key value) next) t sets =
    let called = act_called setting t (Writes (Set key value)) in
    let more = set_keys setting t key value in
    let later = keys_set setting words (most - 1) next called.transaction sets.1 in
    by_refusal setting (refusal called.reply) called.transaction (run setting words next called.transaction)
    (seen_keys setting t + most) (omega (arith, more, sets.0)) (omega (arith, more, sets.0, later))
keys_set setting words most (Does (Clear key) next) t sets = absurd sets
keys_set setting words most (Does (ClearRange begin end) next) t sets = absurd sets
keys_set setting words most (Does (Atomic op key operand) next) t sets = absurd sets
keys_set setting words most (Allocates space next) t sets = absurd sets

-- ---- the value that a course comes to

pub every_goes : {X : Type 0} (P : X → Type 0) (setting : Setting) (course : Course X) (t : Transaction) (value : X) (after : Transaction)
    → Every P course → Goes setting course t value after → P value
every_goes P setting (Gives given) t value after every (is, left) = subst P is every
every_goes P setting (Refuses fault) t value after every goes = absurd goes
every_goes P setting (Asks read snapshot next) t value after every (passed, goes) =
    every_goes P setting (next (answer read (view setting t))) (act_called setting t (Reads read snapshot)).transaction value after
    (every (answer read (view setting t))) goes
every_goes P setting (Does mutation next) t value after every (passed, goes) =
    every_goes P setting next (act_called setting t (Writes mutation)).transaction value after every goes
every_goes P setting (Allocates space next) t value after every (words, number, goes) =
    every_goes P setting (next number) (allocated setting t space words).transaction value after (every number) goes

pub every_ended : {X : Type 0} (P : X → Type 0) (setting : Setting) (words : ℕ → ℕ) (course : Course X) (t : Transaction) (value : X)
    → Every P course → (run setting words course t).end ≡ Ok value → P value
every_ended P setting words course t value every ends =
    every_goes P setting course t value (run setting words course t).transaction every (went setting words course t value ends)
