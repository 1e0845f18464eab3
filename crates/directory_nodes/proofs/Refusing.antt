-- Steps of a course that ask nothing of the transaction: a condition that refuses, what is there or not, and what was found out.
use Rattle.std.proofs.Common.{◌≡◌, ℕ, Bool, true, false, Option, Some, None, Result, Ok, Err, refl, sym, subst}
use Rattle.model_database.specs.Histories.{Setting}
use Rattle.model_database.specs.Transactions.{Transaction}
use Rattle.directory_types.specs.declared.fault.DirFault.{DirFault}
use Rattle.model_directory.specs.Courses.{Course, Refuses, ◌>>=◌, Done, done, given}
use Rattle.model_directory.specs.Steps.{refuse_where, there}
use Rattle.directory_nodes.specs.Runs.{Draws, Tells, TellsBy, RunsBy, is_short}
use Rattle.directory_nodes.proofs.Following.{gave, refused, stops_first}

-- behind a condition that doesn't refuse
pub passed_where : {X : Type 0} (refuses : Bool) (fault : DirFault) (result : Result X DirFault) (before after : Setting → Transaction → Type 0)
    (words left : ℕ → ℕ) (next : Done → Course X) → refuses ≡ false → Draws result before after words left (next done)
    → Draws result before after words left (refuse_where refuses fault >>= next)
passed_where refuses fault result before after words left next is drew =
    subst (λ refuses. Draws result before after words left (refuse_where refuses fault >>= next)) (sym is) drew

-- one that refuses
pub refused_where : {X : Type 0} (refuses : Bool) (fault : DirFault) (stands : Setting → Transaction → Type 0) (words : ℕ → ℕ) (next : Done → Course X)
    → refuses ≡ true → is_short fault ≡ false → Draws {X = X} (Err fault) stands stands words words (refuse_where refuses fault >>= next)
refused_where refuses fault stands words next is long =
    subst (λ refuses. Draws (Err fault) stands stands words words (refuse_where refuses fault >>= next)) (sym is) (refused _ fault stands words long)

-- a condition that is asked last
pub passed_last : (refuses : Bool) (fault : DirFault) (stands : Setting → Transaction → Type 0) (words : ℕ → ℕ) → refuses ≡ false
    → Draws (Ok done) stands stands words words (refuse_where refuses fault)
passed_last refuses fault stands words is =
    subst (λ refuses. Draws (Ok done) stands stands words words (refuse_where refuses fault)) (sym is) (gave done stands words)

pub refused_last : (refuses : Bool) (fault : DirFault) (stands : Setting → Transaction → Type 0) (words : ℕ → ℕ) → refuses ≡ true
    → is_short fault ≡ false → Draws {X = Done} (Err fault) stands stands words words (refuse_where refuses fault)
refused_last refuses fault stands words is long =
    subst (λ refuses. Draws {X = Done} (Err fault) stands stands words words (refuse_where refuses fault)) (sym is) (refused _ fault stands words long)

-- what is there, and what isn't
pub there_is : {X Y : Type 0} (fault : DirFault) (found : Option X) (value : X) (result : Result Y DirFault) (before after : Setting → Transaction → Type 0)
    (words left : ℕ → ℕ) (next : X → Course Y) → found ≡ Some value → Draws result before after words left (next value)
    → Draws result before after words left (there fault found >>= next)
there_is fault found value result before after words left next is drew =
    subst (λ found. Draws result before after words left (there fault found >>= next)) (sym is) drew

pub not_there : {X Y : Type 0} (fault : DirFault) (found : Option X) (stands : Setting → Transaction → Type 0) (words : ℕ → ℕ) (next : X → Course Y)
    → found ≡ None → is_short fault ≡ false → Draws {X = Y} (Err fault) stands stands words words (there fault found >>= next)
not_there fault found stands words next is long =
    subst (λ found. Draws (Err fault) stands stands words words (there fault found >>= next)) (sym is) (refused _ fault stands words long)

told_by : (X : Type 0) (short : Bool) (fault : DirFault) (said : Result X DirFault) (stands : Setting → Transaction → Type 0) (words : ℕ → ℕ)
    → is_short fault ≡ short → TellsBy {X = X} short (Err fault) said → (setting : Setting) (t : Transaction) → stands setting t
    → RunsBy {X = X} short (Err fault) setting (stands setting) words words (given said) t
told_by X true fault said stands words short is setting t stood = stops_first setting (stands setting) words (given said) t stood
told_by X false fault said stands words long is setting t stood =
    subst (λ said. RunsBy {X = X} false (Err fault) setting (stands setting) words words (given said) t) (sym is)
    (subst (λ short. RunsBy {X = X} short (Err fault) setting (stands setting) words words (Refuses fault) t) long
    (refused X fault stands words long setting t stood))

-- what was found out
pub told : {X : Type 0} (result said : Result X DirFault) (stands : Setting → Transaction → Type 0) (words : ℕ → ℕ) → Tells result said
    → Draws result stands stands words words (given said)
told (Ok value) said stands words is = subst (λ said. Draws (Ok value) stands stands words words (given said)) (sym is) (gave value stands words)
told {X = X} (Err fault) said stands words is = told_by X (is_short fault) fault said stands words refl is
