-- What a function did that ends where a call answered with a fault, where memory ran out, or with a value that it made.
use Rattle.std.proofs.Common.{◌≡◌, ℕ, Result, Ok, Err, refl, sym, ap, subst, ◌∙◌}
use Rattle.std.specs.Prelude.{IsErrAnd}
use Rattle.model_database.specs.Histories.{Setting}
use Rattle.model_database.specs.Transactions.{Transaction}
use Rattle.directory_types.specs.declared.fault.DirFault.{DirFault}
use Rattle.directory_types.specs.declared.fault.DirFault.TheVariants as fault
use Rattle.model_directory.specs.Courses.{Course, Gives, ◌>>=◌}
use Rattle.directory_nodes.specs.Runs.{Draws}
use Rattle.directory_nodes.proofs.Following.{fault_drew, gave, short_first}

-- what a `?` hands on is the fault that it met
pub hands_on : {Y : Type 0} (result : Result Y DirFault) (fault : DirFault) → IsErrAnd result (λ given. given ≡ fault) → result ≡ Err fault
hands_on (Ok value) fault is = absurd is
hands_on (Err given) fault is = ap Err is

-- and so it is of what stands for the result
pub handed : {X Y : Type 0} (seen : Result X DirFault → Result Y DirFault) (result : Result X DirFault) (fault : DirFault)
    → seen (Err fault) ≡ Err fault → IsErrAnd result (λ given. given ≡ fault) → IsErrAnd (seen result) (λ given. given ≡ fault)
handed seen result fault same is =
    subst (λ seen. IsErrAnd seen (λ given. given ≡ fault)) (sym (ap seen (hands_on result fault is) ∙ same)) refl

-- a call answered with a fault
pub ended_so : {X Y : Type 0} (fault : DirFault) (result : Result Y DirFault) (before after : Setting → Transaction → Type 0)
    (words left : ℕ → ℕ) (course : Course X) (next : X → Course Y) → IsErrAnd result (λ given. given ≡ fault)
    → Draws {X = X} (Err fault) before after words left course
    → Draws result before after words left (course >>= next)
ended_so fault result before after words left course next ends drew =
    subst (λ result. Draws result before after words left (course >>= next)) (sym (hands_on result fault ends))
    (fault_drew fault before after words left course next drew)

-- memory ran out before the next step
pub ran_out : {X : Type 0} (result : Result X DirFault) (stands : Setting → Transaction → Type 0) (words left : ℕ → ℕ) (course : Course X)
    → IsErrAnd result (λ given. given ≡ fault.NoMemory) → Draws result stands stands words left course
ran_out result stands words left course is =
    subst (λ result. Draws result stands stands words left course) (sym (hands_on result fault.NoMemory is)) (short_first stands words left course)

-- the value that is given
pub gave_so : {X : Type 0} (given value : X) (stands : Setting → Transaction → Type 0) (words : ℕ → ℕ) → given ≡ value
    → Draws (Ok value) stands stands words words (Gives given)
gave_so given value stands words is = subst (λ given. Draws (Ok value) stands stands words words (Gives given)) (sym is) (gave value stands words)
