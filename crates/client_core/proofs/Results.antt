-- What follows of a result where there is one.
use Rattle.std.proofs.Common.{◌≡◌, Result, Ok, Err, sym, subst, ◌∙◌}
use Rattle.std.specs.Prelude.{IfOk, OnErr}

pub ok_so : {X E : Type 0} (P Q : X → Type 0) (result : Result X E) → ((x : X) → P x → Q x) → IfOk result P → IfOk result Q
ok_so P Q (Ok x) so has = so x has
ok_so P Q (Err error) so has = tt

-- the same where it is known what it is
pub ok_of : {X E : Type 0} {result found : Result X E} {x : X} (P : X → Type 0) → found ≡ result → found ≡ Ok x → IfOk result P → P x
ok_of P same is has = subst (λ r. IfOk r P) (sym same ∙ is) has

-- what always holds, where there is none
pub err_always : {X E : Type 0} {P : Type 0} (result : Result X E) → P → OnErr result P
err_always (Ok x) has = tt
err_always (Err error) has = has
