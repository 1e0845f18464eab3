-- A step that a condition chooses: what a function did that made the chosen one; and conditions of two parts.
use Rattle.std.proofs.Common.{◌≡◌, ℕ, Bool, true, false, cond, Result, refl, sym, subst}
use Rattle.std.specs.Prelude.{◌||◌}
use Rattle.model_database.specs.Histories.{Setting}
use Rattle.model_database.specs.Transactions.{Transaction}
use Rattle.directory_types.specs.declared.fault.DirFault.{DirFault}
use Rattle.model_directory.specs.Courses.{Course}
use Rattle.directory_nodes.specs.Runs.{Draws}

pub where_true : {X : Type 0} (is : Bool) (result : Result X DirFault) (before after : Setting → Transaction → Type 0) (words left : ℕ → ℕ)
    (one other : Course X) → is ≡ true → Draws result before after words left one
    → Draws result before after words left (cond is one other)
where_true is result before after words left one other chosen drew =
    subst (λ (is : Bool). Draws result before after words left (cond is one other)) (sym chosen) drew

pub where_false : {X : Type 0} (is : Bool) (result : Result X DirFault) (before after : Setting → Transaction → Type 0) (words left : ℕ → ℕ)
    (one other : Course X) → is ≡ false → Draws result before after words left other
    → Draws result before after words left (cond is one other)
where_false is result before after words left one other chosen drew =
    subst (λ (is : Bool). Draws result before after words left (cond is one other)) (sym chosen) drew

-- ---- conditions of two parts

pub one_holds : (one other : Bool) → one ≡ true → (one || other) ≡ true
one_holds true other is = refl
one_holds false other is = absurd cc

pub other_holds : (one other : Bool) → other ≡ true → (one || other) ≡ true
other_holds true other is = refl
other_holds false other is = is

pub neither_holds : (one other : Bool) → one ≡ false → other ≡ false → (one || other) ≡ false
neither_holds true other is not_other = absurd cc
neither_holds false other is not_other = not_other
