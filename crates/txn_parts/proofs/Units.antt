-- Truth values that change nothing, and mutations without a write conflict range.
use Rattle.std.proofs.Common.{◌≡◌, ◌⊎◌, inl, inr, ℕ, Bool, true, false, ◌&&◌, ◌||◌, List, [], ◌∷◌, length, refl, arith}
use Rattle.model_database.specs.Databases.{Mutation}
use Rattle.txn_parts.specs.WriteConflicts.{write_conflicts_among}

pub or_false : (x : Bool) → (x || false) ≡ x
or_false true = refl
or_false false = refl

pub and_false : (x : Bool) → (x && false) ≡ false
and_false true = refl
and_false false = refl

pub and_true : (x : Bool) → (x && true) ≡ x
and_true true = refl
and_true false = refl

-- where nothing is left of one of the two, no mutation has a write conflict range
pub no_write_conflicts : (mutations : List Mutation) (adds_conflict : List Bool) → (length mutations ≡ 0) ⊎ (length adds_conflict ≡ 0)
    → write_conflicts_among mutations adds_conflict ≡ []
no_write_conflicts [] adds_conflict none = refl
no_write_conflicts (m ∷ mutations) [] none = refl
no_write_conflicts (m ∷ mutations) (b ∷ adds_conflict) (inl none) = absurd (omega (arith, none))
no_write_conflicts (m ∷ mutations) (b ∷ adds_conflict) (inr none) = absurd (omega (arith, none))
