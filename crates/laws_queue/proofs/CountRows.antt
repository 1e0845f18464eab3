-- The law of counts on changes and scripts that were worked out by hand.
use Rattle.std.proofs.Common.{◌≡◌, ◌<◌, ℕ, true, List, [], ◌∷◌, Some, None, refl, arith}
use Rattle.std.specs.Prelude.{codes}
use Rattle.std.specs.Int.{w64, to_le_bytes}
use Rattle.std.proofs.lemmas.List.Elements.{All-from_recursion}
use Rattle.key_bytes.specs.Keys.{IsByteString}
use Rattle.model_database.specs.Databases.{Set, Clear}
use Rattle.model_database.specs.Histories.{Script, Wrote, HasRead}
use Rattle.model_database.specs.Reads.{Get, ValueIs}
use Rattle.model_recipes.specs.Multimaps.{pair_key}
use Rattle.model_recipes.proofs.Counting.{said_again}
use Rattle.laws_queue.specs.Counts.{Change, add_of, subtract_of, counted, IsOfCounts}

-- ---- changes of the pairs k, x and k, y

abbrev changes : List Change
changes =
    add_of (codes "k") (codes "x") ∷ subtract_of (codes "k") (codes "y") ∷ add_of (codes "k") (codes "x")
    ∷ subtract_of (codes "k") (codes "x") ∷ add_of (codes "k") (codes "y") ∷ []

-- two adds and a subtract
of_x : counted changes (codes "k") (codes "x") 0 ≡ 1
of_x = refl

-- a subtract from a pair that isn't there changes nothing, so the add behind it makes 1
of_y : counted changes (codes "k") (codes "y") 0 ≡ 1
of_y = refl

of_another : counted changes (codes "k") (codes "z") 7 ≡ 7
of_another = refl

-- ---- a transaction that adds k, x twice, and one that subtracts it where its count is 1

abbrev space : List ℕ
space = 1 ∷ []

abbrev at : List ℕ
at = pair_key space (codes "k") (codes "x")

one_byte : (byte : ℕ) → byte < 256 → IsByteString (byte ∷ [])
one_byte byte small = All-from_recursion (λ b. b < 256) (byte ∷ []) (small, tt)

abbrev adds_twice : Script
adds_twice =
    HasRead (Get at) (ValueIs None)
    ∷ Wrote (Set at (to_le_bytes w64 1)) true
    ∷ HasRead (Get at) (ValueIs (Some (to_le_bytes w64 1)))
    ∷ Wrote (Set at (to_le_bytes w64 2)) true
    ∷ []

added_twice : IsOfCounts space adds_twice (add_of (codes "k") (codes "x") ∷ add_of (codes "k") (codes "x") ∷ [])
added_twice =
    IsOfCounts.adds (codes "k") (codes "x") None 1 true _ _ (one_byte 107 (omega arith)) (one_byte 120 (omega arith)) refl
    (IsOfCounts.adds (codes "k") (codes "x") (Some (to_le_bytes w64 1)) 2 true _ _ (one_byte 107 (omega arith)) (one_byte 120 (omega arith))
    (rw (said_again 1 (omega arith) (omega arith)) refl) IsOfCounts.ends)

subtracted : IsOfCounts space (HasRead (Get at) (ValueIs (Some (to_le_bytes w64 1))) ∷ Wrote (Clear at) true ∷ [])
    (subtract_of (codes "k") (codes "x") ∷ [])
subtracted =
    IsOfCounts.subtracts (codes "k") (codes "x") (Some (to_le_bytes w64 1)) 0 true _ _ (one_byte 107 (omega arith)) (one_byte 120 (omega arith))
    (said_again 1 (omega arith) (omega arith)) IsOfCounts.ends

-- where the pair isn't there, a subtract only reads
subtracted_none : IsOfCounts space (HasRead (Get at) (ValueIs None) ∷ []) (subtract_of (codes "k") (codes "x") ∷ [])
subtracted_none =
    IsOfCounts.stays (codes "k") (codes "x") None _ _ (one_byte 107 (omega arith)) (one_byte 120 (omega arith)) refl IsOfCounts.ends
