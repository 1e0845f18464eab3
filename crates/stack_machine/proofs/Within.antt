-- Pairs packed as one tuple.
use Rattle.std.proofs.Common.{◌≡◌, [], ◌∷◌, refl, ap}
use Rattle.model_database.specs.Slices.{Entries}
use Rattle.model_machine.specs.Machines.{pairs_within}

-- every key begins with the empty prefix
pub every_pair_within : (pairs : Entries) → pairs_within [] pairs ≡ pairs
every_pair_within [] = refl
every_pair_within (pair ∷ pairs) = ap (λ (others : Entries). pair ∷ others) (every_pair_within pairs)
