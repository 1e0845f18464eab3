-- The lines of pairs are those of their keys with their values.
use Rattle.std.proofs.Common.{◌≡◌, ℕ, List, [], ◌∷◌, ◌++◌, refl, ap}
use Rattle.std.specs.List.{flat_map}
use Rattle.key_bytes.specs.Entries.{entries_of}
use Rattle.key_bytes.specs.declared.pairs.Pair.{Pair}
use Rattle.model_shell.specs.Requests.{pair_text}

pub each_entry : (pairs : List Pair)
    → flat_map (λ (pair : Pair). pair_text pair.key pair.value) pairs
    ≡ flat_map (λ (entry : List ℕ × List ℕ). pair_text entry.0 entry.1) (entries_of pairs)
each_entry [] = refl
each_entry (pair ∷ pairs) = ap (λ (x : List ℕ). pair_text pair.key pair.value ++ x) (each_entry pairs)
