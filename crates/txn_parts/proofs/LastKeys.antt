-- Where the interval of a read ends.
use Rattle.std.proofs.Common.{◌≡◌, ℕ, suc, ◌-◌, List, [], ◌∷◌, Some, map, length, slice_get, sym, ap, ◌∙◌, arith}
use Rattle.std.proofs.lemmas.Option.{same_Some}
use Rattle.key_bytes.specs.declared.pairs.Pair.{Pair}
use Rattle.key_bytes.specs.Entries.{entry_of}
use Rattle.model_database.specs.Intervals.{last_key}

-- the key of the last of some pairs, read by its place
pub last_key_at : (key : List ℕ) (pairs : List Pair) (pair : Pair) → slice_get pairs (length pairs - 1) ≡ Some pair
    → pair.key ≡ last_key key (map entry_of pairs)
last_key_at key [] pair is = absurd cc
last_key_at key (only ∷ []) pair is = ap (λ (p : Pair). p.key) (sym (same_Some only pair is))
last_key_at key (first ∷ second ∷ others) pair is =
    let n : suc (length others) - 1 ≡ length others = omega arith in
    let m : suc (suc (length others)) - 1 ≡ suc (length others) = omega arith in
    last_key_at first.key (second ∷ others) pair
    (ap (slice_get (second ∷ others)) n ∙ sym (ap (slice_get (first ∷ second ∷ others)) m) ∙ is)
