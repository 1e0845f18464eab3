-- Keys in a row, and the keys of a range.
use Rattle.std.proofs.Common.{◌≡◌, ℕ, true, false, not, List, [], ◌∷◌, refl, sym, ap, ◌∙◌, true≢false}
use Rattle.std.proofs.lemmas.Bool.{and_from, and_parts, not-true}
use Rattle.key_bytes.specs.Keys.{key_lt, key_le, within}
use Rattle.key_bytes.proofs.Orders.{lt_le}

-- a ≤ b ≤ c, by what is not below
pub le_le : (a b c : List ℕ) → key_lt b a ≡ false → key_lt c b ≡ false → key_lt c a ≡ false
le_le a b c first second = elim (key_lt c a) as (λ t. key_lt c a ≡ t → t ≡ false) [
  | true ↦ λ below. absurd (true≢false (sym (lt_le c a b below first) ∙ second))
  | false ↦ λ _. refl
] refl

-- no key is below the empty one
pub lowest : (key : List ℕ) → key_lt key [] ≡ false
lowest [] = refl
lowest (byte ∷ key) = refl

-- a key of a range is not below the begin, and below the end
pub from_within : (begin end key : List ℕ) → within begin end key ≡ true → (key_lt key begin ≡ false) × (key_lt key end ≡ true)
from_within begin end key is_in =
    let parts = and_parts (key_le begin key) (key_lt key end) is_in in (not-true (key_lt key begin) parts.0, parts.1)

pub is_within : (begin end key : List ℕ) → key_lt key begin ≡ false → key_lt key end ≡ true → within begin end key ≡ true
is_within begin end key from below = and_from (key_le begin key) (key_lt key end) (ap not from) below
