-- A set of one range.
use Rattle.std.proofs.Common.{◌≡◌, Bool, true, false, ◌||◌, ℕ, List, [], ◌∷◌, Option, Some, refl, sym, ap, ◌∙◌}
use Rattle.key_bytes.specs.declared.range.KeyRange.{KeyRange}
use Rattle.key_bytes.specs.Ranges.{has}
use Rattle.key_bytes.specs.Keys.{key_lt}
use Rattle.key_bytes.proofs.Orders.{lt_le}
use Rattle.model_database.specs.States.{covers}
use Rattle.conflict_ranges.specs.Only.{only_or}
use Rattle.conflict_ranges.proofs.Between.{from_within, is_within, le_le}

pub is_only : (only : Option KeyRange) (laid own : List KeyRange) (range : KeyRange) → only_or only laid ≡ own → only ≡ Some range
    → own ≡ range ∷ []
is_only only laid own range view is = sym view ∙ ap (λ only. only_or only laid) is

pub or_none : (t : Bool) → (t || false) ≡ t
or_none true = refl
or_none false = refl

-- one range has its keys
pub covers_only : (own : List KeyRange) (range : KeyRange) → own ≡ range ∷ [] → (key : List ℕ) → covers own key ≡ has range key
covers_only own range is key = ap (λ ranges. covers ranges key) is ∙ or_none (has range key)

pub is_within_too : (range other : KeyRange) → key_lt other.begin range.begin ≡ false → key_lt range.end other.end ≡ false
    → (key : List ℕ) → has other key ≡ true → has range key ≡ true
is_within_too range other begins ends key is_in =
    let parts = from_within other.begin other.end key is_in in
    is_within range.begin range.end key (le_le range.begin other.begin key begins parts.0) (lt_le key other.end range.end parts.1 ends)
