-- The first two boundaries.
use Rattle.std.specs.Prelude.{ℕ, Bool, false, ◌&&◌, List, [], ◌∷◌}
use Rattle.std.specs.BTreeMap.{is_at}
use Rattle.key_bytes.specs.Keys.{key_cmp}

-- the first two of these boundaries are these keys
abbrev pub are_first_two : {X : Type 0} → List ℕ → List ℕ → List (List ℕ × X) → Bool
are_first_two begin end [] = false
are_first_two begin end (b ∷ []) = false
are_first_two begin end (b ∷ e ∷ es) = is_at (key_cmp begin) b.0 && is_at (key_cmp end) e.0
