-- Keys that have one level are alike under the mutations.
use Rattle.std.proofs.Common.{◌≡◌, ℕ, true, List, Some, refl, sym, ap, ◌∙◌}
use Rattle.key_bytes.specs.Keys.{key_le, key_lt, after}
use Rattle.key_bytes.proofs.Orders.{below_after}
use Rattle.key_map.specs.Ends.{first, last}
use Rattle.std.specs.List.{filter}
use Rattle.range_map.specs.Boundaries.{Boundaries, held, boundaries_of, is_boundary}
use Rattle.range_map.proofs.Held.{IsRising}
use Rattle.range_map.proofs.Neighbours.{next-after, prev-greatest}
use Rattle.model_database.specs.Databases.{Mutation}
use Rattle.model_database.specs.States.{KeyState, Unmodified, Decided, Depends, state_under}
use Rattle.write_map.specs.declared.level.Level.{Level}
use Rattle.write_map.specs.Pending.{AreAlike, IsBare, IsDepends, is_single_state}
use Rattle.write_map.specs.Levels.{state_of, AreLevels}

module _ (mutations : List Mutation) (levels : Boundaries Level) (are : AreLevels mutations levels) where
  -- keys with one level are alike
  pub alike_held : (k q : List ℕ) → held levels q ≡ held levels k → AreAlike mutations k q
  alike_held k q same = record {
    states = (are.agree k).state ∙ sym (ap (λ level. state_of level.state) same) ∙ sym (are.agree q).state;
    readable = (are.agree k).readable ∙ sym (ap (λ level. level.is_unreadable) same) ∙ sym (are.agree q).readable;
  }

  -- a key that has what no mutation touches is bare
  pub bare_held : (k : List ℕ) → held levels k ≡ levels.base → IsBare mutations k
  bare_held k same = record {
    unmodified = (are.agree k).state ∙ ap (λ level. state_of level.state) (same ∙ are.base);
    readable = (are.agree k).readable ∙ ap (λ level. level.is_unreadable) (same ∙ are.base);
  }

  single_after : (k : List ℕ) → is_single_state (state_under mutations k) ≡ true → is_boundary (after k) levels ≡ true
  single_after k single = (are.single k (sym (ap is_single_state (are.agree k).state) ∙ single)).1

  -- a state of one key alone ends at the next key
  pub next_single : (k : List ℕ) → IsRising levels.entries → is_single_state (state_under mutations k) ≡ true
      → first (filter (key_lt k) (boundaries_of levels)) ≡ Some (after k)
  next_single k rising single = next-after levels k rising (single_after k single)

  pub prev_single : (k boundary : List ℕ) → IsRising levels.entries → last (filter (λ boundary. key_lt boundary k) (boundaries_of levels)) ≡ Some boundary
      → is_single_state (state_under mutations boundary) ≡ true → key_le k (after boundary) ≡ true
  prev_single k boundary rising is single =
      prev-greatest levels k boundary (after boundary) rising is (single_after boundary single) (below_after boundary)

-- a list of atomic operations is of one key alone
pub depends_single : (state : KeyState) → IsDepends state → is_single_state state ≡ true
depends_single Unmodified is = absurd is
depends_single (Decided value) is = absurd is
depends_single (Depends mutations) is = refl
