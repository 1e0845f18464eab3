-- Two keys are made boundaries: no key has anything else.
use Rattle.std.proofs.Common.{◌≡◌, ℕ, true, false, List, Some, None, refl, sym, ap, ◌∙◌, true≢false}
use Rattle.key_bytes.specs.Keys.{after}
use Rattle.range_map.specs.Boundaries.{Boundaries, held, is_boundary, split_at, split_both}
use Rattle.range_map.proofs.Bounded.{boundary_made, boundary_kept, base-with_boundary}
use Rattle.range_map.proofs.Held.{held-with_boundary}
use Rattle.write_map.specs.declared.level.Level.{Level}
use Rattle.write_map.specs.declared.level.State.{State}
use Rattle.write_map.specs.declared.level.State.TheVariants as kept
use Rattle.write_map.specs.Pending.{is_single_state}
use Rattle.write_map.specs.Levels.{state_of, spread_state, spread, AreSingle}

-- what is of more keys than one is what it leaves for a new boundary
spread_shared : (level : Level) → is_single_state (state_of level.state) ≡ false → spread level ≡ level
spread_shared level shared = ap (λ (state : State). record level { state = state }) (same level.state shared)
  where
    same : (state : State) → is_single_state (state_of state) ≡ false → spread_state state ≡ state
    same kept.Unmodified shared = refl
    same (kept.Decided None) shared = refl
    same (kept.Decided (Some value)) shared = absurd (true≢false shared)
    same (kept.Depends edits) shared = absurd (true≢false shared)

-- a state of one key alone lies at a boundary
shared_between : (levels : Boundaries Level) → AreSingle levels → (key : List ℕ) → is_boundary key levels ≡ false
    → is_single_state (state_of (held levels key).state) ≡ false
shared_between levels single key new =
    elim (is_single_state (state_of (held levels key).state))
    as (λ t. is_single_state (state_of (held levels key).state) ≡ t → t ≡ false) [
      | true ↦ λ is. absurd (true≢false (sym (single key is).0 ∙ new))
      | false ↦ λ _. refl
    ] refl

-- levels with two more boundaries at most, that give each key what it had
pub record IsSplit (begin end : List ℕ) (old new : Boundaries Level) : Type 0 where
  pub base : new.base ≡ old.base
  pub same : (key : List ℕ) → held new key ≡ held old key
  pub kept : (key : List ℕ) → is_boundary key old ≡ true → is_boundary key new ≡ true
  pub begins : is_boundary begin new ≡ true
  pub ends : is_boundary end new ≡ true

split_same : (key : List ℕ) (levels : Boundaries Level) → AreSingle levels → (k : List ℕ) → held (split_at spread key levels) k ≡ held levels k
split_same key levels single k =
    held-with_boundary key (spread (held levels key)) levels k (λ new. spread_shared (held levels key) (shared_between levels single key new))

split_kept : (q key : List ℕ) (levels : Boundaries Level) → is_boundary q levels ≡ true → is_boundary q (split_at spread key levels) ≡ true
split_kept q key levels = boundary_kept q key (spread (held levels key)) levels

split_single : (key : List ℕ) (levels : Boundaries Level) → AreSingle levels → AreSingle (split_at spread key levels)
split_single key levels single k is =
    let boundaries = single k (sym (ap (λ level. is_single_state (state_of level.state)) (split_same key levels single k)) ∙ is) in
    (split_kept k key levels boundaries.0, split_kept (after k) key levels boundaries.1)

pub is_split : (begin end : List ℕ) (old new : Boundaries Level) → AreSingle old → new ≡ split_both spread begin end old
    → IsSplit begin end old new
is_split begin end old new single is =
    let half = split_at spread begin old in
    let half_single = split_single begin old single in
    record {
      base =
          ap (λ levels. levels.base) is
          ∙ base-with_boundary end (spread (held half end)) half ∙ base-with_boundary begin (spread (held old begin)) old;
      same = λ k. ap (λ levels. held levels k) is ∙ split_same end half half_single k ∙ split_same begin old single k;
      kept = λ q there. ap (is_boundary q) is ∙ split_kept q end half (split_kept q begin old there);
      begins = ap (is_boundary begin) is ∙ split_kept begin end half (boundary_made begin (spread (held old begin)) old);
      ends = ap (is_boundary end) is ∙ boundary_made end (spread (held half end)) half;
    }
