-- Room for the ranges of a commit: what keeps it, and ranges that are given their version one by one.
use Rattle.std.proofs.Common.{◌≡◌, inl, inr, ℕ, max, ◌≤◌, arith, Bool, true, false, cond, ◌||◌, List, [], ◌∷◌, refl, sym, ap, subst, ◌∙◌}
use Rattle.std.specs.FinMap as finite
use Rattle.key_bytes.specs.declared.range.KeyRange.{KeyRange}
use Rattle.key_bytes.specs.Keys.{within}
use Rattle.key_bytes.specs.Ranges.{has}
use Rattle.model_database.specs.States.{covers, range_from}
use Rattle.range_map.specs.Boundaries.{Boundaries}
use Rattle.conflict_ranges.specs.Ends.{IsSplitAt}
use Rattle.conflict_ranges.specs.Generations.{version_at, version_in, LastWrites, IsBounded, Keeps, KeepsRoom, GoesAlone, GoesAsRange, HasRoomFor, IsReadyFor, with_version}
use Rattle.conflict_ranges.proofs.Splits.{IsLike}

pub room_kept : (version : ℕ) (range : KeyRange) (old new : LastWrites) → Keeps old new → HasRoomFor old version range → HasRoomFor new version range
room_kept version range old new kept room = record {
  alone = λ goes. let newest = kept.newest in let below = goes.1 in kept.keys range.begin (room.alone (goes.0, omega (arith, newest, below)));
  as_range = λ goes. let boundaries = room.as_range (still goes) in (kept.boundaries range.begin boundaries.0, kept.boundaries range.end boundaries.1);
}
  where
    still : GoesAsRange new version range.begin range.end → GoesAsRange old version range.begin range.end
    still (inl longer) = inl longer
    still (inr above) = let newest = kept.newest in inr (omega (arith, newest, above))

module _ (version : ℕ) (generation : LastWrites) (ranges : Boundaries ℕ) where
  -- no more than boundaries came in
  pub like_kept : IsLike generation.ranges ranges → KeepsRoom version generation (record generation { ranges = ranges })
  like_kept like range = room_kept version range generation (record generation { ranges = ranges })
      (record { newest = refl; keys = λ key there. there; boundaries = like.kept })

  pub like_same : IsLike generation.ranges ranges → (key : List ℕ) → version_at (record generation { ranges = ranges }) key ≡ version_at generation key
  like_same like key = ap (max (version_in (finite.get generation.keys key))) (like.same key)

  pub like_bounded : IsLike generation.ranges ranges → IsBounded generation → IsBounded (record generation { ranges = ranges })
  like_bounded like bounded = record {
    keys = bounded.keys;
    ranges = λ key. subst (λ newest. newest ≤ generation.newest) (sym (like.same key)) (bounded.ranges key);
  }

  -- the ends of a range became boundaries
  pub room_made : (begin end : List ℕ) → GoesAsRange generation version begin end → IsSplitAt begin end generation.ranges ranges
      → HasRoomFor (record generation { ranges = ranges }) version (range_from begin end)
  room_made begin end as_range split = record { alone = λ alone. absurd (other as_range alone); as_range = λ _. (split.begins, split.ends) }
    where
      other : GoesAsRange generation version begin end → GoesAlone generation version begin end → ⊥
      other (inl longer) alone = longer alone.0
      other (inr above) alone = let below = alone.1 in omega (arith, above, below)

pub ready_kept : (version : ℕ) (ranges : List KeyRange) (old new : LastWrites) → KeepsRoom version old new → IsReadyFor old version ranges
    → IsReadyFor new version ranges
ready_kept version [] old new kept ready = tt
ready_kept version (range ∷ ranges) old new kept ready = (kept range ready.0, ready_kept version ranges old new kept ready.1)

-- with room for the ranges that are left, whatever keeps the room that this generation has has room for all
abbrev pub GivesRoom : LastWrites → ℕ → (left all : List KeyRange) → Type 0
GivesRoom generation version left all = (more : LastWrites) → KeepsRoom version generation more → IsReadyFor more version left → IsReadyFor more version all

pub gives_room : (version : ℕ) (range : KeyRange) (left all : List KeyRange) (old new : LastWrites) → KeepsRoom version old new → HasRoomFor new version range
    → GivesRoom old version (range ∷ left) all → GivesRoom new version left all
gives_room version range left all old new kept room gives more later ready =
    gives more (λ range had. later range (kept range had)) (later range room, ready)

room_raised : (version : ℕ) (range : KeyRange) (generation : LastWrites) → HasRoomFor generation version range → HasRoomFor (with_version version generation) version range
room_raised version range generation room = record {
  alone = λ goes. let below = goes.1 in room.alone (goes.0, omega (arith, below));
  as_range = λ goes. room.as_range (still goes);
}
  where
    still : GoesAsRange (with_version version generation) version range.begin range.end → GoesAsRange generation version range.begin range.end
    still (inl longer) = inl longer
    still (inr above) = inr (omega (arith, above))

pub ready_raised : (version : ℕ) (ranges : List KeyRange) (generation : LastWrites) → IsReadyFor generation version ranges
    → IsReadyFor (with_version version generation) version ranges
ready_raised version [] generation ready = tt
ready_raised version (range ∷ ranges) generation ready = (room_raised version range generation ready.0, ready_raised version ranges generation ready.1)

-- the first range of those that are left is given its version
pub given_first : (range : KeyRange) (left : List KeyRange) (version : ℕ) (old new : LastWrites)
    → ((key : List ℕ) → version_at new key ≡ cond (within range.begin range.end key) version (version_at old key))
    → (key : List ℕ) → cond (covers left key) version (version_at new key) ≡ cond (covers (range ∷ left) key) version (version_at old key)
given_first range left version old new given key =
    ap (cond (covers left key) version) (given key) ∙ either (covers left key) (has range key)
  where
    either : (s t : Bool) → cond s version (cond t version (version_at old key)) ≡ cond (t || s) version (version_at old key)
    either true true = refl
    either true false = refl
    either false true = refl
    either false false = refl
