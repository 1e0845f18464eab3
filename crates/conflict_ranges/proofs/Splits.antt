-- Boundaries at the ends of ranges: no key has anything else. And ranges whose keys are given something.
use Rattle.std.proofs.Common.{◌≡◌, ℕ, suc, ◌+◌, ◌<◌, ◌≤◌, arith, Bool, true, false, cond, ◌||◌, List, [], ◌∷◌, length, get_or, drop, Result, Ok, Err, OnOk, OnErr, refl, sym, ap, subst, ◌∙◌}
use Rattle.std.proofs.lemmas.List.{at_drop_more}
use Rattle.std.specs.BTreeMap.{insert_entry}
use Rattle.std.specs.List.Sorted.{IsStrictlySortedBy}
use Rattle.std.specs.Ordering.{match_ordering}
use Rattle.std.specs.declared.cmp.Ordering.{Ordering}
use Rattle.std.specs.declared.cmp.Ordering.TheVariants.{Less, Equal, Greater}
use Rattle.key_bytes.specs.declared.range.KeyRange.{KeyRange}
use Rattle.key_bytes.specs.Keys.{key_cmp, within}
use Rattle.key_bytes.specs.Ranges.{has}
use Rattle.model_database.specs.States.{covers}
use Rattle.range_map.specs.Boundaries.{Boundaries, held, boundaries_of, is_boundary, with_boundary, split_at, split_both, changed, changed_entries}
use Rattle.range_map.proofs.Bounded.{begin_made, end_made, boundary_kept, boundary_changed}
use Rattle.range_map.proofs.Held.{IsRising, held-with_boundary, held-changed}
use Rattle.range_map.proofs.Lined.{keys_of-changed}
use Rattle.conflict_ranges.specs.Ends.{IsSplitAt, HasRoom}

module _ {X : Type 0} where
  length-inserted : (key : List ℕ) (x : X) (es : List (List ℕ × X)) → length (insert_entry key_cmp es key x) ≤ length es + 1
  length-inserted key x [] = omega arith
  length-inserted key x (e ∷ es) =
      let rest = length-inserted key x es in
      elim (key_cmp key e.0) as (λ (o : Ordering).
      length (match_ordering o ((key, x) ∷ e ∷ es) ((e.0, x) ∷ es) (e ∷ insert_entry key_cmp es key x)) ≤ suc (length es) + 1) [
        | Less ↦ omega arith
        | Equal ↦ omega arith
        | Greater ↦ omega (arith, rest)
      ]

  -- a key that is made a boundary makes one boundary more at most
  one_more : (key : List ℕ) (x : X) (boundaries : Boundaries X) → length (with_boundary key x boundaries).entries ≤ length boundaries.entries + 1
  one_more key x boundaries = elim (is_boundary key boundaries)
      as (λ t. length (cond t boundaries (record boundaries { entries = insert_entry key_cmp boundaries.entries key x })).entries ≤ length boundaries.entries + 1) [
        | true ↦ omega arith
        | false ↦ length-inserted key x boundaries.entries
      ]

  abbrev shared : X → X
  shared x = x

  key_same : (key : List ℕ) (boundaries : Boundaries X) (k : List ℕ) → held (split_at shared key boundaries) k ≡ held boundaries k
  key_same key boundaries k = held-with_boundary key (held boundaries key) boundaries k (λ _. refl)

  -- where a new boundary gets what its key had, two keys are made boundaries so that no key has anything else
  pub split_same : (begin end : List ℕ) (old new : Boundaries X) → new ≡ split_both (λ x. x) begin end old → IsSplitAt begin end old new
  split_same begin end old new is =
      let half = split_at shared begin old in
      record {
        same = λ k. ap (λ boundaries. held boundaries k) is ∙ key_same end half k ∙ key_same begin old k;
        kept = λ q there. ap (is_boundary q) is
            ∙ boundary_kept q end (held half end) half (boundary_kept q begin (held old begin) old there);
        begins = ap (is_boundary begin) is ∙ begin_made shared begin end old;
        ends = ap (is_boundary end) is ∙ end_made shared begin end old;
        few =
            let all = ap (λ boundaries. length boundaries.entries) is in
            let one = one_more begin (held old begin) old in
            let two = one_more end (held half end) half in
            omega (arith, all, one, two);
      }

-- no key has anything else, and each boundary still is one
pub record IsLike {X : Type 0} (old new : Boundaries X) : Type 0 where
  pub same : (key : List ℕ) → held new key ≡ held old key
  pub kept : (boundary : List ℕ) → is_boundary boundary old ≡ true → is_boundary boundary new ≡ true

-- two keys were made boundaries, or that was refused
pub split_like : {X A E : Type 0} (begin end : List ℕ) (old new : Boundaries X) (result : Result A E)
    → OnOk result (new ≡ split_both (λ x. x) begin end old) → OnErr result (new ≡ old) → IsLike old new
split_like begin end old new (Ok x) split refused =
    let split = split_same begin end old new split in record { same = split.same; kept = split.kept }
split_like begin end old new (Err e) split refused = record {
  same = λ key. ap (λ boundaries. held boundaries key) refused;
  kept = λ boundary there. ap (is_boundary boundary) refused ∙ there;
}

-- ---- the keys of a range are given something

module _ {X : Type 0} where
  pub put_at : (begin end : List ℕ) (x : X) (old split new : Boundaries X) → IsSplitAt begin end old split → IsRising split.entries
      → new ≡ changed (within begin end) (λ _. x) split → (k : List ℕ)
      → held new k ≡ cond (within begin end k) x (held old k)
  put_at begin end x old split new is_split rising is k =
      ap (λ boundaries. held boundaries k) is
      ∙ held-changed begin end (λ _. x) split k rising is_split.begins is_split.ends
      ∙ ap (cond (within begin end k) x) (is_split.same k)

  -- what has the ends of the ranges as boundaries still has them
  pub room_kept : (old new : Boundaries X) (ranges : List KeyRange) → ((boundary : List ℕ) → is_boundary boundary old ≡ true → is_boundary boundary new ≡ true)
      → HasRoom old ranges → HasRoom new ranges
  room_kept old new [] kept room = tt
  room_kept old new (range ∷ ranges) kept room =
      (kept range.begin room.0, kept range.end room.1, room_kept old new ranges kept room.2)

  pub boundary_given : (p : List ℕ → Bool) (x : X) (old new : Boundaries X) → new ≡ changed p (λ _. x) old → (boundary : List ℕ)
      → is_boundary boundary new ≡ is_boundary boundary old
  boundary_given p x old new is boundary = ap (is_boundary boundary) is ∙ boundary_changed boundary p (λ _. x) old

  pub rising_given : (p : List ℕ → Bool) (x : X) (old new : Boundaries X) → new ≡ changed p (λ _. x) old → IsRising old.entries
      → IsRising new.entries
  rising_given p x old new is rising =
      subst (IsStrictlySortedBy key_cmp) (sym (ap boundaries_of is ∙ keys_of-changed p (λ _. x) old.entries)) rising

  pub length_given : (p : List ℕ → Bool) (x : X) (old new : Boundaries X) → new ≡ changed p (λ _. x) old
      → length new.entries ≡ length old.entries
  length_given p x old new is =
      ap (λ boundaries. length boundaries.entries) is ∙ same old.entries
    where
      same : (es : List (List ℕ × X)) → length (changed_entries p (λ _. x) es) ≡ length es
      same [] = refl
      same (e ∷ es) = ap suc (same es)

  pub room_given : (p : List ℕ → Bool) (x : X) (old new : Boundaries X) (ranges : List KeyRange) → new ≡ changed p (λ _. x) old
      → HasRoom old ranges → HasRoom new ranges
  room_given p x old new ranges is = room_kept old new ranges (λ boundary there. boundary_given p x old new is boundary ∙ there)

  -- the keys of the first range of a list, and then those of the others
  pub put_first : (range : KeyRange) (left : List KeyRange) (x : X) (old new : Boundaries X) → IsRising old.entries → HasRoom old (range ∷ left)
      → new ≡ changed (within range.begin range.end) (λ _. x) old → (k : List ℕ)
      → cond (covers left k) x (held new k) ≡ cond (covers (range ∷ left) k) x (held old k)
  put_first range left x old new rising room is k =
      ap (cond (covers left k) x)
      (ap (λ boundaries. held boundaries k) is
      ∙ held-changed range.begin range.end (λ _. x) old k rising room.0 room.1)
      ∙ either (covers left k) (has range k)
    where
      either : (s t : Bool) → cond s x (cond t x (held old k)) ≡ cond (t || s) x (held old k)
      either true true = refl
      either true false = refl
      either false true = refl
      either false false = refl

-- ---- room for ranges

module _ {X : Type 0} where
  -- whatever has these boundaries, and room for the ranges that are left, has room for all
  abbrev pub GivesRoom : Boundaries X → (left all : List KeyRange) → Type 0
  GivesRoom boundaries left all = (more : Boundaries X) → ((boundary : List ℕ) → is_boundary boundary boundaries ≡ true → is_boundary boundary more ≡ true)
      → HasRoom more left → HasRoom more all

  pub gives_room-split : (range : KeyRange) (left all : List KeyRange) (old new : Boundaries X) → IsSplitAt range.begin range.end old new
      → GivesRoom old (range ∷ left) all → GivesRoom new left all
  gives_room-split range left all old new split gives more kept room =
      gives more (λ boundary there. kept boundary (split.kept boundary there)) (kept range.begin split.begins, kept range.end split.ends, room)

-- ---- the ranges of a slice that are left

pub next_left : {X : Type 0} (xs : List X) (i : ℕ) (x : X) → i < length xs → x ≡ get_or xs i x → drop i xs ≡ x ∷ drop (i + 1) xs
next_left xs i x more is = at_drop_more (λ left. left) xs i x more ∙ ap (λ y. y ∷ drop (i + 1) xs) (sym is)
