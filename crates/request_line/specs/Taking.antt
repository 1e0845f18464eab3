-- What the list of items taken, each with the number of its sender, says of the senders.
use Rattle.std.specs.Prelude.{◌≡◌, ◌==◌, ℕ, List, ◌∷◌, ◌++◌, length, map, filter}
use Rattle.std.specs.List.{All, Any}
use mathlib.Core.List.{IsPrefix}
use Rattle.request_line.specs.declared.history.History.{History}
use Rattle.request_line.specs.History.{CoverAllNumbers, AreAllApart}

module _ {T : Type 0} where
  -- the items of the sender of that number, in the order taken
  abbrev pub items_of : ℕ → List (ℕ × T) → List T
  items_of number taken = map (λ (m : ℕ × T). m.1) (filter (λ (m : ℕ × T). m.0 == number) taken)

  -- what was taken of the sender is the beginning of what it posted, in its order, each once
  abbrev pub TakesInOrder : List (ℕ × T) → History T → Type 0
  TakesInOrder taken h = IsPrefix (items_of h.number taken) h.posted

  -- where as many were taken of the sender as it posted, it is all of that
  abbrev pub TakesAllWhereAsMany : List (ℕ × T) → History T → Type 0
  TakesAllWhereAsMany taken h = length (items_of h.number taken) ≡ length h.posted → items_of h.number taken ≡ h.posted

  -- wherever an item of the sender stands, all that its maker had posted before the split stands in front of it
  abbrev pub TakesAfterSplit : List (ℕ × T) → History T → Type 0
  TakesAfterSplit taken h =
      (front back : List (ℕ × T)) (item : T) → taken ≡ front ++ (h.number, item) ∷ back → IsPrefix h.posted_before (items_of h.maker front)

  -- each item taken is of one of these senders
  abbrev pub IsOfThese : List (ℕ × T) → List (History T) → Type 0
  IsOfThese taken senders = All (λ (m : ℕ × T). Any (λ h. h.number ≡ m.0) senders) taken

  -- what is known of a receiver that has taken these items and closed these senders
  pub record Agrees (taken : List (ℕ × T)) (senders : List (History T)) : Type 0 where
    pub in_order : All (TakesInOrder taken) senders
    pub all_where_as_many : All (TakesAllWhereAsMany taken) senders
    pub after_split : All (TakesAfterSplit taken) senders
    pub of_these : CoverAllNumbers senders → IsOfThese taken senders
    pub apart : AreAllApart senders
