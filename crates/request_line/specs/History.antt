-- What contracts see of a sender: its number and its span of numbers, what it posted, and what its maker had posted when it was made.
use Rattle.std.specs.Prelude.{ℕ, ◌+◌, ◌-◌, ◌^◌, ◌<◌, ◌≤◌, ◌⊎◌, ◌↔◌, List, [], ◌∷◌, ◌++◌}
use Rattle.std.specs.List.{Any, AllPairs}
use Rattle.request_line.specs.declared.history.History.{History}

module _ {T : Type 0} where
  -- the first sender of a line: number 0, and room for 63 splits
  abbrev pub first_history : History T
  first_history = record { number = 0; room = 63; posted = []; maker = 0; posted_before = [] }

  -- the same sender, after it posted an item
  abbrev pub with_post : History T → T → History T
  with_post h item = record h { posted = h.posted ++ item ∷ [] }

  -- a split leaves its sender the lower half of the span
  abbrev pub lower_half : History T → History T
  lower_half h = record h { room = h.room - 1 }

  -- the sender that the split makes has the upper half, and knows all that its maker had posted
  abbrev pub upper_half : History T → History T
  upper_half h = record { number = h.number + 2 ^ (h.room - 1); room = h.room - 1; posted = []; maker = h.number; posted_before = h.posted }

  -- p is one of the 2 ^ room numbers of the sender's span, of which its own number is the least
  abbrev pub IsInSpan : History T → ℕ → Type 0
  IsInSpan h p = (h.number ≤ p) × (p < h.number + 2 ^ h.room)

  -- each number below 2 ^ 63 is in the span of one of these senders
  abbrev pub CoverAllNumbers : List (History T) → Type 0
  CoverAllNumbers senders = (p : ℕ) → p < 2 ^ 63 → Any (λ h. IsInSpan h p) senders

  -- no number is in the spans of both
  abbrev pub AreApart : History T → History T → Type 0
  AreApart a b = (p : ℕ) → IsInSpan a p → ¬ IsInSpan b p

  -- no number is in the spans of two of them
  abbrev pub AreAllApart : List (History T) → Type 0
  AreAllApart senders = AllPairs AreApart senders

  -- the spans of two senders together are the span of one
  abbrev pub AreTogether : History T → History T → History T → Type 0
  AreTogether a b whole = (p : ℕ) → (IsInSpan a p ⊎ IsInSpan b p) ↔ IsInSpan whole p
