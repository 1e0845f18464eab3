-- The rule of a line, over the items that wait in it, oldest first, and the views of all passes.
-- All that was posted so far is what was taken and then what waits. Each number below 2 ^ 63 has one owner, so no two spans share a number.
use Rattle.std.specs.Prelude.{◌≡◌, ◌≢◌, ℕ, ◌+◌, ◌^◌, ◌≤◌, List, [], ◌++◌, ⊤}
use mathlib.Core.Option.{some}
use lib.ListN.{get_elem?}
use Rattle.request_line.specs.declared.history.History.{History}
use Rattle.request_line.specs.declared.view.View.{View}
use Rattle.request_line.specs.declared.view.View.TheVariants.{First, Sends, Receives, Spent}
use Rattle.request_line.specs.History.{IsInSpan, first_history}
use Rattle.request_line.specs.Taking.{items_of}

-- who has a number: the pass of that number, or the sender that was closed at that place
pub data Owner : Type 0 where
  held : ℕ → Owner
  closed_at : ℕ → Owner

module _ {T : Type 0} where
  -- before anything of the sender was posted, all stood there that its maker had posted before the split
  pub record Follows (log : List (ℕ × T)) (h : History T) : Type 0 where
    pub front : List (ℕ × T)
    pub back : List (ℕ × T)
    pub parts : log ≡ front ++ back
    pub none_yet : items_of h.number front ≡ []
    pub before : items_of h.maker front ≡ h.posted_before

  -- the sender's span is its owner's alone, and of its numbers only the least has items: those that the sender posted
  pub record Owns (log : List (ℕ × T)) (who : ℕ → Owner) (owner : Owner) (h : History T) : Type 0 where
    pub posted : items_of h.number log ≡ h.posted
    pub within : h.number + 2 ^ h.room ≤ 2 ^ 63
    pub owned : (p : ℕ) → IsInSpan h p → who p ≡ owner
    pub unused : (p : ℕ) → IsInSpan h p → p ≢ h.number → items_of p log ≡ []
    pub follows : Follows log h

  -- what a pass knows is so
  abbrev pub Fits : List (ℕ × T) → List (ℕ × T) → ℕ → (ℕ → Owner) → ℕ → View T → Type 0
  Fits log got reader who pass First = (pass ≡ reader) × (log ≡ []) × ((p : ℕ) → who p ≡ held pass)
  Fits log got reader who pass (Sends h) = Owns log who (held pass) h
  Fits log got reader who pass (Receives taken senders) =
      (pass ≡ reader) × (taken ≡ got) × ((k : ℕ) (h : History T) → get_elem? senders k ≡ some h → Owns log who (closed_at k) h)
  Fits log got reader who pass Spent = ⊤

  -- got: what was taken; reader: the receiver's pass; who: the owners of numbers
  pub record Kept (items : List (ℕ × T)) (views : List (View T)) : Type 0 where
    pub got : List (ℕ × T)
    pub reader : ℕ
    pub who : ℕ → Owner
    pub each : (pass : ℕ) (v : View T) → get_elem? views pass ≡ some v → Fits (got ++ items) got reader who pass v
    pub bounded : (p : ℕ) → 2 ^ 63 ≤ p → items_of p (got ++ items) ≡ []

  -- what a sender's view tells
  abbrev pub told : View T → History T
  told First = first_history
  told (Sends h) = h
  told (Receives taken senders) = first_history
  told Spent = first_history

  -- the list taken, and the senders closed, that a receiver's view tells
  abbrev pub taken_by : View T → List (ℕ × T)
  taken_by First = []
  taken_by (Sends h) = []
  taken_by (Receives taken senders) = taken
  taken_by Spent = []

  abbrev pub closed_by : View T → List (History T)
  closed_by First = []
  closed_by (Sends h) = []
  closed_by (Receives taken senders) = senders
  closed_by Spent = []
