-- What one more reply adds.
use Rattle.std.specs.Prelude.{◌≡◌, ◌≢◌, ◌⊎◌, ℕ, Bool, true, false, List, [], ◌∷◌, ◌++◌, Some}
use Rattle.fdb_calls.specs.declared.Request.{Request}
use Rattle.fdb_calls.specs.declared.Reply.{Reply}
use Rattle.fdb_calls.specs.declared.Reply.TheVariants.{NoMemory}
use Rattle.future_cell.specs.declared.setter.Receipt.{Receipt}
use Rattle.future_cell.specs.declared.setter.Setter.{Setter}
use Rattle.future_cell.specs.declared.wake.Wake.{Wake}
use Rattle.future_cell.specs.Cells.{setter_cell, receipt_cell, value_set}

-- one more receipt: the reply was set in the cell of the setter
abbrev pub AddsReply : Setter Reply Wake → Reply → List (Receipt Reply Wake) → List (Receipt Reply Wake) → Type 0
AddsReply setter reply before after =
    (receipt : Receipt Reply Wake) × (receipt_cell receipt ≡ setter_cell setter) × (value_set receipt ≡ Some reply) × (after ≡ before ++ receipt ∷ [])

-- one more answer: the service gave a reply to the request of a machine, which is noted, and it was set
abbrev pub AddsAnswer : {S : Type 0} → (S → ℕ → Request → Reply → S → Type 0) → S → S → (machine : ℕ) → Request → Setter Reply Wake
    → List ℕ → List (Receipt Reply Wake) → List ℕ → List (Receipt Reply Wake) → Type 0
AddsAnswer answers before after machine request setter order receipts order_after receipts_after =
    (reply : Reply) × (answers before machine request reply after) × (reply ≢ NoMemory) × AddsReply setter reply receipts receipts_after
    × (order_after ≡ order ++ machine ∷ [])

-- One Ask more was replied to: the service gave the reply, where memory lasted until then, or it is NoMemory, and the service has its
-- receipt.
abbrev pub AddsReplyTo : {S : Type 0} → (S → ℕ → Request → Reply → S → Type 0) → (S → Receipt Reply Wake → S → Type 0) → S → S → (machine : ℕ)
    → Request → Setter Reply Wake → Bool → List (Receipt Reply Wake) → Bool → List (Receipt Reply Wake) → Type 0
AddsReplyTo answers notes before after machine request setter short receipts short_after receipts_after =
    ((reply : Reply) × (short ≡ false) × (answers before machine request reply after) × (short_after ≡ false → reply ≢ NoMemory)
    × AddsReply setter reply receipts receipts_after)
    ⊎ ((receipt : Receipt Reply Wake) × (short_after ≡ true) × (receipt_cell receipt ≡ setter_cell setter)
    × (value_set receipt ≡ Some NoMemory) × (notes before receipt after) × (receipts_after ≡ receipts))
