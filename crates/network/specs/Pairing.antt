-- The receipts of one machine, and senders whose posts end with their one Over.
use Rattle.std.specs.Prelude.{◌≡◌, ◌↔◌, ℕ, List, [], ◌∷◌, ◌++◌, ⊤}
use Rattle.std.specs.List.{All, zip}
use Rattle.fdb_calls.specs.declared.Reply.{Reply}
use Rattle.future_cell.specs.declared.setter.Receipt.{Receipt}
use Rattle.future_cell.specs.declared.wake.Wake.{Wake}
use Rattle.request_line.specs.declared.history.History.{History}
use Rattle.request_line.specs.Taking.{items_of}
use Rattle.network.specs.declared.post.Post.{Post}
use Rattle.network.specs.declared.post.Post.TheVariants.{Ask, Over}
use Rattle.network.specs.Posts.{overs_in}

-- the receipts of a machine, in order, where the order names the machine of each receipt
abbrev pub receipts_of : (machine : ℕ) → List ℕ → List (Receipt Reply Wake) → List (Receipt Reply Wake)
receipts_of machine order receipts = items_of machine (zip order receipts)

-- where it is an Ask: it is of this machine exactly where it is of this sender
abbrev pub AsksAsOne : (machine sender : ℕ) → (ℕ × Post) → Type 0
AsksAsOne machine sender (number, Ask asking request setter) = (asking ≡ machine) ↔ (number ≡ sender)
AsksAsOne machine sender (number, Over over) = ⊤

-- in what was taken this machine asks by this sender alone, and the sender for this machine alone
abbrev pub AsksBy : (machine sender : ℕ) → List (ℕ × Post) → Type 0
AsksBy machine sender mails = All (AsksAsOne machine sender) mails

-- where it is an Ask, it is of this machine
abbrev pub AsksFor : (machine : ℕ) → Post → Type 0
AsksFor machine (Ask asking request setter) = asking ≡ machine
AsksFor machine (Over over) = ⊤

-- a machine beside the history of its sender: the sender asked for this machine alone
abbrev pub AsksForItsMachine : (ℕ × History Post) → Type 0
AsksForItsMachine seat = All (AsksFor seat.0) seat.1.posted

-- the last thing that the sender posted is an Over, and it posted no other
abbrev pub EndsWithItsOver : History Post → Type 0
EndsWithItsOver h = (asks : List Post) × (machine : ℕ) × (h.posted ≡ asks ++ Over machine ∷ []) × (overs_in asks ≡ 0)

-- all that the sender posted was taken, in its order
abbrev pub IsTakenWhole : List (ℕ × Post) → History Post → Type 0
IsTakenWhole taken h = items_of h.number taken ≡ h.posted
