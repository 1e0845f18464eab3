-- Ended machines whose senders were closed and whose waiters were settled.
use Rattle.std.specs.Prelude.{◌≡◌, ℕ, List, map, slice_get, Some, IsPermutation}
use Rattle.std.specs.List.{All}
use Rattle.fdb_calls.specs.declared.Reply.{Reply}
use Rattle.future_cell.specs.declared.setter.Receipt.{Receipt}
use Rattle.future_cell.specs.declared.wake.Wake.{Wake}
use Rattle.request_line.specs.Taking.{IsOfThese, TakesAfterSplit}
use Rattle.network.specs.declared.post.Post.{Post}
use Rattle.network.specs.Serving.{replies_of}
use Rattle.network.specs.Pairing.{receipts_of, AsksBy, IsTakenWhole}
use Rattle.suspended_machine.specs.declared.suspended.SuspendedMachine.{SuspendedMachine}
use Rattle.threaded_machine.specs.declared.threaded.ThreadedMachine.{ThreadedMachine}
use Rattle.threaded_machine.specs.Threaded.{history_of, machine_in, replies_to}

-- the machine of each number stands at that place
abbrev pub AreNumbered : List ThreadedMachine → Type 0
AreNumbered ended = (number : ℕ) (one : ThreadedMachine) → slice_get ended number ≡ Some one → (machine_in one).number ≡ number

-- In what was taken, each machine asks by its own sender alone, all that the sender posted was taken, and behind all that its
-- maker had posted when it was made.
abbrev pub IsTakenOf : List (ℕ × Post) → ThreadedMachine → Type 0
IsTakenOf taken one =
    AsksBy (machine_in one).number (history_of one).number taken × IsTakenWhole taken (history_of one) × TakesAfterSplit taken (history_of one)

-- what its waiters have shown are the replies that were set at its places of the order
abbrev pub IsSettledOf : List ℕ → List (Receipt Reply Wake) → ThreadedMachine → Type 0
IsSettledOf order receipts one = replies_of (receipts_of (machine_in one).number order receipts) ≡ replies_to one

-- All of these machines, by their numbers, were closed over what was taken, which is theirs alone, and settled against receipts in
-- this order; the suspended machines are theirs.
pub record AreSettled (ended : List ThreadedMachine) (taken : List (ℕ × Post)) (order : List ℕ) (receipts : List (Receipt Reply Wake))
    (suspended_machines : List SuspendedMachine) : Type 0 where
  pub numbered : List ThreadedMachine
  pub all_of_them : IsPermutation ended numbered
  pub by_number : AreNumbered numbered
  pub suspended_machines_are : map (λ (one : ThreadedMachine). one.suspended) numbered ≡ suspended_machines
  pub of_these : IsOfThese taken (map history_of numbered)
  pub are_taken : All (IsTakenOf taken) numbered
  pub are_settled : All (IsSettledOf order receipts) numbered
