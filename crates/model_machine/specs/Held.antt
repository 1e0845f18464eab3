-- What a law holds of a world: of its history, of each of its commits among those before it, and of each open transaction.
use Rattle.std.specs.Prelude.{◌≡◌, ℕ, ⊤, List, [], ◌∷◌, ◌++◌, Some}
use Rattle.std.specs.FinMap as finite
use Rattle.model_database.specs.Histories.{Commit, History}
use Rattle.model_database.specs.Transactions.{Transaction}
use Rattle.model_machine.specs.Worlds.{World, Transactions}

-- it holds of each of these commits, where such commits came before them
abbrev pub AreEach : (History → Commit → Type 0) → (before : History) → List Commit → Type 0
AreEach IsSound before [] = ⊤
AreEach IsSound before (commit ∷ commits) = IsSound before commit × AreEach IsSound (before ++ commit ∷ []) commits

-- it is held of each named transaction among these commits
abbrev pub AreHeld : (History → Transaction → Type 0) → History → Transactions → Type 0
AreHeld IsHeld history transactions =
    (name : List ℕ) (transaction : Transaction) → finite.get transactions name ≡ Some transaction → IsHeld history transaction

-- it holds of the history of a world, and is held of its open transactions
pub record HoldsIn (IsGrown : History → Type 0) (IsHeld : History → Transaction → Type 0) (world : World) : Type 0 where
  pub grown : IsGrown world.setting.history
  pub held : AreHeld IsHeld world.setting.history world.transactions
