-- What the items of a stack are.
use Rattle.std.specs.Prelude.{◌≡◌, ℕ, zero, suc, List, [], ◌∷◌, ◌++◌, length, Option, Some, None}
use Rattle.std.specs.List.{AllByRecursion}
use Rattle.fdb_tuple.specs.declared.tuple.Elem.{Elem}
use Rattle.fdb_tuple.specs.Listed.{IsElement}
use Rattle.model_machine.specs.declared.Item.{Item}
use Rattle.model_machine.specs.declared.ItemValue.{ItemValue}
use Rattle.model_machine.specs.declared.ItemValue.TheVariants as value

-- an element of some tuple, whatever pushed it, or no element yet
abbrev pub IsItemValue : ItemValue → Type 0
IsItemValue (value.Known element) = IsElement element
IsItemValue (value.Waits life) = Unit {0}

abbrev pub IsItem : Item → Type 0
IsItem item = IsItemValue item.value

abbrev pub AreItems : List Item → Type 0
AreItems items = AllByRecursion IsItem items

-- it is known
abbrev pub IsKnown : ItemValue → Type 0
IsKnown (value.Known element) = Unit {0}
IsKnown (value.Waits life) = ⊥

-- an item waits
abbrev pub IsWaiting : Item → Type 0
IsWaiting item = ¬ (IsKnown item.value)

-- a list ends in another
abbrev pub EndsIn : List Item → List Item → Type 0
EndsIn below items = (above : List Item) × (items ≡ above ++ below)

-- ---- items that wait

-- the place of an item, where one that is known leaves it to those below
abbrev pub place_by : ItemValue → ℕ → Option ℕ → Option ℕ
place_by (value.Known element) place below = below
place_by (value.Waits life) place below = Some place

-- the place of the uppermost item that waits, the oldest at 0
abbrev pub waiting_place : List Item → Option ℕ
waiting_place [] = None
waiting_place (item ∷ below) = place_by item.value (length below) (waiting_place below)

-- the item at this place is this element from then on, with its number
abbrev pub known_at : ℕ → Elem → List Item → List Item
known_at place element [] = []
known_at zero element (item ∷ others) = record item { value = value.Known element } ∷ others
known_at (suc place) element (item ∷ others) = item ∷ known_at place element others
