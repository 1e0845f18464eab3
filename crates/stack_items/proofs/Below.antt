-- Items that lie below others.
use Rattle.std.proofs.Common.{◌≡◌, ℕ, zero, suc, ◌+◌, List, [], ◌∷◌, ◌++◌, drop, Option, Some, None, Ok, refl, sym, ap, ◌∙◌, subst, arith}
use Rattle.std.proofs.lemmas.List.{append_assoc}
use Rattle.fdb_tuple.specs.declared.tuple.Elem.{Elem}
use Rattle.model_machine.specs.declared.Item.{Item}
use Rattle.model_machine.specs.declared.ItemValue.{ItemValue}
use Rattle.model_machine.specs.declared.ItemValue.TheVariants as value
use Rattle.model_machine.specs.Operands.{◌>>=◌, Popped, left_of, known_by, fitting, operand_by, element_operand}
use Rattle.stack_items.specs.Items.{EndsIn}

pub EndsIn-refl : (items : List Item) → EndsIn items items
EndsIn-refl items = ([], refl)

pub EndsIn-below : (below : List Item) (item : Item) → EndsIn below (item ∷ below)
EndsIn-below below item = (item ∷ [], refl)

pub EndsIn-trans : (a b c : List Item) → EndsIn a b → EndsIn b c → EndsIn a c
EndsIn-trans a b c h k = (k.0 ++ h.0, k.1 ∙ ap (λ (below : List Item). k.0 ++ below) h.1 ∙ sym (append_assoc k.0 h.0 a))

-- where an item is on top of what so many leave, one more leaves what is below it
pub drop_next : (n : ℕ) (items : List Item) (top : Item) (below : List Item) → drop n items ≡ top ∷ below → drop (n + 1) items ≡ below
drop_next zero [] top below e = absurd cc
drop_next zero (item ∷ items) top below e = cc
drop_next (suc n) [] top below e = absurd cc
drop_next (suc n) (item ∷ items) top below e = let next : suc n + 1 ≡ suc (n + 1) = omega arith in rw next (drop_next n items top below e)

-- ---- what an operand leaves

fitting_leaves : {A : Type 0} (operand : Option A) (items below : List Item) (x : A) → fitting operand items ≡ Ok (x, below) → items ≡ below
fitting_leaves {A} (Some operand) items below x e = ap (λ (found : Popped A). left_of items found) e
fitting_leaves None items below x e = absurd cc

-- an operand of a kind leaves the items below it
known_leaves : {A : Type 0} (kind : Elem → Option A) (value : ItemValue) (number : ℕ) (items below : List Item) (x : A)
    → (known_by {A = Elem × ℕ} (λ element. (element, number)) value items >>= (λ top. fitting (kind top.0.0) top.1)) ≡ Ok (x, below) → items ≡ below
known_leaves kind (value.Known element) number items below x e = fitting_leaves (kind element) items below x e
known_leaves kind (value.Waits life) number items below x e = absurd cc

pub operand_leaves : {A : Type 0} (kind : Elem → Option A) (stack below : List Item) (x : A) → operand_by kind stack ≡ Ok (x, below) → EndsIn below stack
operand_leaves kind [] below x e = absurd cc
operand_leaves kind (item ∷ items) below x e =
    subst (λ left. EndsIn left (item ∷ items)) (known_leaves kind item.value item.instruction items below x e) (EndsIn-below items item)

-- and so does one of any kind
abbrev element_in : (Elem × ℕ) × List Item → Popped Elem
element_in top = Ok (top.0.0, top.1)

element_by_leaves : (value : ItemValue) (number : ℕ) (items below : List Item) (x : Elem)
    → (known_by {A = Elem × ℕ} (λ element. (element, number)) value items >>= (λ top. element_in top)) ≡ Ok (x, below) → items ≡ below
element_by_leaves (value.Known element) number items below x e = ap (λ (found : Popped Elem). left_of items found) e
element_by_leaves (value.Waits life) number items below x e = absurd cc

pub element_leaves : (stack below : List Item) (x : Elem) → element_operand stack ≡ Ok (x, below) → EndsIn below stack
element_leaves [] below x e = absurd cc
element_leaves (item ∷ items) below x e =
    subst (λ left. EndsIn left (item ∷ items)) (element_by_leaves item.value item.instruction items below x e) (EndsIn-below items item)
