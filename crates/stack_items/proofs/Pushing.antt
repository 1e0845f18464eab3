-- Pushing elements, one after the other.
use Rattle.std.proofs.Common.{◌≡◌, ℕ, List, [], ◌∷◌, ◌++◌, map, refl, sym, ap, ◌∙◌}
use Rattle.std.proofs.lemmas.List.{map_push}
use Rattle.fdb_tuple.specs.declared.tuple.Elem.{Elem}
use Rattle.model_machine.specs.declared.Item.{Item}
use Rattle.model_machine.specs.declared.ItemValue.TheVariants as value
use Rattle.model_machine.specs.StackOperations.{pushed}
use Rattle.stack_items.specs.Items.{EndsIn}
use Rattle.stack_items.proofs.Below.{EndsIn-refl, EndsIn-below, EndsIn-trans}

pub pushed-append : (number : ℕ) (xs ys : List Elem) (stack : List Item)
    → pushed number (xs ++ ys) stack ≡ pushed number ys (pushed number xs stack)
pushed-append number [] ys stack = refl
pushed-append number (x ∷ xs) ys stack = pushed-append number xs ys (record { value = value.Known x; instruction = number } ∷ stack)

-- what lies under pushed elements stands
pub pushed-EndsIn : (number : ℕ) (elements : List Elem) (stack : List Item) → EndsIn stack (pushed number elements stack)
pushed-EndsIn number [] stack = EndsIn-refl stack
pushed-EndsIn number (element ∷ elements) stack =
    EndsIn-trans stack (record { value = value.Known element; instruction = number } ∷ stack) (pushed number elements (record { value = value.Known element; instruction = number } ∷ stack))
    (EndsIn-below stack (record { value = value.Known element; instruction = number }))
    (pushed-EndsIn number elements (record { value = value.Known element; instruction = number } ∷ stack))

-- a loop's step: one more is pushed
pub pushed_more : {A : Type 0} (number : ℕ) (f : A → Elem) (xs : List A) (x : A) (stack now : List Item)
    → now ≡ pushed number (map f xs) stack
    → pushed number (f x ∷ []) now ≡ pushed number (map f (xs ++ x ∷ [])) stack
pushed_more number f xs x stack now e =
    ap (λ (below : List Item). pushed number (f x ∷ []) below) e ∙ sym (pushed-append number (map f xs) (f x ∷ []) stack)
    ∙ ap (λ (elements : List Elem). pushed number elements stack) (sym (map_push f xs x))
