-- Items that wait, seen from the oldest on, and the item that is decided.
use Rattle.std.proofs.Common.{◌≡◌, ℕ, zero, suc, ◌<◌, List, [], ◌∷◌, ◌++◌, length, take, reverse, get_or, set, Option, Some, None, refl, sym, ap, ◌∙◌, arith}
use Rattle.std.specs.Prelude.{slice_get, unwrap_or, IfSome}
use Rattle.std.proofs.lemmas.List.{length-reverse, reverse-append, reverse-reverse, take_at}
use Rattle.fdb_tuple.specs.declared.tuple.Elem.{Elem}
use Rattle.model_machine.specs.declared.Item.{Item}
use Rattle.model_machine.specs.declared.ItemValue.{ItemValue}
use Rattle.model_machine.specs.declared.ItemValue.TheVariants as value
use Rattle.model_machine.specs.Machines.{known_or, with_known, below_waiting}
use Rattle.stack_items.specs.Items.{IsWaiting, place_by, waiting_place, known_at}

-- a stack with its items from the oldest on
pub reverse-top : (item : Item) (below : List Item) → reverse (item ∷ below) ≡ reverse below ++ item ∷ []
reverse-top item below = reverse-append (item ∷ []) below

-- ---- the item at a place

known_at-below : (place : ℕ) (element : Elem) (items others : List Item) → place < length items
    → known_at place element (items ++ others) ≡ known_at place element items ++ others
known_at-below place element [] others lt = absurd (omega arith)
known_at-below zero element (item ∷ items) others lt = refl
known_at-below (suc place) element (item ∷ items) others lt = ap (λ (rest : List Item). item ∷ rest) (known_at-below place element items others (omega arith))

known_at-behind : (place : ℕ) (element : Elem) (items : List Item) (item : Item) → place ≡ length items
    → known_at place element (items ++ item ∷ []) ≡ items ++ record item { value = value.Known element } ∷ []
known_at-behind zero element [] item e = refl
known_at-behind zero element (first ∷ items) item e = absurd (omega arith)
known_at-behind (suc place) element [] item e = absurd (omega arith)
known_at-behind (suc place) element (first ∷ items) item e = ap (λ (rest : List Item). first ∷ rest) (known_at-behind place element items item (omega arith))

-- what is written at a place
pub known_at-set : (place : ℕ) (element : Elem) (items : List Item) (item : Item) → item ≡ get_or items place item
    → set items place (record item { value = value.Known element }) ≡ known_at place element items
known_at-set place element [] item e = refl
known_at-set zero element (first ∷ items) item e = ap (λ (found : Item). record found { value = value.Known element } ∷ items) e
known_at-set (suc place) element (first ∷ items) item e = ap (λ (rest : List Item). first ∷ rest) (known_at-set place element items item e)

-- ---- the uppermost item that waits

slice_get-before : (items others : List Item) (place : ℕ) → place < length items → slice_get (items ++ others) place ≡ slice_get items place
slice_get-before [] others place lt = absurd (omega arith)
slice_get-before (item ∷ items) others zero lt = refl
slice_get-before (item ∷ items) others (suc place) lt = slice_get-before items others place (omega arith)

slice_get-behind : (items : List Item) (item : Item) (place : ℕ) → place ≡ length items → slice_get (items ++ item ∷ []) place ≡ Some item
slice_get-behind [] item zero e = refl
slice_get-behind [] item (suc place) e = absurd (omega arith)
slice_get-behind (first ∷ items) item zero e = absurd (omega arith)
slice_get-behind (first ∷ items) item (suc place) e = slice_get-behind items item place (omega arith)

take_before : (items others : List Item) (place : ℕ) → place < length items → take place (items ++ others) ≡ take place items
take_before [] others place lt = absurd (omega arith)
take_before (item ∷ items) others zero lt = refl
take_before (item ∷ items) others (suc place) lt = ap (λ (rest : List Item). item ∷ rest) (take_before items others place (omega arith))

-- its place is one of the stack's
within_by : (v : ItemValue) (below : List Item) (place : ℕ) → (waiting_place below ≡ Some place → place < length below)
    → place_by v (length below) (waiting_place below) ≡ Some place → place < suc (length below)
within_by (value.Known element) below place later e = omega (arith, later e)
within_by (value.Waits life) below place later e = let same : length below ≡ place = cc in omega arith

waiting_within : (stack : List Item) (place : ℕ) → waiting_place stack ≡ Some place → place < length stack
waiting_within [] place e = absurd cc
waiting_within (item ∷ below) place e = within_by item.value below place (waiting_within below place) e

-- the item there waits
there_by : (v : ItemValue) (item : Item) (below : List Item) (place : ℕ) → item.value ≡ v
    → (waiting_place below ≡ Some place → IfSome (slice_get (reverse below) place) IsWaiting)
    → place_by v (length below) (waiting_place below) ≡ Some place → IfSome (slice_get (reverse (item ∷ below)) place) IsWaiting
there_by (value.Known element) item below place is later e =
    rw (reverse-top item below, slice_get-before (reverse below) (item ∷ []) place (omega (arith, length-reverse below, waiting_within below place e))) (later e)
there_by (value.Waits life) item below place is later e =
    let same : length below ≡ place = cc in
    rw (reverse-top item below, slice_get-behind (reverse below) item place (omega (arith, length-reverse below)), is) (λ known. known)

waiting_there : (stack : List Item) (place : ℕ) → waiting_place stack ≡ Some place → IfSome (slice_get (reverse stack) place) IsWaiting
waiting_there [] place e = absurd cc
waiting_there (item ∷ below) place e = there_by item.value item below place refl (waiting_there below place) e

-- where there is one
pub place_within : (found : Option ℕ) (stack : List Item) → found ≡ waiting_place stack → IfSome found (λ place. place < length stack)
place_within None stack is = tt
place_within (Some place) stack is = waiting_within stack place (sym is)

pub place_waits : (found : Option ℕ) (stack : List Item) → found ≡ waiting_place stack
    → IfSome found (λ place. IfSome (slice_get (reverse stack) place) IsWaiting)
place_waits None stack is = tt
place_waits (Some place) stack is = waiting_there stack place (sym is)

-- it is decided
decided_by : (v : ItemValue) (element : Elem) (item : Item) (below : List Item) (place : ℕ)
    → (waiting_place below ≡ Some place → reverse (with_known element below) ≡ known_at place element (reverse below))
    → place_by v (length below) (waiting_place below) ≡ Some place
    → reverse (known_or v (record item { value = value.Known element } ∷ below) (item ∷ with_known element below)) ≡ known_at place element (reverse (item ∷ below))
decided_by (value.Known known) element item below place later e =
    reverse-top item (with_known element below) ∙ ap (λ (items : List Item). items ++ item ∷ []) (later e)
    ∙ sym (known_at-below place element (reverse below) (item ∷ []) (omega (arith, length-reverse below, waiting_within below place e)))
    ∙ ap (known_at place element) (sym (reverse-top item below))
decided_by (value.Waits life) element item below place later e =
    let same : length below ≡ place = cc in
    reverse-top (record item { value = value.Known element }) below
    ∙ sym (known_at-behind place element (reverse below) item (omega (arith, length-reverse below)))
    ∙ ap (known_at place element) (sym (reverse-top item below))

pub decided : (element : Elem) (stack : List Item) (place : ℕ) → waiting_place stack ≡ Some place
    → reverse (with_known element stack) ≡ known_at place element (reverse stack)
decided element [] place e = absurd cc
decided element (item ∷ below) place e = decided_by item.value element item below place (decided element below place) e

-- the items below it
below_by : (v : ItemValue) (item : Item) (below : List Item) (place : ℕ)
    → (waiting_place below ≡ Some place → reverse (below_waiting below) ≡ take place (reverse below))
    → place_by v (length below) (waiting_place below) ≡ Some place
    → reverse (known_or v below (below_waiting below)) ≡ take place (reverse (item ∷ below))
below_by (value.Known element) item below place later e =
    later e ∙ sym (take_before (reverse below) (item ∷ []) place (omega (arith, length-reverse below, waiting_within below place e)))
    ∙ ap (take place) (sym (reverse-top item below))
below_by (value.Waits life) item below place later e =
    let same : length below ≡ place = cc in
    sym (take_at (reverse below) (item ∷ []) place (omega (arith, length-reverse below))) ∙ ap (take place) (sym (reverse-top item below))

pub below_decided : (stack : List Item) (place : ℕ) → waiting_place stack ≡ Some place → reverse (below_waiting stack) ≡ take place (reverse stack)
below_decided [] place e = absurd cc
below_decided (item ∷ below) place e = below_by item.value item below place (below_decided below place) e

-- ---- none waits

none_by : (v : ItemValue) (element : Elem) (item : Item) (below : List Item) → (waiting_place below ≡ None → with_known element below ≡ below)
    → place_by v (length below) (waiting_place below) ≡ None
    → known_or v (record item { value = value.Known element } ∷ below) (item ∷ with_known element below) ≡ item ∷ below
none_by (value.Known known) element item below later e = ap (λ (rest : List Item). item ∷ rest) (later e)
none_by (value.Waits life) element item below later e = absurd cc

pub none_decided : (element : Elem) (stack : List Item) → waiting_place stack ≡ None → with_known element stack ≡ stack
none_decided element [] e = refl
none_decided element (item ∷ below) e = none_by item.value element item below (none_decided element below) e

none_below_by : (v : ItemValue) (below : List Item) → (waiting_place below ≡ None → below_waiting below ≡ [])
    → place_by v (length below) (waiting_place below) ≡ None → known_or v below (below_waiting below) ≡ []
none_below_by (value.Known known) below later e = later e
none_below_by (value.Waits life) below later e = absurd cc

pub none_below : (stack : List Item) → waiting_place stack ≡ None → below_waiting stack ≡ []
none_below [] e = refl
none_below (item ∷ below) e = none_below_by item.value below (none_below below) e

-- what is kept of a stack, by the place of the uppermost item that waits
pub kept_below : (found : Option ℕ) (stack kept : List Item) → waiting_place stack ≡ found
    → reverse kept ≡ take (unwrap_or found 0) (reverse stack) → kept ≡ below_waiting stack
kept_below None stack kept is e = sym (reverse-reverse kept) ∙ ap reverse e ∙ sym (none_below stack is)
kept_below (Some place) stack kept is e =
    sym (reverse-reverse kept) ∙ ap reverse (e ∙ sym (below_decided stack place is)) ∙ reverse-reverse (below_waiting stack)
