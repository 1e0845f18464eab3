-- So many operands, one after the other.
use Rattle.std.proofs.Common.{◌≡◌, ℕ, zero, suc, ◌+◌, ◌-◌, ◌<◌, ◌≤◌, List, [], ◌∷◌, ◌++◌, Ok, Err, IsOk, refl, sym, ap, ◌∙◌, arith}
use Rattle.std.proofs.lemmas.List.{append-nil, append_assoc}
use Rattle.fdb_tuple.specs.declared.tuple.Elem.{Elem}
use Rattle.model_machine.specs.declared.Item.{Item}
use Rattle.model_machine.specs.Operands.{Refusal, Missing, Unfit, Waiting, ◌>>=◌, Popped, left_of, item_operand, element_operand, operands_by}
use Rattle.stack_items.specs.declared.fault.StackFault.{StackFault}
use Rattle.stack_items.specs.declared.fault.StackFault.TheVariants as fault
use Rattle.stack_items.specs.Items.{EndsIn}
use Rattle.stack_items.specs.Looks.{RefusesOnly}
use Rattle.stack_items.specs.Pops.{Pops}
use Rattle.stack_items.proofs.Below.{EndsIn-refl, EndsIn-trans}

-- what is found after these operands, with them
abbrev pub after : {A : Type 0} → List A → Popped (List A) → Popped (List A)
after firsts (Ok others) = Ok (firsts ++ others.0, others.1)
after firsts (Err refusal) = Err refusal

-- an operand, before those that are found after it
abbrev with_others : {A : Type 0} → (List Item → Popped (List A)) → Popped A → Popped (List A)
with_others onward first = first >>= (λ found. onward found.1 >>= (λ others. Ok (found.0 ∷ others.0, others.1)))

after-nil : {A : Type 0} (others : Popped (List A)) → after [] others ≡ others
after-nil (Ok others) = refl
after-nil (Err refusal) = refl

after-push : {A : Type 0} (firsts : List A) (x : A) (others : Popped (List A))
    → after firsts (others >>= (λ found. Ok (x ∷ found.0, found.1))) ≡ after (firsts ++ x ∷ []) others
after-push {A} firsts x (Ok others) = ap (λ (all : List A). Ok (all, others.1)) (sym (append_assoc firsts (x ∷ []) others.0))
after-push firsts x (Err refusal) = refl

-- so many operands, after those that were found
abbrev pub operands_after : {A : Type 0} → (List Item → Popped A) → List A → ℕ → List Item → Popped (List A)
operands_after operand firsts count stack = after firsts (operands_by operand count stack)

one_fewer : {A : Type 0} (operand : List Item → Popped A) (firsts : List A) (count i : ℕ) (stack : List Item) → i < count
    → operands_after operand firsts (count - i) stack ≡ operands_after operand firsts (suc (count - (i + 1))) stack
one_fewer operand firsts count i stack lt = ap (λ (left : ℕ). operands_after operand firsts left stack) (omega arith)

first_found : {A : Type 0} (operand : List Item → Popped A) (firsts : List A) (count : ℕ) (stack : List Item) (first : Popped A) → operand stack ≡ first
    → operands_after operand firsts (suc count) stack ≡ after firsts (with_others (operands_by operand count) first)
unfolding operands_by
first_found {A} operand firsts count stack first e = ap (λ (found : Popped A). after firsts (with_others (operands_by operand count) found)) e

-- a loop's start, step and end, with i of them found
pub after_none : {A : Type 0} (operand : List Item → Popped A) (count : ℕ) (stack : List Item)
    → operands_by operand count stack ≡ operands_after operand [] (count - 0) stack
after_none operand count stack =
    let all : count - 0 ≡ count = omega arith in
    rw all (sym (after-nil (operands_by operand count stack)))

pub after_more : {A : Type 0} (operand : List Item → Popped A) (firsts : List A) (count i : ℕ) (stack below : List Item) (x : A) → i < count
    → operand stack ≡ Ok (x, below)
    → operands_after operand firsts (count - i) stack ≡ operands_after operand (firsts ++ x ∷ []) (count - (i + 1)) below
after_more operand firsts count i stack below x lt e =
    one_fewer operand firsts count i stack lt ∙ first_found operand firsts (count - (i + 1)) stack (Ok (x, below)) e
    ∙ after-push firsts x (operands_by operand (count - (i + 1)) below)

pub after_all : {A : Type 0} (operand : List Item → Popped A) (firsts : List A) (count i : ℕ) (stack : List Item) → count ≤ i
    → operands_after operand firsts (count - i) stack ≡ Ok (firsts, stack)
unfolding operands_by
after_all {A} operand firsts count i stack le =
    let none : count - i ≡ 0 = omega arith in
    rw none (ap (λ (all : List A). Ok (all, stack)) (append-nil firsts))

-- the refusal of one is that of them all
pub after_refused : {A : Type 0} (operand : List Item → Popped A) (firsts : List A) (count i : ℕ) (stack : List Item) (refusal : Refusal) → i < count
    → operand stack ≡ Err refusal → operands_after operand firsts (count - i) stack ≡ Err refusal
after_refused operand firsts count i stack refusal lt e =
    one_fewer operand firsts count i stack lt ∙ first_found operand firsts (count - (i + 1)) stack (Err refusal) e

-- ---- what is left

abbrev with_first : {A : Type 0} → A → List A × List Item → Popped (List A)
with_first x others = Ok (x ∷ others.0, others.1)

others_leave : {A : Type 0} (x : A) (others : Popped (List A)) (all : List A) (end : List Item)
    → (others >>= with_first x) ≡ Ok (all, end) → (rest : List A) × (others ≡ Ok (rest, end))
others_leave {A} x (Ok others) all end e = (others.0, ap (λ (left : List Item). Ok (others.0, left)) (ap (λ (found : Popped (List A)). left_of end found) e))
others_leave x (Err refusal) all end e = absurd cc

-- where each leaves the items below it, so do they all
module _ {A : Type 0} (operand : List Item → Popped A) (each : (stack below : List Item) (x : A) → operand stack ≡ Ok (x, below) → EndsIn below stack) where
  pub operands_leave : (count : ℕ) (stack end : List Item) (all : List A) → operands_by operand count stack ≡ Ok (all, end) → EndsIn end stack
  unfolding operands_by
  operands_leave zero stack end all e = let same : stack ≡ end = ap (λ (found : Popped (List A)). left_of stack found) e in rw same (EndsIn-refl end)
  operands_leave (suc count) stack end all e = by (operand stack) refl (λ (next : List Item) (rest : List A). operands_leave count next end rest) e
    where
      by : (first : Popped A) → operand stack ≡ first
          → ((next : List Item) (rest : List A) → operands_by operand count next ≡ Ok (rest, end) → EndsIn end next)
          → with_others (operands_by operand count) first ≡ Ok (all, end) → EndsIn end stack
      by (Ok found) is later e =
          let rest = others_leave found.0 (operands_by operand count found.1) all end e in
          EndsIn-trans end found.1 stack (later found.1 rest.0 rest.1) (each stack found.1 found.0 is)
      by (Err refusal) is later e = absurd cc

  -- and so those that are left
  after_leave : (firsts : List A) (others : Popped (List A)) (stack end : List Item) (all : List A)
      → ((rest : List A) → others ≡ Ok (rest, end) → EndsIn end stack) → after firsts others ≡ Ok (all, end) → EndsIn end stack
  after_leave firsts (Ok others) stack end all below e =
      below others.0 (ap (λ (left : List Item). Ok (others.0, left)) (ap (λ (found : Popped (List A)). left_of end found) e))
  after_leave firsts (Err refusal) stack end all below e = absurd cc

  pub left_below : (said : Popped (List A)) (firsts : List A) (count : ℕ) (stack old : List Item) → IsOk said
      → said ≡ operands_after operand firsts count stack → EndsIn (left_of old said) stack
  left_below (Ok found) firsts count stack old ok e =
      after_leave firsts (operands_by operand count stack) stack found.1 found.0 (operands_leave count stack found.1) (sym e)
  left_below (Err refusal) firsts count stack old ok e = absurd cc

-- ---- refusals

-- the refusal of one is that of them all
pub refused_after : {A : Type 0} (operand : List Item → Popped A) (why : StackFault) (firsts : List A) (count i : ℕ) (stack left : List Item) → i < count
    → RefusesOnly why (operand stack) left → RefusesOnly why (operands_after operand firsts (count - i) stack) left
refused_after operand fault.Underflow firsts count i stack left lt e = after_refused operand firsts count i stack (Missing left) lt e
refused_after operand fault.Operand firsts count i stack left lt e = after_refused operand firsts count i stack (Unfit left) lt e
refused_after operand (fault.Waits life) firsts count i stack left lt e = after_refused operand firsts count i stack (Waiting life) lt e
refused_after operand fault.NoMemory firsts count i stack left lt e = absurd e

err_not_ok : {A : Type 0} (said : Popped A) (refusal : Refusal) → said ≡ Err refusal → IsOk said → ⊥
err_not_ok (Ok found) refusal e ok = absurd cc
err_not_ok (Err why) refusal e ok = absurd cc

-- where they are all there, none is refused
none_refused : {A : Type 0} (operand : List Item → Popped A) (said : Popped (List A)) (firsts : List A) (count i : ℕ) (stack : List Item) (refusal : Refusal)
    → i < count → IsOk said → said ≡ operands_after operand firsts (count - i) stack → operand stack ≡ Err refusal → ⊥
none_refused operand said firsts count i stack refusal lt ok e is =
    err_not_ok said refusal (e ∙ after_refused operand firsts count i stack refusal lt is) ok

pub never_refused : {X A : Type 0} (view : X → A) (operand : List Item → Popped A) (why : StackFault) (said : Popped (List A)) (firsts : List A) (count i : ℕ)
    (stack left : List Item) → i < count → IsOk said → said ≡ operands_after operand firsts (count - i) stack → Pops view (Err why) (operand stack) stack left → ⊥
never_refused view operand fault.Underflow said firsts count i stack left lt ok e is = none_refused operand said firsts count i stack (Missing left) lt ok e is
never_refused view operand fault.Operand said firsts count i stack left lt ok e is = none_refused operand said firsts count i stack (Unfit left) lt ok e is
never_refused view operand (fault.Waits life) said firsts count i stack left lt ok e is = none_refused operand said firsts count i stack (Waiting life) lt ok e is.0
never_refused view operand fault.NoMemory said firsts count i stack left lt ok e is = absurd is

abbrev pub element_of_item : Popped (Elem × ℕ) → Popped Elem
element_of_item item = item >>= (λ top. Ok (top.0.0, top.1))

-- an item is refused as an element
pub element_refused : (why : StackFault) (stack left : List Item) → Pops {X = Elem × ℕ} (λ item. item) (Err why) (item_operand stack) stack left
    → Pops {X = Elem} (λ element. element) (Err why) (element_operand stack) stack left
element_refused fault.Underflow stack left e = ap element_of_item e
element_refused fault.Operand stack left e = ap element_of_item e
element_refused (fault.Waits life) stack left e = (ap element_of_item e.0, e.1)
element_refused fault.NoMemory stack left e = absurd e
