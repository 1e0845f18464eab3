-- What each act and each note of a granted number keep, a call of the allocator keeps.
use Rattle.std.proofs.Common.{ℕ, List, [], ◌∷◌, Option, Some, None, length}
use Rattle.model_database.specs.declared.Code.{Code}
use Rattle.model_database.specs.Histories.{Setting}
use Rattle.model_database.specs.Transactions.{Transaction, view, with_granted}
use Rattle.model_allocator.specs.Acts.{Act, Acted, act_called, all_acted}
use Rattle.model_allocator.specs.Granting.{Ending, Grants, IsFull, IsNoCounter, IsRefused, noted, ended, plan, allocated}
use Rattle.model_allocator.proofs.Acting.{Keep, all_keep}

-- it is kept by each act
abbrev pub EachKeeps : Setting → (P : Transaction → Type 0) → Type 0
EachKeeps setting P = (t : Transaction) (act : Act) → P t → P (act_called setting t act).transaction

-- and by each note of a number
abbrev pub NotesKeep : (P : Transaction → Type 0) → Type 0
NotesKeep P = (t : Transaction) (space : List ℕ) (number from : ℕ) → P t → P (with_granted t space number from)

all_of : (setting : Setting) (P : Transaction → Type 0) (acts : List Act) → EachKeeps setting P → Keep setting P acts
all_of setting P [] each = tt
all_of setting P (act ∷ acts) each = (λ t p. each t act p, all_of setting P acts each)

noted_keeps : (P : Transaction → Type 0) (space : List ℕ) (from : ℕ) (ending : Ending) (t : Transaction) → NotesKeep P → P t
    → P (noted t space from ending)
noted_keeps P space from (Grants number) t notes p = notes t space number from p
noted_keeps P space from (IsFull start) t notes p = p
noted_keeps P space from (IsNoCounter key) t notes p = p
noted_keeps P space from (IsRefused code) t notes p = p

ended_keeps : (P : Transaction → Type 0) (space : List ℕ) (from : ℕ) (ending : Ending) (acted : Acted) (refused : Option Code) → NotesKeep P
    → P acted.transaction → P (ended space from ending acted refused).transaction
ended_keeps P space from ending acted (Some code) notes p = p
ended_keeps P space from ending acted None notes p = noted_keeps P space from ending acted.transaction notes p

pub allocated_keeps : (setting : Setting) (P : Transaction → Type 0) (t : Transaction) (space : List ℕ) (words : ℕ → ℕ) → EachKeeps setting P
    → NotesKeep P → P t → P (allocated setting t space words).transaction
unfolding allocated
allocated_keeps setting P t space words each notes p =
    let planned = plan space (view setting t) words in
    let acted = all_acted setting planned.acts t in
    ended_keeps P space (length t.script) planned.ending acted acted.refused notes (all_keep setting P planned.acts (all_of setting P planned.acts each) t p)
