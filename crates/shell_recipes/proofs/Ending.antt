-- What was printed of a layer's answer is what is printed of the call.
use Rattle.std.proofs.Common.{◌≡◌, ℕ, true, false, List, ◌++◌, Option, Some, None, Result, Ok, Err, refl, sym, ap, ◌∙◌}
use Rattle.std.specs.Prelude.{IfOk, decimal}
use Rattle.std.specs.declared.alloc.AllocError.{AllocError}
use Rattle.model_database.specs.declared.Code.{Code}
use Rattle.model_database.specs.Histories.{Setting}
use Rattle.model_database.specs.Transactions.{Transaction}
use Rattle.model_allocator.specs.Acts.{Acted, all_acted}
use Rattle.model_recipes.specs.declared.fault.RecipeFault.{RecipeFault}
use Rattle.model_recipes.specs.declared.fault.RecipeFault.TheVariants as fault
use Rattle.model_recipes.specs.Turns.{Turn, Call, acts, ending, IsAnswered, EndsIn}
use Rattle.model_shell.specs.Requests.{error_line}
use Rattle.model_shell.specs.Recipes.{fault_text}
use Rattle.shell_recipes.specs.declared.calls.End.{End}
use Rattle.shell_recipes.specs.Running.{is_refused, Finishes, text_of, is_stopped, Ends}

module _ {X : Type 0} (said : X → List ℕ) where
  -- a call ended with its reply
  replied : (refused : Option Code) (turn : Result (Turn X) RecipeFault) (reply : X) → refused ≡ None → ending turn ≡ Ok reply
      → (is_stopped refused turn ≡ false) × (text_of said refused turn ≡ said reply)
  replied (Some code) turn reply none is = absurd cc
  replied None (Ok turn) reply none is = let same : turn.reply ≡ reply = cc in (refl, ap said same)
  replied None (Err fault) reply none is = absurd cc

  -- with a fault of its own
  faulted : (refused : Option Code) (turn : Result (Turn X) RecipeFault) (its : RecipeFault) → refused ≡ None → ending turn ≡ Err its
      → (is_stopped refused turn ≡ true) × (text_of said refused turn ≡ error_line (fault_text its))
  faulted (Some code) turn its none is = absurd cc
  faulted None (Ok turn) its none is = absurd cc
  faulted None (Err fault) its none is = let same : fault ≡ its = cc in (refl, ap (λ (f : RecipeFault). error_line (fault_text f)) same)

  -- one of its reads and writes was refused
  stopped : (refused : Option Code) (turn : Result (Turn X) RecipeFault) (code : Code) → refused ≡ Some code
      → (is_stopped refused turn ≡ true) × (text_of said refused turn ≡ error_line (decimal code.0))
  stopped None turn code is = absurd cc
  stopped (Some its) turn code is = let same : its ≡ code = cc in (refl, ap (λ (c : Code). error_line (decimal c.0)) same)

  module _ (setting : Setting) (stands : Transaction → Type 0) (layer_call : Call X) (t : Transaction) (before after : List ℕ) (end : End) where
    abbrev acted : Acted
    acted = all_acted setting (acts layer_call) t

    own_fault : (its : RecipeFault) → EndsIn (Err its) stands layer_call acted → is_refused end ≡ true
        → after ≡ before ++ error_line (fault_text its) → Ends end said setting stands layer_call t before after
    own_fault its h refused text =
        let told = faulted acted.refused layer_call.turn its h.0 h.1 in
        record { is = refused ∙ sym told.0; text = text ∙ ap (λ (x : List ℕ). before ++ x) (sym told.1); left = h.2 }

    pub ends_by : (answer : Result X RecipeFault) → IsAnswered answer setting stands layer_call t → Finishes said answer end before after
        → Ends end said setting stands layer_call t before after
    ends_by (Ok reply) h f =
        let told = replied acted.refused layer_call.turn reply h.0 h.1 in
        record { is = f.0 ∙ sym told.0; text = f.1 ∙ ap (λ (x : List ℕ). before ++ x) (sym told.1); left = h.2 }
    ends_by (Err (fault.BadKey key)) h f = own_fault (fault.BadKey key) h f.0 f.1
    ends_by (Err fault.IndexEnd) h f = own_fault fault.IndexEnd h f.0 f.1
    ends_by (Err (fault.PastEnd size)) h f = own_fault (fault.PastEnd size) h f.0 f.1
    ends_by (Err (fault.Tr code)) h f =
        let told = stopped acted.refused layer_call.turn code h.0 in
        record { is = f.0 ∙ sym told.0; text = f.1 ∙ ap (λ (x : List ℕ). before ++ x) (sym told.1); left = h.1 }
    ends_by (Err fault.NoMemory) h f = absurd f

-- the same of what a call returned
pub ends : {X : Type 0} (said : X → List ℕ) (setting : Setting) (stands : Transaction → Type 0) (layer_call : Call X) (t : Transaction)
    (before after : List ℕ) (answer : Result X RecipeFault) (result : Result End AllocError) → IsAnswered answer setting stands layer_call t
    → IfOk result (λ end. Finishes said answer end before after)
    → IfOk result (λ end. Ends end said setting stands layer_call t before after)
ends said setting stands layer_call t before after answer (Ok end) h f = ends_by said setting stands layer_call t before after end answer h f
ends said setting stands layer_call t before after answer (Err fault) h f = tt
