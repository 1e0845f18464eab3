-- The calls that open a window, by how the last of them ended.
use Rattle.std.proofs.Common.{◌≡◌, ℕ, ◌+◌, Bool, true, List, ◌++◌, Result, Ok, Err, sym, subst, ◌∙◌}
use Rattle.model_database.specs.Histories.{Setting}
use Rattle.model_database.specs.Transactions.{Transaction, view}
use Rattle.fdb_calls.specs.declared.fault.TrFault.{TrFault}
use Rattle.model_allocator.specs.Acts.{Act, all_acted}
use Rattle.model_allocator.specs.Counters.{window}
use Rattle.model_allocator.specs.Granting.{counts, clears_below}
use Rattle.prefix_allocator.specs.Doing.{Done, fills_half, opens_behind, start_behind}
use Rattle.prefix_allocator.proofs.Calls.{Halves}
use Rattle.prefix_allocator.proofs.Steps.{more_done, stopped_done}

-- acts, and behind them those that depend on what was answered
pub after_done : {A B : Type 0} (good : A → Type 0) (other : B → Type 0) (value : A) (result : Result B TrFault) (setting : Setting)
    (first stands : Transaction → Type 0)
    (before behind : List Act) (t : Transaction) → Done good (Ok value) setting first before t
    → ((u : Transaction) → first u → Done other result setting stands behind u) → Done other result setting stands (before ++ behind) t
after_done good other value result setting first stands before behind t done others =
    more_done other result setting stands before behind t done.0 (others (all_acted setting before t).transaction done.2)

abbrev pub Opened : Setting → Transaction → (space : List ℕ) → (first start : ℕ) → Type 0
Opened setting t space first start = start ≡ start_behind (fills_half space (view setting t) first) first

abbrev pub opening : Setting → Transaction → (space : List ℕ) → (first : ℕ) → List Act
opening setting t space first = counts space first ++ opens_behind (fills_half space (view setting t) first) space first

pub count_fault : (f : TrFault) (setting : Setting) (t : Transaction) (space : List ℕ) (first : ℕ) (stands : Transaction → Type 0)
    → Done (Halves setting t space first) (Err f) setting stands (counts space first) t
    → Done (Opened setting t space first) (Err f) setting stands (opening setting t space first) t
count_fault f setting t space first stands done =
    stopped_done (Halves setting t space first) (Opened setting t space first) f setting stands (counts space first)
    (opens_behind (fills_half space (view setting t) first) space first) t done

-- one that is half full gives way to the one behind it
pub window_opened : (is_half : Bool) (result : Result ℕ TrFault) (setting : Setting) (t : Transaction) (space : List ℕ) (first : ℕ)
    (counted stands : Transaction → Type 0)
    → is_half ≡ true → Done (Halves setting t space first) (Ok is_half) setting counted (counts space first) t
    → ((u : Transaction) → counted u
    → Done (λ start. start ≡ first + window first) result setting stands
    (clears_below space (first + window first) ++ counts space (first + window first)) u)
    → Done (Opened setting t space first) result setting stands (opening setting t space first) t
window_opened is_half result setting t space first counted stands opens done others =
    let is : true ≡ fills_half space (view setting t) first = sym opens ∙ done.1 in
    after_done (Halves setting t space first) (Opened setting t space first) is_half result setting counted stands (counts space first)
    (opens_behind (fills_half space (view setting t) first) space first) t done
    (λ u stands_u. subst (λ (half : Bool). Done (λ start. start ≡ start_behind half first) result setting stands
    (opens_behind half space first) u) is
    (others u stands_u))
