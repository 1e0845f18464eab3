-- What leads on to a whole course: whoever makes the steps that are still to come has made those of the whole.
use Rattle.std.proofs.Common.{◌≡◌, Result, Ok, sym, subst}
use Rattle.model_database.specs.Histories.{Setting}
use Rattle.model_database.specs.Transactions.{Transaction}
use Rattle.directory_types.specs.declared.fault.DirFault.{DirFault}
use Rattle.model_directory.specs.Courses.{Course, ◌>>=◌}
use Rattle.directory_nodes.specs.Runs.{Follows}
use Rattle.directory_nodes.proofs.Following.{then_followed}

-- from what stood before to what stands now, where this is still to come
abbrev pub Leads : {S X : Type 0} → (stands : S → Setting → Transaction → Type 0) → (before now : S) → (whole rest : Course X) → Type 0
Leads {S = S} {X = X} stands before now whole rest =
    (result : Result X DirFault) (after : S) → Follows result (stands now) (stands after) rest
    → Follows result (stands before) (stands after) whole

-- the first part of what was still to come gave this value
pub leads_on : {S X Y : Type 0} (stands : S → Setting → Transaction → Type 0) (before now new : S) (whole rest : Course Y)
    (course : Course X)
    (next : X → Course Y) (value : X) → rest ≡ (course >>= next) → Follows (Ok value) (stands now) (stands new) course
    → Leads stands before now whole rest → Leads stands before new whole (next value)
leads_on stands before now new whole rest course next value is first leads result after drew =
    leads result after (subst (λ rest. Follows result (stands now) (stands after) rest) (sym is)
    (then_followed value result (stands now) (stands new) (stands after) course next first drew))
