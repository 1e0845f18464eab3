use Rattle.std.proofs.Common.{◌≡◌, ◌∙◌, ◌-◌, ℕ, length, sym, ap, subst}
use Rattle.fdb_wire.specs.Reading.{request_of}
use Rattle.fdb_wire.specs.Refusals.{IsStray}
use Rattle.fdb_wire.proofs.RowLaws.{request_found, request_again, request_stray}
use Rattle.fdb_wire.proofs.reading.request_in.Goals as goal

pub returns-in-Ok-clause-found : goal.returns-in-Ok-clause-found
returns-in-Ok-clause-found c =
    let found = request_found c.as_slice-elements.result.now c.in-Ok.request c.in-Ok.ensures in
    (found.0, sym c.as_slice-elements.ensures.elements ∙ found.1)

pub returns-in-Ok-clause-only : goal.returns-in-Ok-clause-only
returns-in-Ok-clause-only c = λ request is e.
    let again = ap request_of (c.as_slice-elements.ensures.elements ∙ e) ∙ request_again request is in
    cc (again, c.in-Ok.ensures)

pub returns-in-Err-Stray-clause-only : goal.returns-in-Err-Stray-clause-only
returns-in-Err-Stray-clause-only c = λ request is e.
    let again = ap request_of (c.as_slice-elements.ensures.elements ∙ e) ∙ request_again request is in
    let left = rw c.in-Err-Stray.field-0-is at c.in-Err-Stray.ensures in
    absurd cc

pub returns-in-Err-Stray-clause-refused : goal.returns-in-Err-Stray-clause-refused
returns-in-Err-Stray-clause-refused c = λ ne.
    let left = rw c.in-Err-Stray.field-0-is at c.in-Err-Stray.ensures in
    let stray = request_stray c.as_slice-elements.result.now c.in-Err-Stray.left left in
    rw (c.saturating_sub.ensures, ← c.as_slice-elements.ensures.elements) stray
