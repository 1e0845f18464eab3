use Rattle.std.proofs.Common.{◌≡◌, ◌-◌, suc, sym, ap, subst, ◌∙◌, arith}
use Rattle.std.specs.List.{remove}
use Rattle.std.specs.BTreeMap.{is_at}
use Rattle.key_bytes.specs.Keys.{key_cmp}
use Rattle.range_map.proofs.Held.{IsRising}
use Rattle.range_map.proofs.Lined.{boundary_counted, removed, removed_none, rising_removed}
use Rattle.range_map.proofs.row.Row.remove_boundary.Goals as goal

pub overflow_sub-up_to : goal.overflow_sub-up_to
overflow_sub-up_to g c =
    let spot = c.spot-up_to in
    boundary_counted c.args.key.now c.args.self.now spot.result.0 spot.ensures.rising (sym spot.ensures.is_boundary ∙ c.if-is_boundary.true)
    spot.ensures.count

pub invariant_of-self : goal.invariant_of-self
invariant_of-self g c =
    let spot = c.spot-up_to in let n = spot.result.0 in let es = c.args.self.now in let key = c.args.key.now in
    let among = sym spot.ensures.is_boundary ∙ c.if-is_boundary.true in
    let some = boundary_counted key es n spot.ensures.rising among spot.ensures.count in
    let before : n ≡ suc (n - 1) = omega (arith, some) in
    let gone = c.remove-boundary.ensures.items ∙ ap (λ es. remove es (n - 1)) c.self.view_is
    ∙ removed key es (n - 1) spot.ensures.rising among (sym spot.ensures.count ∙ before) in
    subst IsRising (sym gone) (rising_removed (is_at (key_cmp key)) es spot.ensures.rising)

pub returns-then-is_boundary : goal.returns-then-is_boundary
returns-then-is_boundary g c =
    let spot = c.spot-up_to in let n = spot.result.0 in let es = c.args.self.now in let key = c.args.key.now in
    let among = sym spot.ensures.is_boundary ∙ c.if-is_boundary.true in
    let some = boundary_counted key es n spot.ensures.rising among spot.ensures.count in
    let before : n ≡ suc (n - 1) = omega (arith, some) in
    c.remove-boundary.ensures.items
    ∙ ap (λ es. remove es (n - 1)) c.self.view_is
    ∙ removed key es (n - 1) spot.ensures.rising among (sym spot.ensures.count ∙ before)

pub returns-else-is_boundary : goal.returns-else-is_boundary
returns-else-is_boundary g c =
    removed_none c.args.key.now c.args.self.now (sym c.spot-up_to.ensures.is_boundary ∙ c.if-is_boundary.false)
