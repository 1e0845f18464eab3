use Rattle.std.proofs.Common.{◌≡◌, ◌-◌, ◌<◌, suc, length, get_or, sym, ap, subst, ◌∙◌, arith}
use Rattle.std.proofs.Math.ListN.{set}
use Rattle.range_map.proofs.Held.{IsRising}
use Rattle.range_map.proofs.Lined.{replaced, rising_set}
use Rattle.range_map.proofs.Searched.{held_last}
use Rattle.range_map.proofs.row.Row.replace_last_of.Goals as goal

pub invariant_of-self : goal.invariant_of-self
invariant_of-self g c =
    let es = c.self.inside.boundaries.items in let n = c.args.up_to in let d = c.index_mut.result.now in
    let inside : n - 1 < length es = omega (arith, c.requires, ap length c.self.view_is) in
    rising_set es (n - 1) d _ inside (ap (λ e. e.0) c.index_mut.ensures.value) c.self.invariant

pub returns-clause-before : goal.returns-clause-before
returns-clause-before g c base key is =
    let n = c.args.up_to in let es = c.args.self.now in let d = c.index_mut.result.now in
    let before : n ≡ suc (n - 1) = omega (arith, c.requires.some) in
    let was : d ≡ get_or es (n - 1) d = c.index_mut.ensures.value ∙ ap (λ es. get_or es (n - 1) d) c.self.view_is in
    c.replace.ensures.value ∙ ap (λ e. e.1) was ∙ sym (held_last key base es (n - 1) d (sym is ∙ before))

pub returns-clause-after : goal.returns-clause-after
returns-clause-after g c key among is =
    let n = c.args.up_to in let es = c.args.self.now in let d = c.index_mut.result.now in
    let before : n ≡ suc (n - 1) = omega (arith, c.requires.some) in
    let was : d ≡ get_or es (n - 1) d = c.index_mut.ensures.value ∙ ap (λ es. get_or es (n - 1) d) c.self.view_is in
    (λ i. set (c.self.view_is i) (n - 1) ((was i).0, c.replace.ensures.after i))
    ∙ replaced key c.args.level d es (n - 1) (subst IsRising c.self.view_is c.self.invariant) among (sym is ∙ before)
