use Rattle.std.proofs.Common.{◌≡◌, ◌-◌, suc, sym, ap, ◌∙◌, arith}
use Rattle.range_map.specs.Boundaries.{held_from}
use Rattle.range_map.specs.Halves.{count_while}
use Rattle.key_bytes.specs.Keys.{key_le}
use Rattle.range_map.proofs.Searched.{held_none, held_last}
use Rattle.range_map.proofs.row.Row.last_of.Goals as goal

pub returns-then-up_to-eq0 : goal.returns-then-up_to-eq0
returns-then-up_to-eq0 g c key is =
    sym (held_none key c.args.base.now c.args.self.now (sym is ∙ c.if-up_to-eq0.true))

pub returns : goal.returns
returns g c key is =
    let items = c.self.inside.boundaries.items in let n = c.args.up_to in
    let one_more : n ≡ suc (n - 1) = omega (arith, c.if-up_to-eq0.false) in
    let counted : count_while (λ boundary. key_le boundary key) items ≡ suc (n - 1) =
    ap (count_while (λ boundary. key_le boundary key)) c.self.view_is ∙ sym is ∙ one_more in
    ap (λ e. e.1) c.index.ensures
    ∙ sym (held_last key c.args.base.now items (n - 1) c.index.result.now counted)
    ∙ ap (λ es. held_from c.args.base.now es key) c.self.view_is
