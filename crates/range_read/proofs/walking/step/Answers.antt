use Rattle.std.proofs.Common.{sym, ap, ◌∙◌}
use Rattle.std.proofs.lemmas.Result.{IfOk-weaker}
use Rattle.std.specs.FinMap as finite
use Rattle.std.specs.List.{filter}
use Rattle.key_bytes.specs.Keys.{key_lt}
use Rattle.key_map.specs.Ends.{first}
use Rattle.range_read.proofs.Lists.{first-reverse, filter-reverse}
use Rattle.range_read.proofs.walking.step.Goals as goal

pub returns-then-reverse : goal.returns-then-reverse
returns-then-reverse g c =
    let es = finite.entries (g.V.OrderedView.map c.args.view.now) in
    rw c.if-reverse.true
    (IfOk-weaker c.prev.result _ _ (λ _ is.
    is
    ∙ sym (first-reverse (filter (λ e. key_lt e.0 c.args.from.now) es))
    ∙ ap first (sym (filter-reverse (λ e. key_lt e.0 c.args.from.now) es))) c.prev.ensures)
