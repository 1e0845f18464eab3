use Rattle.std.proofs.Common.{◌≡◌, sym, ◌∙◌}
use Rattle.std.proofs.lemmas.Result.{IfOk-weaker}
use Rattle.key_map.proofs.Finite.{entries-tree}
use Rattle.key_map.proofs.Spans.{filter-unbounded}
use Rattle.key_map.proofs.map.KeyMap+Bytes.pairs.Goals as goal

pub returns : goal.returns
returns c =
    IfOk-weaker c.copied.result (λ pairs. pairs ≡ c.range.result) _
    (λ pairs e. e ∙ c.range.ensures.between tt ∙ filter-unbounded _
    ∙ sym (entries-tree c.self.inside.tree.entries _ c.self.view_is c.range.ensures.ordered))
    c.copied.ensures
