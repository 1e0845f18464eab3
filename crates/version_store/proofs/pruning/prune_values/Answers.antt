use Rattle.std.proofs.Common.{subst, ◌∙◌}
use Rattle.key_map.proofs.Spans.{filter-unbounded}
use Rattle.version_store.specs.Kept.{AreTrimmed}
use Rattle.version_store.proofs.Bounds.{few-complete, few-trimmed}
use Rattle.version_store.proofs.pruning.prune_values.Goals as goal

pub returns-then-dues-clause-few : goal.returns-then-dues-clause-few
returns-then-dues-clause-few c low high next sound complete =
    let new = c.prune_dues.new in
    few-complete c.args.oldest high new.dues new.nodes.slots new.tree.entries (c.prune_dues.ensures.keeps next sound).sound.rising
    (c.prune_dues.ensures.complete low high next sound complete) (c.prune_dues.ensures.noting ∙ c.if-dues.true)

pub returns-else-dues-clause-keeps : goal.returns-else-dues-clause-keeps
returns-else-dues-clause-keeps c = c.trim_span.ensures.keeps c.args.tree.now.entries

pub returns-else-dues-clause-few : goal.returns-else-dues-clause-few
returns-else-dues-clause-few c low high next sound complete =
    let places = c.args.tree.now.entries in let slots = c.trim_span.new.nodes.slots in
    few-trimmed c.args.oldest next slots places (c.trim_span.ensures.keeps places next sound).sound
    (subst (AreTrimmed c.args.oldest slots) (c.range.ensures.between tt ∙ filter-unbounded places) c.trim_span.ensures.trimmed)
