use Rattle.std.proofs.Common.{rules, not, sym}
use Rattle.std.proofs.lemmas.Map.Made.{filter_same_pairs}
use Rattle.key_bytes.specs.Keys.{within}
use Rattle.key_map.proofs.Spans.{filter-not}
use Rattle.key_map.proofs.map.keep_outside.Goals as goal

pub returns-then-not-has_between : goal.returns-then-not-has_between
returns-then-not-has_between g c =
    sym (filter-not (λ e. within c.args.begin.now c.args.end.now e.0) c.args.tree.now.entries c.if-not-has_between.ensures)

pub returns : goal.returns
returns g c =
    filter_same_pairs _ (λ e. not (within c.args.begin.now c.args.end.now e.0)) _ (λ k v b w f' t. search rules) _ _
    c.retain.ensures.filtered
