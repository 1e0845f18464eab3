use Rattle.std.proofs.Common.{ap, ◌∙◌}
use Rattle.std.specs.Map.Iter.{deref_pair}
use Rattle.key_map.specs.Ends.{first}
use Rattle.key_map.proofs.Spans.{option_map-TakesFirst}
use Rattle.version_store.proofs.store.Store.next_at.Goals as goal

pub returns-clause-ok : goal.returns-clause-ok
returns-clause-ok c = (
  (c.in_ok-pairs_from.ensures {u = tt}).ok.0,
  option_map-TakesFirst deref_pair _ _ _ c.next.ensures.steps ∙ ap first (c.in_ok-pairs_from.ensures {u = tt}).ok.1,
)
