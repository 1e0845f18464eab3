use Rattle.std.proofs.Common.{◌≡◌, cond, sym, ap, ◌∙◌}
use Rattle.key_bytes.specs.declared.pairs.Pair.{Pair}
use Rattle.version_store.proofs.KeyRuns.{merged}
use Rattle.version_store.proofs.merging.merge_runs.Goals as goal

pub returns-clause-same : goal.returns-clause-same
returns-clause-same c = λ database. merged _ (λ f f' x k x' k' b h.
    let met = h.called.met in (
      λ is. ap (λ (p : Pair). p.key) (sym h.shows.1) ∙ met.0 is ∙ ap (λ (p : Pair). p.key) h.shows.0,
      sym h.leaves.1 ∙ met.1.0 ∙ (λ i. cond b (h.shows.0 i) (h.shows.1 i)),
      λ is. sym h.leaves.0 ∙ met.1.1 is ∙ h.shows.0,
    )) _ _ _ database c.dedup_by.ensures.filtered
