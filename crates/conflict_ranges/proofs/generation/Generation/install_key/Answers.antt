use Rattle.std.proofs.Common.{cond, ◌∙◌, ap}
use Rattle.std.proofs.lemmas.Result.{on_ok_weaker}
use Rattle.key_bytes.specs.Keys.{within}
use Rattle.model_database.proofs.Ranges.{covers_single}
use Rattle.conflict_ranges.specs.Generations.{version_at}
use Rattle.conflict_ranges.proofs.generation.Generation.install_key.Goals as goal

pub returns-clause-given : goal.returns-clause-given
returns-clause-given c =
    let range = c.in_ok-range.range in let ends = c.in_ok-range.ensures {u = tt} in
    on_ok_weaker c.install_each.result
    (λ given other.
    given other
    ∙ ap (λ t. cond t c.args.version (version_at c.args.self.now other)) (covers_single range other ∙ (λ i. within (ends.0 i) (ends.1 i) other)))
    c.install_each.ensures.given
