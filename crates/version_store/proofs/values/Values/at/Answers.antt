use Rattle.std.proofs.Common.{sym, ap, ◌∙◌}
use Rattle.version_store.specs.Values.{chain_of_values}
use Rattle.version_store.specs.Versions.{holding}
use Rattle.version_store.proofs.Trims.{holding-nil}
use Rattle.version_store.proofs.values.Values.at.Goals as goal

pub returns-in-Nothing : goal.returns-in-Nothing
returns-in-Nothing c =
    sym (holding-nil c.args.version) ∙ ap (λ values. holding c.args.version (chain_of_values values)) (sym c.in-Nothing.is)
