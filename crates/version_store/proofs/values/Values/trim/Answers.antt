use Rattle.std.proofs.Common.{sym, ap, ◌∙◌}
use Rattle.version_store.specs.Values.{chain_of_values}
use Rattle.version_store.specs.Versions.{holding}
use Rattle.version_store.proofs.Trims.{holding-absent, holding-nil, none-is_none}
use Rattle.version_store.proofs.values.Values.trim.Goals as goal

pub returns-then-is_none-clause-same : goal.returns-then-is_none-clause-same
returns-then-is_none-clause-same c version from =
    let given = c.in-One.given in
    holding-nil version
    ∙ sym (holding-absent version given.version given.value (none-is_none given.value c.is_none.result c.is_none.ensures c.if-is_none.true))
    ∙ ap (λ values. holding version (chain_of_values values)) (sym c.in-One.is)
