use Rattle.std.proofs.Common.{option_copied, sym, ap, ◌∙◌}
use Rattle.version_store.specs.Chains.{chain_in}
use Rattle.version_store.specs.Versions.{holding}
use Rattle.version_store.proofs.Trims.{holding-nil}
use Rattle.version_store.proofs.chains.value_at.Goals as goal

pub returns-in_err-get : goal.returns-in_err-get
returns-in_err-get c =
    ap option_copied c.from_residual.ensures
    ∙ sym (holding-nil c.args.version)
    ∙ ap (λ slot. holding c.args.version (chain_in slot)) (c.in_err-get.ensures {u = tt})
