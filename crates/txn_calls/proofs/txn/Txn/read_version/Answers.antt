use Rattle.std.proofs.Common.{rules, ◌≡◌, pos, ap, subst, ◌∙◌}
use Rattle.model_database.specs.Transactions.{phase_code, version_in, with_version}
use Rattle.fdb_calls.specs.declared.Reply.TheVariants as reply
use Rattle.txn_calls.specs.Stands.{StandsFor}
use Rattle.txn_calls.proofs.Accepted.{does_done}
use Rattle.txn_calls.proofs.Standing.{versioned}
use Rattle.txn_calls.proofs.Views.{version_same}
use Rattle.txn_calls.proofs.txn.Txn.read_version.Goals as goal

pub returns-clause-answer : goal.returns-clause-answer
unfolding phase_code
returns-clause-answer c index setting keeps t stands =
    let old = c.args.self.now in let store = c.args.store.now in
    let is : c.version_over-version.result ≡ version_in setting t = c.version_over-version.ensures.version ∙ version_same old store index setting t stands keeps in
    let done = does_done (phase_code t.phase) t (with_version setting t) (reply.Version (pos (version_in setting t))) _ (search rules)
    (subst (λ k. StandsFor k (with_version setting t)) (search rules) (versioned setting old c.version_over-version.result t stands is)) in
    (ap (λ v. reply.Version (pos v)) is ∙ done.0, done.1)
