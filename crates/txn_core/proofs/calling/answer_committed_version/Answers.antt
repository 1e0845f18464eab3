use Rattle.std.proofs.Common.{rules, ap, ◌∙◌}
use Rattle.std.proofs.lemmas.Int.{to_z-of_z}
use mir.Val.{SFits}
use mir.Syntax.{w64}
use Rattle.fdb_calls.specs.declared.Reply.TheVariants as reply
use Rattle.txn_core.proofs.Answering.{version_answered}
use Rattle.txn_core.proofs.calling.answer_committed_version.Goals as goal

pub returns : goal.returns
returns c t store index setting stands keeps =
    let fits : SFits w64 c.committed_version.result = search rules in
    version_answered c.version.result c.args.txn.now store index setting t stands keeps
    (c.version.ensures.reply
    ∙ ap (λ version. reply.Version version) (to_z-of_z w64 c.committed_version.result fits ∙ c.committed_version.ensures)) c.version.ensures.life
