use Rattle.std.proofs.Common.{◌≡◌, ◌∙◌, sym, subst}
use Rattle.std.proofs.lemmas.Result.{IfOk-weaker}
use Rattle.model_directory.specs.Calls.{effect}
use Rattle.client_core.specs.Directories.{Reaches}
use Rattle.client_core.proofs.Layers.{answer_reaches}
use Rattle.client_core.proofs.directories.reply_on.Goals as goal

pub returns : goal.returns
returns g c =
    let words = g.W.Words.words c.args.words.now in
    let left = g.W.Words.words c.answer_on-answered.new.words in
    let kind = c.args.kind in
    let same : _ ≡ c.answer_on-answered.new.on.txn.now =
    c.txn-1.given.1 (sym c.answer_on-answered.ensures.same_txn) ∙ c.let_go.ensures in
    record {
      reaches = IfOk-weaker c.reply_to.result _ _ (λ reply replied setting t stood keeps.
          subst (λ kept. Reaches reply kept words left (effect kind c.args.layer.now c.args.args.now setting words t)) (sym same)
          (answer_reaches c.answer_on-answered.result reply setting _ _ _ _ kind c.args.layer.now c.args.args.now t
          (c.answer_on-answered.ensures.answered setting t stood keeps) replied (λ after stands. stands.0)))
          c.reply_to.ensures;
    }
