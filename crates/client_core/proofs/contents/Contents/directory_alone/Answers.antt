use Rattle.std.proofs.Common.{refl, sym, ap}
use Rattle.model_machine.specs.Worlds.{directory_called, fresh_at_last}
use Rattle.version_store.specs.Versions.{last_of}
use Rattle.client_core.specs.Contents.{model_of}
use Rattle.client_core.proofs.Databases.{few_at}
use Rattle.client_core.proofs.Layers.{alone_drew}
use Rattle.client_core.proofs.Results.{err_always}
use Rattle.client_core.proofs.contents.Contents.directory_alone.Goals as goal

pub commit_apart-requires : goal.commit_apart-requires
commit_apart-requires g c = record {
  few_commits = few_at (model_of c.args.self.now) _ c.requires (ap last_of c.in_ok-transaction.ensures.store);
}

pub returns-clause-step : goal.returns-clause-step
returns-clause-step g c = λ world stands has.
    let begun = c.in_ok-transaction.ensures.drawn world stands in
    rw c.refusing.ensures
    (alone_drew (model_of c.draw_apart.new.self) _ _ world c.args.kind c.args.layer.now c.args.args.now c.life-life.result
    c.outcome_after.result c.in_ok-transaction.transaction _ c.in_ok-reply.reply c.in_ok-answered.answered _ _ begun.0 begun.1
    c.in_ok-reply.ensures.reaches refl refl refl refl c.life-life.ensures c.outcome_after.ensures c.in_ok-go_on.ensures.ok
    (λ reached same stood there. c.in_ok-answered.ensures.step there (directory_called reached) same stood) has)

pub returns-in_err-answered-clause-kept : goal.returns-in_err-answered-clause-kept
returns-in_err-answered-clause-kept g c = err_always c.from_residual-in_err-answered.result (λ world stands.
    let begun = c.in_ok-transaction.ensures.drawn world stands in
    c.in_err-answered.ensures.kept _ world.setting
    (c.in_ok-reply.ensures.reaches world.setting (fresh_at_last world) begun.0 begun.1.keeps).stands begun.1.keeps (sym begun.1.options))
